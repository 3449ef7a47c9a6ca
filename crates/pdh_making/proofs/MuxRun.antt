-- `mux` over a port: what was put, and how the command ends.
use Rattle.std.proofs.Common.{◌≡◌, ℕ, ◌≤◌, Bool, List, [], cond, Option, None, Some, Ok, Err, refl, ap, sym, subst, ◌∙◌, arith}
use Rattle.std.specs.Option.{option_map_or}
use Rattle.std.specs.Result.{result_unwrap_or}
use Rattle.pdh_bits.specs.Bits.{bytes_of}
use Rattle.pdh_edge.specs.Files.{ShelfState}
use Rattle.pdh_line.specs.Sending.Mode.{Plain}
use Rattle.pdh_nesting.specs.Events.{first_event}
use Rattle.pdh_line.specs.Events.{Event}
use Rattle.pdh_shape.specs.declared.place.Place.{Place}
use Rattle.pdh_clock.specs.Row.{Row}
use Rattle.pdh_clock.specs.Contents.{counts, frame_count}
use Rattle.pdh_chain.specs.Chains.{shapes_of}
use Rattle.pdh_chain.specs.Saying.{says_of}
use Rattle.pdh_chain.specs.Muxes.{PutsFewer, PutsPrefix, Muxes, StopsAtEvent, frames_of_line, is_overflow, place_of}
use Rattle.pdh_chain.specs.declared.chain.Chain.{Chain}
use Rattle.pdh_blocks.specs.State.{PortState}
use Rattle.pdh_blocks.specs.Lists.{inputs_of, outputs_of}
use Rattle.pdh_making.specs.Schedules.{rows_in, frames_in}
use Rattle.pdh_making.specs.Mux.{leaf_bits, frames_made, line_bytes, event_of, stop_of_kind, stop_of_event, muxing, mux_says}
use Rattle.pdh_making.specs.Mux.Job.{Plainly}
use Rattle.pdh_runner.specs.Operation.{AreTold, Files}
use Rattle.pdh_runner.specs.Performing.{Comes}
use Rattle.pdh_making.specs.MuxSteps.{IsMuxPort}
use Rattle.pdh_runner.specs.PortFiles.{PutsAll, PutsFront}
use Rattle.pdh_answers.specs.declared.answer.Stop.{Stop}
use Rattle.pdh_answers.specs.declared.answer.Stop.TheVariants.{Overflow, Underflow}
use Rattle.pdh_making.proofs.MuxMade.{clear_before, all_made, frames_before, kind_ends}
use Rattle.pdh_making.proofs.LinePut.{frames_all, frames_front, prefix_front as prefix_put}

module _ (chain : Chain) (feac : Option ℕ) (rows : List Row) (a : ShelfState) (p q : PortState) (is : IsMuxPort chain (Plainly feac) rows a p) where
  -- the whole frames before the first event make the bytes of the output
  made_bytes : (files : Files) → AreTold (muxing chain feac) a.told files → bytes_of (frames_of_line Plain (shapes_of chain) (counts rows) (says_of feac) (leaf_bits files) (frames_made chain rows)) ≡ (muxing chain feac).bytes files 0
  unfolding line_bytes
  made_bytes files told =
      let same : rows ≡ rows_in chain files = sym (ap (λ r. result_unwrap_or r []) (is.rows_are files told)) in
      ap (λ (rows : List Row). bytes_of (frames_of_line Plain (shapes_of chain) (counts rows) (says_of feac) (leaf_bits files) (frames_made chain rows))) same

  -- a prefix of frames before it was put
  pub prefix_front : (frames : ℕ) → frames ≤ frames_in rows → PutsPrefix Plain (shapes_of chain) (counts rows) (says_of feac) (frame_count rows) frames (inputs_of p) (inputs_of q) (outputs_of p) (outputs_of q) → PutsFront (muxing chain feac) a (outputs_of q)
  prefix_front frames upto puts =
      prefix_put chain (Plainly feac) Plain feac rows (frames_made chain rows) a p q is made_bytes frames puts
      (clear_before chain rows (inputs_of p).left puts.made (omega (arith, upto, puts.upto)) puts.clear)

  -- ---- what it comes to

  answers : (event : Option Event) (frames : ℕ) → frames ≡ frames_in rows → first_event (shapes_of chain) (counts rows) frames ≡ event → event_of chain rows ≡ event
  unfolding event_of
  answers event frames all first = ap (first_event (shapes_of chain) (counts rows)) (sym all) ∙ first

  -- all frames were put
  pub muxed_all : (frames : ℕ) → frames ≡ frames_in rows → Muxes Plain (shapes_of chain) (counts rows) (says_of feac) (frame_count rows) frames (inputs_of p) (inputs_of q) (outputs_of p) (outputs_of q) → PutsAll (muxing chain feac) a (outputs_of q)
  muxed_all frames all muxes =
      let made : frames ≡ frames_made chain rows = all ∙ sym (all_made chain rows (subst (λ n. first_event (shapes_of chain) (counts rows) n ≡ None) all (muxes.no_event refl))) in
      frames_all chain (Plainly feac) Plain feac rows (frames_made chain rows) a p q is made_bytes frames made muxes.line

  pub muxed_comes : (frames : ℕ) → frames ≡ frames_in rows → Muxes Plain (shapes_of chain) (counts rows) (says_of feac) (frame_count rows) frames (inputs_of p) (inputs_of q) (outputs_of p) (outputs_of q) → Comes (muxing chain feac) a (Ok (mux_says chain frames))
  muxed_comes frames all muxes files told =
      ap (λ n. Ok (mux_says chain n)) all ∙ sym (is.comes files told ∙ ap (λ event. option_map_or (λ event. Err (stop_of_event event)) event (Ok (mux_says chain (frames_in rows)))) (answers None frames all (muxes.no_event refl)))

  -- an event was met, and all frames before it were put
  pub event_all : (frames : ℕ) (over : Bool) (place : Place) → frames ≡ frames_in rows → StopsAtEvent (shapes_of chain) (counts rows) (says_of feac) (frame_count rows) frames over place (inputs_of p) (inputs_of q) (outputs_of p) (outputs_of q)
      → PutsAll (muxing chain feac) a (outputs_of q)
  event_all frames over place all stops =
      let first = subst (λ n. first_event (shapes_of chain) (counts rows) n ≡ Some stops.event) all stops.first in
      frames_all chain (Plainly feac) Plain feac rows (frames_made chain rows) a p q is made_bytes stops.whole (sym (frames_before chain rows stops.made stops.whole stops.event first stops.met stops.quiet stops.begun stops.within)) stops.line

  pub event_comes : (frames : ℕ) (over : Bool) (place : Place) → frames ≡ frames_in rows
      → (stops : StopsAtEvent (shapes_of chain) (counts rows) (says_of feac) (frame_count rows) frames over place (inputs_of p) (inputs_of q) (outputs_of p) (outputs_of q))
      → Comes (muxing chain feac) a (Err (stop_of_kind stops.event.kind (place_of stops.event)))
  event_comes frames over place all stops files told =
      sym (is.comes files told ∙ ap (λ event. option_map_or (λ event. Err (stop_of_event event)) event (Ok (mux_says chain (frames_in rows)))) (answers (Some stops.event) frames all stops.first))

  -- fewer frames were put
  pub fewer_front : (frames : ℕ) → frames ≡ frames_in rows → PutsFewer Plain (shapes_of chain) (counts rows) (says_of feac) (frame_count rows) frames (inputs_of p) (inputs_of q) (outputs_of p) (outputs_of q) → PutsFront (muxing chain feac) a (outputs_of q)
  fewer_front frames all puts = frames_front chain (Plainly feac) Plain feac rows (frames_made chain rows) a p q is made_bytes puts.whole (clear_before chain rows (inputs_of p).left puts.whole (omega (arith, all, puts.fewer)) puts.clear) puts.line

-- how an event ends the command
pub event_stop : (over : Bool) (place : Place) (event : Event) (stop : Stop) → stop ≡ cond over (Overflow place) (Underflow place) → over ≡ is_overflow event.kind → place ≡ place_of event → stop ≡ stop_of_kind event.kind (place_of event)
event_stop over place event stop is kind place_is =
    is ∙ ap (λ over. cond over (Overflow place) (Underflow place)) kind ∙ ap (λ place. cond (is_overflow event.kind) (Overflow place) (Underflow place)) place_is ∙ kind_ends event.kind (place_of event)
