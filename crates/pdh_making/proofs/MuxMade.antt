-- The whole frames of a line before its first event.
use Rattle.std.proofs.Common.{◌≡◌, ℕ, suc, ◌*◌, ◌/◌, ◌<◌, ◌≤◌, inl, inr, Bool, true, false, List, [], ◌++◌, length, cond, refl, ap, sym, ◌∙◌, subst, get_or, arith}
use Rattle.std.specs.Prelude.{Option, Some, None, slice_index_or, slice_get, is_some}
use Rattle.std.proofs.lemmas.Bool.{cases_lt, false≢true}
use Rattle.std.proofs.lemmas.List.{get_or_append_left}
use Rattle.std.proofs.Math.Nat.{mul-div_cancel, mul-le-mul_right, le-div_iff_mul-le}
use Rattle.pdh_edge.specs.Ports.{before}
use Rattle.pdh_shape.specs.declared.place.Place.{Place}
use Rattle.pdh_line.specs.Least.{least_below}
use Rattle.pdh_line.specs.Paths.{top}
use Rattle.pdh_line.specs.Events.{Event, Kind}
use Rattle.pdh_line.specs.Events.Kind.{Overflow as StoreOverflow, Underflow as StoreUnderflow}
use Rattle.pdh_line.proofs.LeastLaws.{least_below_none, least_below_past, least_below_before}
use Rattle.pdh_line.proofs.SameLines.{frame-is}
use Rattle.pdh_line.specs.Sending.Mode.{Plain}
use Rattle.pdh_nesting.specs.Chains.{top_len}
use Rattle.pdh_nesting.specs.Events.{events_in, first_event}
use Rattle.pdh_nesting.proofs.EventParts.{events_below-none, events_below-each, events_below-none_first}
use Rattle.pdh_clock.specs.Row.{Row}
use Rattle.pdh_clock.specs.Contents.{counts, frame_count}
use Rattle.pdh_chain.specs.declared.chain.Chain.{Chain}
use Rattle.pdh_chain.specs.Chains.{shapes_of}
use Rattle.pdh_chain.specs.Muxes.{IsClear, is_overflow}
use Rattle.pdh_chain.proofs.ChainLaws.{some_bits, are_frames, few_shapes}
use Rattle.pdh_chain.proofs.Tolerated.{at_top}
use Rattle.pdh_chain.proofs.Stops.{Tells}
use Rattle.pdh_chain.proofs.SenderStops.{Other, chain_tells}
use Rattle.pdh_making.specs.Schedules.{frames_in}
use Rattle.pdh_making.specs.Mux.{line_len, has_event, frames_made, stop_of_kind}
use Rattle.pdh_answers.specs.declared.answer.Stop.TheVariants.{Overflow, Underflow}

-- a list that gave bits began with them
pub begins : (rest : Option (List Bool)) (given bits : List Bool) → Some bits ≡ before given rest → (i : ℕ) → i < length given → slice_index_or given i false ≡ slice_index_or bits i false
begins None given bits told i h = absurd (cc)
begins (Some rest) given bits told i h =
    let whole : bits ≡ given ++ rest = cc in
    sym (ap (λ (l : List Bool). get_or l i false) whole ∙ get_or_append_left given rest false i h)

-- ---- the whole frames before the first event

-- no event stands in a bit that has no events
no_event_in : (chain : Chain) (rows : List Row) (bit : ℕ) → events_in Plain (shapes_of chain) (counts rows) [] bit ≡ [] → has_event chain rows bit ≡ false
no_event_in chain rows bit none = ap (λ (es : List Event). is_some (slice_get es 0)) none

-- all frames, where there is none
pub all_made : (chain : Chain) (rows : List Row) → first_event (shapes_of chain) (counts rows) (frames_in rows) ≡ None → frames_made chain rows ≡ frames_in rows
unfolding frames_made
all_made chain rows none =
    let quiet = events_below-none_first (shapes_of chain) (counts rows) (frames_in rows) none in
    let each = least_below_none (line_len chain rows) (has_event chain rows) (λ k h. no_event_in chain rows k (events_below-each (shapes_of chain) (counts rows) (line_len chain rows) k quiet h)) in
    ap (λ x. x / top_len (shapes_of chain)) each ∙ mul-div_cancel (frames_in rows) (some_bits chain)

-- an event that is first stands in a bit of the frames
event_inside : (chain : Chain) (rows : List Row) (n made : ℕ) (event : Event) → first_event (shapes_of chain) (counts rows) n ≡ Some event
    → ((x : ℕ) → x < made → events_in Plain (shapes_of chain) (counts rows) [] x ≡ []) → made < n * top_len (shapes_of chain)
event_inside chain rows n made event first quiet = elim (cases_lt made (n * top_len (shapes_of chain))) [
  | inl inside ↦ inside
  | inr past ↦
      let none : first_event (shapes_of chain) (counts rows) n ≡ None =
      ap (λ (es : List Event). slice_get es 0) (events_below-none (shapes_of chain) (counts rows) (n * top_len (shapes_of chain)) (λ y h. quiet y (omega arith))) in
      absurd (let wrong : ◌≡◌ {A = Option Event} None (Some event) = sym none ∙ first in cc)
]

-- those before the bit in whose making it stands
pub frames_before : (chain : Chain) (rows : List Row) (made whole : ℕ) (event : Event) → first_event (shapes_of chain) (counts rows) (frames_in rows) ≡ Some event
    → slice_get (events_in Plain (shapes_of chain) (counts rows) [] made) 0 ≡ Some event → ((x : ℕ) → x < made → events_in Plain (shapes_of chain) (counts rows) [] x ≡ [])
    → whole * top_len (shapes_of chain) ≤ made → made < suc whole * top_len (shapes_of chain) → frames_made chain rows ≡ whole
unfolding frames_made
frames_before chain rows made whole event first met quiet begun within =
    let test = has_event chain rows in
    let inside : made < line_len chain rows = event_inside chain rows (frames_in rows) made event first quiet in
    let past : made ≤ least_below (line_len chain rows) test = least_below_past (line_len chain rows) test made (omega arith) (λ i h. no_event_in chain rows i (quiet i h)) in
    let here : test made ≡ true = ap is_some met in
    let upto : least_below (line_len chain rows) test ≤ made = elim (cases_lt made (least_below (line_len chain rows) test)) [
      | inl later ↦ absurd (false≢true (sym (least_below_before (line_len chain rows) test made later) ∙ here))
      | inr not_later ↦ not_later
    ] in
    let least : least_below (line_len chain rows) test ≡ made = omega arith in
    ap (λ x. x / top_len (shapes_of chain)) least ∙ frame-is (top_len (shapes_of chain)) whole made begun within

-- what stands in no bit's way is no event either
pub clear_quiet : (chain : Chain) (rows : List Row) (size : ℕ → ℕ) (bits x : ℕ) → IsClear Plain (shapes_of chain) (counts rows) (frame_count rows) size bits → x < bits → events_in Plain (shapes_of chain) (counts rows) [] x ≡ []
clear_quiet chain rows size bits x clear less =
    subst (λ o. Tells (Other (shapes_of chain) (counts rows) (frame_count rows) size [] 0 (suc x)) o (events_in Plain (shapes_of chain) (counts rows) [] x)) (clear x less)
    (chain_tells (shapes_of chain) (counts rows) (frame_count rows) size top [] 0 x (are_frames chain) (at_top (shapes_of chain) (few_shapes chain)))

-- whole frames in whose way nothing stands are before the first event
pub clear_before : (chain : Chain) (rows : List Row) (size : ℕ → ℕ) (whole : ℕ) → whole ≤ frames_in rows → IsClear Plain (shapes_of chain) (counts rows) (frame_count rows) size (whole * top_len (shapes_of chain)) → whole ≤ frames_made chain rows
unfolding frames_made
clear_before chain rows size whole upto clear =
    let len = top_len (shapes_of chain) in
    let bits : whole * len ≤ line_len chain rows = mul-le-mul_right len upto in
    let past = least_below_past (line_len chain rows) (has_event chain rows) (whole * len) bits (λ i h. no_event_in chain rows i (clear_quiet chain rows size (whole * len) i clear h)) in
    (le-div_iff_mul-le (some_bits chain)).1 past

-- how an event ends the command, by whether a store overflows
pub kind_ends : (kind : Kind) (place : Place) → cond (is_overflow kind) (Overflow place) (Underflow place) ≡ stop_of_kind kind place
kind_ends StoreOverflow place = refl
kind_ends StoreUnderflow place = refl
