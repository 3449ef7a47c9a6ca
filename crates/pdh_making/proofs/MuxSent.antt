-- What making the line of `mux` never meets: a node without frames, a list that is used up.
use Rattle.std.proofs.Common.{◌≡◌, ℕ, ◌*◌, ◌<◌, List, [], ap, sym, subst, arith}
use Rattle.pdh_shape.specs.declared.place.Path.{Path}
use Rattle.pdh_edge.specs.Ports.{Inputs}
use Rattle.pdh_nesting.specs.Chains.{top_len}
use Rattle.pdh_nesting.specs.Sending.{AllScheduled, given_below}
use Rattle.pdh_nesting.proofs.Given.{given-entered}
use Rattle.pdh_clock.specs.Row.{Row}
use Rattle.pdh_clock.specs.Contents.{counts, frame_count}
use Rattle.pdh_chain.specs.declared.chain.Chain.{Chain}
use Rattle.pdh_chain.specs.Chains.{shapes_of, leaves_of}
use Rattle.pdh_chain.specs.Muxes.{StopsForFrame, StopsAtEnd}
use Rattle.pdh_chain.proofs.ChainLaws.{are_frames}
use Rattle.pdh_making.specs.Schedules.{frames_in}
use Rattle.pdh_making.specs.MuxSteps.{CanSend}
use Rattle.pdh_chain.proofs.Scheduled.{none_lacks_below}
use Rattle.pdh_making.proofs.Scheduled.{all_scheduled}

-- ---- frames

pub has_frames : (chain : Chain) (rows : List Row) (frames : ℕ) (inputs : Inputs) (node : Path) → CanSend chain rows frames inputs → StopsForFrame (shapes_of chain) (counts rows) (frame_count rows) frames node → ⊥
has_frames chain rows frames inputs node can stops =
    none_lacks_below (shapes_of chain) (counts rows) (frame_count rows) (frames * top_len (shapes_of chain)) stops.steps
    (subst (λ n. AllScheduled (shapes_of chain) (counts rows) (frame_count rows) [] (n * top_len (shapes_of chain))) (sym can.frames_are) (all_scheduled chain rows can.scheduled)) stops.lacks

-- ---- lists

-- where each leaf's list has what must enter, none is used up
pub has_bits : (chain : Chain) (rows : List Row) (frames leaf : ℕ) (inputs inputs_now : Inputs) → CanSend chain rows frames inputs → StopsAtEnd (shapes_of chain) (counts rows) frames leaf inputs inputs_now → ⊥
has_bits chain rows frames leaf inputs inputs_now can stops =
    let low : leaf < leaves_of chain = stops.known in
    let same : frames * top_len (shapes_of chain) ≡ frames_in rows * top_len (shapes_of chain) = ap (λ n. n * top_len (shapes_of chain)) can.frames_are in
    let entered = given-entered (shapes_of chain) (counts rows) [] (frames_in rows * top_len (shapes_of chain)) leaf (are_frames chain) in
    omega (arith, subst (λ x. inputs.left leaf < given_below (shapes_of chain) (counts rows) [] x leaf) same stops.short, entered, can.long leaf low)
