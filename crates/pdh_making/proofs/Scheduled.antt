-- Schedules of a chain's levels, as `mux` sees them: the frames that nodes begin, and what leaves enter.
use Rattle.std.proofs.Common.{◌≡◌, ℕ, ◌*◌, ◌<◌, ◌≤◌, ◌^◌, List, [], None, All, ap, ◌∙◌, arith}
use Rattle.pdh_shape.specs.OwnNumbers.{most_frames}
use Rattle.pdh_nesting.specs.Chains.{top_len}
use Rattle.pdh_nesting.specs.Sending.{entered_below, AllScheduled}
use Rattle.pdh_clock.specs.Row.{Row}
use Rattle.pdh_clock.specs.Contents.{Contents, IsRowOf, counts, frame_count}
use Rattle.pdh_clock.specs.Begun.{shortage, bits_entered}
use Rattle.pdh_chain.specs.Chains.{shapes_of, levels_of, leaves_of}
use Rattle.pdh_chain.specs.declared.chain.Chain.{Chain}
use Rattle.pdh_chain.proofs.ChainLaws.{are_levels_of}
use Rattle.pdh_chain.proofs.Scheduled.{all_scheduled as all_scheduled_of, entered_small, entered_is}
use Rattle.pdh_making.specs.Schedules.{contents_of, frames_in}
use Rattle.pdh_making.specs.Mux.{line_len, short_node, bits_needed}

-- ---- no node is short

-- a schedule in which no node is short has all frames that the chain's line begins
pub all_scheduled : (chain : Chain) (rows : List Row) → short_node chain rows ≡ None → AllScheduled (shapes_of chain) (counts rows) (frame_count rows) [] (line_len chain rows)
all_scheduled chain rows none = all_scheduled_of (shapes_of chain) (contents_of chain rows) (frames_in rows) (are_levels_of chain) none

-- ---- how many bits a leaf enters

-- what the schedule answers is what a leaf must have, which is few bits
pub needed_here : (chain : Chain) (schedule : Contents) (frames k leaf n : ℕ) → schedule.levels ≡ levels_of chain → All (IsRowOf (levels_of chain)) schedule.rows → frames ≡ frames_in schedule.rows → frames ≤ most_frames
    → leaf ≡ k → k < leaves_of chain → n ≡ bits_entered schedule frames leaf → (n ≡ bits_needed chain schedule.rows k) × (n < 2 ^ 32)
needed_here chain schedule frames k leaf n levels sound all few at low said =
    let is : n ≡ entered_below (shapes_of chain) (counts schedule.rows) [] (frames * top_len (shapes_of chain)) k = said ∙ ap (bits_entered schedule frames) at ∙ entered_is chain schedule frames k levels in (
      is ∙ ap (λ n. entered_below (shapes_of chain) (counts schedule.rows) [] (n * top_len (shapes_of chain)) k) all,
      omega (arith, is, entered_small chain schedule.rows frames k sound few low),
    )

-- what it answers of short nodes
pub short_is : (chain : Chain) (schedule : Contents) (frames : ℕ) → schedule.levels ≡ levels_of chain → frames ≡ frames_in schedule.rows → shortage schedule frames ≡ short_node chain schedule.rows
short_is chain schedule frames levels all =
    ap (λ l. shortage (record { levels = l; rows = schedule.rows }) frames) levels ∙ ap (shortage (contents_of chain schedule.rows)) all
