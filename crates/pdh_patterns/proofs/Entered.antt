-- What the schedule of patterns answers: how many bits of a leaf enter, that the nodes have their frames, and that no store meets an event.
use Rattle.std.proofs.Common.{◌≡◌, ℕ, ◌*◌, ◌<◌, ◌≤◌, ◌^◌, List, [], ◌∷◌, refl, ap, sym, ◌∙◌, subst, arith, Option, Some, None}
use Rattle.std.specs.Prelude.{IsNone}
use Rattle.std.proofs.lemmas.Bool.{false≢true}
use Rattle.std.proofs.Math.Nat.{mul-le-mul}
use Rattle.pdh_shape.specs.Frame.{FrameShape}
use Rattle.pdh_shape.specs.OwnNumbers.{most_frames, most_slots}
use Rattle.pdh_nesting.specs.Chains.{top_len, AreFrames}
use Rattle.pdh_nesting.specs.Events.{first_event}
use Rattle.pdh_nesting.specs.Sending.{AllScheduled, entered_below}
use Rattle.pdh_nesting.proofs.NoEvents.{first_event-none}
use Rattle.pdh_clock.specs.Begun.{Shortage, shortage, bits_entered}
use Rattle.pdh_clock.specs.Contents.{Contents, counts, frame_count}
use Rattle.pdh_chain.specs.Trees.{AreLevelsOf}
use Rattle.pdh_chain.specs.declared.chain.Chain.{Chain}
use Rattle.pdh_chain.specs.Chains.{shapes_of, leaves_of}
use Rattle.pdh_chain.proofs.ChainLaws.{are_frames, are_levels_of, read_evenly}
use Rattle.pdh_chain.proofs.Scheduled.{all_scheduled as all_scheduled_of, entered_small, entered_is}
use Rattle.pdh_patterns.specs.Leaves.{made_counts, entered_of, IsClockOf}
use Rattle.pdh_patterns.proofs.MadeWithin.{made_within}

none_of : (short : Option Shortage) → IsNone short → short ≡ None
none_of None none = refl
none_of (Some short) none = absurd (false≢true (sym none))

module _ (chain : Chain) (frames : ℕ) (clock : Contents) (is : IsClockOf chain frames clock) where
  pub entered_there : (k : ℕ) → entered_below (shapes_of chain) (counts clock.rows) [] (frames * top_len (shapes_of chain)) k ≡ entered_of chain frames k
  entered_there k = ap (λ c. entered_below (shapes_of chain) c [] (frames * top_len (shapes_of chain)) k) is.counts_are

  -- how many bits of a leaf enter,
  pub entered_answer : (k : ℕ) → bits_entered clock frames k ≡ entered_of chain frames k
  entered_answer k = entered_is chain clock frames k is.levels ∙ entered_there k

  -- which is few bits
  pub entered_few : (k : ℕ) → frames ≤ most_frames → k < leaves_of chain → entered_of chain frames k < 2 ^ 32
  entered_few k few low = omega (arith, entered_there k, entered_small chain clock.rows frames k is.sound few low)

  -- each node has the frames that it begins
  pub all_scheduled : AllScheduled (shapes_of chain) (counts clock.rows) (frame_count clock.rows) [] (frames * top_len (shapes_of chain))
  all_scheduled = all_scheduled_of (shapes_of chain) clock frames (subst (AreLevelsOf (shapes_of chain)) (sym is.levels) (are_levels_of chain)) (none_of (shortage clock frames) is.enough)

-- no store of the chain overflows or underflows
pub no_event : (chain : Chain) (frames : ℕ) → first_event (shapes_of chain) (made_counts chain frames) frames ≡ None
no_event chain frames = first_event-none (shapes_of chain) (made_counts chain frames) frames (are_frames chain) (read_evenly chain) (made_within chain frames)

-- a line is few bits
top_few : (shapes : List FrameShape) → AreFrames shapes → top_len shapes ≤ most_slots
top_few [] are = omega arith
top_few (s ∷ below) are = are.0.few_slots

pub few_bits : (chain : Chain) (frames : ℕ) → frames ≤ most_frames → frames * top_len (shapes_of chain) < 2 ^ 32
few_bits chain frames few = let most : frames * top_len (shapes_of chain) ≤ most_frames * most_slots = mul-le-mul few (top_few (shapes_of chain) (are_frames chain)) in omega arith
