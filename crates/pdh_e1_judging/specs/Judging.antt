-- What is kept of a line while it is judged.
use Rattle.std.specs.Prelude.{◌≡◌, ◌≤◌, ℕ, ◌*◌, min, Bool, true, false, if◌then◌else◌, List, ◌++◌, length}
use Rattle.pdh_g706.specs.declared.align.E1Align.{E1Align}
use Rattle.pdh_g706.specs.Tracking.{Share, one_search, track, e1_far, multiframes_in, counted}
use Rattle.pdh_g706.specs.Machine.{Phase, Describes, Fits}
use Rattle.pdh_g706.specs.Machine.Phase.{Searching, Aligned, Framed}
use Rattle.pdh_g706.specs.View.{phase}
use Rattle.pdh_judging.specs.declared.judged.Judged.{Judged}
use Rattle.pdh_e1_judging.specs.Judged.{e1_judged_in}

-- multiframe alignment holds
abbrev pub is_framed : Phase → Bool
is_framed (Framed held group wrong) = true
is_framed _ = false

-- how many bits come behind the last multiframe that a bit delivers: those of twelve frames where multiframe alignment is reached
-- by it
abbrev pub more_bits : Phase → ℕ
more_bits phase = (if is_framed phase then 0 else 3072)

-- what a machine holds stands for the received bits: some searches of their front are settled, whatever comes, and it describes
-- the bits since. Each delivered multiframe has 16 frames, and each gives payload
pub record Follows (phase : Phase) (line : List Bool) : Type 0 where
  pub settled : List Share
  pub front : List Bool
  pub since : List Bool
  pub parts : line ≡ front ++ since
  pub splits : (more : List Bool) → track (line ++ more) ≡ settled ++ track (since ++ more)
  pub describes : Describes phase since
  pub fits : Fits phase
  pub whole : length (one_search since).signs.frames ≡ 16 * (one_search since).multiframes
  pub few : multiframes_in line ≤ length (e1_far line)

-- the machine stands for these bits, and what was judged is theirs; of the last alignment so many multiframes came, up to the two
-- that confirm it
pub record JudgingStands (align : E1Align) (came : ℕ) (judged : Judged) (line : List Bool) : Type 0 where
  pub follows : Follows (phase align) line
  pub room : align.held.capacity ≡ 16384
  pub counts : align.counts.multiframes ≡ counted (multiframes_in line)
  pub came_is : is_framed (phase align) ≡ true → came ≡ min 2 (one_search follows.since).multiframes
  pub few_came : came ≤ 2
  pub judged_is : judged ≡ e1_judged_in line
