-- When alignment of a frame of ANSI T1.107 is lost. The standard gives the alignment signal; which errors end it is
-- one of the usual rules.
use Rattle.std.specs.Prelude.{◌≤◌, ℕ, ◌+◌, ◌-◌, ◌/◌, ◌%◌, ◌^◌, Bool, nat_lt, nat_le, ◌==◌, ◌&&◌, ◌||◌, if◌then◌else◌, count_by}
use Rattle.std.specs.List.{range_with_len, list_any}
use Rattle.pdh_shape.specs.declared.role.Marks.{Marks}
use Rattle.pdh_ds.specs.declared.loss.LossRule.{LossRule}

-- a framing slot is wrong
abbrev pub is_wrong : Marks → ℕ → Bool
is_wrong marks number = marks.framing / 2 ^ number % 2 == 1

-- so is one of two frames in a row, counted from the first one's first
abbrev pub wrong_of_two : ℕ → Marks → Marks → ℕ → Bool
wrong_of_two framing before here number = (if nat_lt number framing then is_wrong before number else is_wrong here (number - framing))

-- how many are wrong of so many framing slots in a row that begin with one of two frames
abbrev pub wrong_in : LossRule → Marks → Marks → ℕ → ℕ → ℕ
wrong_in rule before here first count = count_by (λ k. wrong_of_two rule.framing before here (first + k)) (range_with_len 0 count)

-- too many are wrong of those that end with this framing slot of the second frame
abbrev pub ends_wrong : LossRule → Marks → Marks → ℕ → Bool
ends_wrong rule before here last = nat_le rule.wrong (wrong_in rule before here (rule.framing + last + 1 - rule.window) rule.window)

-- too many are wrong of some that end in the second frame
unfoldable pub window_wrong : LossRule → Marks → Marks → Bool
window_wrong rule before here = list_any (ends_wrong rule before here) (range_with_len 0 rule.framing)

-- a frame with marks d completes a loss after frames with marks b and c: by its framing slots, with those before them, or
-- by a wrong multiframe slot in each of the three
abbrev pub loses : LossRule → Marks → Marks → Marks → Bool
loses rule b c d = window_wrong rule c d || (b.multi && c.multi && d.multi)

-- the numbers of a rule fit together
pub record IsLossRule (rule : LossRule) : Type 0 where
  -- the marks tell each framing slot
  pub few : rule.framing ≤ 64
  -- and slots in a row are those of two frames
  pub within : rule.window ≤ rule.framing
