-- The first run of frames over which a tributary isn't within the tolerance.
use Rattle.std.specs.Prelude.{ℕ, suc, ◌+◌, ◌-◌, ◌*◌, Bool, nat_lt, ◌||◌, find, is_some, Option, Result}
use Rattle.std.specs.List.{range_with_len}
use Rattle.std.specs.Option.{option_map, option_and_then}
use Rattle.std.specs.Result.{result_err}
use Rattle.pdh_rows.specs.declared.outside.Outside.{Outside}
use Rattle.pdh_shape.specs.OwnNumbers.{allowance}
use Rattle.pdh_line.specs.Tolerance.{arrived_over}

-- where a frame carries `low` bits or one more: more bits arrive in a run of so many frames than they carry at most, by
-- more than the allowance, or fewer than they carry at least
abbrev pub breaks : ℕ → (ℕ → ℕ) → ℕ → ℕ → Bool
breaks low counts first run =
    nat_lt (suc low * run + allowance) (arrived_over counts first run) || nat_lt (arrived_over counts first run + allowance) (low * run)

-- a run from frame `from` up to but without `to`, and how many bits arrive in it
pub record Run : Type 0 where
  pub from : ℕ
  pub to : ℕ
  pub sum : ℕ

abbrev pub run_between : (ℕ → ℕ) → ℕ → ℕ → Run
run_between counts from to = record { from = from; to = to; sum = arrived_over counts from (to - from) }

-- the least first frame of a run that ends before frame `to` and breaks the tolerance
abbrev pub first_start : ℕ → (ℕ → ℕ) → ℕ → Option ℕ
first_start low counts to = find (λ from. breaks low counts from (to - from)) (range_with_len 0 (suc to))

-- the run inside so many frames that breaks the tolerance: the one with the least end, and for this the least first frame
unfoldable pub first_outside : ℕ → (ℕ → ℕ) → ℕ → Option Run
first_outside low counts frames =
    option_and_then (λ to. option_map (λ from. run_between counts from to) (first_start low counts to))
    (find (λ to. is_some (first_start low counts to)) (range_with_len 0 (suc frames)))

-- the run that an answer names, if it names one
abbrev pub run_of : Outside → Run
run_of outside = record { from = outside.from; to = outside.to; sum = outside.sum }

abbrev pub run_in : Result (Unit {0}) Outside → Option Run
run_in answer = option_map run_of (result_err answer)
