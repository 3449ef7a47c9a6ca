-- The least number that passes a test.
use Rattle.std.specs.Prelude.{ℕ, Bool}
use Rattle.std.specs.List.{range_with_len, position_or_len}

-- the least number below n that passes the test, or n where none does
unfoldable pub least_below : ℕ → (ℕ → Bool) → ℕ
least_below n test = position_or_len test (range_with_len 0 n)
