-- Arrivals whose clocks keep to their offsets.
use Rattle.std.specs.Prelude.{ℕ, ◌+◌, ◌*◌, ◌≤◌}
use Rattle.pdh_shape.specs.declared.place.Level.{Level}
use Rattle.pdh_shape.specs.OwnNumbers.{allowance}
use Rattle.pdh_line.specs.Tolerance.{arrived_over}
use Rattle.pdh_row_text.specs.RateWords.{fast, slow}

-- Over so many frames a tributary keeps to the rates of its level: in the time of each run of frames arrive no fewer bits
-- than its slowest clock gives to the fastest line, and no more than its fastest clock gives to the slowest line, up to
-- the allowance.
pub record IsWithinRates (level : Level) (counts : ℕ → ℕ) (frames : ℕ) : Type 0 where
  pub least : (first run : ℕ) → first + run ≤ frames
      → run * level.len * (level.trib_rate * level.per * slow level.trib_ppm)
      ≤ (arrived_over counts first run + allowance) * (level.rate * level.trib_per * fast level.ppm)
  pub most : (first run : ℕ) → first + run ≤ frames
      → arrived_over counts first run * (level.rate * level.trib_per * slow level.ppm)
      ≤ run * level.len * (level.trib_rate * level.per * fast level.trib_ppm) + allowance * (level.rate * level.trib_per * slow level.ppm)
