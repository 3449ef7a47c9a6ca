use Rattle.std.proofs.Common.{◌≡◌, ℕ, ◌+◌, ◌<◌, length}
use Rattle.std.specs.Prelude.{slice_index}
use Rattle.pdh_levels.specs.Levels.{most_tributaries}
use Rattle.pdh_clock.specs.Made.{scale_of, tributary_offset}
use Rattle.pdh_clock.proofs.made.rates.Given as goal

abbrev pub invariant-loop-trib : goal.invariant-loop-trib
invariant-loop-trib l = record {
  all : length l.rates ≡ most_tributaries;
  made : (k : ℕ) → k < l.trib → slice_index l.rates k ≡ scale_of (tributary_offset l.level l.clocks.bias l.clocks.height l.clocks.line (k + 1)) l.level.trib_ppm;
}
