use Rattle.std.proofs.Common.{◌≡◌, ℕ, ◌-◌, ◌%◌, ◌<◌, false, ◌&&◌}
use Rattle.std.specs.Prelude.{◌==◌}
use Rattle.pdh_g706.specs.Frames.{frames_of}
use Rattle.pdh_g706.specs.Alignment.{has_multi}
use Rattle.pdh_g706.proofs.held.earlier.Given as goal

-- none so far
abbrev pub invariant-loop-first : goal.invariant-loop-first
invariant-loop-first l = (j : ℕ) → j < l.first → (((l.second - j) % 16 == 0) && has_multi (frames_of l.held.bits) j) ≡ false
