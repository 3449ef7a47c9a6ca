use Rattle.std.proofs.Common.{◌≡◌, map}
use Rattle.std.specs.List.{range_with_len}
use Rattle.pdh_g706.proofs.SignalLaws.{stands_so_far}
use Rattle.pdh_g706.proofs.held.signals_from.Given as goal

-- the first bits of the signal were looked for
abbrev pub invariant-loop-place : goal.invariant-loop-place
invariant-loop-place l = l.stand ≡ map (stands_so_far l.held.bits l.start l.place) (range_with_len 0 64)
