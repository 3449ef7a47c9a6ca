use Rattle.std.proofs.Common.{◌≡◌, not}
use Rattle.std.specs.List.{range_with_len, list_all}
use Rattle.pdh_shape.specs.Frame.{breaks_at}
use Rattle.pdh_show.proofs.signal.is_right.Given as goal

-- the slots so far
abbrev pub invariant-loop-slot : goal.invariant-loop-slot
invariant-loop-slot g l = l.right ≡ list_all (λ slot. not (breaks_at g.S.Shape.shape l.frame.bits slot)) (range_with_len 0 l.slot)
