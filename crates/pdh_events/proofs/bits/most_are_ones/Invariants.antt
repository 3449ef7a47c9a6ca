use Rattle.std.proofs.Common.{◌≡◌, take}
use Rattle.std.specs.Prelude.{count_by}
use Rattle.pdh_events.specs.Keeping.{bits_at}
use Rattle.pdh_events.proofs.bits.most_are_ones.Given as goal

-- those of the slots so far
abbrev pub invariant-loop-slot : goal.invariant-loop-slot
invariant-loop-slot l = l.ones ≡ count_by (λ bit. bit) (bits_at (take l.slot-index l.slots) l.frame.bits)
