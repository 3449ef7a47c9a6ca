use Rattle.std.proofs.Common.{◌≡◌, true, take}
use Rattle.pdh_align.proofs.SignalLaws.{agrees}
use Rattle.pdh_align.proofs.signals.frame_has_bits.Given as goal

-- the alignment slots so far have their bits
abbrev pub invariant-loop-signal : goal.invariant-loop-signal
invariant-loop-signal g l = agrees g.S.Shape.shape (take l.signal-index l.slots) (take g.S.Shape.LEN l.frame.bits) ≡ true
