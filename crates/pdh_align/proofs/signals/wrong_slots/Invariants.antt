use Rattle.std.proofs.Common.{◌≡◌, take}
use Rattle.pdh_align.proofs.SignalLaws.{framing_of, multi_of}
use Rattle.pdh_align.proofs.signals.wrong_slots.Given as goal

-- the marks are those of the slots so far
abbrev pub invariant-loop-signal : goal.invariant-loop-signal
invariant-loop-signal g l =
    (l.framing ≡ framing_of g.S.Shape.shape l.frame.bits (take l.signal-index l.slots)) × (l.multi ≡ multi_of g.S.Shape.shape l.frame.bits (take l.signal-index l.slots))
