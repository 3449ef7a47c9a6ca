use Rattle.std.proofs.Common.{◌≡◌, ◌+◌, ◌<◌, ◌&&◌, ℕ, false, length, take, drop, get_or}
use Rattle.pdh_align.proofs.SignalLaws.{agrees}
use Rattle.pdh_align.proofs.starts.right_starts.Given as goal

-- those are left at which the slots so far have their bits
abbrev pub invariant-loop-signal : goal.invariant-loop-signal
invariant-loop-signal g l =
    (length l.right ≡ length l.fn.candidates) × ((i : ℕ) → i < length l.fn.candidates
    → get_or l.right i false ≡ (get_or l.fn.candidates i false && agrees g.S.Shape.shape (take l.signal-index l.slots) (take g.S.Shape.LEN (drop (l.start + i) l.held.bits))))
