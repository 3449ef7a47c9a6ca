use Rattle.std.proofs.Common.{◌≡◌, ◌++◌, ◌-◌, List, ℕ}
use Rattle.pdh_bits.specs.Bits.{bits_of}
use Rattle.pdh_edge.specs.Ports.{Puts, for_leaf}
use Rattle.pdh_smoothing.specs.Again.{lists_in, frames_marked, rows_text}
use Rattle.pdh_smoothing.proofs.rows.put_rows.Given as goal

-- the rows of the pieces before this one are put
abbrev pub invariant-loop-piece : goal.invariant-loop-piece
invariant-loop-piece g l =
    (l.bits.capacity ≡ l.fn.bits.capacity)
    × (text : List ℕ) × Puts (for_leaf l.list (bits_of text)) (g.D.Drain.outputs l.fn.port) (g.D.Drain.outputs l.port)
    × (text ++ rows_text (frames_marked g.S.Shape.shape (lists_in l.marks) l.piece) ≡ rows_text (frames_marked g.S.Shape.shape (lists_in l.marks) 1))
    × (g.D.Drain.drain_faults l.port ≡ g.D.Drain.drain_faults l.fn.port)
    × g.D.Drain.drained l.fn.port l.port

abbrev pub decreases-loop-piece : goal.decreases-loop-piece
decreases-loop-piece g l = l.pieces - l.piece
