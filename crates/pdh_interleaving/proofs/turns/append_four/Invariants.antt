use Rattle.std.proofs.Common.{◌≡◌, ◌*◌, ◌++◌, min, map}
use Rattle.pdh_packed.specs.Words.{low_bits, bounded}
use Rattle.pdh_interleaving.specs.Interleaving.{interleaved}
use Rattle.pdh_interleaving.proofs.turns.append_four.Given as goal

abbrev pub invariant-loop-row : goal.invariant-loop-row
invariant-loop-row l = (l.done ≡ min (16 * l.row-index) l.count) × (l.line ≡ bounded l.initial.line.capacity (l.initial.line.bits ++ interleaved (map (low_bits 64) l.fn.words) l.done))
