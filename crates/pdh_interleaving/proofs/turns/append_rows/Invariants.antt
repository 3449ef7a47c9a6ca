use Rattle.std.proofs.Common.{◌≡◌, ◌≤◌, ◌-◌, ◌%◌, ◌++◌, min, map}
use Rattle.pdh_packed.specs.Words.{low_bits, bounded}
use Rattle.pdh_interleaving.specs.Interleaving.{interleaved}
use Rattle.pdh_interleaving.proofs.turns.append_rows.Given as goal

abbrev pub invariant-loop-done : goal.invariant-loop-done
invariant-loop-done l = (l.done ≤ 64) × (l.done % 8 ≡ 0) × (l.line ≡ bounded l.initial.line.capacity (l.initial.line.bits ++ interleaved (map (low_bits 64) l.words) (min l.done l.count)))

abbrev pub decreases-loop-done : goal.decreases-loop-done
decreases-loop-done l = l.count - l.done
