use Rattle.std.proofs.Common.{◌≡◌, ◌++◌, take, drop, slice_index}
use Rattle.pdh_packed.specs.Words.{low_bits}
use Rattle.pdh_interleaving.specs.Interleaving.{appended_to_each}
use Rattle.pdh_interleaving.proofs.turns.append_each.Given as goal

abbrev pub invariant-loop-index : goal.invariant-loop-index
invariant-loop-index l = l.lists ≡ take l.index (appended_to_each (λ j. take l.count (low_bits 64 (slice_index l.words j))) 0 l.initial.lists) ++ drop l.index l.initial.lists
