use Rattle.std.proofs.Common.{◌≡◌, ◌<◌, ◌+◌, ℕ, false, length, get_or}
use Rattle.pdh_packed.specs.Words.{low_bits}
use Rattle.pdh_runs.specs.declared.words.WordAt.{WordAt}
use Rattle.pdh_runs.specs.WordTables.{slot_in}
use Rattle.pdh_runs.proofs.words.read_words.Given as goal

-- those so far
abbrev pub invariant-loop-index : goal.invariant-loop-index
invariant-loop-index l = record {
  room : length l.into ≡ length l.initial.into;
  read : (i k : ℕ) (at : WordAt) → i < l.index → k < 64 → get_or (low_bits 64 (get_or l.into i 0)) k false ≡ get_or l.frame.bits (slot_in (get_or l.words (l.from + i) at) k) false;
}
