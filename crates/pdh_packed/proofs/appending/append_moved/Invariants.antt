use Rattle.std.proofs.Common.{◌≡◌, ◌+◌, ◌*◌, ◌++◌, length, take, drop, slice_index, vec_capacity}
use Rattle.pdh_packed.specs.Words.{bits_of_words}
use Rattle.pdh_packed.proofs.appending.append_moved.Given as goal

-- the words so far
abbrev pub invariant-loop-next : goal.invariant-loop-next
invariant-loop-next l = record {
  front : l.front ≡ slice_index l.others l.next-index;
  bits : bits_of_words l.words.items ≡ bits_of_words l.initial.words.items ++ take (64 * l.next-index) (drop l.place (bits_of_words l.others));
  count : length l.words.items ≡ length l.initial.words.items + l.next-index;
  capacity : vec_capacity l.words ≡ vec_capacity l.initial.words;
}
