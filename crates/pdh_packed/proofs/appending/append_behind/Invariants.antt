use Rattle.std.proofs.Common.{◌≡◌, ◌+◌, ◌++◌, length, take, vec_capacity}
use Rattle.pdh_packed.specs.Words.{bits_of_words}
use Rattle.pdh_packed.proofs.appending.append_behind.Given as goal

-- the words so far
abbrev pub invariant-loop-word : goal.invariant-loop-word
invariant-loop-word l = record {
  bits : bits_of_words l.words.items ++ l.rest ≡ (bits_of_words l.initial.words.items ++ l.initial.rest) ++ bits_of_words (take l.word-index l.others);
  count : length l.words.items ≡ length l.initial.words.items + l.word-index;
  tail : length l.rest ≡ length l.initial.rest;
  capacity : vec_capacity l.words ≡ vec_capacity l.initial.words;
}
