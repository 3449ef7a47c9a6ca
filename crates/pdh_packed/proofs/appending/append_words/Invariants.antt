use Rattle.std.proofs.Common.{◌≡◌, ◌++◌, take, vec_capacity}
use Rattle.pdh_packed.proofs.appending.append_words.Given as goal

-- the words so far
abbrev pub invariant-loop-word : goal.invariant-loop-word
invariant-loop-word l = record { items : l.words.items ≡ l.initial.words.items ++ take l.word-index l.others; capacity : vec_capacity l.words ≡ vec_capacity l.initial.words }
