use Rattle.std.proofs.Common.{◌≡◌, ◌-◌, ◌^◌, ◌++◌, map, take, drop}
use Rattle.pdh_packed.proofs.altering.invert_words.Given as goal

abbrev pub invariant-loop-word : goal.invariant-loop-word
invariant-loop-word l = l.words ≡ map (λ word. 2 ^ 64 - 1 - word) (take l.word-index l.fn.words) ++ drop l.word-index l.fn.words
