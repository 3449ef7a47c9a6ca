use Rattle.std.proofs.Common.{◌≡◌, take, map, flat_map}
use Rattle.pdh_candidates.specs.Words.{words, candidate_of}
use Rattle.pdh_candidates.proofs.candidate.all_candidates.Given as goal

-- the words so far, each in each order
abbrev pub invariant-loop-word : goal.invariant-loop-word
invariant-loop-word l = l.list.items ≡ flat_map (λ word. map (candidate_of word) l.orders) (take l.word-index words)
