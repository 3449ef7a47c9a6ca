use Rattle.std.proofs.Common.{◌≡◌, ◌-◌, ◌^◌, ◌<◌, ◌++◌, ℕ, map, drop, get_or, ap, ◌∙◌, arith, rules}
use Rattle.std.proofs.lemmas.List.{get_or_default, take_all, drop_all, append-nil}
use Rattle.std.proofs.lemmas.List.Edits.{map_over_more}
use Rattle.pdh_packed.specs.Words.{bits_of_words}
use Rattle.pdh_packed.proofs.AlteringLaws.{bits_of_words-inverted}
use Rattle.pdh_packed.proofs.altering.invert_words.Goals as goal

pub loop-word-preserved : goal.loop-word-preserved
loop-word-preserved c =
    let word = get_or c.loop-word.words c.loop-word.word-index 0 in
    map_over_more (λ word. 2 ^ 64 - 1 - word) c.args.words.now c.loop-word.words c.loop-word.word-index word (omega (arith, c.loop-word-test.true)) c.loop-word.invariant
    (get_or_default c.loop-word.words c.loop-word.word-index 0 word (omega (arith, c.loop-word-test.true, c.loop-word.auto.words)))

pub returns-clause-bits : goal.returns-clause-bits
returns-clause-bits c =
    let words = c.args.words.now in
    let i = c.loop-word.word-index in
    let turn = λ (word : ℕ). 2 ^ 64 - 1 - word in
    let small : (k : ℕ) → get_or words k 0 < 2 ^ 64 = λ k. search rules in
    let all : c.loop-word.words ≡ map turn words =
    c.loop-word.invariant ∙ ap (λ front. map turn front ++ drop i words) (take_all i words (omega arith)) ∙ ap (λ rest. map turn words ++ rest) (drop_all i words (omega arith)) ∙ append-nil (map turn words) in
    ap bits_of_words all ∙ bits_of_words-inverted words small
