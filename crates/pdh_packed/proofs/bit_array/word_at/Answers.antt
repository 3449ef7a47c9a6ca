use Rattle.std.proofs.Common.{◌≡◌, ◌*◌, Bool, List, take, drop, [], sym, ap, ◌∙◌, arith}
use Rattle.std.proofs.lemmas.List.{append-nil, drop_all}
use Rattle.pdh_packed.specs.Words.{bits_of_words}
use Rattle.pdh_packed.proofs.PackedLaws.{word_among, length-bits_of_words}
use Rattle.pdh_packed.proofs.bit_array.word_at.Goals as goal

pub returns-then-index-words : goal.returns-then-index-words
returns-then-index-words c =
    let words = c.args.words.now in
    let i = c.args.index in
    c.of.ensures.bits ∙ sym (word_among words [] i c.if-index-words.true) ∙ ap (λ (b : List Bool). take 64 (drop (64 * i) b)) (append-nil (bits_of_words words))

pub returns : goal.returns
returns c =
    let words = c.args.words.now in
    let i = c.args.index in
    let past : drop (64 * i) (bits_of_words words) ≡ [] = drop_all (64 * i) (bits_of_words words) (omega (arith, length-bits_of_words words, c.if-index-words.false)) in
    c.empty.ensures ∙ sym (ap (take 64) past)
