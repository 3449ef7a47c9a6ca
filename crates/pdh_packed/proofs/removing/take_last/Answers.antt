use Rattle.std.proofs.Common.{◌≡◌, Bool, List, [], ◌∷◌, ◌++◌, ap, sym, ◌∙◌, arith}
use Rattle.std.proofs.lemmas.List.{append-nil, nil_from_length}
use Rattle.pdh_packed.specs.Words.{bits_of_words}
use Rattle.pdh_packed.proofs.PackedLaws.{bits_of_words-push}
use Rattle.pdh_packed.proofs.removing.take_last.Goals as goal

pub returns-in-Some-clause-bits : goal.returns-in-Some-clause-bits
returns-in-Some-clause-bits c =
    let rest = c.pop.new.self.items in
    let number = c.in-Some.number in
    let none : c.args.tail ≡ [] = nil_from_length c.args.tail (omega (arith, c.if-len-gt0.false, c.len.ensures.count)) in
    let popped : c.args.words.now.items ≡ rest ++ number ∷ [] = c.in-Some.ensures.items in
    ap (λ (end : List Bool). bits_of_words rest ++ end) c.of.ensures.bits ∙ sym (bits_of_words-push rest number) ∙ ap bits_of_words (sym popped)
    ∙ sym (append-nil (bits_of_words c.args.words.now.items)) ∙ ap (λ (end : List Bool). bits_of_words c.args.words.now.items ++ end) (sym none)
