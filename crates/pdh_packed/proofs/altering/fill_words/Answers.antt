use Rattle.std.proofs.Common.{◌≡◌, ◌<◌, ℕ, length, map, replicate, ap, ◌∙◌, sym, refl, arith}
use Rattle.std.proofs.lemmas.List.{same_lists, length-map, length-replicate, get_or-map}
use Rattle.pdh_packed.specs.Words.{low_bits, bits_of_words}
use Rattle.pdh_packed.proofs.AlteringLaws.{bits_of_words-same}
use Rattle.pdh_packed.proofs.altering.fill_words.Goals as goal

pub returns-clause-bits : goal.returns-clause-bits
returns-clause-bits c =
    let words = c.args.words.now in
    let bit = c.args.bit in
    let value : ℕ = c.number.result in
    let written : low_bits 64 value ≡ replicate 64 bit = ap (λ count. low_bits count value) (sym (length-replicate 64 bit) ∙ ap length (sym c.copies.ensures)) ∙ c.number.ensures.bits ∙ c.copies.ensures in
    let all : c.fill.new.self ≡ map (λ word. value) words =
    same_lists c.fill.new.self (map (λ word. value) words) (c.fill.ensures.len ∙ sym (length-map words (λ word. value)))
    (λ k d below. let within : k < length words = omega (arith, below, c.fill.ensures.len) in c.fill.ensures.clones k d within refl ∙ sym (get_or-map (λ word. value) words k d d within)) in
    ap bits_of_words all ∙ bits_of_words-same words bit value written
