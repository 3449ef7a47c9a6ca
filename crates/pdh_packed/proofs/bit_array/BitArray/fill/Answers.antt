use Rattle.std.proofs.Common.{◌≡◌, ℕ, ◌*◌, List, length, take, replicate, sym, ap, ◌∙◌, arith}
use Rattle.std.proofs.lemmas.List.{take-replicate, length-replicate}
use Rattle.pdh_packed.specs.Words.{low_bits, bits_of_words}
use Rattle.pdh_packed.proofs.ArrayLaws.{length-seen, all_same}
use Rattle.pdh_packed.proofs.bit_array.BitArray.fill.Goals as goal

pub returns : goal.returns
returns c =
    let words = c.self.inside.words in
    let len = c.self.inside.len in
    let bit = c.args.bit in
    let long : length c.copies.result ≡ 64 = ap length c.copies.ensures ∙ length-replicate 64 bit in
    let word : low_bits 64 c.number.result ≡ replicate 64 bit = ap (λ (k : ℕ). low_bits k c.number.result) (sym long) ∙ c.number.ensures.bits ∙ c.copies.ensures in
    let count : length c.args.self.now ≡ len = sym (ap length c.self.view_is) ∙ length-seen len words.items c.self.invariant.0 in
    ap (λ (ws : List ℕ). take len (bits_of_words ws)) (c.fill.ensures.items (λ y e. e))
    ∙ ap (take len) (all_same _ c.number.result bit word) ∙ take-replicate len (64 * words.len) bit (omega (arith, c.self.invariant.0, words.ok.0)) ∙ ap (λ (k : ℕ). replicate k bit) (sym count)
