use Rattle.std.proofs.Common.{◌≡◌, ℕ, ◌+◌, ◌-◌, ◌*◌, ◌/◌, ◌%◌, Bool, true, not, List, length, map, take, drop, get_or, replicate, sym, ap, ◌∙◌, arith}
use Rattle.std.proofs.lemmas.List.{length-map, length-replicate}
use Rattle.pdh_packed.specs.Words.{low_bits, bits_of_words}
use Rattle.pdh_packed.specs.WordLaws.{length-low_bits}
use Rattle.pdh_packed.specs.Places.{both, either, between_zeros, overwritten}
use Rattle.pdh_packed.proofs.PlacesLaws.{length-both, length-between, length-overwritten, masked_length, masked_word}
use Rattle.pdh_packed.proofs.ArrayLaws.{word_overwritten}
use Rattle.pdh_packed.proofs.bit_array.overwrite_part.Goals as goal

pub or-requires : goal.or-requires
or-requires c =
    let ones : length c.copies.result ≡ length c.args.mask = ap length c.copies.ensures ∙ length-replicate _ true ∙ c.len.ensures.count in
    let part : length c.placed-part.result ≡ 64 = omega (arith, ap length c.placed-part.ensures, length-between (c.args.place % 64) (64 - c.args.place % 64 - length c.copies.result) c.copies.result, c.requires.within, ones) in
    let negated : length c.inverted.result ≡ 64 = ap length c.inverted.ensures ∙ length-map c.placed-part.result not ∙ part in
    let kept : length c.and-kept.result ≡ 64 = omega (arith, ap length c.and-kept.ensures, length-both c.of.result c.inverted.result, c.of.ensures.count, negated) in
    let placed : length c.placed.result ≡ 64 = omega (arith, ap length c.placed.ensures, length-between (c.args.place % 64) (64 - c.args.place % 64 - length c.args.mask) c.args.mask, c.requires.within) in
    omega (arith, kept, ap length c.and-written.ensures, length-both c.of-2.result c.placed.result, c.of-2.ensures.count, placed)

pub returns : goal.returns
returns c =
    let words = c.args.words.now in
    let place = c.args.place in
    let mask = c.args.mask in
    let o : ℕ = place % 64 in
    let behind : ℕ = 64 - o - length mask in
    let w : List Bool = low_bits 64 (get_or words (place / 64) 0) in
    let other : List Bool = low_bits 64 c.args.other in
    let segment : List Bool = both (take (length mask) (drop o other)) mask in
    let within : o + (length mask + behind) ≡ 64 = omega (arith, c.requires.within) in
    let ones : c.copies.result ≡ replicate (length mask) true = c.copies.ensures ∙ ap (λ (n : ℕ). replicate n true) c.len.ensures.count in
    let part : c.placed-part.result ≡ between_zeros o (replicate (length mask) true) behind =
    c.placed-part.ensures ∙ ap (λ (x : List Bool). between_zeros o x (64 - o - length x)) ones ∙ ap (λ (n : ℕ). between_zeros o (replicate (length mask) true) (64 - o - n)) (length-replicate (length mask) true) in
    let kept : c.and-kept.result ≡ both w (map not (between_zeros o (replicate (length mask) true) behind)) =
    c.and-kept.ensures ∙ ap (λ (x : List Bool). both x c.inverted.result) c.of.ensures.bits ∙ ap (both w) (c.inverted.ensures ∙ ap (map not) part) in
    let written : c.and-written.result ≡ both other (between_zeros o mask behind) = c.and-written.ensures ∙ ap (λ (x : List Bool). both x c.placed.result) c.of-2.ensures.bits ∙ ap (both other) c.placed.ensures in
    let is : c.or.result ≡ overwritten o segment w =
    c.or.ensures ∙ ap (λ (x : List Bool). either x c.and-written.result) kept ∙ ap (either (both w (map not (between_zeros o (replicate (length mask) true) behind)))) written
    ∙ masked_word w other mask o behind (length-low_bits 64 _) (length-low_bits 64 c.args.other) within in
    let cut : length segment ≡ length mask = masked_length other mask o (length-low_bits 64 c.args.other) c.requires.within in
    let long : length c.or.result ≡ 64 = ap length is ∙ length-overwritten o segment w (omega (arith, cut, c.requires.within, length-low_bits 64 (get_or words (place / 64) 0))) ∙ length-low_bits 64 (get_or words (place / 64) 0) in
    let number : low_bits 64 c.number.result ≡ overwritten o segment w = ap (λ (k : ℕ). low_bits k c.number.result) (sym long) ∙ c.number.ensures.bits ∙ is in
    let at : 64 * (place / 64) + o ≡ place = omega arith in
    word_overwritten words (place / 64) o c.number.result segment (omega (arith, c.requires.among)) (omega (arith, cut, c.requires.within)) number
    ∙ ap (λ (k : ℕ). overwritten k segment (bits_of_words words)) at
