use Rattle.std.proofs.Common.{◌≡◌, ℕ, ◌+◌, ◌*◌, ◌/◌, ◌%◌, ◌++◌, Bool, List, length, take, drop, get_or, sym, ap, ◌∙◌, arith}
use Rattle.std.proofs.lemmas.List.{take_all, drop_all, append-nil}
use Rattle.pdh_packed.specs.Words.{low_bits, bits_of_words}
use Rattle.pdh_packed.specs.WordLaws.{length-low_bits}
use Rattle.pdh_packed.specs.Places.{both, overwritten}
use Rattle.pdh_packed.proofs.PlacesLaws.{masked_length}
use Rattle.pdh_packed.proofs.ArrayLaws.{word_overwritten}
use Rattle.pdh_packed.proofs.bit_array.overwrite_word.Goals as goal

pub returns-then-len-eq64 : goal.returns-then-len-eq64
returns-then-len-eq64 c =
    let words = c.args.words.now in
    let place = c.args.place in
    let mask = c.args.mask in
    let o : ℕ = place % 64 in
    let w : List Bool = low_bits 64 (get_or words (place / 64) 0) in
    let other : List Bool = low_bits 64 c.args.other in
    let segment : List Bool = both (take (length mask) (drop o other)) mask in
    let full : length mask ≡ 64 = omega (arith, c.len.ensures.count, c.if-len-eq64.true) in
    let first : o ≡ 0 = omega (arith, c.requires.within, full) in
    let cut : length segment ≡ length mask = masked_length other mask o (length-low_bits 64 c.args.other) c.requires.within in
    let same : both other mask ≡ segment =
    sym (ap (λ (k : ℕ). both (take (length mask) (drop k other)) mask) first ∙ ap (λ (x : List Bool). both x mask) (take_all (length mask) other (omega (arith, full, length-low_bits 64 c.args.other)))) in
    let over : overwritten o segment w ≡ segment =
    ap (λ (k : ℕ). overwritten k segment w) first ∙ ap (λ (x : List Bool). segment ++ x) (drop_all (0 + length segment) w (omega (arith, cut, full, length-low_bits 64 (get_or words (place / 64) 0)))) ∙ append-nil segment in
    let is : c.and.result ≡ segment = c.and.ensures ∙ ap (λ (x : List Bool). both x mask) c.of.ensures.bits ∙ same in
    let long : length c.and.result ≡ 64 = ap length is ∙ cut ∙ full in
    let number : low_bits 64 c.number.result ≡ overwritten o segment w = ap (λ (k : ℕ). low_bits k c.number.result) (sym long) ∙ c.number.ensures.bits ∙ is ∙ sym over in
    let at : 64 * (place / 64) + o ≡ place = omega arith in
    word_overwritten words (place / 64) o c.number.result segment (omega (arith, c.requires.among)) (omega (arith, cut, c.requires.within)) number
    ∙ ap (λ (k : ℕ). overwritten k segment (bits_of_words words)) at
