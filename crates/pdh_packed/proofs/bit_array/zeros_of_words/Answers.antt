use Rattle.std.proofs.Common.{◌≡◌, ℕ, ◌+◌, ◌-◌, ◌*◌, ◌/◌, ◌%◌, ◌<◌, ◌≤◌, min, Bool, List, not, length, drop, get_or, sym, ap, ◌∙◌, arith, length-drop}
use Rattle.std.specs.List.{prefix_len}
use Rattle.std.proofs.lemmas.List.{drop-drop}
use Rattle.pdh_packed.specs.Words.{low_bits, bits_of_words}
use Rattle.pdh_packed.specs.WordLaws.{length-low_bits}
use Rattle.pdh_packed.proofs.ArrayLaws.{rest_of_word, zeros-take, zeros-drop}
use Rattle.pdh_packed.proofs.bit_array.zeros_of_words.Goals as goal

-- the zeros of a word's rest, from a place on that stands behind so many zeros
found_is : (words : List ℕ) (place zeros count : ℕ) (rest : List Bool) → place + zeros < 64 * length words → rest ≡ drop ((place + zeros) % 64) (low_bits 64 (get_or words ((place + zeros) / 64) 0))
    → zeros ≤ prefix_len not (drop place (bits_of_words words)) → count ≡ prefix_len not rest → count ≡ min (64 - (place + zeros) % 64) (prefix_len not (drop place (bits_of_words words)) - zeros)
found_is words place zeros count rest within is behind found =
    let xs : List Bool = drop place (bits_of_words words) in
    let cut : prefix_len not rest ≡ min (64 - (place + zeros) % 64) (prefix_len not (drop zeros xs)) =
    ap (prefix_len not) (is ∙ rest_of_word words (place + zeros) within) ∙ zeros-take (64 - (place + zeros) % 64) (drop (place + zeros) (bits_of_words words))
    ∙ ap (λ (x : List Bool). min (64 - (place + zeros) % 64) (prefix_len not x)) (sym (drop-drop zeros place (bits_of_words words))) in
    omega (arith, found, cut, zeros-drop zeros xs behind)

-- and how long it is
rest_long : (words : List ℕ) (from : ℕ) (rest : List Bool) → rest ≡ drop (from % 64) (low_bits 64 (get_or words (from / 64) 0)) → length rest ≡ 64 - from % 64
rest_long words from rest is = omega (arith, ap length is, length-drop (from % 64) (low_bits 64 (get_or words (from / 64) 0)), length-low_bits 64 (get_or words (from / 64) 0))

pub returns-then-found-len : goal.returns-then-found-len
returns-then-found-len c =
    let words = c.args.words.now in
    let place = c.args.place in
    let zeros = c.loop-zeros.zeros in
    let xs : List Bool = drop place (bits_of_words words) in
    let rest = c.after-rest.ensures ∙ ap (drop ((place + zeros) % 64)) c.of.ensures.bits in
    let long = rest_long words (place + zeros) c.after-rest.result rest in
    let count = found_is words place zeros c.leading_zeros.result c.after-rest.result (omega (arith, c.requires.within, c.loop-zeros-test.true)) rest c.loop-zeros.invariant.0 c.leading_zeros.ensures in
    omega (arith, count, long, zeros-take c.args.most xs, c.min-found.ensures, c.if-found-len.true, c.len.ensures.count, c.loop-zeros.invariant.0, c.loop-zeros.invariant.1)

pub loop-zeros-preserved : goal.loop-zeros-preserved
loop-zeros-preserved c =
    let words = c.args.words.now in
    let place = c.args.place in
    let zeros = c.loop-zeros.zeros in
    let rest = c.after-rest.ensures ∙ ap (drop ((place + zeros) % 64)) c.of.ensures.bits in
    let long = rest_long words (place + zeros) c.after-rest.result rest in
    let count = found_is words place zeros c.leading_zeros.result c.after-rest.result (omega (arith, c.requires.within, c.loop-zeros-test.true)) rest c.loop-zeros.invariant.0 c.leading_zeros.ensures in (
      omega (arith, count, long, c.min-found.ensures, c.if-found-len.false, c.len.ensures.count, c.loop-zeros.invariant.0),
      omega (arith, c.min-found.ensures, c.loop-zeros.invariant.1),
    )

pub returns : goal.returns
returns c =
    let xs : List Bool = drop c.args.place (bits_of_words c.args.words.now) in
    omega (arith, zeros-take c.args.most xs, c.loop-zeros.invariant.0, c.loop-zeros-test.false)
