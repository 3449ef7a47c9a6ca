use Rattle.std.proofs.Common.{◌≡◌, ◌/◌, ◌%◌, ◌<◌, Bool, false, List, length, get_or, sym, ap, ◌∙◌, arith}
use Rattle.std.proofs.lemmas.List.{get_or_read}
use Rattle.pdh_packed.specs.Words.{low_bits}
use Rattle.pdh_packed.proofs.ArrayLaws.{length-seen, bit_seen}
use Rattle.pdh_packed.proofs.bit_array.BitArray.get.Goals as goal

pub returns : goal.returns
returns c =
    let words = c.self.inside.words.items in
    let len = c.self.inside.len in
    let place = c.args.place in
    let count : length c.args.self.now ≡ len = sym (ap length c.self.view_is) ∙ length-seen len words c.self.invariant.0 in
    let within : place < len = omega (arith, c.requires, count) in
    let read : c.index.result.now ≡ get_or words (place / 64) 0 = get_or_read words (place / 64) c.index.result.now (omega (arith, within, c.self.invariant.0)) c.index.ensures 0 in
    c.get.ensures ∙ ap (λ (b : List Bool). get_or b (place % 64) false) (c.of.ensures.bits ∙ ap (low_bits 64) read)
    ∙ bit_seen len place words within c.self.invariant.0 ∙ ap (λ (b : List Bool). get_or b place false) c.self.view_is
