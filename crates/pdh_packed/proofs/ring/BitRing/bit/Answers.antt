use Rattle.std.proofs.Common.{◌+◌, ◌*◌, ◌/◌, ◌%◌, ◌<◌, false, Bool, List, length, drop, get_or, ap, sym, ◌∙◌, arith, length-take, length-drop}
use Rattle.std.proofs.lemmas.List.{get_or-take, get_or-drop}
use Rattle.pdh_bits.specs.BitOut.{BoundedBits}
use Rattle.pdh_packed.proofs.RingLaws.{bits_in, length-inside, stands_inside}
use Rattle.pdh_packed.proofs.ring.BitRing.bit.Goals as goal

pub overflow_add-from : goal.overflow_add-from
overflow_add-from c = omega (arith, stands_inside c.self.inside c.args.self.now c.args.place 1 c.self.view_is c.self.invariant.4 (omega arith), c.self.invariant)

pub get-requires : goal.get-requires
get-requires c =
    let inside : List Bool = bits_in c.self.inside in
    let from = c.self.inside.dropped + c.args.place in
    let within : from < length inside = omega (arith, stands_inside c.self.inside c.args.self.now c.args.place 1 c.self.view_is c.self.invariant.4 (omega arith), length-inside c.self.inside) in
    omega (arith, ap length c.word_at.ensures, length-take 64 (drop (64 * (from / 64)) inside), length-drop (64 * (from / 64)) inside, within)

pub returns : goal.returns
returns c =
    let d = c.self.inside.dropped in
    let inside : List Bool = bits_in c.self.inside in
    let from = d + c.args.place in
    c.get.ensures ∙ ap (λ (x : List Bool). get_or x (from % 64) false) c.word_at.ensures ∙ get_or-take 64 (drop (64 * (from / 64)) inside) (from % 64) false (omega arith)
    ∙ get_or-drop (64 * (from / 64)) inside (from % 64) false ∙ ap (λ n. get_or inside n false) (omega arith) ∙ sym (get_or-drop d inside c.args.place false)
    ∙ ap (λ (b : BoundedBits). get_or b.bits c.args.place false) c.self.view_is
