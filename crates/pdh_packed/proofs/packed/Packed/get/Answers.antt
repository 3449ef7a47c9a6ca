use Rattle.std.proofs.Common.{◌*◌, ◌/◌, ◌%◌, false, drop, get_or, ap, ◌∙◌, arith, length, length-take, length-drop}
use Rattle.std.proofs.lemmas.List.{get_or-take, get_or-drop}
use Rattle.pdh_packed.proofs.packed.Packed.get.Goals as goal

pub get-requires : goal.get-requires
get-requires c =
    let bits = c.args.self.now.bits in
    let at = 64 * (c.args.place / 64) in
    omega (arith, ap length c.word_at.ensures, length-take 64 (drop at bits), length-drop at bits)

pub returns : goal.returns
returns c =
    let bits = c.args.self.now.bits in
    let at = 64 * (c.args.place / 64) in
    let within = c.args.place % 64 in
    c.get.ensures ∙ ap (λ word. get_or word within false) c.word_at.ensures ∙ get_or-take 64 (drop at bits) within false (omega arith) ∙ get_or-drop at bits within false
    ∙ ap (λ place. get_or bits place false) (omega arith)
