use Rattle.std.proofs.Common.{◌≡◌, length, ap, sym, ◌∙◌, arith}
use Rattle.pdh_packed.specs.WordLaws.{length-low_bits, first_small}
use Rattle.pdh_packed.proofs.word.Word.first.Goals as goal

pub invariant_of-result : goal.invariant_of-result
invariant_of-result c =
    let n = c.self.inside.number in
    let w = c.self.inside.count in
    let long : length c.args.self.now ≡ w = ap length (sym c.self.view_is) ∙ length-low_bits w n in
    (omega arith, first_small c.args.count w n (omega arith) c.self.invariant.1)
