use Rattle.std.proofs.Common.{ℕ, ◌-◌, take, ap, ◌∙◌, arith}
use Rattle.pdh_packed.proofs.PackedLaws.{across_two}
use Rattle.pdh_packed.proofs.word.Word.across.Goals as goal

pub returns : goal.returns
returns c =
    let rest = c.first-2.ensures ∙ ap (λ (n : ℕ). take (c.args.count - n) c.args.next) c.len-2.ensures.count in
    c.join.ensures ∙ across_two c.args.self.now c.args.next c.after-front.result c.first-2.result c.args.place c.args.count c.requires.begun c.after-front.ensures (omega arith) rest
