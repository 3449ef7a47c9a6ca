use Rattle.std.proofs.Common.{sym, ◌∙◌}
use Rattle.pdh_delivered.proofs.Same.{other_lengths}
use Rattle.pdh_delivered.proofs.alike.are_same.Goals as goal

pub returns-then-len : goal.returns-then-len
returns-then-len c =
    sym (other_lengths c.args.one.now.bits c.args.other.now.bits (λ same. c.if-len.true (c.len-len.ensures.count ∙ same ∙ sym c.len.ensures.count)))
