use Rattle.std.proofs.Common.{◌∙◌}
use Rattle.pdh_packed.proofs.ByteLaws.{eight_read}
use Rattle.pdh_packed.proofs.bytes.word_of.Goals as goal

pub returns : goal.returns
returns c = c.of.ensures.bits ∙ eight_read c.args.bytes.now c.from_be_bytes-number.result c.requires (λ i. (c.type_inv.bytes i).fits) c.from_be_bytes-number.ensures
