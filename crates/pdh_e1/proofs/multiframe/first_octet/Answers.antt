use Rattle.std.proofs.Common.{arith}
use Rattle.pdh_e1.proofs.OctetLaws.{odd_octet, even_octet}
use Rattle.pdh_e1.proofs.multiframe.first_octet.Goals as goal

pub returns-then-frame-eq1 : goal.returns-then-frame-eq1
returns-then-frame-eq1 c =
    odd_octet c.args.frame c.args.word c.requires.in_multiframe c.requires.four_bits (omega arith)

pub returns : goal.returns
returns c =
    even_octet c.args.frame c.args.word c.requires.in_multiframe c.requires.four_bits (omega arith)
