use Rattle.pdh_g706.proofs.HeldLaws.{four_bits}
use Rattle.pdh_g706.proofs.held.sent_check.Goals as goal

pub returns : goal.returns
returns c =
    let items = c.args.held.now.bits in
    let start = c.args.start in
    four_bits items start _ _ _ _ _ _ _ _ c.bit.ensures c.bit-2.ensures c.bit-3.ensures c.bit-4.ensures c.from.ensures c.from-2.ensures c.from-3.ensures c.from-4.ensures
