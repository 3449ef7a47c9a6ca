use Rattle.std.proofs.Common.{sym, subst}
use Rattle.pdh_bits.proofs.BitsLemmas.{All-from_fits}
use Rattle.pdh_ds1.specs.Codec.{IsPacked}
use Rattle.pdh_ds1.proofs.PackingLaws.{line_is_packed, line_made}
use Rattle.pdh_ds1.proofs.codec.pack.Goals as goal

pub returns-clause-packed : goal.returns-clause-packed
returns-clause-packed c =
    let made = line_made c.args.frame c.args.payload.now c.in_ok-line.line.bits c.in_ok-bytes.bytes.items c.in_ok-bytes.ensures c.in_ok-line.ensures in
    subst (IsPacked c.args.frame c.args.payload.now) (sym made) (line_is_packed c.args.frame c.args.payload.now c.if-payload-ne0.false (All-from_fits c.args.payload.now c.type_inv.payload))

pub returns-clause-line : goal.returns-clause-line
returns-clause-line c = line_made c.args.frame c.args.payload.now c.in_ok-line.line.bits c.in_ok-bytes.bytes.items c.in_ok-bytes.ensures c.in_ok-line.ensures
