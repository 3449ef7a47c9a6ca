use Rattle.std.proofs.Common.{ap, arith}
use Rattle.pdh_bits.specs.BitOut.{BoundedBits}
use Rattle.pdh_duplex.proofs.linking.Terminals.open.Goals as goal

pub returns : goal.returns
returns g c =
    let to_east = c.args.self.now.to_east.now in
    let to_west = c.args.self.now.to_west.now in
    record { clock_is = c.in_ok-clock.ensures; room = omega (arith, ap (λ (b : BoundedBits). b.capacity) c.in_ok-frame.ensures, c.LEN.ensures); east_is = c.in_ok-to_east.ensures to_east to_west; west_is = c.in_ok-to_west.ensures to_east to_west }
