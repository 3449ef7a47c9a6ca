use Rattle.std.proofs.Common.{arith}
use Rattle.pdh_packed.proofs.RingLaws.{length-ring}
use Rattle.pdh_packed.proofs.ring.BitRing.held.Goals as goal

pub returns : goal.returns
returns c =
    let long = length-ring c.self.inside c.args.self.now c.self.view_is in
    record { count = omega (arith, long.0, c.len.ensures.len, c.len-2.ensures.count); bounded = omega (arith, long.0, long.1, c.self.invariant) }
