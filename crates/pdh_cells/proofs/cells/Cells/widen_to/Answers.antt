use Rattle.std.proofs.Common.{suc, ◌+◌, ◌^◌, ◌≤◌, ap, arith}
use Rattle.std.specs.Prelude.{max}
use Rattle.std.proofs.Math.Pow.{pow_mono}
use Rattle.pdh_cells.proofs.Keeping.{raised, widened}
use Rattle.pdh_cells.proofs.cells.Cells.widen_to.Goals as goal

pub loop-self-init : goal.loop-self-init
loop-self-init c = record { stands = λ lanes end stands. raised _ lanes end (max end (suc c.args.last)) (omega arith) stands }

pub loop-self-preserved : goal.loop-self-preserved
loop-self-preserved c = record {
  stands = λ lanes end stands.
      widened c.loop-self.self _ lanes (max end (suc c.args.last)) (c.loop-self.invariant.stands lanes end stands) (ap (λ n. n + 1) c.join_pairs.ensures.shift) c.join_pairs.ensures.each
      (λ other enough.
      let least : c.shift_for-shift.result ≤ other = c.shift_for-shift.ensures.shift.least other (omega (arith, enough)) in
      omega (arith, least, c.loop-self-test.true));
}

pub returns-clause-enough : goal.returns-clause-enough
returns-clause-enough c =
    let power : 2 ^ c.shift_for-shift.result ≤ 2 ^ c.loop-self.self.shift = pow_mono c.loop-self-test.false in
    let enough = c.shift_for-shift.ensures.shift.enough in
    omega (arith, power, enough)
