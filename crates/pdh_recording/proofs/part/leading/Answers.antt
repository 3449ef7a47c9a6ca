use Rattle.std.proofs.Common.{arith}
use Rattle.pdh_recording.proofs.Passing.{leading_step, leading_stop}
use Rattle.pdh_recording.proofs.part.leading.Goals as goal

pub loop-index-preserved : goal.loop-index-preserved
loop-index-preserved c =
    let step = leading_step c.args.byte c.args.bytes.now c.loop-index.index c.loop-index-test.true c.if-bytes-index.false in
    omega (arith, c.loop-index.invariant, step)

pub returns-then-bytes-index : goal.returns-then-bytes-index
returns-then-bytes-index c =
    let stop = leading_stop c.args.byte c.args.bytes.now c.loop-index.index c.loop-index-test.true c.if-bytes-index.true in
    omega (arith, c.loop-index.invariant, stop)
