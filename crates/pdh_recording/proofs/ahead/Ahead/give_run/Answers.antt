use Rattle.std.proofs.Common.{arith, drop, take}
use Rattle.pdh_recording.proofs.Replaying.{run_given}
use Rattle.pdh_recording.proofs.ahead.Ahead.give_run.Goals as goal

pub returns-clause-given : goal.returns-clause-given
returns-clause-given c =
    let old = c.args.self.now in
    let n = c.fill_bytes-count.result in
    run_given old.run n old.value (take n c.fill_bytes-count.new.into) (drop old.given old.bytes.items) (omega (arith, c.fill_bytes-count.ensures.count)) c.fill_bytes-count.ensures.filled
