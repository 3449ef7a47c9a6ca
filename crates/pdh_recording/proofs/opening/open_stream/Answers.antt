use Rattle.pdh_readings.specs.declared.bit_order.BitOrder.{BitOrder}
use Rattle.pdh_recording.specs.Opening.{room}
use Rattle.pdh_recording.proofs.Beginning.{begins_behind}
use Rattle.pdh_recording.proofs.opening.open_stream.Goals as goal

pub returns-clause-begins : goal.returns-clause-begins
returns-clause-begins g c = λ (order : BitOrder).
    begins_behind order c.args.from c.room.result (room c.args.from c.args.bits) (g.R.Read.remaining c.args.reader) (g.R.Read.remaining c.pass_over.new.reader) _ (c.new.ensures.begins order) c.room.ensures c.in_ok-pass_over.ensures
