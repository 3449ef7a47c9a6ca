use Rattle.pdh_streams.proofs.E1Taking.{e1_is_payload}
use Rattle.pdh_streams.proofs.DeliveringLaws.{is_unpacked}
use Rattle.pdh_streams.specs.E1.{e1_codec}
use Rattle.pdh_streams.proofs.delivering.unpack.Goals as goal

pub deliver-requires-clause-payload : goal.deliver-requires-clause-payload
deliver-requires-clause-payload c = e1_is_payload

pub returns : goal.returns
returns c =
    let done = c.in_ok-deliver.ensures in
    is_unpacked e1_codec c.args.line.now c.output.result.now.bits _ (done.put _ c.output.ensures) c.in_ok-payload.ensures (c.found_by-found.ensures _ done.stands)
