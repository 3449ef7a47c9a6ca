use Rattle.std.proofs.Common.{refl}
use Rattle.pdh_runner.proofs.OneInput.{err_map}
use Rattle.pdh_streams.specs.E1.{e1_codec}
use Rattle.pdh_streams.proofs.PackingLaws.{payload_unread}
use Rattle.pdh_streams.proofs.holding.read_payload.Goals as goal

pub returns-clause-payload : goal.returns-clause-payload
returns-clause-payload g c = rw (c.in_ok-payload.ensures.ok.file_is, c.whole_payload.ensures.looks.told) at c.read.ensures.ok

pub returns-clause-err : goal.returns-clause-err
returns-clause-err g c =
    let payload = c.in_ok-payload.ensures in
    err_map _ _ c.read.result (λ stop cause. payload_unread e1_codec _ (g.S.Shelf.state c.whole_payload.new.shelf) _ payload.ok.octets stop c.whole_payload.ensures.looks payload.counted payload.ok.long payload.ok.few payload.ok.whole refl (rw payload.ok.file_is at cause)) c.read.ensures.err
