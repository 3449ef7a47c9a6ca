use Rattle.pdh_runs.proofs.PieceLaws.{payload_told}
use Rattle.pdh_runs.proofs.layout.Layout.is_payload.Goals as goal

pub returns : goal.returns
returns g c = payload_told g.S.Shape.shape c.args.slot c.payload_before.result c.payload_before-2.result c.payload_before.ensures c.payload_before-2.ensures
