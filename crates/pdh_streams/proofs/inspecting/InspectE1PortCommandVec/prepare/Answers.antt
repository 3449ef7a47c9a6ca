use Rattle.std.proofs.lemmas.Result.{IfErr-weaker}
use Rattle.pdh_streams.proofs.InspectFiles.{inspecting_refused, inspecting_unseen}
use Rattle.pdh_streams.proofs.inspecting.InspectE1PortCommandVec.prepare.Goals as goal

pub returns-clause-err : goal.returns-clause-err
returns-clause-err g c = IfErr-weaker c.framed_line.result _ _ (λ stop refused. inspecting_refused _ _ stop refused) c.framed_line.ensures.err

pub returns-clause-unseen : goal.returns-clause-unseen
returns-clause-unseen g c = IfErr-weaker c.framed_line.result _ _ (λ stop refused states. inspecting_unseen _ _ stop states refused) c.framed_line.ensures.err
