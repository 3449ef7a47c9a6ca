use Rattle.std.proofs.lemmas.Result.{IfErr-weaker}
use Rattle.pdh_streams.specs.Ds1.{ds1_codec}
use Rattle.pdh_streams.proofs.UnpackingLaws.{unpacking_refused}
use Rattle.pdh_streams.proofs.unpacking.UnpackDs1PortCommandNobody.prepare.Goals as goal

pub returns-clause-err : goal.returns-clause-err
returns-clause-err g c = IfErr-weaker c.framed_line.result _ _ (λ stop refused. unpacking_refused (ds1_codec c.args.self.now.form) _ _ stop refused) c.framed_line.ensures.err
