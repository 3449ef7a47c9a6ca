use Rattle.std.proofs.Common.{ap}
use Rattle.std.proofs.lemmas.Result.{on_err_weaker}
use Rattle.pdh_edge.specs.Ports.{Outputs}
use Rattle.pdh_claims_of_files.proofs.edge.failed_put_empties_the_list.Goals as goal

pub returns : goal.returns
returns c = on_err_weaker c.put.result (λ refused. ap (λ (lists : Outputs). lists.told 0) refused.same) c.put.ensures.refused
