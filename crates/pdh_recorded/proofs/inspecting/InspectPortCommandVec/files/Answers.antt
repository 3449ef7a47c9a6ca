use Rattle.pdh_answers.specs.Names.{line_file}
use Rattle.pdh_runner.proofs.Prepared.{ok_both}
use Rattle.pdh_recorded.specs.Inspect.{inspecting, inspected}
use Rattle.pdh_recorded.proofs.InspectWatched.{inspect_reads}
use Rattle.pdh_recorded.proofs.LineWorks.{work_prepared}
use Rattle.pdh_recorded.proofs.inspecting.InspectPortCommandVec.files.Goals as goal

pub returns : goal.returns
returns g c =
    let chain = c.args.self.now.chain in
    let bits = c.args.self.now.bits in
    ok_both c.line.result (λ files inputs outputs state planned.
    work_prepared (inspecting chain bits) (line_file bits) chain (inspected chain) (inspect_reads chain bits) c.args.line.now files.inputs.items inputs files.outputs.items outputs state planned.0 planned.1)
    c.line.ensures.inputs c.line.ensures.outputs
