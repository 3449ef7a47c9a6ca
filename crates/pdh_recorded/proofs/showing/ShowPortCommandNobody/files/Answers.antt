use Rattle.std.proofs.Common.{◌≡◌, suc, ◌+◌, ◌*◌, [], ◌∷◌, ◌∙◌, ap, ℕ, arith}
use Rattle.pdh_chain.specs.Chains.{frame_bytes_of}
use Rattle.pdh_answers.specs.declared.file.File.TheVariants.{Line}
use Rattle.pdh_recorded.specs.Inspect.{bytes_upto}
use Rattle.pdh_runner.proofs.Prepared.{ok_both}
use Rattle.pdh_recorded.proofs.ShowFiles.{show_prepared}
use Rattle.pdh_recorded.proofs.showing.ShowPortCommandNobody.files.Goals as goal

pub returns : goal.returns
returns c =
    let plan = c.args.self.now in
    let next : plan.frame + 1 ≡ suc plan.frame = grind (arith) in
    let bytes : c.from.result ≡ frame_bytes_of plan.chain = grind (arith) in
    let bits : 8 * ((plan.frame + 1) * c.from.result) ≡ 8 * bytes_upto plan.chain plan.frame = ap (λ n. 8 * (n * c.from.result)) next ∙ ap (λ n. 8 * (suc plan.frame * n)) bytes in
    ok_both c.line.result (λ files inputs outputs state planned.
    show_prepared plan.chain plan.frame files.inputs.items (inputs ∙ ap (λ (n : ℕ). record { file = Line; bits = n } ∷ []) bits) files.outputs.items outputs state planned.0 planned.1)
    c.line.ensures.inputs c.line.ensures.outputs
