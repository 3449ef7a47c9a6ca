use Rattle.std.proofs.Common.{◌≡◌, length, sym, ◌∙◌, ap, arith}
use Rattle.std.proofs.lemmas.Grind.{common_steps}
use Rattle.pdh_edge.specs.Ports.{Inputs}
use Rattle.pdh_lab.proofs.Received.{have_received}
use Rattle.pdh_lab.proofs.receiving.receive.Goals as goal

pub deliver-requires-clause-line : goal.deliver-requires-clause-line
deliver-requires-clause-line c =
    let long : c.len-bits.result ≡ length c.args.line.bits = grind (arith, common_steps) in
    record {
      holds = ap (λ (i : Inputs). i.holds 0) c.in_ok-port.ensures.inputs;
      left = ap (λ (i : Inputs). i.left 0) c.in_ok-port.ensures.inputs ∙ sym long;
    }

pub returns : goal.returns
returns c =
    let long : c.len-bits.result ≡ length c.args.line.bits = grind (arith, common_steps) in
    have_received c.args.chain _ c.args.line.bits c.len-bits.result _ _ _ _ _ _ long c.leaves.ensures.value c.in_ok-port.ensures.inputs c.in_ok-port.ensures.outputs c.deliver.ensures.leaves c.in_ok-deliver.ensures.ok
