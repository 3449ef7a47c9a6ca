use Rattle.std.proofs.Common.{◌≡◌, IfOk, subst}
use Rattle.pdh_edge.proofs.Holding.{inputs_hold}
use Rattle.pdh_chain.specs.Chains.{leaves_of}
use Rattle.pdh_lab.proofs.Sent.{list_long, line_sent}
use Rattle.pdh_lab.proofs.sending.line_from.Goals as goal

pub send-requires-clause-enough : goal.send-requires-clause-enough
send-requires-clause-enough c = record {
  holds = λ k low. inputs_hold c.in_ok-inputs.inputs.items (leaves_of c.args.chain) k c.in_ok-port.ensures.inputs c.in_ok-inputs.ensures.count low;
  long = λ k low. list_long c.args.chain c.args.seed c.args.frames c.in_ok-inputs.inputs.items k _ c.in_ok-inputs.ensures c.in_ok-port.ensures.inputs low;
}

pub returns : goal.returns
returns c =
    subst (λ line. IfOk c.copied.result (λ copy. copy.bits ≡ line))
    (line_sent c.args.chain c.args.seed c.args.frames c.args.clock.now c.in_ok-inputs.inputs.items c.output.result.now.bits _ _ _ _ c.requires.clock c.in_ok-inputs.ensures c.in_ok-port.ensures.inputs c.in_ok-port.ensures.outputs c.in_ok-send.ensures.ok c.output.ensures)
    c.copied.ensures
