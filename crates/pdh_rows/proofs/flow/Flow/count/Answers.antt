use Rattle.std.proofs.Common.{◌≡◌, ◌≤◌, ◌+◌, ◌-◌, ◌*◌, suc, sym, ap, ◌∙◌, arith}
use Rattle.pdh_rows.specs.Flows.{flowed, flow_count}
use Rattle.pdh_rows.proofs.FlowLaws.{flow-most}
use Rattle.pdh_rows.proofs.Joining.{each_count}
use Rattle.pdh_rows.proofs.flow.Flow.count.Goals as goal

pub overflow_cast-result : goal.overflow_cast-result
overflow_cast-result c = omega (arith, c.requires.most, ap (λ n. 4294967295 * n) c.if-self-eq1.true)

pub returns-then-self-eq1 : goal.returns-then-self-eq1
returns-then-self-eq1 c =
    sym (ap (λ n. flow_count (record { bits = c.args.self.bits; frames = n }) c.args.frame) c.if-self-eq1.true ∙ each_count c.args.self.bits c.args.frame)

pub overflow_cast-result-2 : goal.overflow_cast-result-2
overflow_cast-result-2 c =
    let next : c.from-frame.result + 1 ≡ suc c.args.frame = omega (arith, c.from-frame.ensures) in
    let most = flow-most c.args.self 4294967295 c.args.frame c.requires.some c.requires.most in
    let small : c.arrived.result - c.arrived-2.result ≤ 4294967295 =
    omega (arith, most, c.arrived.ensures, c.arrived-2.ensures, ap (flowed c.args.self) next, ap (flowed c.args.self) c.from-frame.ensures) in
    grind arith
