use Rattle.std.proofs.Common.{◌≡◌, suc, ◌-◌, ap, ◌∙◌, arith}
use Rattle.std.specs.Prelude.{max}
use Rattle.pdh_cells.proofs.Keeping.{time_stands}
use Rattle.pdh_cells.proofs.cells.Cells.stood.Goals as goal

pub returns : goal.returns
returns c lanes end now stands le before =
    let last_is : c.max-last.result ≡ max c.args.from (c.args.to - 1) = c.max-last.ensures ∙ ap (λ n. max c.args.from n) c.saturating_sub.ensures in
    time_stands c.widen_to.new.self c.put.new.self lanes (max end (suc c.max-last.result)) now c.args.state (record { from = c.args.from; to = c.args.to }) c.max-last.result c.of_state.result
    (c.widen_to.ensures.stands lanes end stands) (omega (arith, last_is, le, before)) c.put.ensures.shift last_is c.of_state.ensures c.put.ensures.each
