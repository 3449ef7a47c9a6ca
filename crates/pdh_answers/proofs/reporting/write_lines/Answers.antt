use Rattle.std.proofs.Common.{◌≡◌, ◌+◌, ◌++◌, List, ℕ, map, take, drop, sym, ap, ◌∙◌, arith}
use Rattle.std.proofs.lemmas.List.{take_all}
use Rattle.pdh_watch.specs.contracts.members.BoxDynMonitorMonitor.TheImpl.{state-value}
use Rattle.pdh_answers.specs.Lines.{monitor_line, monitor_lines}
use Rattle.pdh_answers.proofs.Lines.{sends_more, fails_within, fails_last, lines_more, lines_split, on_err, on_err_map}
use Rattle.pdh_answers.proofs.reporting.write_lines.Goals as goal

pub returns-in_err-write_line-clause-err : goal.returns-in_err-write_line-clause-err
returns-in_err-write_line-clause-err g c =
    let state = (state-value g.dyn-1).it in
    let monitors = c.args.monitors.now in
    let place = c.loop-place.place in
    let before : List ℕ = monitor_lines (map state (take place monitors)) in
    let line : List ℕ = monitor_line (state c.index-monitors-place.result) in
    let rest : List ℕ = monitor_lines (map state (drop (place + 1) monitors)) in
    let upto : monitor_lines (map state (take (place + 1) monitors)) ≡ before ++ line = lines_more state monitors place c.index-monitors-place.result (omega arith) ∙ ap (λ m. before ++ monitor_line (state m)) (sym c.index-monitors-place.is) in
    let all : monitor_lines (map state monitors) ≡ (before ++ line) ++ rest = lines_split state monitors (place + 1) ∙ ap (λ text. text ++ rest) upto in
    on_err c.from_residual.result (fails_within before line rest c.args.last.now _ _ _ _ all c.loop-place.invariant c.in_err-write_line.ensures.err)

pub loop-place-preserved : goal.loop-place-preserved
loop-place-preserved g c =
    let state = (state-value g.dyn-1).it in
    let monitors = c.args.monitors.now in
    let place = c.loop-place.place in
    let before : List ℕ = monitor_lines (map state (take place monitors)) in
    let line : List ℕ = monitor_line (state c.index-monitors-place.result) in
    let upto : monitor_lines (map state (take (place + 1) monitors)) ≡ before ++ line = lines_more state monitors place c.index-monitors-place.result (omega arith) ∙ ap (λ m. before ++ monitor_line (state m)) (sym c.index-monitors-place.is) in
    sends_more before line _ _ _ _ upto c.loop-place.invariant c.in_ok-write_line.ensures.ok

pub returns-clause-err : goal.returns-clause-err
returns-clause-err g c =
    let state = (state-value g.dyn-1).it in
    let all : monitor_lines (map state c.args.monitors.now) ≡ monitor_lines (map state (take c.loop-place.place c.args.monitors.now)) = ap (λ ms. monitor_lines (map state ms)) (sym (take_all c.loop-place.place c.args.monitors.now (omega arith))) in
    on_err_map c.write.result (λ fails. fails_last _ c.args.last.now _ _ _ _ all c.loop-place.invariant fails) c.write.ensures.err
