use Rattle.std.proofs.Common.{◌≡◌, ◌-◌, ◌∙◌, Some, ap, sym, arith}
use Rattle.std.specs.Option.{option_map}
use Rattle.pdh_line.specs.Progress.{arrived}
use Rattle.pdh_rows.specs.declared.tolerance.Bound.TheVariants.{Most, Least}
use Rattle.pdh_rows.specs.Rows.{node_counts, node_frame_count}
use Rattle.pdh_rows.specs.Bounds.{gains, losses}
use Rattle.pdh_rows.specs.Stored.{rows_of}
use Rattle.pdh_rows.proofs.FirstBreaks.{first_of_both, run_of_span, run_sum, arrived_grows, IsSpan, earlier_is_span}
use Rattle.pdh_rows.proofs.tolerance.within_tolerance.Goals as goal

span : (c : goal.After-total-in-Some) → IsSpan (node_frame_count (rows_of c.args.table.now)) c.in-Some.span
span c =
    let cs = node_counts (rows_of c.args.table.now) c.args.trib in
    earlier_is_span (gains Most c.args.low cs) (losses Most c.args.low cs) (gains Least c.args.low cs) (losses Least c.args.low cs) (node_frame_count (rows_of c.args.table.now))
    c.first_break-most.result c.first_break-least.result c.in-Some.span c.first_break-most.ensures c.first_break-least.ensures (sym c.earlier.ensures ∙ c.in-Some.is)

pub overflow_sub-result : goal.overflow_sub-result
overflow_sub-result c =
    let grows = arrived_grows (node_counts (rows_of c.args.table.now) c.args.trib) c.in-Some.span.from c.in-Some.span.to (span c).before in
    omega (arith, grows, c.total.ensures, c.total-in-Some.ensures)

pub returns-in-None : goal.returns-in-None
returns-in-None c =
    let cs = node_counts (rows_of c.args.table.now) c.args.trib in
    let first = first_of_both c.args.low cs (node_frame_count (rows_of c.args.table.now)) c.first_break-most.result c.first_break-least.result c.earlier.result
    c.first_break-most.ensures c.first_break-least.ensures c.earlier.ensures in
    sym (first ∙ ap (option_map (run_of_span cs)) c.in-None.is)

pub returns-in-Some : goal.returns-in-Some
returns-in-Some c =
    let cs = node_counts (rows_of c.args.table.now) c.args.trib in
    let first = first_of_both c.args.low cs (node_frame_count (rows_of c.args.table.now)) c.first_break-most.result c.first_break-least.result c.earlier.result
    c.first_break-most.ensures c.first_break-least.ensures c.earlier.ensures in
    let bits : c.total.result - c.total-in-Some.result ≡ _ =
    ap (λ n. n - c.total-in-Some.result) c.total.ensures ∙ ap (λ n. arrived cs c.in-Some.span.to - n) c.total-in-Some.ensures
    ∙ run_sum cs c.in-Some.span.from c.in-Some.span.to (span c).before in
    ap (λ n. Some (record { from = c.in-Some.span.from; to = c.in-Some.span.to; sum = n })) bits
    ∙ sym (first ∙ ap (option_map (run_of_span cs)) c.in-Some.is)
