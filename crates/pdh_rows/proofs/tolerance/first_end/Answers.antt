use Rattle.std.proofs.Common.{◌≡◌, ◌+◌, ◌≤◌, sym, subst, arith}
use Rattle.std.specs.Prelude.{slice_index}
use Rattle.pdh_shape.specs.OwnNumbers.{allowance}
use Rattle.pdh_rows.specs.Rows.{node_counts, node_frame_count}
use Rattle.pdh_rows.specs.Bounds.{gains, losses, flow_gains, flow_losses, AllKeep, IsFirstEnd}
use Rattle.pdh_rows.specs.Stored.{rows_of}
use Rattle.pdh_rows.proofs.Rising.{rising_more, rise_small, first_end_found}
use Rattle.pdh_rows.proofs.Parts.{grows, cross_gap, never_gap, first_within, last_is}
use Rattle.pdh_rows.proofs.tolerance.first_end.Goals as goal

pub overflow_sub-rise : goal.overflow_sub-rise
overflow_sub-rise c =
    let cs = node_counts (rows_of c.args.table.now) c.args.trib in
    omega (arith, rise_small (gains c.args.bound c.args.low cs) (losses c.args.bound c.args.low cs) (slice_index c.args.table.now.firsts.items c.loop-number.number) c.loop-number.rise c.loop-number.invariant)

pub rise_after-rise-requires-clause-rise : goal.rise_after-rise-requires-clause-rise
rise_after-rise-requires-clause-rise c =
    let cs = node_counts (rows_of c.args.table.now) c.args.trib in
    rise_small (gains c.args.bound c.args.low cs) (losses c.args.bound c.args.low cs) (slice_index c.args.table.now.firsts.items c.loop-number.number) c.loop-number.rise c.loop-number.invariant

pub returns-in-Some : goal.returns-in-Some
returns-in-Some c =
    let t = c.args.table.now in
    let cs = node_counts (rows_of t) c.args.trib in
    let start = slice_index t.firsts.items c.loop-number.number in
    let row = c.trib_row-row.result in
    let is = c.trib_row-row.ensures.row in
    let small = rise_small (gains c.args.bound c.args.low cs) (losses c.args.bound c.args.low cs) start c.loop-number.rise c.loop-number.invariant in
    let all : slice_index t.firsts.items (c.loop-number.number + 1) ≤ node_frame_count (rows_of t) =
    first_within t (c.loop-number.number + 1) c.requires.table (omega arith) in
    let cross = cross_gap allowance c.loop-number.rise (flow_losses c.args.bound c.args.low row.flow) (flow_gains c.args.bound c.args.low row.flow) row.frames c.in-Some.frames small c.in-Some.ensures in
    let found = first_end_found (gains c.args.bound c.args.low cs) (losses c.args.bound c.args.low cs)
    start row.frames (flow_gains c.args.bound c.args.low row.flow) (flow_losses c.args.bound c.args.low row.flow)
    c.loop-number.rise (node_frame_count (rows_of t)) c.in-Some.frames (grows c.args.bound c.args.low cs _ _ row is) c.loop-number.invariant
    cross (omega (arith, is.ends, all)) in
    subst (λ n. IsFirstEnd (gains c.args.bound c.args.low cs) (losses c.args.bound c.args.low cs) (node_frame_count (rows_of t)) (n + c.in-Some.frames))
    (sym is.first) found

pub loop-number-preserved : goal.loop-number-preserved
loop-number-preserved c =
    let t = c.args.table.now in
    let cs = node_counts (rows_of t) c.args.trib in
    let start = slice_index t.firsts.items c.loop-number.number in
    let row = c.trib_row-row.result in
    let is = c.trib_row-row.ensures.row in
    let small = rise_small (gains c.args.bound c.args.low cs) (losses c.args.bound c.args.low cs) start c.loop-number.rise c.loop-number.invariant in
    let never = never_gap allowance c.loop-number.rise (flow_losses c.args.bound c.args.low row.flow) (flow_gains c.args.bound c.args.low row.flow) row.frames small c.in_default.ensures in
    let more = rising_more (gains c.args.bound c.args.low cs) (losses c.args.bound c.args.low cs)
    start row.frames (flow_gains c.args.bound c.args.low row.flow) (flow_losses c.args.bound c.args.low row.flow)
    c.loop-number.rise (grows c.args.bound c.args.low cs _ _ row is) c.loop-number.invariant never in
    rw (is.ends, c.rise_after-rise.ensures) more

pub returns : goal.returns
returns c =
    let t = c.args.table.now in
    let cs = node_counts (rows_of t) c.args.trib in
    let end : slice_index t.firsts.items c.loop-number.number ≡ node_frame_count (rows_of t) =
    last_is t c.loop-number.number c.requires.table (omega arith) in
    subst (λ n. AllKeep (gains c.args.bound c.args.low cs) (losses c.args.bound c.args.low cs) n) end c.loop-number.invariant.keep
