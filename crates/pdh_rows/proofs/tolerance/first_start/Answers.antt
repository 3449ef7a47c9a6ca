use Rattle.std.proofs.Common.{◌≡◌, ◌+◌, ◌∙◌, ℕ, ap, sym, subst, arith}
use Rattle.std.specs.Prelude.{slice_index}
use Rattle.pdh_shape.specs.OwnNumbers.{allowance}
use Rattle.pdh_rows.specs.Rows.{node_counts, node_frame_count}
use Rattle.pdh_rows.specs.Bounds.{gains, losses, gains_of, losses_of, flow_gains, flow_losses, IsFirstStart}
use Rattle.pdh_rows.specs.Stored.{rows_of}
use Rattle.pdh_rows.proofs.Rising.{NoStart, no_start_more, first_start_found, some_start}
use Rattle.pdh_rows.proofs.Parts.{grows, cross_gap, never_gap, cross_moved, never_moved, cross_at_once, none_gained, gains_start, losses_start, last_is}
use Rattle.pdh_rows.proofs.tolerance.first_start.Goals as goal

pub returns-then-lower-upper : goal.returns-then-lower-upper
returns-then-lower-upper c =
    let t = c.args.table.now in
    let cs = node_counts (rows_of t) c.args.trib in
    let start = slice_index t.firsts.items c.loop-number.number in
    let row = c.trib_row-row.result in
    let is = c.trib_row-row.ensures.row in
    let gain = flow_gains c.args.bound c.args.low row.flow in
    let loss = flow_losses c.args.bound c.args.low row.flow in
    let even = grows c.args.bound c.args.low cs _ _ row is in
    let gains_end = c.balance_of-end.ensures.gains ∙ ap (gains_of c.args.bound c.args.low c.args.to) c.total.ensures in
    let losses_end = c.balance_of-end.ensures.losses ∙ ap (losses_of c.args.bound c.args.low c.args.to) c.total.ensures in
    let gains_now = c.balance_of-start.ensures.gains ∙ gains_start c.args.bound c.args.low cs _ _ row is in
    let losses_now = c.balance_of-start.ensures.losses ∙ losses_start c.args.bound c.args.low cs _ _ row is in
    let lower : ℕ = c.balance_of-start.result.gains + c.balance_of-end.result.losses + allowance in
    let upper : ℕ = c.balance_of-start.result.losses + c.balance_of-end.result.gains in
    let lower' : ℕ = gains c.args.bound c.args.low cs start + losses c.args.bound c.args.low cs c.args.to + allowance in
    let upper' : ℕ = losses c.args.bound c.args.low cs start + gains c.args.bound c.args.low cs c.args.to in
    let same : lower ≡ lower' = omega (arith, gains_now, losses_end) in
    let same' : upper ≡ upper' = omega (arith, losses_now, gains_end) in
    let cross = cross_moved lower lower' upper upper' gain loss row.frames 0 same same'
    (cross_at_once lower upper gain loss row.frames (none_gained c.args.bound c.args.low row.flow is.fits.some) c.if-lower-upper.true) in
    let found = first_start_found (gains c.args.bound c.args.low cs) (losses c.args.bound c.args.low cs) start row.frames gain loss
    (node_frame_count (rows_of t)) c.args.to 0 even c.requires.end c.loop-number.invariant cross in
    let here : start + 0 ≡ row.first = omega (arith, is.first) in
    subst (IsFirstStart (gains c.args.bound c.args.low cs) (losses c.args.bound c.args.low cs) c.args.to) here found

pub returns-in-Some : goal.returns-in-Some
returns-in-Some c =
    let t = c.args.table.now in
    let cs = node_counts (rows_of t) c.args.trib in
    let start = slice_index t.firsts.items c.loop-number.number in
    let row = c.trib_row-row.result in
    let is = c.trib_row-row.ensures.row in
    let gain = flow_gains c.args.bound c.args.low row.flow in
    let loss = flow_losses c.args.bound c.args.low row.flow in
    let even = grows c.args.bound c.args.low cs _ _ row is in
    let gains_end = c.balance_of-end.ensures.gains ∙ ap (gains_of c.args.bound c.args.low c.args.to) c.total.ensures in
    let losses_end = c.balance_of-end.ensures.losses ∙ ap (losses_of c.args.bound c.args.low c.args.to) c.total.ensures in
    let gains_now = c.balance_of-start.ensures.gains ∙ gains_start c.args.bound c.args.low cs _ _ row is in
    let losses_now = c.balance_of-start.ensures.losses ∙ losses_start c.args.bound c.args.low cs _ _ row is in
    let lower : ℕ = c.balance_of-start.result.gains + c.balance_of-end.result.losses + allowance in
    let upper : ℕ = c.balance_of-start.result.losses + c.balance_of-end.result.gains in
    let lower' : ℕ = gains c.args.bound c.args.low cs start + losses c.args.bound c.args.low cs c.args.to + allowance in
    let upper' : ℕ = losses c.args.bound c.args.low cs start + gains c.args.bound c.args.low cs c.args.to in
    let same : lower ≡ lower' = omega (arith, gains_now, losses_end) in
    let same' : upper ≡ upper' = omega (arith, losses_now, gains_end) in
    let cross = cross_moved lower lower' upper upper' gain loss row.frames c.in-Some.frames same same'
    (cross_gap lower upper gain loss row.frames c.in-Some.frames c.if-lower-upper.false c.in-Some.ensures) in
    let found = first_start_found (gains c.args.bound c.args.low cs) (losses c.args.bound c.args.low cs) start row.frames gain loss
    (node_frame_count (rows_of t)) c.args.to c.in-Some.frames even c.requires.end c.loop-number.invariant cross in
    subst (λ n. IsFirstStart (gains c.args.bound c.args.low cs) (losses c.args.bound c.args.low cs) c.args.to (n + c.in-Some.frames)) (sym is.first) found

pub loop-number-preserved : goal.loop-number-preserved
loop-number-preserved c =
    let t = c.args.table.now in
    let cs = node_counts (rows_of t) c.args.trib in
    let start = slice_index t.firsts.items c.loop-number.number in
    let row = c.trib_row-row.result in
    let is = c.trib_row-row.ensures.row in
    let gain = flow_gains c.args.bound c.args.low row.flow in
    let loss = flow_losses c.args.bound c.args.low row.flow in
    let even = grows c.args.bound c.args.low cs _ _ row is in
    let gains_end = c.balance_of-end.ensures.gains ∙ ap (gains_of c.args.bound c.args.low c.args.to) c.total.ensures in
    let losses_end = c.balance_of-end.ensures.losses ∙ ap (losses_of c.args.bound c.args.low c.args.to) c.total.ensures in
    let gains_now = c.balance_of-start.ensures.gains ∙ gains_start c.args.bound c.args.low cs _ _ row is in
    let losses_now = c.balance_of-start.ensures.losses ∙ losses_start c.args.bound c.args.low cs _ _ row is in
    let lower : ℕ = c.balance_of-start.result.gains + c.balance_of-end.result.losses + allowance in
    let upper : ℕ = c.balance_of-start.result.losses + c.balance_of-end.result.gains in
    let lower' : ℕ = gains c.args.bound c.args.low cs start + losses c.args.bound c.args.low cs c.args.to + allowance in
    let upper' : ℕ = losses c.args.bound c.args.low cs start + gains c.args.bound c.args.low cs c.args.to in
    let same : lower ≡ lower' = omega (arith, gains_now, losses_end) in
    let same' : upper ≡ upper' = omega (arith, losses_now, gains_end) in
    let never = never_moved lower lower' upper upper' gain loss row.frames same same'
    (never_gap lower upper gain loss row.frames c.if-lower-upper.false c.in_default.ensures) in
    let more = no_start_more (gains c.args.bound c.args.low cs) (losses c.args.bound c.args.low cs) start row.frames gain loss
    c.args.to even c.loop-number.invariant never in
    subst (NoStart (gains c.args.bound c.args.low cs) (losses c.args.bound c.args.low cs) c.args.to) (sym is.ends) more

pub returns : goal.returns
returns c =
    let t = c.args.table.now in
    let cs = node_counts (rows_of t) c.args.trib in
    let end : slice_index t.firsts.items c.loop-number.number ≡ node_frame_count (rows_of t) =
    last_is t c.loop-number.number c.requires.table (omega arith) in
    some_start (gains c.args.bound c.args.low cs) (losses c.args.bound c.args.low cs) (node_frame_count (rows_of t)) c.args.to c.requires.end
    (subst (λ n. NoStart (gains c.args.bound c.args.low cs) (losses c.args.bound c.args.low cs) c.args.to n) end c.loop-number.invariant)
