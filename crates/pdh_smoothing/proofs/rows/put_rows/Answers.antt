use Rattle.std.proofs.Common.{◌≡◌, ◌<◌, ◌+◌, ◌++◌, [], List, ℕ, Bool, length, refl, ap, sym, subst, ◌∙◌, arith}
use Rattle.std.specs.Prelude.{unwrap_or}
use Rattle.std.proofs.lemmas.List.{append-nil}
use Rattle.std.proofs.lemmas.Result.{err_from_is_err_and}
use Rattle.pdh_bits.specs.Bits.{bits_of}
use Rattle.pdh_bits.proofs.BitsLemmas.{bits_of-append}
use Rattle.pdh_edge.specs.Ports.{Puts, for_leaf}
use Rattle.pdh_edge.proofs.Runs.{puts_begin, puts_then, puts_part, cause_since}
use Rattle.pdh_rx.proofs.Gains.{on_err_from}
use Rattle.pdh_row_text.specs.Form.{counts_form}
use Rattle.pdh_clock.specs.Written.{row_line}
use Rattle.pdh_smoothing.specs.Again.{lists_in, pieces_marked, counts_marked, frames_marked, rows_text}
use Rattle.pdh_smoothing.proofs.RowLaws.{first_row, no_rows, rows_then, rows_begin}
use Rattle.pdh_smoothing.proofs.rows.put_rows.Goals as goal

pub output-requires : goal.output-requires
output-requires g c = (let known : 0 < g.S.Shape.shape.tribs = omega (arith, c.requires.some, g.met.S.Shape.tribs_is) in c.requires.marks.held 0 known)

pub loop-piece-init : goal.loop-piece-init
loop-piece-init g c = (refl, [], puts_begin c.args.list (g.D.Drain.outputs c.args.port.now), refl, refl, g.met.D.Drain.drained_same _)

pub run_from-frames-requires-clause-end : goal.run_from-frames-requires-clause-end
run_from-frames-requires-clause-end g c = c.len-pieces.ensures.count ∙ sym (ap (λ t. length (unwrap_or t [])) c.output.ensures)

pub put_row-requires-clause-inside : goal.put_row-requires-clause-inside
put_row-requires-clause-inside g c =
    let count : c.len-pieces.result ≡ pieces_marked (lists_in c.args.marks.now) = c.len-pieces.ensures.count ∙ sym (ap (λ t. length (unwrap_or t [])) c.output.ensures) in
    omega (arith, count, c.loop-piece-test.true)

pub put_row-requires-clause-room : goal.put_row-requires-clause-room
put_row-requires-clause-room g c = omega (arith, c.loop-piece.invariant.0, c.requires.room)

pub put_row-requires-clause-list : goal.put_row-requires-clause-list
put_row-requires-clause-list g c = ap (λ h. h c.args.list) (g.met.D.Drain.drained_holds c.args.port.now c.loop-piece.port c.loop-piece.invariant.5) ∙ c.requires.list

pub loop-piece-preserved : goal.loop-piece-preserved
loop-piece-preserved g c =
    let s = g.S.Shape.shape in
    let lists = lists_in c.args.marks.now in
    let piece = c.loop-piece.piece in
    let n = c.run_from-frames.result in
    let inv = c.loop-piece.invariant in
    let run = c.run_from-frames.ensures in
    let ok = c.in_ok-put_row.ensures in
    let count : c.len-pieces.result ≡ pieces_marked lists = c.len-pieces.ensures.count ∙ sym (ap (λ t. length (unwrap_or t [])) c.output.ensures) in
    let row = row_line (counts_form [] n (counts_marked s lists piece)) in
    let one = first_row s lists piece n run.some (omega (arith, run.within, count)) run.alike (λ less. run.ends (omega (arith, less, count))) in
    let whole : inv.1 ++ (row ++ rows_text (frames_marked s lists (piece + n))) ≡ rows_text (frames_marked s lists 1) = ap (λ rest. inv.1 ++ rest) (sym one) ∙ inv.3 in (
      ok.room ∙ inv.0,
      inv.1 ++ row,
      subst (λ (bits : List Bool). Puts (for_leaf c.args.list bits) (g.D.Drain.outputs c.args.port.now) (g.D.Drain.outputs c.put_row.new.port)) (sym (bits_of-append inv.1 row)) (puts_then c.args.list (bits_of inv.1) (bits_of row) (g.D.Drain.outputs c.args.port.now) (g.D.Drain.outputs c.loop-piece.port) (g.D.Drain.outputs c.put_row.new.port) inv.2 ok.ok),
      rows_then inv.1 row (rows_text (frames_marked s lists (piece + n))) _ whole,
      ok.cause ∙ inv.4,
      g.met.D.Drain.drained_join _ _ _ inv.5 ok.drained,
    )

pub returns-in_err-put_row-clause-err : goal.returns-in_err-put_row-clause-err
returns-in_err-put_row-clause-err g c =
    let s = g.S.Shape.shape in
    let lists = lists_in c.args.marks.now in
    let piece = c.loop-piece.piece in
    let n = c.run_from-frames.result in
    let inv = c.loop-piece.invariant in
    let run = c.run_from-frames.ensures in
    let count : c.len-pieces.result ≡ pieces_marked lists = c.len-pieces.ensures.count ∙ sym (ap (λ t. length (unwrap_or t [])) c.output.ensures) in
    let row = row_line (counts_form [] n (counts_marked s lists piece)) in
    let one = first_row s lists piece n run.some (omega (arith, run.within, count)) run.alike (λ less. run.ends (omega (arith, less, count))) in
    let whole : inv.1 ++ (row ++ rows_text (frames_marked s lists (piece + n))) ≡ rows_text (frames_marked s lists 1) = ap (λ rest. inv.1 ++ rest) (sym one) ∙ inv.3 in
    on_err_from _ c.from_residual.result (puts_part c.args.list (bits_of inv.1) (bits_of row) (bits_of (rows_text (frames_marked s lists 1))) (g.D.Drain.outputs c.args.port.now) (g.D.Drain.outputs c.loop-piece.port) (g.D.Drain.outputs c.put_row.new.port) inv.2 c.in_err-put_row.ensures.err (rows_begin inv.1 row (rows_text (frames_marked s lists (piece + n))) _ whole))

pub returns-in_err-put_row-clause-cause : goal.returns-in_err-put_row-clause-cause
returns-in_err-put_row-clause-cause g c = cause_since c.from_residual.result _ _ _ _ (err_from_is_err_and c.from_residual.result c.from_residual.ensures.1).1 c.loop-piece.invariant.4 c.in_err-put_row.ensures.cause

pub returns-in_err-put_row-clause-drained : goal.returns-in_err-put_row-clause-drained
returns-in_err-put_row-clause-drained g c = g.met.D.Drain.drained_join _ _ _ c.loop-piece.invariant.5 c.in_err-put_row.ensures.drained

pub returns-clause-ok : goal.returns-clause-ok
returns-clause-ok g c =
    let s = g.S.Shape.shape in
    let lists = lists_in c.args.marks.now in
    let inv = c.loop-piece.invariant in
    let count : c.len-pieces.result ≡ pieces_marked lists = c.len-pieces.ensures.count ∙ sym (ap (λ t. length (unwrap_or t [])) c.output.ensures) in
    let none = no_rows s lists c.loop-piece.piece (omega (arith, count, c.loop-piece-test.false)) in
    let whole : inv.1 ≡ rows_text (frames_marked s lists 1) = sym (append-nil inv.1) ∙ ap (λ rest. inv.1 ++ rest) (sym none) ∙ inv.3 in
    subst (λ (text : List ℕ). Puts (for_leaf c.args.list (bits_of text)) (g.D.Drain.outputs c.args.port.now) (g.D.Drain.outputs c.loop-piece.port)) whole inv.2

pub returns-clause-cause : goal.returns-clause-cause
returns-clause-cause g c = c.loop-piece.invariant.4

pub returns-clause-drained : goal.returns-clause-drained
returns-clause-drained g c = c.loop-piece.invariant.5
