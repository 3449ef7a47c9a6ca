use Rattle.std.proofs.Common.{◌∙◌, ◌++◌, ◌<◌, drop, refl, ap, sym, arith}
use Rattle.std.proofs.lemmas.Result.{on_ok_weaker}
use Rattle.pdh_rows.specs.Rows.{node_frames}
use Rattle.pdh_rows.specs.Stored.{rows_of}
use Rattle.pdh_rows.proofs.Joining.{no_row}
use Rattle.pdh_rows.proofs.Parts.{first_zero}
use Rattle.pdh_rows.proofs.Tabled.{length-rows_of, repeat_at, row_at}
use Rattle.pdh_clock.specs.Stored.{node_path}
use Rattle.pdh_clock.specs.Runs.{text_before}
use Rattle.pdh_clock.proofs.WrittenRows.{longest_text, last_written, none_left}
use Rattle.pdh_clock.proofs.writing.push_node.Goals as goal

pub loop-row-init : goal.loop-row-init
loop-row-init c =
    let t = c.args.node.now.table in
    record {
      tribs = refl;
      before = omega arith;
      whole = ap (λ n. c.args.text.now.items ++ longest_text (node_path c.args.node.now) (drop n (node_frames (rows_of t)))) (first_zero t c.requires.table);
    }

pub push_frames_of-requires-clause-some : goal.push_frames_of-requires-clause-some
push_frames_of-requires-clause-some c =
    let t = c.args.node.now.table in
    let some : 0 < (row_at t c.loop-row.row).repeat = c.requires.some_frames c.loop-row.row no_row (omega (arith, length-rows_of t)) in
    omega (arith, some, repeat_at t c.loop-row.row (omega arith))

pub loop-row-preserved : goal.loop-row-preserved
loop-row-preserved c = record {
  tribs = c.in_ok-push_frames_of.ensures.tribs ∙ c.loop-row.invariant.tribs;
  before = c.in_ok-push_frames_of.ensures.before;
  whole = c.in_ok-push_frames_of.ensures.text ∙ c.loop-row.invariant.whole;
}

pub returns : goal.returns
returns c =
    let path = node_path c.args.node.now in
    let none = none_left c.args.node.now.table c.loop-row.row c.requires.table (omega arith) in
    on_ok_weaker c.push_run.result (λ text. text ∙ last_written path c.loop-row.text.items c.loop-row.run
    ∙ ap (text_before path c.loop-row.text.items c.loop-row.run) (sym none) ∙ c.loop-row.invariant.whole) c.push_run.ensures
