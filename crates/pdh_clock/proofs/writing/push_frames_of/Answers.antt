use Rattle.std.proofs.Common.{◌≡◌, ◌∙◌, ◌+◌, ◌-◌, ◌≤◌, ◌++◌, length, replicate, refl, ap, sym, arith, slice_index}
use Rattle.std.proofs.lemmas.Result.{on_ok_weaker}
use Rattle.std.proofs.lemmas.List.{get_or_default}
use Rattle.pdh_rows.specs.declared.flow.Says.TheVariants.{Counts}
use Rattle.pdh_clock.specs.Stored.{node_path}
use Rattle.pdh_clock.specs.Runs.{text_before, frames_from}
use Rattle.pdh_clock.proofs.WrittenRows.{frame_inside, frame_left, counts_left, length-numbers}
use Rattle.pdh_clock.proofs.writing.push_frames_of.Goals as goal

pub push_frames-requires-clause-tribs : goal.push_frames-requires-clause-tribs
push_frames-requires-clause-tribs c =
    ap length c.row_numbers.ensures ∙ length-numbers c.args.node.now.table c.args.row c.requires.table c.requires.in_range ∙ sym c.requires.tribs

pub returns-in-Counts-clause-before : goal.returns-in-Counts-clause-before
returns-in-Counts-clause-before c =
    on_ok_weaker c.push_frames.result (λ (most : c.push_frames.new.run.frames ≤ c.args.run.now.frames + (c.span_of-first.result.1 - c.span_of-first.result.0)).
    omega (arith, most, c.span_of-first.ensures.first, c.span_of-first.ensures.end, c.span_of-first.ensures.frames, c.requires.before)) c.push_frames.ensures.frames

pub returns-in-Counts-clause-text : goal.returns-in-Counts-clause-text
returns-in-Counts-clause-text c =
    let t = c.args.node.now.table in
    let rest = frames_from t (slice_index t.firsts.items (c.args.row + 1)) in
    let repeat : c.span_of-first.result.1 - c.span_of-first.result.0 ≡ slice_index t.repeats.items c.args.row = omega (arith, c.span_of-first.ensures.frames) in
    let says = sym (get_or_default t.says.items c.args.row c.index.result.now Counts (omega (arith, c.requires.table.says_len, c.requires.in_range))) ∙ sym c.index.ensures ∙ c.in-Counts.is in
    let frames = ap (λ n. replicate n c.row_numbers.result.now ++ rest) repeat
    ∙ ap (λ counts. replicate (slice_index t.repeats.items c.args.row) counts ++ rest) c.row_numbers.ensures
    ∙ sym (counts_left t c.args.row c.requires.table c.requires.in_range says) in
    on_ok_weaker c.push_frames.result (λ text. text rest ∙ ap (text_before (node_path c.args.node.now) c.args.text.now.items c.args.run.now) frames) c.push_frames.ensures.text

pub loop-frame-init : goal.loop-frame-init
loop-frame-init c = record {
  tribs = refl;
  before = omega (arith, c.span_of-first.ensures.first, c.requires.before);
  whole = ap (λ n. text_before (node_path c.args.node.now) c.args.text.now.items c.args.run.now (frames_from c.args.node.now.table n)) c.span_of-first.ensures.first;
}

pub counts_in-counts-requires-clause-scheduled : goal.counts_in-counts-requires-clause-scheduled
counts_in-counts-requires-clause-scheduled c =
    frame_inside c.args.node.now.table c.args.row c.loop-frame.frame c.requires.table c.requires.in_range (omega (arith, c.span_of-first.ensures.end))

pub loop-frame-preserved : goal.loop-frame-preserved
loop-frame-preserved c =
    let t = c.args.node.now.table in
    let frame = c.loop-frame.frame in
    let left = frame_left t c.args.row frame c.counts_in-counts.result c.requires.table c.requires.in_range (omega (arith, c.span_of-first.ensures.first)) (omega (arith, c.span_of-first.ensures.end))
    (omega arith) c.counts_in-counts.ensures.counts in
    record {
      tribs = c.in_ok-push_frames.ensures.tribs ∙ c.loop-frame.invariant.tribs;
      before = omega (arith, c.in_ok-push_frames.ensures.frames, c.loop-frame.invariant.before);
      whole = c.in_ok-push_frames.ensures.text (frames_from t (frame + 1))
          ∙ ap (text_before (node_path c.args.node.now) c.loop-frame.text.items c.loop-frame.run) (sym left)
          ∙ c.loop-frame.invariant.whole;
    }

pub returns-clause-text : goal.returns-clause-text
returns-clause-text c =
    let t = c.args.node.now.table in
    let end : c.loop-frame.frame ≡ slice_index t.firsts.items (c.args.row + 1) = omega (arith, c.span_of-first.ensures.end, c.span_of-first.ensures.frames) in
    ap (λ n. text_before (node_path c.args.node.now) c.loop-frame.text.items c.loop-frame.run (frames_from t n)) (sym end) ∙ c.loop-frame.invariant.whole
