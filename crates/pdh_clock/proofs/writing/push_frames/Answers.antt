use Rattle.std.proofs.Common.{◌≡◌, ◌∙◌, ◌++◌, ℕ, List, true, false, replicate, ap, sym}
use Rattle.std.specs.Str.{bytes_eq}
use Rattle.pdh_line.specs.Paths.{steps_of}
use Rattle.pdh_clock.specs.Runs.{run_counts, run_text}
use Rattle.pdh_clock.proofs.WrittenRows.{longest_text, run_grown, run_written}
use Rattle.pdh_clock.proofs.writing.push_frames.Goals as goal

pub returns-then-eq-clause-text : goal.returns-then-eq-clause-text
returns-then-eq-clause-text c = λ rest.
    let same : bytes_eq (run_counts c.args.run.now) c.args.counts.now ≡ true = ap (λ cs. bytes_eq cs c.args.counts.now) (sym c.counts.ensures) ∙ sym c.if-eq.ensures in
    run_grown (steps_of c.args.path.now) c.args.text.now.items (run_counts c.args.run.now) c.args.counts.now c.args.run.now.frames c.args.frames rest same

pub returns-clause-text : goal.returns-clause-text
returns-clause-text c = λ rest.
    let other : bytes_eq (run_counts c.args.run.now) c.args.counts.now ≡ false = ap (λ cs. bytes_eq cs c.args.counts.now) (sym c.counts.ensures) ∙ sym c.if-eq.ensures in
    let path = steps_of c.args.path.now in
    let front = c.args.text.now.items ++ run_text path c.args.run.now in
    let back = λ (n : ℕ) (counts : List ℕ). longest_text path (replicate n counts ++ rest) in
    ap (λ text. text ++ back c.new.result.frames (run_counts c.new.result)) c.in_ok-push_run.ensures
    ∙ ap (λ n. front ++ back n (run_counts c.new.result)) c.new.ensures.frames
    ∙ ap (λ counts. front ++ back c.args.frames counts) c.new.ensures.counts
    ∙ run_written path c.args.text.now.items c.args.run.now c.args.frames c.args.counts.now rest c.requires.some other
