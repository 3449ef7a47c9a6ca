use Rattle.std.proofs.Common.{◌≡◌, ◌⊎◌, inl, inr, rules, arith, get_or, drop, ap, ◌∙◌}
use Rattle.std.proofs.lemmas.List.{get_or_read}
use Rattle.pdh_recording.specs.Parts.{passed_over}
use Rattle.pdh_recording.proofs.Passing.{passed_few}
use Rattle.pdh_recording.proofs.Replaying.{kept_passed}
use Rattle.pdh_recording.proofs.ahead.Ahead.pass_over.Goals as goal
use Rattle.pdh_recording.proofs.ahead.Ahead.pass_over.Goals.{else-self-gt0-2-via-then-self-gt0-2+else-self-first, else-self-gt0-2-via-else-self-gt0-2}

pub drain-requires-clause-in_bounds : goal.drain-requires-clause-in_bounds
drain-requires-clause-in_bounds c = omega (arith, passed_few c.deref.result.now, c.passed_over-over.ensures, c.deref.ensures.len)

pub returns-clause-same : goal.returns-clause-same
returns-clause-same c =
    let old = c.args.self.now in
    let first = c.index-first.result.now in
    let which : (old.run ≡ 0) ⊎ (old.value ≡ first) = elim c.else-self-gt0-2.branch [
      | else-self-gt0-2-via-then-self-gt0-2+else-self-first w ↦ inr w.if-self-first.false
      | else-self-gt0-2-via-else-self-gt0-2 w ↦ inl (omega (arith, w.if-self-gt0-2.false))
    ] in
    let many : c.passed_over-over.result ≡ passed_over old.bytes.items = c.passed_over-over.ensures ∙ ap passed_over c.deref.ensures.value in
    let front : first ≡ get_or old.bytes.items 0 0 = search (rules, get_or_read) in
    let left : c.drop.new.self.0.items ≡ drop c.passed_over-over.result old.bytes.items = search rules in
    kept_passed old.run c.saturating_add-run.result c.passed_over-over.result old.value first old.given old.bytes.items c.drop.new.self.0.items which (omega (arith, c.if-self-gt0.false)) (omega (arith, c.saturating_add-run.ensures, old.counted, c.if-run-gt-MOST_COPIES.false)) many front left
