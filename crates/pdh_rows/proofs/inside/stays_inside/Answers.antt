use Rattle.std.proofs.Common.{◌≡◌, ◌<◌, ◌≤◌, ◌+◌, ◌-◌, ℕ, length, subst, inl, inr, arith}
use Rattle.std.specs.Prelude.{slice_index}
use Rattle.std.proofs.lemmas.Bool.{cases_lt}
use Rattle.pdh_line.specs.Tolerance.{StaysInside}
use Rattle.pdh_rows.specs.Flows.{flow_count}
use Rattle.pdh_rows.specs.Rows.{node_counts}
use Rattle.pdh_rows.specs.Stored.{rows_of}
use Rattle.pdh_rows.proofs.Fills.{pass_none, pass_on, row_count}
use Rattle.pdh_rows.proofs.Parts.{last_is}
use Rattle.pdh_rows.proofs.Tabled.{next_first, firsts_rise, last_first}
use Rattle.pdh_rows.proofs.inside.stays_inside.Goals as goal

pub returns-then-first-end : goal.returns-then-first-end
returns-then-first-end c = λ yes k h. absurd (omega (arith, h, c.if-first-end.true))

pub row_with-number-requires-clause-rising : goal.row_with-number-requires-clause-rising
row_with-number-requires-clause-rising c = rw c.deref.ensures.value (firsts_rise c.args.table.now c.requires.table)

pub row_with-number-requires-clause-ended : goal.row_with-number-requires-clause-ended
row_with-number-requires-clause-ended c = rw c.deref.ensures.value (last_first c.args.table.now c.args.first c.requires.table (omega (arith, c.if-first-end.false, c.requires.scheduled)))

pub loop-number-init : goal.loop-number-init
loop-number-init c =
    let search = rw c.deref.ensures.value at c.row_with-number.ensures in
    record {
      begun = omega arith;
      upto = omega (arith, c.if-first-end.false);
      place = λ more. omega (arith, search.first);
      ends = λ more inside. omega (arith, search.next);
      passed = pass_none c.args.low (node_counts (rows_of c.args.table.now) c.args.trib) c.args.first _ _ (omega arith);
    }

-- up to the end all frames keep the store inside
all_inside : (low : ℕ) (counts : ℕ → ℕ) (first fill at end : ℕ) → at ≡ end → StaysInside low counts first fill (at - first) → StaysInside low counts first fill (end - first)
all_inside low counts first fill at end same is = subst (λ n. StaysInside low counts first fill (n - first)) same is

pub returns-then-at-end : goal.returns-then-at-end
returns-then-at-end c = λ yes.
    let inv = c.loop-number.invariant in
    all_inside c.args.low (node_counts (rows_of c.args.table.now) c.args.trib) c.args.first c.args.fill c.loop-number.at c.args.end (omega (arith, inv.upto, c.if-at-end.true))
    (inv.passed c.args.fill (record { least = omega arith; most = omega arith })).0

pub overflow_sub-at : goal.overflow_sub-at
overflow_sub-at c = omega (arith, c.trib_row-row.ensures.row.first, c.loop-number.invariant.place (omega (arith, c.if-at-end.false)))

pub behind_frames-requires-clause-order : goal.behind_frames-requires-clause-order
behind_frames-requires-clause-order c =
    let less = c.if-at-end.false in
    let row = c.trib_row-row.ensures.row in
    let inside : c.loop-number.number < length c.args.table.now.repeats.items = omega (arith, c.loop-number-test.true, c.len-number-end.ensures) in
    omega (arith, less, c.min-next.ensures, c.from.ensures, row.first, row.ends, c.loop-number.invariant.ends less inside)

pub behind_frames-requires-clause-inside : goal.behind_frames-requires-clause-inside
behind_frames-requires-clause-inside c = omega (arith, c.min-next.ensures, c.from.ensures)

pub loop-number-preserved : goal.loop-number-preserved
loop-number-preserved c =
    let t = c.args.table.now in
    let counts = node_counts (rows_of t) c.args.trib in
    let inv = c.loop-number.invariant in
    let less : c.loop-number.at < c.args.end = c.if-at-end.false in
    let row = c.trib_row-row.result in
    let is = c.trib_row-row.ensures.row in
    let inside : c.loop-number.number < length t.repeats.items = omega (arith, c.loop-number-test.true, c.len-number-end.ensures) in
    let start : row.first ≤ c.loop-number.at = omega (arith, is.first, inv.place less) in
    let next : ℕ = c.min-next.result in
    let later : c.loop-number.at ≤ next = omega (arith, less, c.min-next.ensures, c.from.ensures, is.first, is.ends, inv.ends less inside) in
    record {
      begun = omega (arith, inv.begun, later);
      upto = omega (arith, c.min-next.ensures);
      place = λ more. omega (arith, more, c.min-next.ensures, c.from.ensures, is.first, is.ends);
      ends = λ more within. omega (arith, c.min-next.ensures, c.from.ensures, is.first, is.ends, next_first t (c.loop-number.number + 1) c.requires.table within);
      passed = pass_on c.args.low counts (flow_count row.flow) c.args.first c.loop-number.at next (c.loop-number.at - row.first) (next - row.first - (c.loop-number.at - row.first)) _ c.loop-number.fills _
          inv.begun later (omega (arith, start, later))
          (λ i h.
          let place : slice_index t.firsts.items c.loop-number.number + (c.loop-number.at - row.first + i) ≡ c.loop-number.at + i = omega (arith, start, is.first) in
          let count = row_count counts _ _ row is (c.loop-number.at - row.first + i) (omega (arith, h, start, c.min-next.ensures, c.from.ensures)) in
          subst (λ (n : ℕ). flow_count row.flow (c.loop-number.at - row.first + i) ≡ counts n) place count)
          inv.passed c.in-Some.ensures;
    }

pub returns : goal.returns
returns c = λ yes.
    let t = c.args.table.now in
    let inv = c.loop-number.invariant in
    let last : c.loop-number.number ≡ length t.repeats.items = omega (arith, c.loop-number-test.false, c.len-number-end.ensures, c.loop-number.auto.number-end (omega (arith, c.requires.table.firsts_len))) in
    let all = last_is t c.loop-number.number c.requires.table last in
    let done : c.loop-number.at ≡ c.args.end = elim (cases_lt c.loop-number.at c.args.end) [
      | inl less ↦ absurd (omega (arith, inv.place less, all, less, c.requires.scheduled))
      | inr upto ↦ omega (arith, upto, inv.upto)
    ] in
    all_inside c.args.low (node_counts (rows_of t) c.args.trib) c.args.first c.args.fill c.loop-number.at c.args.end done
    (inv.passed c.args.fill (record { least = omega arith; most = omega arith })).0
