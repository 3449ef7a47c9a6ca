use Rattle.std.proofs.Common.{◌≡◌, ◌∙◌, ◌+◌, ◌-◌, ◌*◌, ap, arith, slice_index}
use Rattle.std.proofs.lemmas.List.{get_or_default}
use Rattle.std.proofs.Math.Nat.{add-mul}
use Rattle.pdh_rows.proofs.Tabled.{next_before}
use Rattle.pdh_rows.proofs.Parts.{trib_row_is, next_stored}
use Rattle.pdh_rows.proofs.table.Table.trib_row.Goals as goal

pub overflow_sub-result : goal.overflow_sub-result
overflow_sub-result c =
    let t = c.args.self.now in
    let end : c.args.row * t.tribs + c.args.trib + t.tribs ≡ (c.args.row + 1) * t.tribs + c.args.trib = omega (arith, add-mul c.args.row 1 t.tribs) in
    let next = next_before t c.args.row c.args.trib c.requires.table c.requires.row c.requires.in_range in
    rw (c.as_slice-sums.ensures.value, end) (omega (arith, next))

pub returns-clause-row : goal.returns-clause-row
returns-clause-row c =
    let t = c.args.self.now in
    trib_row_is t c.args.row c.args.trib _ c.requires.table c.requires.row c.requires.in_range
    (ap (λ firsts. slice_index firsts c.args.row) c.as_slice-firsts.ensures.value)
    (c.index.ensures ∙ get_or_default t.repeats.items _ c.index.result.now 0 c.requires.row)
    (ap (λ sums. slice_index sums (c.args.row * t.tribs + c.args.trib)) c.as_slice-sums.ensures.value)
    (ap (λ sums. slice_index sums (c.args.row * t.tribs + c.args.trib + t.tribs) - slice_index sums (c.args.row * t.tribs + c.args.trib)) c.as_slice-sums.ensures.value
    ∙ ap (λ n. slice_index t.before.items n - slice_index t.before.items (c.args.row * t.tribs + c.args.trib)) (let end : c.args.row * t.tribs + c.args.trib + t.tribs ≡ (c.args.row + 1) * t.tribs + c.args.trib = omega (arith, add-mul c.args.row 1 t.tribs) in end))
    c.flow.ensures

pub returns-clause-fits : goal.returns-clause-fits
returns-clause-fits c =
    let t = c.args.self.now in
    let frames = c.index.ensures ∙ get_or_default t.repeats.items _ c.index.result.now 0 c.requires.row in
    let next : slice_index c.as_slice-firsts.result.now (c.args.row + 1) ≡ slice_index c.as_slice-firsts.result.now c.args.row + c.index.result.now =
    rw (c.as_slice-firsts.ensures.value, frames) (next_stored t c.args.row c.requires.table c.requires.row) in
    grind arith
