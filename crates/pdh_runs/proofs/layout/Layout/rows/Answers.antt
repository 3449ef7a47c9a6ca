use Rattle.std.proofs.Common.{◌≡◌, ◌<◌, ◌+◌, ◌-◌, ◌/◌, ap, ◌∙◌, arith, sym}
use Rattle.pdh_runs.proofs.PieceLaws.{payload_most, turn_within}
use Rattle.pdh_runs.proofs.layout.Layout.rows.Goals as goal

pub overflow_add-result : goal.overflow_add-result
overflow_add-result g c =
    omega (arith, c.payload_before-end.ensures, payload_most g.S.Shape.shape (c.args.first + c.args.len), c.requires.inside, g.met.S.Shape.len_is, g.met.S.Shape.is_frame.few_slots, c.from-tribs.ensures, c.TRIBS.type_inv)

pub overflow_sub-result-2 : goal.overflow_sub-result-2
overflow_sub-result-2 g c =
    let s = g.S.Shape.shape in
    let some : 0 < s.tribs = omega (arith, c.requires.some, g.met.S.Shape.tribs_is) in
    let tribs : s.tribs ≡ c.from-tribs.result = g.met.S.Shape.tribs_is ∙ sym (c.from-tribs.ensures ∙ c.TRIBS.ensures) in
    let e = turn_within s some c.args.first c.args.len in
    omega (arith, e, c.turn.ensures, ap (λ n. (c.payload_before-end.result + n - 1) / n) tribs, ap (λ p. (p + s.tribs - 1) / s.tribs) c.payload_before-end.ensures)
