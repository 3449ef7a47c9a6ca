use Rattle.std.proofs.Common.{◌≡◌, ◌<◌, suc, ◌+◌, map, ap, ◌∙◌, arith}
use Rattle.pdh_shape.specs.Tributary.{turned}
use Rattle.pdh_runs.specs.Columns.{payload_bits, column}
use Rattle.pdh_runs.proofs.ColumnLaws.{column_is, read_is}
use Rattle.pdh_runs.proofs.laws.columns.Goals as goal

pub returns-clause-slots : goal.returns-clause-slots
returns-clause-slots g c frame j h =
    let s = g.S.Shape.shape in
    let known : j < s.tribs = omega (arith, h, g.met.S.Shape.tribs_is) in
    let each : suc s.low ≡ g.S.Shape.LOW + 1 = omega (arith, g.met.S.Shape.low_is) in
    column_is s frame j g.met.S.Shape.in_turn known ∙ ap (λ n. column n (suc s.low) (payload_bits s frame) j) g.met.S.Shape.tribs_is
    ∙ ap (λ n. column g.S.Shape.TRIBS n (payload_bits s frame) j) each

pub returns-clause-bits : goal.returns-clause-bits
returns-clause-bits g c frame j h =
    let s = g.S.Shape.shape in
    let known : j < s.tribs = omega (arith, h, g.met.S.Shape.tribs_is) in
    let each : suc s.low ≡ g.S.Shape.LOW + 1 = omega (arith, g.met.S.Shape.low_is) in
    read_is s frame j g.met.S.Shape.in_turn known ∙ ap (λ n. map (turned (s.inverted j)) (column n (suc s.low) (payload_bits s frame) j)) g.met.S.Shape.tribs_is
    ∙ ap (λ n. map (turned (s.inverted j)) (column g.S.Shape.TRIBS n (payload_bits s frame) j)) each
