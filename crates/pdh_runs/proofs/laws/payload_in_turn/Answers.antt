use Rattle.std.proofs.Common.{◌≡◌, suc, ◌+◌, ◌*◌, ◌%◌, map, Some, ap, ◌∙◌, arith}
use Rattle.std.specs.List.{range_with_len}
use Rattle.pdh_runs.proofs.ColumnLaws.{count_is, in_turn_is}
use Rattle.pdh_runs.proofs.laws.payload_in_turn.Goals as goal

pub returns-clause-count : goal.returns-clause-count
returns-clause-count g c =
    let s = g.S.Shape.shape in
    let each : suc s.low ≡ g.S.Shape.LOW + 1 = omega (arith, g.met.S.Shape.low_is) in
    count_is s g.met.S.Shape.in_turn ∙ ap (λ n. n * suc s.low) g.met.S.Shape.tribs_is ∙ ap (λ n. g.S.Shape.TRIBS * n) each

pub returns-clause-turn : goal.returns-clause-turn
returns-clause-turn g c =
    let s = g.S.Shape.shape in
    let each : suc s.low ≡ g.S.Shape.LOW + 1 = omega (arith, g.met.S.Shape.low_is) in
    in_turn_is s g.met.S.Shape.in_turn ∙ ap (λ n. map (λ p. Some (p % n)) (range_with_len 0 (n * suc s.low))) g.met.S.Shape.tribs_is
    ∙ ap (λ n. map (λ p. Some (p % g.S.Shape.TRIBS)) (range_with_len 0 (g.S.Shape.TRIBS * n))) each
