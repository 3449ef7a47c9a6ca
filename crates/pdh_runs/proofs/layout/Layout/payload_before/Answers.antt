use Rattle.std.proofs.Common.{suc, length, get_or, ap, ◌∙◌, arith}
use Rattle.std.proofs.lemmas.List.FromFn.{get_or-map-range_with_len, length-map-range_with_len}
use Rattle.pdh_shape.specs.Payload.{payload_before}
use Rattle.pdh_runs.proofs.layout.Layout.payload_before.Goals as goal

pub index-requires : goal.index-requires
index-requires g c =
    let s = g.S.Shape.shape in
    omega (arith, ap length c.self.invariant.0.payload_are, length-map-range_with_len (payload_before s) 0 (suc s.len), g.met.S.Shape.len_is, c.requires)

pub returns : goal.returns
returns g c =
    let s = g.S.Shape.shape in
    let at = c.args.slot in
    let d = c.index.result.now in
    c.from.ensures ∙ c.index.ensures ∙ ap (λ l. get_or l at d) c.self.invariant.0.payload_are
    ∙ get_or-map-range_with_len (payload_before s) 0 (suc s.len) at at d (omega (arith, c.requires, g.met.S.Shape.len_is)) (omega arith)
