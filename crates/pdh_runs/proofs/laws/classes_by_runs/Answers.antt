use Rattle.std.proofs.Common.{◌<◌, ap, ◌∙◌, false, arith, slice_index_or}
use Rattle.std.proofs.lemmas.List.FromFn.{get_or-map-range_with_len}
use Rattle.pdh_shape.specs.Payload.{is_payload}
use Rattle.pdh_runs.proofs.laws.classes_by_runs.Goals as goal

pub returns : goal.returns
returns g c runs slot are h =
    let s = g.S.Shape.shape in
    let within : slot < s.len = omega (arith, h, g.met.S.Shape.len_is) in
    ap (λ l. slice_index_or l slot false) are.written ∙ get_or-map-range_with_len (λ slot. is_payload (s.role slot)) 0 s.len slot slot false within (omega arith)
