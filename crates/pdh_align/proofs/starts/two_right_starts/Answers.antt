use Rattle.std.proofs.Common.{◌≡◌, ◌+◌, ◌&&◌, false, take, drop, get_or, ap, ◌∙◌, arith}
use Rattle.pdh_shape.specs.Frame.{is_right}
use Rattle.pdh_align.proofs.StartLaws.{two_frames}
use Rattle.pdh_align.proofs.starts.two_right_starts.Goals as goal

pub returns-clause-right : goal.returns-clause-right
returns-clause-right g c i h =
    let s = g.S.Shape.shape in
    let bits = c.args.held.now.bits in
    let place = c.args.start + i in
    let later = c.args.start + c.LEN.result + i in
    let first : get_or c.right_starts-first.result i false ≡ is_right s (take g.S.Shape.LEN (drop place bits)) =
    c.right_starts-first.ensures.right i (omega (arith, h, c.all.ensures.count))
    ∙ ap (λ b. b && is_right s (take g.S.Shape.LEN (drop place bits))) (c.all.ensures.all i h) in
    c.right_starts.ensures.right i (omega (arith, h, c.right_starts-first.ensures.count, c.all.ensures.count))
    ∙ ap (λ b. b && is_right s (take g.S.Shape.LEN (drop later bits))) first
    ∙ two_frames s bits place later g.S.Shape.LEN g.met.S.Shape.len_is (omega (arith, c.LEN.ensures))
