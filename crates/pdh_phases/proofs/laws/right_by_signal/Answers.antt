use Rattle.std.proofs.Common.{◌<◌, take, drop, sym, ap, ◌∙◌, arith}
use Rattle.pdh_shape.specs.Frame.{is_right}
use Rattle.pdh_phases.proofs.Signals.{right-signal}
use Rattle.pdh_phases.proofs.laws.right_by_signal.Goals as goal

pub returns : goal.returns
returns g c bits p =
    let some : 0 < g.S.Shape.shape.signal = omega (arith, c.requires, g.met.S.Shape.signal_is) in
    ap (λ n. is_right g.S.Shape.shape (take n (drop p bits))) (sym g.met.S.Shape.len_is) ∙ right-signal g.S.Shape.shape bits p g.met.S.Shape.has_signal some
