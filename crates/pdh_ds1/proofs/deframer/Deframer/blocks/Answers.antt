use Rattle.std.proofs.Common.{◌-◌, ◌^◌, Bool, List, length, sym, ap, ◌∙◌}
use Rattle.std.specs.Prelude.{min}
use Rattle.pdh_ds1.proofs.MachineLaws.{judged-is}
use Rattle.pdh_ds1.proofs.deframer.Deframer.blocks.Goals as goal

pub returns : goal.returns
returns g c = λ extended line stands. (stands.judges extended).judged_are ∙ ap (λ (l : List Bool). min (length l) (2 ^ 64 - 1)) (sym (judged-is g.P.InSuperframe.f_bits g.P.InSuperframe.PLAN line g.met.P.InSuperframe.is_plan extended))
