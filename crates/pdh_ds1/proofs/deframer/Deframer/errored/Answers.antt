use Rattle.std.proofs.Common.{◌-◌, ◌^◌, Bool, List, sym, ap, ◌∙◌}
use Rattle.std.specs.Prelude.{count_by, min}
use Rattle.pdh_ds1.proofs.MachineLaws.{judged-is}
use Rattle.pdh_ds1.proofs.deframer.Deframer.errored.Goals as goal

pub returns : goal.returns
returns g c = λ extended line stands. (stands.judges extended).errored_are ∙ ap (λ (l : List Bool). min (count_by (λ e. e) l) (2 ^ 64 - 1)) (sym (judged-is g.P.InSuperframe.f_bits g.P.InSuperframe.PLAN line g.met.P.InSuperframe.is_plan extended))
