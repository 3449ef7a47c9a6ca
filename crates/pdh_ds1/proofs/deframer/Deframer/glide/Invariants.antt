use Rattle.std.proofs.Common.{◌≤◌, ◌+◌, ◌-◌, length, take, drop}
use Rattle.pdh_ds1.specs.Superframe.{in_superframe}
use Rattle.pdh_ds1.specs.Receiving.{ds1_far}
use Rattle.pdh_framed.specs.Taking.{TakesQuietly}
use Rattle.pdh_ds1.specs.View.{DeframerStands}
use Rattle.pdh_ds1.proofs.deframer.Deframer.glide.Given as goal

-- the bits so far were taken, and gave nothing
abbrev pub invariant-loop-done : goal.invariant-loop-done
invariant-loop-done g l = record {
  within : l.from + l.done ≤ length l.bits.bits;
  taken : TakesQuietly (ds1_far (in_superframe g.P.InSuperframe.f_bits g.P.InSuperframe.PLAN))
      (DeframerStands g.P.InSuperframe.f_bits g.P.InSuperframe.PLAN l.fn.self)
      (DeframerStands g.P.InSuperframe.f_bits g.P.InSuperframe.PLAN l.self)
      (take l.done (drop l.from l.bits.bits));
}

abbrev pub decreases-loop-done : goal.decreases-loop-done
decreases-loop-done g l = length l.bits.bits - (l.from + l.done)
