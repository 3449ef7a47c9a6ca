use Rattle.std.proofs.Common.{◌≡◌, ◌-◌, length}
use Rattle.pdh_script.proofs.BitsAppended.{Bends}
use Rattle.pdh_script.proofs.bender.Bender.bend_all.Given as goal

-- what the bits so far bring was appended
abbrev pub invariant-loop-done : goal.invariant-loop-done
invariant-loop-done l = record {
  script : l.self-inside.script.now ≡ l.fn.self.rows;
  bends : Bends l.fn.self.rows l.fn.self.place l.bits.bits l.fn.into l.self-inside.left l.self-inside.place l.done l.into;
}

abbrev pub decreases-loop-done : goal.decreases-loop-done
decreases-loop-done l = length l.bits.bits - l.done
