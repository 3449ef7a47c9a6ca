use Rattle.std.proofs.Common.{List, subst, sym}
use Rattle.pdh_script.specs.Scripts.{Row}
use Rattle.pdh_script.specs.RowsLeft.{AreLeft}
use Rattle.pdh_script.proofs.RowsLeft.{all_left}
use Rattle.pdh_script.proofs.bender.Bender.new.Goals as goal

pub invariant_of-result : goal.invariant_of-result
invariant_of-result c =
    let rows = c.args.script.now in
    subst (λ (left : List Row). AreLeft left rows 0) (sym c.rows_left.ensures) (all_left rows c.requires.0 c.requires.1)
