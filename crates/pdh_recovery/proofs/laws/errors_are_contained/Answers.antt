use Rattle.pdh_recovery.proofs.FlippedLaws.{contained, contained_sent}
use Rattle.pdh_recovery.proofs.laws.errors_are_contained.Goals as goal

pub returns-clause-list : goal.returns-clause-list
returns-clause-list c s line sent trib shape same one right equal few = contained s line sent trib shape same one right equal few

pub returns-clause-line : goal.returns-clause-line
returns-clause-line c s source line trib shape has known one few = contained_sent s source line trib shape has known one few
