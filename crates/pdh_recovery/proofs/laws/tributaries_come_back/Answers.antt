use Rattle.pdh_recovery.proofs.DownLaws.{downwards}
use Rattle.pdh_recovery.proofs.OnceLaws.{child_place_once}
use Rattle.pdh_recovery.proofs.laws.tributaries_come_back.Goals as goal

pub returns-clause-once : goal.returns-clause-once
returns-clause-once c s counts line e u trib e1 u1 e2 u2 some a b = child_place_once s counts line e u trib e1 u1 e2 u2 some a b

pub returns-clause-line : goal.returns-clause-line
returns-clause-line c s source line e u m trib plain shape has keeps known clear = downwards s source line e u m trib plain shape has keeps known clear.0 clear.1 clear.2
