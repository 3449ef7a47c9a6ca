use Rattle.pdh_nesting.proofs.StepOrder.{first-least, least-first}
use Rattle.pdh_nesting.proofs.laws.first_event_has_least_list.Goals as goal

pub returns-clause-least : goal.returns-clause-least
returns-clause-least c chain counts frames event found = first-least chain counts frames event found

pub returns-clause-first : goal.returns-clause-first
returns-clause-first c chain counts frames key event least = least-first chain counts frames key event least
