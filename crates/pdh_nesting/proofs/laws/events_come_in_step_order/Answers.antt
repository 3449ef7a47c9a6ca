use Rattle.pdh_nesting.proofs.KeyedEvents.{keyed_below-events}
use Rattle.pdh_nesting.proofs.StepOrder.{keyed_below-pairs}
use Rattle.pdh_nesting.proofs.laws.events_come_in_step_order.Goals as goal

pub returns-clause-listed : goal.returns-clause-listed
returns-clause-listed c mode chain counts bits = keyed_below-events mode chain counts bits

pub returns-clause-ordered : goal.returns-clause-ordered
returns-clause-ordered c mode chain counts bits = keyed_below-pairs mode chain counts bits
