use Rattle.std.proofs.Common.{[]}
use Rattle.pdh_nesting.proofs.EventParts.{events_below-each}
use Rattle.pdh_nesting.proofs.Given.{none-empty}
use Rattle.pdh_nesting.proofs.NoEvents.{none_empty-within}
use Rattle.pdh_nesting.proofs.laws.no_store_is_empty.Goals as goal

pub returns-clause-within : goal.returns-clause-within
returns-clause-within c chain counts bits are even within = none_empty-within chain counts [] bits are even within

pub returns-clause-quiet : goal.returns-clause-quiet
returns-clause-quiet c chain counts bits are singly none = none-empty chain counts [] bits are singly (λ y h. events_below-each chain counts bits y none h)
