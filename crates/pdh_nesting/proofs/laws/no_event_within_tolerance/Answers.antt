use Rattle.std.proofs.Common.{◌*◌, []}
use Rattle.pdh_nesting.specs.Chains.{top_len}
use Rattle.pdh_nesting.proofs.NoEvents.{first_event-none, scheduled-within}
use Rattle.pdh_nesting.proofs.laws.no_event_within_tolerance.Goals as goal

pub returns-clause-begun : goal.returns-clause-begun
returns-clause-begun c chain counts frames are even within = first_event-none chain counts frames are even within

pub returns-clause-scheduled : goal.returns-clause-scheduled
returns-clause-scheduled c chain counts schedule frames are even scheduled tolerated =
    first_event-none chain counts frames are even (scheduled-within chain counts schedule [] (frames * top_len chain) scheduled tolerated)
