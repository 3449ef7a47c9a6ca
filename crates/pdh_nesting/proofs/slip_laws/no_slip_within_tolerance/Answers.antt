use Rattle.std.proofs.Common.{◌*◌, []}
use Rattle.pdh_nesting.specs.Chains.{top_len}
use Rattle.pdh_nesting.proofs.NoEvents.{scheduled-within}
use Rattle.pdh_nesting.proofs.WithoutSlips.{none_meets-within, slips_below-none, line-modes}
use Rattle.pdh_nesting.proofs.slip_laws.no_slip_within_tolerance.Goals as goal

pub returns-clause-begun : goal.returns-clause-begun
returns-clause-begun c chain counts frames are even within =
    let x = frames * top_len chain in
    slips_below-none chain counts x are (none_meets-within chain counts [] x are even within)

pub returns-clause-scheduled : goal.returns-clause-scheduled
returns-clause-scheduled c chain counts schedule frames are even scheduled tolerated =
    let x = frames * top_len chain in
    slips_below-none chain counts x are (none_meets-within chain counts [] x are even (scheduled-within chain counts schedule [] x scheduled tolerated))

pub returns-clause-same : goal.returns-clause-same
returns-clause-same c chain counts content bits bit are even within h =
    line-modes chain counts content.bits content.says [] 0 bits bit are (none_meets-within chain counts [] bits are even within) h
