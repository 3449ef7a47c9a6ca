use Rattle.std.proofs.Common.{◌≡◌, ℕ, [], ◌<◌, None, get_or}
use Rattle.pdh_levels.specs.Levels.{nodes_in}
use Rattle.pdh_chain.specs.Chains.{levels_of}
use Rattle.pdh_making.specs.Schedules.{contents_of}
use Rattle.pdh_making.specs.Clock.{first_outside_of}
use Rattle.pdh_making.proofs.clock.checked.Given as goal

-- all tributaries of the nodes before this one are within the tolerance
abbrev pub invariant-loop-place : goal.invariant-loop-place
invariant-loop-place l = (k : ℕ) → k < l.place → first_outside_of (contents_of l.fn.chain l.clock.rows) (get_or (nodes_in (levels_of l.fn.chain)) k []) ≡ None
