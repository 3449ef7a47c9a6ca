-- The walk over what the nodes of a chain counted.
use Rattle.std.specs.Prelude.{ℕ, ◌+◌, Bool, false, ◌==◌, ◌&&◌, if◌then◌else◌, List, fold}
use Rattle.pdh_judging.specs.declared.judged.Judged.{Judged}
use Rattle.pdh_judging.specs.Judged.{capped, stands_below}
use Rattle.pdh_rx.specs.declared.counts.NodeCounts.{NodeCounts}
use Rattle.pdh_standing.specs.declared.tally.Tally.{Tally}
use Rattle.pdh_standing.specs.declared.tally.Lower.{Lower}
use Rattle.pdh_standing.specs.declared.tally.Walk.{Walk}
use Rattle.pdh_standing.specs.Standing.{no_node}

-- with a node more, of whose line this was judged
abbrev pub with_node : Tally → Judged → Tally
with_node tally judged = record { stand = capped (tally.stand + 1); judged = capped (tally.judged + judged.frames); right = capped (tally.right + judged.right) }

-- with it, if it stands
abbrev pub with_standing : Bool → Tally → Judged → Tally
with_standing stands tally judged = (if stands then with_node tally judged else tally)

-- past a node so many steps below the top
abbrev pub walked_at : ℕ → Walk → Judged → Walk
walked_at depth walk judged =
    let stands = stands_below judged in
    (if depth == 0 then walk
    else (if depth == 1 then record { parent = stands; lower = record { first = with_standing stands walk.lower.first judged; second = walk.lower.second } }
    else record { parent = walk.parent; lower = record { first = walk.lower.first; second = with_standing (walk.parent && stands) walk.lower.second judged } }))

-- past a node
abbrev pub walked : Walk → NodeCounts → Walk
walked walk node = walked_at node.path.depth walk node.judged

abbrev pub walk_begun : Walk
walk_begun = record { parent = false; lower = record { first = no_node; second = no_node } }

-- what a walk over all of them counts
unfoldable pub lower_counted : List NodeCounts → Lower
lower_counted nodes = (fold walked walk_begun nodes).lower
