-- What the nodes of a line have counted.
use Rattle.pdh_rx.specs.declared.counts.NodeCounts.{NodeCounts}
use Rattle.pdh_health.specs.declared.node_health.NodeNumbers.{NodeNumbers}

-- as the health of a node takes it
abbrev pub numbers_of : NodeCounts → NodeNumbers
numbers_of counts = record { path = counts.path; bits = counts.bits; frames = counts.frames; judged = counts.judged.frames; right = counts.judged.right }
