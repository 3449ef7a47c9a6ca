-- What is wrong with a node, and how healthy a line is.
use Rattle.std.specs.Prelude.{Bool, false, nat_lt, ◌||◌, ◌&&◌, ◌==◌, count_by, List, [], ◌∷◌}
use Rattle.pdh_report.specs.declared.node_report.NodeReport.{NodeReport}

-- it was out of alignment, had a wrong alignment bit, or had an event but that it was aligned
abbrev pub has_trouble : NodeReport → Bool
has_trouble node =
    (nat_lt 0 node.lost || nat_lt 0 node.bad || nat_lt 0 node.out_bits)
    || (nat_lt 0 node.ais || nat_lt 0 node.alarm)
    || (nat_lt 0 node.parity || nat_lt 0 node.path_parity || nat_lt 0 node.crc)
    || (nat_lt 0 node.febe || nat_lt 0 node.feac || nat_lt 0 node.ebit)

-- the top was aligned, and no node has something wrong
abbrev pub is_healthy : List NodeReport → Bool
is_healthy [] = false
is_healthy (top ∷ below) = nat_lt 0 top.aligned && (count_by has_trouble (top ∷ below) == 0)
