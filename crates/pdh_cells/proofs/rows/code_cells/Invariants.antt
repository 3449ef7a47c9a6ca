use Rattle.std.proofs.Common.{◌≡◌, ◌++◌, drop}
use Rattle.pdh_cells.specs.Rows.{codes_drawn}
use Rattle.pdh_cells.proofs.rows.code_cells.Given as goal

-- the codes of the first cells, and those of the others
abbrev pub invariant-loop-index : goal.invariant-loop-index
invariant-loop-index l = record { drawn : l.codes.items ++ codes_drawn l.index l.free (drop l.index l.cells) ≡ codes_drawn 0 0 l.cells }
