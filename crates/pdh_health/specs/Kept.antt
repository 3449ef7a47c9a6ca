-- The first codes of a node.
use Rattle.std.specs.Prelude.{List, take}
use Rattle.pdh_cells.specs.declared.cell.Code.{Code}
use Rattle.pdh_health.specs.declared.codes.FirstCodes.{FirstCodes}

-- those that are kept, in their order
abbrev pub kept_codes : FirstCodes → List Code
kept_codes kept = take kept.count kept.codes
