use Rattle.std.proofs.Common.{◌≤◌, ◌+◌, ◌*◌}
use Rattle.pdh_picture.proofs.picture.push_rows.Given as goal

abbrev pub invariant-loop-index : goal.invariant-loop-index
invariant-loop-index l = (118 ≤ l.y) × (l.y ≤ 118 + 48 * l.index)
