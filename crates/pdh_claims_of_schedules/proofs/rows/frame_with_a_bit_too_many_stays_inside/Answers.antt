use Rattle.std.proofs.Common.{◌≡◌, ◌+◌, ap, arith, add-zero}
use Rattle.pdh_line.specs.Tolerance.{fill_from}
use Rattle.pdh_rows.specs.Rows.{node_counts}
use Rattle.pdh_rows.specs.Stored.{rows_of}
use Rattle.pdh_claims_of_schedules.proofs.rows.frame_with_a_bit_too_many_stays_inside.Goals as goal

pub returns : goal.returns
unfolding fill_from
returns c inside =
    let counts = node_counts (rows_of c.args.table.now) c.args.trib in
    let frame = c.args.frame in
    let same : counts (frame + 0) ≡ counts frame = ap counts (add-zero frame) in
    omega (arith, (c.stays_inside.ensures inside 0 (omega arith)).most_after, same)
