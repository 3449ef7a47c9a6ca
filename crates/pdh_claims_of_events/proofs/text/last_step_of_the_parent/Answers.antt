use Rattle.std.proofs.Common.{ap, arith, length}
use Rattle.pdh_shape.specs.declared.place.Path.{Path}
use Rattle.pdh_text.proofs.Lengths.{path_len}
use Rattle.pdh_claims_of_events.proofs.text.last_step_of_the_parent.Goals as goal

pub path-requires : goal.path-requires
path-requires c =
    let path : Path = record { depth = 2; first = c.args.first; second = c.args.second } in
    omega (arith, ap length c.new-text.ensures, path_len path (omega (arith, c.ranges.first.fits)) (omega (arith, c.ranges.second.fits)))
