-- The blocks of an extended line, by its pieces.
use Rattle.std.proofs.Common.{◌≡◌, Bool, List, ap, None}
use Rattle.pdh_line.specs.Tracking.{Piece, track}
use Rattle.pdh_ds1.specs.Plans.{ds1_esf}
use Rattle.pdh_ds1.specs.Receiving.{judgements, judged}

pub judged_by : (line : List Bool) (pieces : List Piece) → track ds1_esf line ≡ pieces → judged ds1_esf line ≡ judgements 24 None pieces
unfolding judged
judged_by line pieces is = ap (judgements 24 None) is
