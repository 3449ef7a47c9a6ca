use Rattle.std.proofs.Common.{◌≡◌, ◌*◌, length, ap, arith}
use Rattle.pdh_desync.specs.FarStore.{pieces_of}
use Rattle.pdh_desync.proofs.PiecesFit.{pieces_fit}
use Rattle.pdh_desync.proofs.laws.far_pieces_fit.Goals as goal

pub returns : goal.returns
returns g c line =
    let s = g.S.Shape.shape in
    let same : length (pieces_of s line) * s.len ≡ length (pieces_of s line) * g.S.Shape.LEN = ap (λ n. length (pieces_of s line) * n) g.met.S.Shape.len_is in
    omega (arith, pieces_fit s line g.met.S.Shape.is_frame, same)
