use Rattle.std.proofs.Common.{refl}
use Rattle.std.proofs.lemmas.Result.{err_from_is_err_and}
use Rattle.pdh_runner.proofs.OneInput.{err_map}
use Rattle.pdh_streams.specs.E1.{e1_codec}
use Rattle.pdh_streams.proofs.UnpackingLaws.{unpacking_refused, framed_unread}
use Rattle.pdh_streams.proofs.holding.read_framed.Goals as goal

pub returns-in_err-line-clause-err : goal.returns-in_err-line-clause-err
returns-in_err-line-clause-err g c =
    let p = err_from_is_err_and c.from_residual.result c.from_residual.ensures.1 in
    rw (p.1, p.2) (unpacking_refused e1_codec _ _ _ c.in_err-line.ensures.err)

pub returns-clause-line : goal.returns-clause-line
returns-clause-line g c = rw (c.in_ok-line.ensures.ok.file_is, c.framed_line.ensures.looks.told) at c.read.ensures.ok

pub returns-clause-err : goal.returns-clause-err
returns-clause-err g c =
    let line = c.in_ok-line.ensures in
    err_map _ _ c.read.result (λ stop cause. framed_unread e1_codec _ (g.S.Shelf.state c.framed_line.new.shelf) _ line.ok.octets stop c.framed_line.ensures.looks line.counted line.ok.long line.ok.few refl (rw line.ok.file_is at cause)) c.read.ensures.err
