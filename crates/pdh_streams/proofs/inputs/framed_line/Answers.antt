use Rattle.std.proofs.Common.{refl, arith}
use Rattle.std.proofs.lemmas.Result.{err_from_is_err_and}
use Rattle.pdh_streams.proofs.UnpackingLaws.{framed_missing, framed_long}
use Rattle.pdh_streams.proofs.inputs.framed_line.Goals as goal

pub returns-in_err-octets-clause-err : goal.returns-in_err-octets-clause-err
returns-in_err-octets-clause-err g c =
    let p = err_from_is_err_and c.from_residual.result c.from_residual.ensures.1 in
    rw (p.1, p.2) (framed_missing (g.C.Codec.codec c.args.codec.now) _ _ _ (rw c.file-file.ensures at c.in_err-octets.ensures.err))

pub returns-then-frames-gt-MOST_FRAMES-clause-err : goal.returns-then-frames-gt-MOST_FRAMES-clause-err
returns-then-frames-gt-MOST_FRAMES-clause-err g c =
    framed_long (g.C.Codec.codec c.args.codec.now) _ _ c.in_ok-octets.octets _ c.size.ensures.looks c.in_ok-octets.ensures.counted (rw c.file-file.ensures at c.in_ok-octets.ensures.ok) c.frames_framed-frames.ensures.count (omega arith)

pub returns-clause-ok : goal.returns-clause-ok
returns-clause-ok g c = record {
  file_is = c.file-file.ensures;
  octets = c.in_ok-octets.octets;
  bits_are = refl;
  short = c.frames_framed-frames.ensures.short (omega arith);
  long = rw c.file-file.ensures at c.in_ok-octets.ensures.ok;
  few = omega arith;
}
