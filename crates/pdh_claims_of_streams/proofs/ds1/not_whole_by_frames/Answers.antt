use Rattle.std.proofs.Common.{length, ap, arith}
use Rattle.pdh_claims_of_streams.proofs.Lines.{never_packed, line_long}
use Rattle.pdh_claims_of_streams.proofs.ds1.not_whole_by_frames.Goals as goal

pub returns : goal.returns
returns c = never_packed c.pack.result _ _ _ (λ v packed is. omega (arith, packed.framed.whole, ap length is, line_long c.args.frame c.args.payload.now, c.requires)) c.pack.ensures.packed c.pack.ensures.line
