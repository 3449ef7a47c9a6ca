use Rattle.std.proofs.Common.{ap, ◌∙◌}
use Rattle.std.proofs.lemmas.Result.{IfOk-weaker}
use Rattle.pdh_eframes.specs.Plans.{e3}
use Rattle.pdh_line.specs.Tracking.{frames_delivered}
use Rattle.pdh_claims_of_chains.proofs.Lines.{taken_first}
use Rattle.pdh_claims_of_chains.proofs.smoothing.frames_of_another_chain.Goals as goal

pub returns : goal.returns
returns g c = IfOk-weaker c.smooth.result.result _ _ (λ frames s list told.
    s.frames_are ∙ ap (frames_delivered e3) (taken_first list s.given c.args.bits s.line.takes s.count told)) c.smooth.ensures.ok
