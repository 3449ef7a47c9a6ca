use Rattle.std.proofs.Common.{◌++◌, ap, ◌∙◌, Some, take}
use Rattle.std.proofs.lemmas.Result.{IfOk-weaker}
use Rattle.pdh_bits.specs.Bits.{bits_of}
use Rattle.pdh_claims_of_chains.proofs.Schedules.{schedule_put, schedule_by}
use Rattle.pdh_claims_of_chains.proofs.smoothing.mark_of_the_frame_before.Goals as goal

pub returns : goal.returns
returns g c = IfOk-weaker c.smooth.result.result _ _ (λ frames s list old told held two.
    schedule_put list old s told held ∙ ap (λ text. Some (old ++ bits_of text)) (schedule_by (take c.args.bits list) 2 two)) c.smooth.ensures.ok
