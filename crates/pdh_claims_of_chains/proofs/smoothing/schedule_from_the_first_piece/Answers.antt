use Rattle.std.proofs.Common.{◌++◌, ap, ◌∙◌, Some, take}
use Rattle.std.proofs.lemmas.Result.{IfOk-weaker}
use Rattle.std.proofs.lemmas.List.{append-nil}
use Rattle.pdh_bits.specs.Bits.{bits_of}
use Rattle.pdh_claims_of_chains.proofs.Schedules.{schedule_put, schedule_by}
use Rattle.pdh_claims_of_chains.proofs.smoothing.schedule_from_the_first_piece.Goals as goal

pub returns : goal.returns
returns g c = IfOk-weaker c.smooth.result.result _ _ (λ frames s list old told held one.
    schedule_put list old s told held ∙ ap (λ text. Some (old ++ bits_of text)) (schedule_by (take c.args.bits list) 1 one) ∙ ap Some (append-nil old)) c.smooth.ensures.ok
