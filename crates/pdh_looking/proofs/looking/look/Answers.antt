use Rattle.std.proofs.Common.{◌∙◌}
use Rattle.pdh_looking.proofs.Parts.{first_is, nearest_are, answer_is}
use Rattle.pdh_looking.proofs.looking.look.Goals as goal

pub returns-in_default : goal.returns-in_default
returns-in_default c =
    let list_is = c.deref.ensures.value ∙ c.in_ok-candidates.ensures in (
      first_is c.args.part.now c.args.from c.args.bits c.args.orders.now c.in_ok-readings.readings c.in_ok-readings.ensures _ _ _ list_is c.in_ok-candidate.ensures c.in_default.is,
      nearest_are c.args.part.now c.args.from c.args.bits c.args.orders.now c.in_ok-readings.readings c.in_ok-readings.ensures _ c.in_ok-nearest.ensures,
    )

pub returns : goal.returns
returns c =
    let list_is = c.deref.ensures.value ∙ c.in_ok-candidates.ensures in
    let first = first_is c.args.part.now c.args.from c.args.bits c.args.orders.now c.in_ok-readings.readings c.in_ok-readings.ensures _ _ _ list_is c.in_ok-candidate.ensures c.in-Some.is in
    answer_is c.args.part.now c.args.from c.args.bits c.args.orders.now c.in_ok-readings.readings c.in_ok-readings.ensures c.in-Some.candidate c.in_ok-describe.field-0 first c.in_ok-describe.ensures
