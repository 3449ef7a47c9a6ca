use Rattle.std.proofs.Common.{[], ◌∷◌, arith, lit<}
use Rattle.std.proofs.lemmas.Result.{IfOk-weaker}
use Rattle.pdh_claims_of_health.proofs.health.line_after.Goals as goal

pub returns : goal.returns
returns c =
    let one = c.note.ensures 1000 _ [] (record { rise = (omega arith, tt); few = lit< tt }) c.in_ok-health.ensures in
    let two = c.note-2.ensures 1000 _ (c.args.one ∷ []) (record { rise = (omega arith, (c.requires.order, tt)); few = lit< tt }) one in
    IfOk-weaker c.finish.result _ _
    (λ found is. is 1000 _ _ two (record { rise = (omega arith, (c.requires.order, tt)); few = lit< tt }) c.requires.within) c.finish.ensures
