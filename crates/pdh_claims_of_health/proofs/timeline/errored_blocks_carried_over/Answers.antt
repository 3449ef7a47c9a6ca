use Rattle.std.proofs.Common.{◌≡◌, ◌≤◌, ◌/◌, [], ◌∷◌, ap, ◌∙◌, arith, lit<}
use Rattle.pdh_seconds.specs.Availability.{told}
use Rattle.pdh_seconds.specs.Counting.{tally_of}
use Rattle.pdh_timeline.specs.Marks.{seconds_of}
use Rattle.pdh_timeline.specs.Marks.Mark.{Errored}
use Rattle.pdh_claims_of_health.proofs.timeline.errored_blocks_carried_over.Goals as goal

pub returns : goal.returns
returns c =
    let new = c.new-timeline.ensures in
    let came = c.errored.ensures in
    let early : c.new-timeline.result.second ≤ 0 / c.new-timeline.result.rate = omega (arith, new.second) in
    let rate : c.errored.new.self.rate ≡ 100 = came.rate ∙ new.rate in
    let block : c.errored.new.self.block ≡ 10 = came.block ∙ new.block in
    let second : c.errored.new.self.second ≡ 0 = came.second early ∙ ap (λ r. 0 / r) new.rate in
    let all = c.tally.ensures _ (came.stands _ new.stands early (lit< tt)) (omega (arith, second)) in
    ap (λ t. t.errored) all ∙ ap (λ r. (tally_of (told (seconds_of c.errored.new.self.block r 200 (Errored 0 ∷ [])))).errored) rate
    ∙ ap (λ b. (tally_of (told (seconds_of b 100 200 (Errored 0 ∷ [])))).errored) block
