use Rattle.std.proofs.Common.{◌≡◌, ◌≤◌, ◌/◌, ◌-◌, ◌∙◌, ap, arith, [], ◌∷◌}
use Rattle.pdh_spans.specs.Times.Turn.{Begins, Ends}
use Rattle.pdh_seconds.specs.Availability.{told}
use Rattle.pdh_seconds.specs.Counting.{tally_of}
use Rattle.pdh_timeline.specs.declared.state.State.TheVariants.{Out}
use Rattle.pdh_timeline.specs.Marks.{seconds_of}
use Rattle.pdh_timeline.specs.Marks.Mark.{Turns}
use Rattle.pdh_claims_of_health.proofs.timeline.state_that_ends_at_the_start_stood.Goals as goal

pub returns : goal.returns
returns c =
    let new = c.new-timeline.ensures in
    let early : c.new-timeline.result.second ≤ 0 / c.new-timeline.result.rate = omega (arith, new.second) in
    let rate : c.begin.new.self.rate ≡ 100 = c.begin.ensures.rate ∙ new.rate in
    let begun : c.begin.new.self.second ≡ 0 = c.begin.ensures.second early ∙ ap (λ r. 0 / r) new.rate in
    let late : c.begin.new.self.second ≤ 100 / c.begin.new.self.rate = omega (arith, begun) in
    let ended : c.end.new.self.second ≡ 1 = c.end.ensures.second late ∙ ap (λ r. 100 / r) rate in
    let rates : c.end.new.self.rate ≡ 100 = c.end.ensures.rate ∙ rate in
    let last : (200 - 1) / c.end.new.self.rate ≡ 1 = ap (λ r. 199 / r) rates in
    let all = c.tally.ensures _ (c.end.ensures.stands _ (c.begin.ensures.stands _ new.stands early) late) (omega (arith, ended, last)) in
    ap (λ t. t.errored) all ∙ ap (λ r. (tally_of (told (seconds_of c.end.new.self.block r 200 (Turns Out (Begins 0) ∷ Turns Out (Ends 100) ∷ [])))).errored) rates
