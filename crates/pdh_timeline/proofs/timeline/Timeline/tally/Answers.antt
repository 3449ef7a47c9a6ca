use Rattle.std.proofs.Common.{◌≡◌, ◌+◌, ◌-◌, ◌*◌, ◌/◌, ◌%◌, ◌^◌, ◌<◌, ◌≤◌, ◌++◌, ◌∷◌, [], ℕ, List, length, ap, ◌∙◌, subst, arith}
use Rattle.std.proofs.lemmas.List.{length_push}
use Rattle.std.proofs.Math.Nat.{mul-le-mul_left}
use Rattle.pdh_seconds.specs.declared.second.Second.{Second}
use Rattle.pdh_seconds.specs.Availability.{told}
use Rattle.pdh_seconds.specs.Counting.{tally_of}
use Rattle.pdh_seconds.specs.Standing.{StandsFor as SecondsStandFor}
use Rattle.pdh_timeline.specs.Marks.{second_at, whole_seconds}
use Rattle.pdh_timeline.proofs.Standings.{shown_is, seconds_count}
use Rattle.pdh_timeline.proofs.timeline.Timeline.tally.Goals as goal

pub returns : goal.returns
returns c marks stands order =
    let old = c.args.self in
    let bits = c.args.bits in
    let kept = c.reach.new.self in
    let last = (bits - 1) / old.rate in
    let rest = (bits - 1) % old.rate + 1 in
    let now = c.reach.ensures.stands marks stands in
    let rate : kept.rate ≡ old.rate = c.reach.ensures.rate in
    let block : kept.block ≡ old.block = c.reach.ensures.block in
    let second : kept.second ≡ last = c.reach.ensures.second order in
    let seconds_by : ℕ → ℕ → ℕ → ℕ → List Second = λ block rate s rest. whole_seconds block rate marks s ++ second_at block rate rest marks s ∷ [] in
    let whole : last * old.rate + (bits - 1) % old.rate ≡ bits - 1 = omega arith in
    let some : 1 ≤ old.rate = omega (arith, c.requires.some) in
    let below : last * 1 ≤ last * old.rate = mul-le-mul_left last some in
    let rest_is : rest ≡ bits - last * old.rate = omega (arith, whole, c.requires.bits) in
    let shown : c.shown-second.result ≡ second_at kept.block kept.rate rest marks kept.second = c.shown-second.ensures ∙ shown_is kept marks rest now in
    let count : length (whole_seconds kept.block kept.rate marks kept.second) ≡ kept.second = seconds_count kept.block kept.rate kept.second marks in
    let fits : length (whole_seconds kept.block kept.rate marks kept.second) + 1 < 2 ^ 64 = omega (arith, count, second, below, whole, c.requires.bits, c.ranges.bits) in
    let noted : SecondsStandFor c.note.new.self (seconds_by kept.block kept.rate kept.second rest) =
    subst (λ (x : Second). SecondsStandFor c.note.new.self (whole_seconds kept.block kept.rate marks kept.second ++ x ∷ [])) shown
    (c.note.ensures (whole_seconds kept.block kept.rate marks kept.second) now.seconds_are fits) in
    let longer : length (seconds_by kept.block kept.rate kept.second rest) ≡ length (whole_seconds kept.block kept.rate marks kept.second) + 1 =
    length_push (whole_seconds kept.block kept.rate marks kept.second) (second_at kept.block kept.rate rest marks kept.second) in
    let same : seconds_by kept.block kept.rate kept.second rest ≡ seconds_by old.block old.rate last (bits - last * old.rate) =
    ap (λ b. seconds_by b kept.rate kept.second rest) block ∙ ap (λ r. seconds_by old.block r kept.second rest) rate
    ∙ ap (λ s. seconds_by old.block old.rate s rest) second ∙ ap (λ r. seconds_by old.block old.rate last r) rest_is in
    c.tally.ensures (seconds_by kept.block kept.rate kept.second rest) noted (omega (arith, longer, fits)) ∙ ap (λ (l : List Second). tally_of (told l)) same
