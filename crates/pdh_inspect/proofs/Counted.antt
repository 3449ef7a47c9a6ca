-- How many events were counted.
use Rattle.std.proofs.Common.{◌≡◌, ℕ, ◌+◌, ◌≤◌, min, List, [], ◌∷◌, length, ◌∙◌, arith}
use Rattle.std.specs.Prelude.{fold}
use Rattle.pdh_watch.specs.declared.event.Event.{Event}
use Rattle.pdh_watch.specs.Monitors.{most, count_with}
use Rattle.pdh_inspect.specs.Seen.{events_counted}

-- a count that began with some
counts_on : (n : ℕ) (events : List Event) → n ≤ most → fold count_with n events ≡ min (n + length events) most
counts_on n [] few = omega (arith, few)
counts_on n (event ∷ events) few =
    let next : min (n + 1) most ≤ most = omega arith in
    let same : min (min (n + 1) most + length events) most ≡ min (n + length (event ∷ events)) most = omega arith in
    counts_on (min (n + 1) most) events next ∙ same

pub counted_is : (events : List Event) → fold count_with 0 events ≡ events_counted events
counted_is events = let same : min (0 + length events) most ≡ min (length events) most = omega arith in counts_on 0 events (omega arith) ∙ same
