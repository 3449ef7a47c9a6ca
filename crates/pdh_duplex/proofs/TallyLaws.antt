-- What a tally tells of the events that were seen.
use Rattle.std.proofs.Common.{◌≡◌, ℕ, ◌+◌, ◌-◌, ◌^◌, min, Bool, true, false, cond, ◌||◌, List, [], ◌∷◌, fold, refl, ap, ◌∙◌, arith}
use Rattle.std.specs.List.{list_any}
use Rattle.pdh_watch.specs.declared.kind.Kind.{Kind}
use Rattle.pdh_watch.specs.declared.kind.TheConstants.Kind.{ALARM_ON, FEBE}
use Rattle.pdh_watch.specs.declared.event.Event.{Event}
use Rattle.pdh_duplex.specs.declared.tally.Tally.{Tally}
use Rattle.pdh_telling.specs.Top.{is_of_top}
use Rattle.pdh_duplex.specs.Top.{tells_error, count_of}
use Rattle.pdh_duplex.specs.Tallies.{aligned_with, counted_with, tally_with}

-- each part is told by itself
pub aligned_is : (tally : Tally) (events : List Event) → (fold tally_with tally events).aligned ≡ fold aligned_with tally.aligned events
aligned_is tally [] = refl
aligned_is tally (event ∷ events) = aligned_is (tally_with tally event) events

pub error_is : (tally : Tally) (events : List Event) → (fold tally_with tally events).in_error ≡ (tally.in_error || list_any tells_error events)
error_is tally [] = or_none tally.in_error
  where
    or_none : (b : Bool) → b ≡ (b || false)
    or_none true = refl
    or_none false = refl
error_is tally (event ∷ events) = error_is (tally_with tally event) events ∙ or_join tally.in_error (tells_error event) (list_any tells_error events)
  where
    or_join : (a b c : Bool) → ((a || b) || c) ≡ (a || (b || c))
    or_join true b c = refl
    or_join false b c = refl

pub alarms_are : (tally : Tally) (events : List Event) → (fold tally_with tally events).alarms ≡ fold (counted_with ALARM_ON) tally.alarms events
alarms_are tally [] = refl
alarms_are tally (event ∷ events) = alarms_are (tally_with tally event) events

pub febe_are : (tally : Tally) (events : List Event) → (fold tally_with tally events).febe ≡ fold (counted_with FEBE) tally.febe events
febe_are tally [] = refl
febe_are tally (event ∷ events) = febe_are (tally_with tally event) events

-- a count is that of the events, up to the end of its type
counts_from : (kind : Kind) (count : ℕ) (events : List Event) → fold (counted_with kind) (min count (2 ^ 64 - 1)) events ≡ min (fold (λ n event. n + cond (is_of_top kind event) 1 0) count events) (2 ^ 64 - 1)
counts_from kind count [] = refl
counts_from kind count (event ∷ events) = next (is_of_top kind event) (λ n. counts_from kind n events) refl
  where
    next : (b : Bool) → ((n : ℕ) → fold (counted_with kind) (min n (2 ^ 64 - 1)) events ≡ min (fold (λ n event. n + cond (is_of_top kind event) 1 0) n events) (2 ^ 64 - 1)) → is_of_top kind event ≡ b → fold (counted_with kind) (counted_with kind (min count (2 ^ 64 - 1)) event) events ≡ min (fold (λ n event. n + cond (is_of_top kind event) 1 0) (count + cond (is_of_top kind event) 1 0) events) (2 ^ 64 - 1)
    next true more is =
        let up : min (min count (2 ^ 64 - 1) + 1) (2 ^ 64 - 1) ≡ min (count + 1) (2 ^ 64 - 1) = omega arith in
        rw is (ap (λ n. fold (counted_with kind) n events) up ∙ more (count + 1))
    next false more isnt =
        let same : count ≡ count + 0 = omega arith in
        rw isnt (more count ∙ ap (λ n. min (fold (λ n event. n + cond (is_of_top kind event) 1 0) n events) (2 ^ 64 - 1)) same)

pub counts_are : (kind : Kind) (events : List Event) → fold (counted_with kind) 0 events ≡ count_of kind events
counts_are kind events = counts_from kind 0 events
