use Rattle.std.proofs.Common.{◌≡◌, ◌+◌, ◌<◌, ◌≤◌, ◌^◌, ◌++◌, ◌∷◌, [], Bool, true, false, not, List, length, refl, ap, sym, ◌∙◌, subst, arith, rules}
use Rattle.std.specs.Bool.{beq}
use Rattle.std.proofs.lemmas.Bool.{false≢true}
use Rattle.pdh_seconds.specs.declared.second.Second.{Second}
use Rattle.pdh_seconds.specs.declared.seconds.Seconds.{Seconds}
use Rattle.pdh_seconds.specs.declared.tally.Tally.{Tally}
use Rattle.pdh_seconds.specs.Availability.{told_as}
use Rattle.pdh_seconds.specs.Counting.{no_seconds, sum_of, tally_of, Fit, tally_as}
use Rattle.pdh_seconds.specs.Standing.{StandsFor}
use Rattle.pdh_seconds.proofs.Steps.{one_more, broken, waits, turned, fit_waiting, fit_more}
use Rattle.pdh_seconds.proofs.seconds.Seconds.note.Goals as goal

-- what differs from a truth value is the other one
other : (a b : Bool) → (a ≡ b → ⊥) → a ≡ not b
other true true differ = absurd (differ refl)
other true false differ = refl
other false true differ = refl
other false false differ = absurd (differ refl)

alike : (a b : Bool) → beq a b ≡ true → a ≡ b
alike true true same = refl
alike false false same = refl
alike true false same = absurd (false≢true same)
alike false true same = absurd (false≢true same)

unlike : (a b : Bool) → beq a b ≡ false → a ≡ not b
unlike true true differ = absurd (false≢true (sym differ))
unlike false false differ = absurd (false≢true (sym differ))
unlike true false differ = refl
unlike false true differ = refl

module _ (kept : Seconds) (second : Second) (one w : Tally) (after : Seconds) (seconds : List Second) (stands : StandsFor kept seconds) (few : length seconds + 1 < 2 ^ 64)
    (one_is : one ≡ tally_of (told_as false second ∷ [])) (sums_are : Fit kept.waiting one → w ≡ sum_of kept.waiting one) where
  waiting_is : w ≡ one_more kept second
  waiting_is = sums_are (fit_waiting kept seconds second stands one one_is) ∙ ap (λ (t : Tally). sum_of kept.waiting t) one_is

  settled : (unavailable : Bool) → (Fit kept.settled (tally_as unavailable w) → after ≡ record { unavailable = unavailable; settled = sum_of kept.settled (tally_as unavailable w); waiting = no_seconds })
      → after ≡ record { unavailable = unavailable; settled = sum_of kept.settled (tally_as unavailable (one_more kept second)); waiting = no_seconds }
  settled unavailable is =
      let then : Tally → Seconds = λ t. record { unavailable = unavailable; settled = sum_of kept.settled (tally_as unavailable t); waiting = no_seconds } in
      is (subst (λ (t : Tally). Fit kept.settled (tally_as unavailable t)) (sym waiting_is) (fit_more kept seconds second stands unavailable few)) ∙ ap then waiting_is

  ends : second.severe ≡ kept.unavailable
      → (Fit kept.settled (tally_as kept.unavailable w) → after ≡ record { unavailable = kept.unavailable; settled = sum_of kept.settled (tally_as kept.unavailable w); waiting = no_seconds })
      → StandsFor after (seconds ++ second ∷ [])
  ends same is = subst (λ (k : Seconds). StandsFor k (seconds ++ second ∷ [])) (sym (settled kept.unavailable is)) (broken kept seconds second stands same)

  tenth : second.severe ≡ not kept.unavailable → 10 ≤ w.seconds
      → (Fit kept.settled (tally_as (not kept.unavailable) w) → after ≡ record { unavailable = not kept.unavailable; settled = sum_of kept.settled (tally_as (not kept.unavailable) w); waiting = no_seconds })
      → StandsFor after (seconds ++ second ∷ [])
  tenth differs ten is =
      let count : w.seconds ≡ (one_more kept second).seconds = ap (λ (t : Tally). t.seconds) waiting_is in
      subst (λ (k : Seconds). StandsFor k (seconds ++ second ∷ [])) (sym (settled (not kept.unavailable) is)) (turned kept seconds second stands differs (omega (arith, ten, count)))

  goes_on : second.severe ≡ not kept.unavailable → w.seconds < 10 → after ≡ record { unavailable = kept.unavailable; settled = kept.settled; waiting = w } → StandsFor after (seconds ++ second ∷ [])
  goes_on differs short is =
      let count : w.seconds ≡ (one_more kept second).seconds = ap (λ (t : Tally). t.seconds) waiting_is in
      let then : Tally → Seconds = λ t. record { unavailable = kept.unavailable; settled = kept.settled; waiting = t } in
      subst (λ (k : Seconds). StandsFor k (seconds ++ second ∷ [])) (sym (is ∙ ap then waiting_is)) (waits kept seconds second stands differs (omega (arith, short, count)))

pub returns-then-second-self : goal.returns-then-second-self
returns-then-second-self c seconds stands few =
    let same : c.args.second.severe ≡ c.args.self.now.unavailable = search (rules, alike, c.if-second-self.true) in
    ends c.args.self.now c.args.second c.available.result c.plus-waiting.result c.settle.new.self seconds stands few c.available.ensures c.plus-waiting.ensures same c.settle.ensures

pub returns-then-self-lt-SECONDS_IN_A_ROW : goal.returns-then-self-lt-SECONDS_IN_A_ROW
returns-then-self-lt-SECONDS_IN_A_ROW c seconds stands few =
    let differs : c.args.second.severe ≡ not c.args.self.now.unavailable = search (rules, other, unlike, c.if-second-self.false) in
    goes_on c.args.self.now c.args.second c.available.result c.plus-waiting.result _ seconds stands few c.available.ensures c.plus-waiting.ensures differs c.if-self-lt-SECONDS_IN_A_ROW.true refl

pub returns : goal.returns
returns c seconds stands few =
    let differs : c.args.second.severe ≡ not c.args.self.now.unavailable = search (rules, other, unlike, c.if-second-self.false) in
    tenth c.args.self.now c.args.second c.available.result c.plus-waiting.result c.turn.new.self seconds stands few c.available.ensures c.plus-waiting.ensures differs c.if-self-lt-SECONDS_IN_A_ROW.false c.turn.ensures
