-- What is kept stands for one second more.
use Rattle.std.proofs.Common.{◌≡◌, ◌+◌, ◌<◌, ◌≤◌, ◌^◌, Bool, false, not, List, [], ◌∷◌, ◌++◌, length, map, refl, ap, sym, ◌∙◌, arith, append_assoc}
use Rattle.std.proofs.lemmas.List.{append-nil, length-append, length-map, length_push}
use Rattle.pdh_seconds.specs.declared.second.Second.{Second}
use Rattle.pdh_seconds.specs.declared.seconds.Seconds.{Seconds}
use Rattle.pdh_seconds.specs.declared.tally.Tally.{Tally}
use Rattle.pdh_seconds.specs.Availability.{Told, told_as, told_after, told}
use Rattle.pdh_seconds.specs.Counting.{tally_of, no_seconds, sum_of, Fit, tally_as}
use Rattle.pdh_seconds.specs.Standing.{StandsFor}
use Rattle.pdh_seconds.proofs.Waiting.{told_short, told_broken, told_turned, alike_push, told_length}
use Rattle.pdh_seconds.proofs.Tallies.{settled_sum, waiting_sum, fit_told, fit_one}

-- a second is settled or waits
pub lengths : (kept : Seconds) (seconds : List Second) (stands : StandsFor kept seconds) → length seconds ≡ length stands.settled + length stands.waiting
lengths kept seconds stands =
    let all : length (told (seconds ++ [])) ≡ length seconds = told_length false (seconds ++ []) ∙ ap (λ (l : List Second). length l) (append-nil seconds) in
    let split : length (told (seconds ++ [])) ≡ length (stands.settled ++ told_after kept.unavailable (stands.waiting ++ [])) = ap (λ (l : List Told). length l) (stands.splits []) in
    let parts : length (stands.settled ++ told_after kept.unavailable (stands.waiting ++ [])) ≡ length stands.settled + length (told_after kept.unavailable (stands.waiting ++ [])) =
    length-append stands.settled (told_after kept.unavailable (stands.waiting ++ [])) in
    let rest : length (told_after kept.unavailable (stands.waiting ++ [])) ≡ length stands.waiting =
    told_length kept.unavailable (stands.waiting ++ []) ∙ ap (λ (l : List Second). length l) (append-nil stands.waiting) in
    omega (arith, all, split, parts, rest)

-- the count of those that wait
pub waiting_count : (kept : Seconds) (seconds : List Second) (stands : StandsFor kept seconds) → kept.waiting.seconds ≡ length stands.waiting
waiting_count kept seconds stands = ap (λ (t : Tally). t.seconds) stands.waiting_are ∙ length-map stands.waiting (told_as false)

-- the count of those that wait, with one more
abbrev pub one_more : Seconds → Second → Tally
one_more kept second = sum_of kept.waiting (tally_of (told_as false second ∷ []))

module _ (kept : Seconds) (seconds : List Second) (second : Second) (stands : StandsFor kept seconds) where
  -- the second goes in front of those that come
  moved : (later : List Second) → told ((seconds ++ second ∷ []) ++ later) ≡ stands.settled ++ told_after kept.unavailable (stands.waiting ++ second ∷ later)
  moved later = ap told (append_assoc seconds (second ∷ []) later) ∙ stands.splits (second ∷ later)

  -- it ends the run of those that wait
  pub broken : second.severe ≡ kept.unavailable
      → StandsFor (record { unavailable = kept.unavailable; settled = sum_of kept.settled (tally_as kept.unavailable (one_more kept second)); waiting = no_seconds }) (seconds ++ second ∷ [])
  broken is = record {
    settled = stands.settled ++ map (told_as kept.unavailable) (stands.waiting ++ second ∷ []);
    waiting = [];
    splits = λ later.
        moved later ∙ ap (λ (l : List Told). stands.settled ++ l) (told_broken kept.unavailable stands.waiting second later stands.alike stands.few is)
        ∙ sym (append_assoc stands.settled (map (told_as kept.unavailable) (stands.waiting ++ second ∷ [])) (told_after kept.unavailable later));
    few = omega arith;
    alike = tt;
    settled_are = settled_sum kept.unavailable stands.settled (stands.waiting ++ second ∷ []) kept.settled (one_more kept second) stands.settled_are
        (waiting_sum stands.waiting second kept.waiting stands.waiting_are);
    waiting_are = refl;
  }

  -- it waits too
  pub waits : second.severe ≡ not kept.unavailable → (one_more kept second).seconds < 10
      → StandsFor (record { unavailable = kept.unavailable; settled = kept.settled; waiting = one_more kept second }) (seconds ++ second ∷ [])
  waits is few = record {
    settled = stands.settled;
    waiting = stands.waiting ++ second ∷ [];
    splits = λ later. moved later
        ∙ ap (λ (l : List Second). stands.settled ++ told_after kept.unavailable l) (sym (append_assoc stands.waiting (second ∷ []) later));
    few = let now : length (stands.waiting ++ second ∷ []) ≡ length stands.waiting + 1 = length_push stands.waiting second in
        omega (arith, few, now, waiting_count kept seconds stands);
    alike = alike_push (not kept.unavailable) stands.waiting second stands.alike is;
    settled_are = stands.settled_are;
    waiting_are = waiting_sum stands.waiting second kept.waiting stands.waiting_are;
  }

  -- it is the tenth
  pub turned : second.severe ≡ not kept.unavailable → 10 ≤ (one_more kept second).seconds
      → StandsFor (record { unavailable = not kept.unavailable; settled = sum_of kept.settled (tally_as (not kept.unavailable) (one_more kept second)); waiting = no_seconds }) (seconds ++ second ∷ [])
  turned is ten =
      let ten_are : length (stands.waiting ++ second ∷ []) ≡ 10 =
      let now : length (stands.waiting ++ second ∷ []) ≡ length stands.waiting + 1 = length_push stands.waiting second in
      omega (arith, ten, now, stands.few, waiting_count kept seconds stands) in
      record {
        settled = stands.settled ++ map (told_as (not kept.unavailable)) (stands.waiting ++ second ∷ []);
        waiting = [];
        splits = λ later.
            moved later
            ∙ ap (λ (l : List Second). stands.settled ++ told_after kept.unavailable l) (sym (append_assoc stands.waiting (second ∷ []) later))
            ∙ ap (λ (l : List Told). stands.settled ++ l)
            (told_turned kept.unavailable (stands.waiting ++ second ∷ []) later (alike_push (not kept.unavailable) stands.waiting second stands.alike is) ten_are)
            ∙ sym (append_assoc stands.settled (map (told_as (not kept.unavailable)) (stands.waiting ++ second ∷ [])) (told_after (not kept.unavailable) later));
        few = omega arith;
        alike = tt;
        settled_are = settled_sum (not kept.unavailable) stands.settled (stands.waiting ++ second ∷ []) kept.settled (one_more kept second) stands.settled_are
            (waiting_sum stands.waiting second kept.waiting stands.waiting_are);
        waiting_are = refl;
      }

  -- the sums that these need fit
  pub fit_waiting : (one : Tally) → one ≡ tally_of (told_as false second ∷ []) → Fit kept.waiting one
  fit_waiting one is = fit_one stands.waiting second kept.waiting one stands.waiting_are is stands.few

  pub fit_more : (unavailable : Bool) → length seconds + 1 < 2 ^ 64 → Fit kept.settled (tally_as unavailable (one_more kept second))
  fit_more unavailable few =
      let now : length (stands.waiting ++ second ∷ []) ≡ length stands.waiting + 1 = length_push stands.waiting second in
      fit_told unavailable stands.settled (stands.waiting ++ second ∷ []) kept.settled (one_more kept second) stands.settled_are
      (waiting_sum stands.waiting second kept.waiting stands.waiting_are) (omega (arith, few, now, lengths kept seconds stands))

-- where no more come
pub ended : (kept : Seconds) (seconds : List Second) (stands : StandsFor kept seconds) → sum_of kept.settled (tally_as kept.unavailable kept.waiting) ≡ tally_of (told seconds)
ended kept seconds stands =
    let all : told seconds ≡ stands.settled ++ map (told_as kept.unavailable) stands.waiting =
    ap told (sym (append-nil seconds)) ∙ stands.splits []
    ∙ ap (λ (l : List Told). stands.settled ++ l) (told_short kept.unavailable stands.waiting [] stands.alike stands.few refl ∙ append-nil (map (told_as kept.unavailable) stands.waiting)) in
    settled_sum kept.unavailable stands.settled stands.waiting kept.settled kept.waiting stands.settled_are stands.waiting_are ∙ ap tally_of (sym all)

pub fit_ended : (kept : Seconds) (seconds : List Second) (stands : StandsFor kept seconds) → length seconds < 2 ^ 64 → Fit kept.settled (tally_as kept.unavailable kept.waiting)
fit_ended kept seconds stands few =
    fit_told kept.unavailable stands.settled stands.waiting kept.settled kept.waiting stands.settled_are stands.waiting_are (omega (arith, few, lengths kept seconds stands))
