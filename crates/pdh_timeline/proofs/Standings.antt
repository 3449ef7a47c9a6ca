-- What is kept stands for what came: with one mark more, and where the next second begins.
use Rattle.std.proofs.Common.{◌≡◌, ℕ, zero, suc, ◌+◌, ◌*◌, ◌/◌, ◌%◌, ◌<◌, ◌≤◌, Bool, false, ◌||◌, List, [], ◌∷◌, ◌++◌, length, refl, sym, ap, ◌∙◌, subst, arith, eqb}
use Rattle.std.specs.List.{range_with_len}
use Rattle.std.proofs.lemmas.List.{length-map}
use Rattle.std.proofs.Math.Nat.{mul-le-mul_right}
use Rattle.pdh_spans.specs.Times.{stands_after}
use Rattle.pdh_seconds.specs.declared.seconds.Seconds.{Seconds}
use Rattle.pdh_seconds.specs.Standing.{StandsFor as SecondsStandFor}
use Rattle.pdh_timeline.specs.declared.state.State.{State}
use Rattle.pdh_timeline.specs.declared.state.State.TheVariants.{Out, Ais, Alarm}
use Rattle.pdh_timeline.specs.declared.touch.Touch.{Touch}
use Rattle.pdh_timeline.specs.declared.timeline.Timeline.{Timeline}
use Rattle.pdh_timeline.specs.Touches.{new_touch, next_touch, has_touched}
use Rattle.pdh_timeline.specs.Marks.{Mark, place_of, by_start, turns_of, touches, blocks_in, is_told, second_from, second_at, whole_seconds}
use Rattle.pdh_timeline.specs.Standing.{AreBefore, TouchIs, StandsFor}
use Rattle.pdh_timeline.proofs.Adding.{ComesIn, comes_in, touch_with, touch_push, second_is, seconds_over, before_push}
use Rattle.pdh_timeline.proofs.Nexting.{blocks_none, told_none, touch_next, before_more, seconds_push}

-- what is kept of a state tells whether it stood in the second
touch_is : (state : State) (rate s : ℕ) (touch : Touch) (marks : List Mark) → TouchIs state rate s touch marks → has_touched touch ≡ touches state rate s marks
touch_is state rate s touch marks is = ap (λ b. b || touch.begun) is.start_is ∙ ap (λ b. stands_after (turns_of state (by_start rate s marks)) || b) is.begun_is

-- the second that runs
pub shown_is : (kept : Timeline) (marks : List Mark) (bits : ℕ) → StandsFor kept marks
    → second_from kept.block bits (has_touched kept.out) (has_touched kept.ais) (has_touched kept.alarm) kept.blocks kept.far ≡ second_at kept.block kept.rate bits marks kept.second
shown_is kept marks bits stands =
    second_is kept.block bits _ _ _ _ _ _ _ _ _ _ (touch_is Out _ _ _ marks stands.out_is) (touch_is Ais _ _ _ marks stands.ais_is) (touch_is Alarm _ _ _ marks stands.alarm_is)
    stands.blocks_are stands.far_is

length-range : (a n : ℕ) → length (range_with_len a n) ≡ n
length-range a zero = refl
length-range a (suc n) = ap suc (length-range (a + 1) n)

pub seconds_count : (block rate s : ℕ) (marks : List Mark) → length (whole_seconds block rate marks s) ≡ s
seconds_count block rate s marks = length-map (range_with_len 0 s) (second_at block rate rate marks) ∙ length-range 0 s

-- nothing has come
pub new_stands : (rate block : ℕ) (touch : Touch) (seconds : Seconds) → 0 < rate → touch ≡ new_touch → SecondsStandFor seconds []
    → StandsFor (record { rate = rate; block = block; second = 0; out = touch; ais = touch; alarm = touch; blocks = 0; far = false; seconds = seconds }) []
new_stands rate block touch seconds some is stands =
    let none : (state : State) → TouchIs state rate 0 touch [] = λ state. record {
      stands_is = ap (λ (t : Touch). t.stands) is;
      start_is = ap (λ (t : Touch). t.start) is;
      begun_is = ap (λ (t : Touch). t.begun) is;
    } in
    record { some = some; before = tt; out_is = none Out; ais_is = none Ais; alarm_is = none Alarm; blocks_are = refl; far_is = refl; seconds_are = stands }

-- the next second begins
pub next_stands : (kept : Timeline) (marks : List Mark) (out ais alarm : Touch) (seconds : Seconds) (second : ℕ) → StandsFor kept marks → second ≡ suc kept.second
    → out ≡ next_touch kept.out → ais ≡ next_touch kept.ais → alarm ≡ next_touch kept.alarm
    → SecondsStandFor seconds (whole_seconds kept.block kept.rate marks kept.second ++ second_at kept.block kept.rate kept.rate marks kept.second ∷ [])
    → StandsFor (record { rate = kept.rate; block = kept.block; second = second; out = out; ais = ais; alarm = alarm; blocks = 0; far = false; seconds = seconds }) marks
next_stands kept marks out ais alarm seconds second stands is out_is ais_is alarm_is seconds_are =
    let At : ℕ → Type 0 = λ n. StandsFor (record { rate = kept.rate; block = kept.block; second = n; out = out; ais = ais; alarm = alarm; blocks = 0; far = false; seconds = seconds }) marks in
    let longer : suc kept.second ≤ suc (suc kept.second) = omega arith in
    let next : AreBefore (suc (suc kept.second) * kept.rate) marks = before_more _ _ marks (mul-le-mul_right kept.rate longer) stands.before in
    subst At (sym is) (record {
      some = stands.some;
      before = next;
      out_is = subst (λ (t : Touch). TouchIs Out kept.rate (suc kept.second) t marks) (sym out_is) (touch_next Out kept.rate kept.second kept.out marks stands.before stands.out_is);
      ais_is = subst (λ (t : Touch). TouchIs Ais kept.rate (suc kept.second) t marks) (sym ais_is) (touch_next Ais kept.rate kept.second kept.ais marks stands.before stands.ais_is);
      alarm_is = subst (λ (t : Touch). TouchIs Alarm kept.rate (suc kept.second) t marks) (sym alarm_is) (touch_next Alarm kept.rate kept.second kept.alarm marks stands.before stands.alarm_is);
      blocks_are = sym (blocks_none kept.rate (suc kept.second) marks stands.before);
      far_is = sym (told_none kept.rate (suc kept.second) marks stands.before);
      seconds_are = subst (SecondsStandFor seconds) (sym (seconds_push kept.block kept.rate kept.second marks)) seconds_are;
    })

-- a mark comes in the second that runs
pub mark_stands : (kept : Timeline) (marks : List Mark) (mark : Mark) (at_start : Bool) (out ais alarm : Touch) (blocks : ℕ) (far : Bool)
    → StandsFor kept marks → ComesIn kept.rate kept.second at_start mark
    → out ≡ touch_with at_start Out mark kept.out → ais ≡ touch_with at_start Ais mark kept.ais → alarm ≡ touch_with at_start Alarm mark kept.alarm
    → blocks ≡ blocks_in kept.rate kept.second (marks ++ mark ∷ []) → far ≡ is_told kept.rate kept.second (marks ++ mark ∷ [])
    → StandsFor (record { rate = kept.rate; block = kept.block; second = kept.second; out = out; ais = ais; alarm = alarm; blocks = blocks; far = far; seconds = kept.seconds }) (marks ++ mark ∷ [])
mark_stands kept marks mark at_start out ais alarm blocks far stands comes out_is ais_is alarm_is blocks_are far_is = record {
  some = stands.some;
  before = before_push (suc kept.second * kept.rate) marks mark stands.before comes.high;
  out_is = subst (λ (t : Touch). TouchIs Out kept.rate kept.second t (marks ++ mark ∷ [])) (sym out_is) (touch_push Out kept.rate kept.second kept.out marks at_start mark comes stands.out_is);
  ais_is = subst (λ (t : Touch). TouchIs Ais kept.rate kept.second t (marks ++ mark ∷ [])) (sym ais_is) (touch_push Ais kept.rate kept.second kept.ais marks at_start mark comes stands.ais_is);
  alarm_is = subst (λ (t : Touch). TouchIs Alarm kept.rate kept.second t (marks ++ mark ∷ [])) (sym alarm_is) (touch_push Alarm kept.rate kept.second kept.alarm marks at_start mark comes stands.alarm_is);
  blocks_are = blocks_are;
  far_is = far_is;
  seconds_are = subst (SecondsStandFor kept.seconds) (sym (seconds_over kept.block kept.rate kept.second marks mark stands.some comes.low)) stands.seconds_are;
}

-- a mark comes in the second that was reached
pub comes_now : (rate rate' s : ℕ) (mark : Mark) → 0 < rate → rate' ≡ rate → s ≡ place_of mark / rate → ComesIn rate' s (eqb (place_of mark % rate) 0) mark
comes_now rate rate' s mark some same second =
    subst (λ r. ComesIn r s (eqb (place_of mark % rate) 0) mark) (sym same)
    (subst (λ n. ComesIn rate n (eqb (place_of mark % rate) 0) mark) (sym second) (comes_in rate mark some))
