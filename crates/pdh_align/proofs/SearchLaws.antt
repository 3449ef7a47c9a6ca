-- What a search keeps of the bits since it began, as it goes on.
use Rattle.std.proofs.Common.{◌≡◌, ℕ, ◌+◌, ◌-◌, ◌*◌, ◌/◌, ◌%◌, ◌<◌, ◌≤◌, Bool, true, false, ◌&&◌, eqb, Option, Some, List, ◌++◌, length, drop, refl, sym, ap, ◌∙◌, inl, inr, arith, length-append, length-drop}
use Rattle.std.specs.Prelude.{IfSome, nat_le}
use Rattle.std.proofs.lemmas.List.{drop-append-le, drop-drop}
use Rattle.std.proofs.lemmas.Bool.{cases_lt}
use Rattle.std.proofs.Math.Nat.{zero-mod, mod-eq_of_lt, mod-add-div', add-mul-mod_self_right}
use Rattle.pdh_shape.specs.Frame.{FrameShape, IsFrame, HasSignal, is_right}
use Rattle.pdh_line.specs.Tracking.{frame_of, is_confirmed}
use Rattle.pdh_line.proofs.TrackingLaws.{frame_of-append}
use Rattle.pdh_phases.specs.Runs.{run_of, signal_at, stands_thrice}
use Rattle.pdh_phases.specs.Keeping.{Kept, StandsFor}
use Rattle.pdh_phases.proofs.Signals.{signal_at-append}
use Rattle.pdh_phases.proofs.Confirming.{three-run, confirmed-run, confirmed-signals, confirmed-part}
use Rattle.pdh_align.specs.Searching.{Sought, sought_of, Searches, Takes, GivesUp, two_right, IsRejected}

-- ---- what it keeps

-- a search that begins with these bits
pub begins : (s : FrameShape) (phases : Option Kept) (bits : List Bool) → IfSome phases (λ kept. StandsFor s kept bits) → Searches s (sought_of phases 0) bits bits
begins s phases bits h = record { passed = 0; within = omega arith; held_is = refl; phases = h; oldest = sym (zero-mod s.len) }

-- the phases take more bits
pub takes : (s : FrameShape) (old new : Option Kept) (oldest : ℕ) (more : List Bool)
    → ((since : List Bool) → IfSome old (λ kept. StandsFor s kept since) → IfSome new (λ kept. StandsFor s kept (since ++ more)))
    → Takes s (sought_of old oldest) (sought_of new oldest) more
takes s old new oldest more grow held since h = record {
  passed = h.passed;
  within = omega (arith, h.within, length-append since more);
  held_is = ap (λ x. x ++ more) h.held_is ∙ sym (drop-append-le h.passed since more h.within);
  phases = grow since h.phases;
  oldest = h.oldest;
}

-- the phase of the position that stands a few after another
pub phase_after : (passed count oldest now len : ℕ) → 0 < len → oldest ≡ passed % len → now < len → (q : ℕ) → now + q * len ≡ oldest + count → now ≡ (passed + count) % len
phase_after passed count oldest now len some is within q e =
    let parts : passed % len + passed / len * len ≡ passed = mod-add-div' passed len in
    let whole : passed + count ≡ now + (q + passed / len) * len = omega (arith, parts, e, is) in
    sym (ap (λ n. n % len) whole ∙ add-mul-mod_self_right now (q + passed / len) len ∙ mod-eq_of_lt within)

-- the oldest positions are given up
pub gives_up : (s : FrameShape) (phases : Option Kept) (oldest now count q : ℕ) → 0 < s.len → now < s.len → now + q * s.len ≡ oldest + count → GivesUp s (sought_of phases oldest) (sought_of phases now) count
gives_up s phases oldest now count q some below e held since few h = record {
  passed = h.passed + count;
  within = omega (arith, h.within, few, ap length h.held_is, length-drop h.passed since);
  held_is = ap (drop count) h.held_is ∙ drop-drop count h.passed since;
  phases = h.phases;
  oldest = phase_after h.passed count oldest now s.len some h.oldest below q e;
}

-- how many bits came since the search began, where some are held
since_long : (s : FrameShape) (search : Sought) (held since : List Bool) → (h : Searches s search held since) → length since ≡ h.passed + length held
since_long s search held since h = omega (arith, h.within, ap length h.held_is, length-drop h.passed since)

-- ---- what the phases tell

-- the oldest position is confirmed where the run of its phase is 3
pub confirmed_by_phase : (s : FrameShape) (kept : Kept) (oldest : ℕ) (held since : List Bool) → IsFrame s → HasSignal s → 0 < s.signal → StandsFor s kept since → (h : Searches s (sought_of (Some kept) oldest) held since)
    → length held ≡ 3 * s.len → eqb (run_of s since oldest) 3 ≡ is_confirmed s held
confirmed_by_phase s kept oldest held since frame has some stands h whole =
    let long : length since ≡ h.passed + length held = since_long s (sought_of (Some kept) oldest) held since h in
    ap (λ p. eqb (run_of s since p) 3) h.oldest
    ∙ sym (confirmed-run s since h.passed frame has some (omega (arith, long, whole)) (omega (arith, long, whole, some)))
    ∙ ap (is_confirmed s) (sym h.held_is)

-- a position at whose three places the signal doesn't stand isn't confirmed by more bits
thrice-append : (s : FrameShape) (bits more : List Bool) (p : ℕ) → p + 2 * s.len + s.signal ≤ length bits → stands_thrice s (bits ++ more) p ≡ stands_thrice s bits p
thrice-append s bits more p h =
    let a : signal_at s (bits ++ more) p ≡ signal_at s bits p = signal_at-append s bits more p (omega (arith, h)) in
    let b : signal_at s (bits ++ more) (p + s.len) ≡ signal_at s bits (p + s.len) = signal_at-append s bits more (p + s.len) (omega (arith, h)) in
    let c : signal_at s (bits ++ more) (p + 2 * s.len) ≡ signal_at s bits (p + 2 * s.len) = signal_at-append s bits more (p + 2 * s.len) h in
    rw (a, b, c) refl

never_confirmed : (s : FrameShape) (bits more : List Bool) (p : ℕ) → 0 < s.len → HasSignal s → 0 < s.signal → p + 2 * s.len + s.signal ≤ length bits → stands_thrice s bits p ≡ false
    → is_confirmed s (drop p (bits ++ more)) ≡ false
never_confirmed s bits more p some has begins within fails = elim (cases_lt (length (bits ++ more)) (p + 3 * s.len)) [
  | inl short ↦ confirmed-part s (bits ++ more) p some short
  | inr long ↦ confirmed-signals s (bits ++ more) p has begins long ∙ thrice-append s bits more p within ∙ fails
]

-- positions of phases with runs below 3
pub rejected_by_phase : (s : FrameShape) (kept : Kept) (oldest i : ℕ) (held since : List Bool) → IsFrame s → HasSignal s → 0 < s.signal → (h : Searches s (sought_of (Some kept) oldest) held since)
    → length held + 1 ≡ 3 * s.len → oldest + i < s.len → i < s.len - s.signal → eqb (run_of s since (oldest + i)) 3 ≡ false → IsRejected s held i
rejected_by_phase s kept oldest i held since frame has some h full inside few below more =
    let p : ℕ = h.passed + i in
    let long : length since ≡ h.passed + length held = since_long s (sought_of (Some kept) oldest) held since h in
    let phase : oldest + i ≡ p % s.len = phase_after h.passed i oldest (oldest + i) s.len frame.some_slots h.oldest inside 0 (omega arith) in
    let thrice : stands_thrice s since p ≡ false =
    sym (three-run s since p frame.some_slots (omega (arith, long, full, few), omega (arith, long, full, few, has.within))) ∙ ap (λ n. eqb (run_of s since n) 3) (sym phase) ∙ below in
    let moved : drop i (held ++ more) ≡ drop p (since ++ more) =
    ap (λ x. drop i (x ++ more)) h.held_is ∙ ap (drop i) (sym (drop-append-le h.passed since more h.within)) ∙ drop-drop i h.passed (since ++ more) in
    ap (is_confirmed s) moved ∙ never_confirmed s since more p frame.some_slots has some (omega (arith, long, full, few)) thrice

-- ---- what the alignment slots tell

two_fail : (whole first second third : Bool) → (first && second) ≡ false → (whole && first && second && third) ≡ false
two_fail false first second third h = refl
two_fail true false second third h = refl
two_fail true true false third h = refl
two_fail true true true third h = cc

-- a position whose first two frames aren't both right isn't confirmed by more bits
pub rejected_by_slots : (s : FrameShape) (held : List Bool) (place : ℕ) → place + 2 * s.len ≤ length held → two_right s held place ≡ false → IsRejected s held place
rejected_by_slots s held place within wrong more =
    let rest : List Bool = drop place held in
    let long : 2 * s.len ≤ length rest = omega (arith, within, length-drop place held) in
    let first : frame_of s (rest ++ more) 0 ≡ frame_of s rest 0 = frame_of-append s rest more 0 (omega (arith, long)) in
    let second : frame_of s (rest ++ more) 1 ≡ frame_of s rest 1 = frame_of-append s rest more 1 (omega (arith, long)) in
    let same : two_right s held place ≡ (is_right s (frame_of s (rest ++ more) 0) && is_right s (frame_of s (rest ++ more) 1)) =
    ap (λ x. is_right s x && is_right s (frame_of s rest 1)) (sym first) ∙ ap (λ x. is_right s (frame_of s (rest ++ more) 0) && is_right s x) (sym second) in
    ap (is_confirmed s) (drop-append-le place held more (omega (arith, within)))
    ∙ two_fail (nat_le (3 * s.len) (length (rest ++ more))) (is_right s (frame_of s (rest ++ more) 0)) (is_right s (frame_of s (rest ++ more) 1)) (is_right s (frame_of s (rest ++ more) 2)) (sym same ∙ wrong)
