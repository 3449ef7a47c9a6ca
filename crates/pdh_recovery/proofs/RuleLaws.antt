-- A right frame completes no loss unless the frame before it completed one, for each shape's rule.
use Rattle.std.proofs.Common.{◌≡◌, ℕ, zero, suc, ◌+◌, ◌-◌, ◌/◌, ◌%◌, ◌^◌, ◌<◌, ◌≤◌, Bool, true, false, ◌&&◌, ◌||◌, cond, eqb, List, refl, sym, ap, ◌∙◌, inl, inr, arith}
use Rattle.std.specs.Prelude.{count_by}
use Rattle.std.specs.List.{range_with_len, list_any}
use Rattle.std.proofs.lemmas.List.Sums.{sum_by-cons, sum_by-append}
use Rattle.std.proofs.lemmas.Bool.{leb-true, le-leb, lt-ltb, le-ltb, cases_Bool, cases_lt}
use Rattle.std.proofs.lemmas.Nat.{div-mul-add, pow_pos}
use Rattle.pdh_shape.specs.declared.role.Marks.{Marks}
use Rattle.pdh_shape.specs.declared.role.Role.{Role}
use Rattle.pdh_shape.specs.declared.role.Duty.{Duty}
use Rattle.pdh_shape.specs.declared.role.Service.{Service}
use Rattle.pdh_eframes.specs.declared.set_plan.SetPlan.{SetPlan}
use Rattle.pdh_shape.specs.Frame.{clean, IsFrame}
use Rattle.pdh_shape.specs.laws.LawsOfTest.{laws-is_frame}
use Rattle.pdh_eframes.specs.Sets.{in_sets, signal_wrong, four_wrong}
use Rattle.pdh_eframes.specs.Plans.{e2, e3, e4, e2_signal, e4_signal, e2_plan, e3_plan, e4_plan}
use Rattle.pdh_eframes.specs.laws.E2Laws.{e2_keeps_laws}
use Rattle.pdh_eframes.specs.laws.E3Laws.{e3_keeps_laws}
use Rattle.pdh_ds.specs.declared.loss.LossRule.{LossRule}
use Rattle.pdh_ds.specs.declared.block_plan.BlockPlan.{BlockPlan}
use Rattle.pdh_ds.specs.Loss.{IsLossRule, is_wrong, wrong_of_two, wrong_in, ends_wrong, window_wrong}
use Rattle.pdh_ds.specs.Blocks.{in_blocks}
use Rattle.pdh_ds.specs.Plans.{ds2, ds3, ds3c, ds2_plan, ds3_plan, ds3c_plan, ds2_overhead, ds3_overhead, ds3c_overhead, ds2_inverted, ds2_duty, ds3_duty, ds3c_duty, ds2_service, ds3_service, ds3c_service}
use Rattle.pdh_ds.specs.laws.Ds2Laws.{ds2_is_plan}
use Rattle.pdh_ds.specs.laws.Ds3Laws.{ds3_is_plan}
use Rattle.pdh_ds.specs.laws.Ds3cLaws.{ds3c_is_plan}
use Rattle.pdh_ds.proofs.LossLaws.{any_at}
use Rattle.pdh_line.proofs.Ranges.{range_append, count-range_same, count_none}
use Rattle.pdh_recovery.specs.Losing.{KeepsRight}

-- ---- frames in sets

and_false : (a b c : Bool) → (a && b && c && false) ≡ true → ⊥
and_false true true true h = cc
and_false true true false h = cc
and_false true false c h = cc
and_false false b c h = cc

four_keeps : (before a b c : Marks) → four_wrong a b c clean ≡ true → four_wrong before a b c ≡ true
unfolding four_wrong
four_keeps before a b c h = absurd (and_false (signal_wrong a) (signal_wrong b) (signal_wrong c) h)

pub sets_keep : (signal : List Bool) (plan : SetPlan) → KeepsRight (in_sets signal plan)
sets_keep signal plan = four_keeps

-- ---- frames in blocks

some_of : (p : ℕ → Bool) (a n : ℕ) → list_any p (range_with_len a n) ≡ true → (k : ℕ) × (a ≤ k) × (k < a + n) × (p k ≡ true)
some_of p a zero h = cc
some_of p a (suc n) h =
    elim (cases_Bool (p a)) [
      | inl passes ↦ (a, omega arith, omega arith, passes)
      | inr fails ↦
          let later = some_of p (a + 1) n (sym (ap (λ b. b || list_any p (range_with_len (a + 1) n)) fails) ∙ h) in
          (later.0, omega arith, omega arith, later.3)
    ]

count_shift : (p : ℕ → Bool) (d a n : ℕ) → count_by p (range_with_len (d + a) n) ≡ count_by (λ k. p (d + k)) (range_with_len a n)
count_shift p d a zero = refl
count_shift p d a (suc n) =
    let e : d + a + 1 ≡ d + (a + 1) = omega arith in
    sum_by-cons (λ k. cond (p k) 1 0) (d + a) (range_with_len (d + a + 1) n)
    ∙ ap (λ m. cond (p (d + a)) 1 0 + m) (ap (λ m. count_by p (range_with_len m n)) e ∙ count_shift p d (a + 1) n)
    ∙ sym (sum_by-cons (λ k. cond (p (d + k)) 1 0) a (range_with_len (a + 1) n))

count_split : (p : ℕ → Bool) (n m : ℕ) → count_by p (range_with_len 0 (n + m)) ≡ count_by p (range_with_len 0 n) + count_by p (range_with_len n m)
count_split p n m =
    let e : 0 + n ≡ n = omega arith in
    ap (count_by p) (range_append 0 n m) ∙ sum_by-append (λ k. cond (p k) 1 0) (range_with_len 0 n) (range_with_len (0 + n) m)
    ∙ ap (λ a. count_by p (range_with_len 0 n) + count_by p (range_with_len a m)) e

count_no : (p : ℕ → Bool) (a n : ℕ) → ((k : ℕ) → a ≤ k → k < a + n → p k ≡ false) → count_by p (range_with_len a n) ≡ 0
count_no p a n none = count-range_same p (λ k. false) a n none ∙ count_none (range_with_len a n)

-- what passes among the first numbers passes some numbers on, and no number further on passes
count_moved : (p q : ℕ → Bool) (n d : ℕ) → ((k : ℕ) → k + d < n → p k ≡ q (d + k)) → ((k : ℕ) → k < n → n ≤ k + d → p k ≡ false)
    → count_by p (range_with_len 0 n) ≤ count_by q (range_with_len 0 n)
count_moved p q n d same none =
    elim (cases_lt d n) [
      | inl some ↦
          let r : ℕ = n - d in
          let e : n ≡ r + d = omega arith in
          let e' : n ≡ d + r = omega arith in
          let z : d ≡ d + 0 = omega arith in
          let left : count_by p (range_with_len 0 n) ≡ count_by p (range_with_len 0 r) + count_by p (range_with_len r d) = ap (λ m. count_by p (range_with_len 0 m)) e ∙ count_split p r d in
          let right : count_by q (range_with_len 0 n) ≡ count_by q (range_with_len 0 d) + count_by q (range_with_len d r) = ap (λ m. count_by q (range_with_len 0 m)) e' ∙ count_split q d r in
          let rest : count_by p (range_with_len r d) ≡ 0 = count_no p r d (λ k h h'. none k (omega arith) (omega arith)) in
          let moved : count_by q (range_with_len d r) ≡ count_by (λ k. q (d + k)) (range_with_len 0 r) = ap (λ a. count_by q (range_with_len a r)) z ∙ count_shift q d 0 r in
          let equal : count_by p (range_with_len 0 r) ≡ count_by (λ k. q (d + k)) (range_with_len 0 r) = count-range_same p (λ k. q (d + k)) 0 r (λ k h h'. same k (omega arith)) in
          omega (arith, left, right, rest, moved, equal)
      | inr all ↦ omega (arith, count_no p 0 n (λ k h h'. none k (omega arith) (omega arith)))
    ]

-- no framing slot of a right frame is wrong
clean_fine : (k : ℕ) → is_wrong clean k ≡ false
clean_fine k =
    let none : 0 / 2 ^ k ≡ 0 = omega (arith, div-mul-add 0 (2 ^ k) 0 (pow_pos k)) in
    ap (λ n. eqb (n % 2) 1) none

first_of_two : (framing number : ℕ) (before here : Marks) → number < framing → wrong_of_two framing before here number ≡ is_wrong before number
first_of_two framing number before here h = ap (λ b. cond b (is_wrong before number) (is_wrong here (number - framing))) (lt-ltb _ _ h)

second_of_two : (framing number : ℕ) (before here : Marks) → framing ≤ number → wrong_of_two framing before here number ≡ is_wrong here (number - framing)
second_of_two framing number before here h = ap (λ b. cond b (is_wrong before number) (is_wrong here (number - framing))) (le-ltb _ _ h)

-- framing slots in a row that end in a right frame are wrong no more often than those that end with the last one of the frame before
wrong_before : (rule : LossRule) (before here : Marks) (last : ℕ) → rule.window ≤ rule.framing → last < rule.framing
    → wrong_in rule here clean (rule.framing + last + 1 - rule.window) rule.window ≤ wrong_in rule before here (rule.framing + (rule.framing - 1) + 1 - rule.window) rule.window
wrong_before rule before here last within below =
    let framing : ℕ = rule.framing in
    let window : ℕ = rule.window in
    let from : ℕ = framing + last + 1 - window in
    let from' : ℕ = framing + (framing - 1) + 1 - window in
    count_moved (λ k. wrong_of_two framing here clean (from + k)) (λ k. wrong_of_two framing before here (from' + k)) window (last + 1)
    (λ k h.
    let number : from' + (last + 1 + k) - framing ≡ from + k = omega arith in
    first_of_two framing (from + k) here clean (omega arith) ∙ ap (is_wrong here) (sym number)
    ∙ sym (second_of_two framing (from' + (last + 1 + k)) before here (omega arith)))
    (λ k h h'. second_of_two framing (from + k) here clean (omega arith) ∙ clean_fine (from + k - framing))

window_keeps : (rule : LossRule) (before here : Marks) → rule.window ≤ rule.framing → window_wrong rule here clean ≡ true → window_wrong rule before here ≡ true
unfolding window_wrong
window_keeps rule before here within h =
    let found = some_of (ends_wrong rule here clean) 0 rule.framing h in
    let last : ℕ = found.0 in
    let below : last < rule.framing = omega (arith, found.2) in
    let many : rule.wrong ≤ wrong_in rule here clean (rule.framing + last + 1 - rule.window) rule.window = leb-true _ _ found.3 in
    let enough : rule.wrong ≤ wrong_in rule before here (rule.framing + (rule.framing - 1) + 1 - rule.window) rule.window = omega (arith, many, wrong_before rule before here last within below) in
    any_at (ends_wrong rule before here) 0 rule.framing (rule.framing - 1) (omega arith) (omega arith) (le-leb _ _ enough)

or_left : (a b c : Bool) → (a || (b && c && false)) ≡ true → a ≡ true
or_left true b c h = refl
or_left false true true h = cc
or_left false true false h = cc
or_left false false c h = cc

pub blocks_keep : (plan : BlockPlan) (overhead : ℕ → List Role) (inverted : ℕ → Bool) (duty : ℕ → Duty) (service : ℕ → Service → Bool → Bool) → IsLossRule plan.loss
    → KeepsRight (in_blocks plan overhead inverted duty service)
blocks_keep plan overhead inverted duty service fits before a b c h =
    let window : window_wrong plan.loss c clean ≡ true = or_left _ b.multi c.multi h in
    ap (λ w. w || (a.multi && b.multi && c.multi)) (window_keeps plan.loss b c fits.within window)

-- ---- the six shapes

pub e2_is_frame : IsFrame e2
e2_is_frame = laws-is_frame e2 e2_keeps_laws

pub e3_is_frame : IsFrame e3
e3_is_frame = laws-is_frame e3 e3_keeps_laws

pub e2_keeps : KeepsRight e2
e2_keeps = sets_keep e2_signal e2_plan

pub e3_keeps : KeepsRight e3
e3_keeps = sets_keep e2_signal e3_plan

pub e4_keeps : KeepsRight e4
e4_keeps = sets_keep e4_signal e4_plan

pub ds2_keeps : KeepsRight ds2
ds2_keeps = blocks_keep ds2_plan ds2_overhead ds2_inverted ds2_duty ds2_service ds2_is_plan.loss

pub ds3_keeps : KeepsRight ds3
ds3_keeps = blocks_keep ds3_plan ds3_overhead (λ j. false) ds3_duty ds3_service ds3_is_plan.loss

pub ds3c_keeps : KeepsRight ds3c
ds3c_keeps = blocks_keep ds3c_plan ds3c_overhead (λ j. false) ds3c_duty ds3c_service ds3c_is_plan.loss
