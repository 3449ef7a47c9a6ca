-- A tributary is within the tolerance exactly where no run breaks it; and worked schedules.
use Rattle.std.proofs.Common.{◌≡◌, ℕ, zero, suc, ◌+◌, ◌-◌, ◌*◌, ◌<◌, ◌≤◌, nat_lt, Bool, true, false, ◌||◌, cond, List, [], ◌∷◌, length, get_or, Option, Some, None, refl, ap, sym, ◌∙◌, subst, arith}
use Rattle.std.specs.Prelude.{find, is_some}
use Rattle.std.specs.Option.{option_map, option_and_then}
use Rattle.std.specs.List.{range_with_len}
use Rattle.std.proofs.lemmas.Bool.Decides.{nat_tests}
use Rattle.std.proofs.lemmas.List.FromFn.{get_or-range_with_len, length-range_with_len}
use Rattle.pdh_shape.specs.Frame.{FrameShape}
use Rattle.pdh_shape.specs.OwnNumbers.{allowance}
use Rattle.pdh_line.specs.Tolerance.{arrived_over, IsWithin}
use Rattle.pdh_rows.specs.Outside.{breaks, run_between, first_start, first_outside}

-- where none is found no element passes the test
pub find_none : {X : Type 0} (p : X → Bool) (xs : List X) → find p xs ≡ None → (k : ℕ) (d : X) → k < length xs → p (get_or xs k d) ≡ false
find_none p [] none k d h = absurd (omega arith)
find_none p (x ∷ xs) none k d h = go (λ none k h. find_none p xs none k d h) (p x) refl none k h
  where
    go : (find p xs ≡ None → (k : ℕ) → k < length xs → p (get_or xs k d) ≡ false) → (b : Bool) → p x ≡ b → cond b (Some x) (find p xs) ≡ None → (k : ℕ) → k < length (x ∷ xs) → p (get_or (x ∷ xs) k d) ≡ false
    go rest true e none k h = absurd (cc)
    go rest false e none zero h = e
    go rest false e none (suc k) h = rest none k (omega arith)

find_none-range : (p : ℕ → Bool) (n k : ℕ) → find p (range_with_len 0 n) ≡ None → k < n → p k ≡ false
find_none-range p n k none h =
    let long : length (range_with_len 0 n) ≡ n = length-range_with_len 0 n in
    let at : get_or (range_with_len 0 n) k 0 ≡ k = get_or-range_with_len 0 n k 0 h ∙ omega arith in
    sym (ap p at) ∙ find_none p (range_with_len 0 n) none k 0 (omega (arith, long))

is_none : {X : Type 0} (o : Option X) → is_some o ≡ false → o ≡ None
is_none None h = refl
is_none (Some x) h = cc

-- what is found passes the test
find_some : {X : Type 0} (p : X → Bool) (xs : List X) (x : X) → find p xs ≡ Some x → p x ≡ true
find_some p [] x found = absurd (let wrong : ◌≡◌ {A = Option _} None (Some x) = found in cc)
find_some p (y ∷ xs) x found = go (find_some p xs x) (p y) refl found
  where
    go : (find p xs ≡ Some x → p x ≡ true) → (b : Bool) → p y ≡ b → cond b (Some y) (find p xs) ≡ Some x → p x ≡ true
    go rest true e h = let same : y ≡ x = cc in ap p (sym same) ∙ e
    go rest false e h = rest h

-- none is found where none passes it
pub none_found : (p : ℕ → Bool) (first n : ℕ) → ((k : ℕ) → k < first + n → p k ≡ false) → find p (range_with_len first n) ≡ None
none_found p first zero each = refl
none_found p first (suc n) each =
    rw (each first (omega arith)) (none_found p (first + 1) n (λ k h. each k (omega arith)))

or_false : (a b : Bool) → (a || b) ≡ false → (a ≡ false) × (b ≡ false)
or_false false b h = (refl, h)
or_false true b h = cc

-- ---- the tolerance

no_start : (low : ℕ) (counts : ℕ → ℕ) (frames to : ℕ) → first_outside low counts frames ≡ None → to ≤ frames → first_start low counts to ≡ None
unfolding first_outside
no_start low counts frames to none h = go (find (λ to. is_some (first_start low counts to)) (range_with_len 0 (suc frames))) refl none
  where
    go : (end : Option ℕ) → find (λ to. is_some (first_start low counts to)) (range_with_len 0 (suc frames)) ≡ end
        → option_and_then (λ to. option_map (λ from. run_between counts from to) (first_start low counts to)) end ≡ None → first_start low counts to ≡ None
    go None e h' = is_none _ (find_none-range (λ to. is_some (first_start low counts to)) (suc frames) to e (omega arith))
    go (Some end) e h' = absurd (found (first_start low counts end) (find_some (λ to. is_some (first_start low counts to)) (range_with_len 0 (suc frames)) end e) h')
      where
        found : (start : Option ℕ) → is_some start ≡ true → option_map (λ from. run_between counts from end) start ≡ None → ⊥
        found None some none' = cc
        found (Some from) some none' = cc

-- where no run breaks it, the tributary is within the tolerance
pub none_outside : (s : FrameShape) (counts : ℕ → ℕ) (frames : ℕ) → first_outside s.low counts frames ≡ None → IsWithin s counts frames
none_outside s counts frames none = record { least = λ first run h. (both first run h).1; most = λ first run h. (both first run h).0 }
  where
    both : (first run : ℕ) → first + run ≤ frames → (arrived_over counts first run ≤ suc s.low * run + allowance) × (s.low * run ≤ arrived_over counts first run + allowance)
    both first run h =
        let len : first + run - first ≡ run = omega arith in
        let holds : breaks s.low counts first (first + run - first) ≡ false =
        find_none-range (λ from. breaks s.low counts from (first + run - from)) (suc (first + run)) first (no_start s.low counts frames (first + run) none h) (omega arith) in
        let parts = or_false (nat_lt (suc s.low * run + allowance) (arrived_over counts first run)) (nat_lt (arrived_over counts first run + allowance) (s.low * run)) (subst (λ k. breaks s.low counts first k ≡ false) len holds) in
        (let over = parts.0 in grind (arith, nat_tests), let under = parts.1 in grind (arith, nat_tests))

-- and the other way round
pub within-none_outside : (s : FrameShape) (counts : ℕ → ℕ) (frames : ℕ) → IsWithin s counts frames → first_outside s.low counts frames ≡ None
unfolding first_outside
within-none_outside s counts frames within =
    let starts : (to : ℕ) → to < 0 + suc frames → is_some (first_start s.low counts to) ≡ false =
    λ to h. ap is_some (none_found (λ from. breaks s.low counts from (to - from)) 0 (suc to) (λ from h'.
    let inside : from + (to - from) ≤ frames = omega arith in
    let most = within.most from (to - from) inside in
    let least = within.least from (to - from) inside in
    let over : nat_lt (suc s.low * (to - from) + allowance) (arrived_over counts from (to - from)) ≡ false = grind (arith, nat_tests) in
    let under : nat_lt (arrived_over counts from (to - from) + allowance) (s.low * (to - from)) ≡ false = grind (arith, nat_tests) in
    rw (over, under) refl)) in
    rw (none_found (λ to. is_some (first_start s.low counts to)) 0 (suc frames) starts) refl

-- ---- worked schedules

-- a first frame with so many bits, and then frames of 206
abbrev first_then : ℕ → ℕ → ℕ
first_then first zero = first
first_then first (suc n) = 206

pub first_frame_inside : first_outside 205 (first_then 224) 10 ≡ None
unfolding first_outside
first_frame_inside = refl

pub first_frame_outside : first_outside 205 (first_then 225) 10 ≡ Some (record { from = 0; to = 1; sum = 225 })
unfolding first_outside
first_frame_outside = refl
