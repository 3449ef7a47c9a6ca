-- Numbers that follow each other and all pass a test, or none of them does.
use Rattle.std.proofs.Common.{◌≡◌, ℕ, zero, suc, ◌+◌, ◌-◌, ◌<◌, ◌≤◌, Bool, true, false, cond, List, [], ◌∷◌, ◌++◌, length, map, filter, take, drop, get_or, refl, sym, ap, ◌∙◌, arith}
use Rattle.std.specs.List.{range_with_len}
use Rattle.std.proofs.lemmas.List.{append-nil, drop_more}
use Rattle.std.proofs.lemmas.List.Elements.{filter-append}
use Rattle.pdh_line.proofs.Ranges.{range_append}
use Rattle.pdh_runs.proofs.Counts.{before, picked, before_pass, before_fail}

-- ---- those that pass

filter_all : (p : ℕ → Bool) (a k : ℕ) → ((u : ℕ) → a ≤ u → u < a + k → p u ≡ true) → filter p (range_with_len a k) ≡ range_with_len a k
filter_all p a zero all = refl
filter_all p a (suc k) all =
    ap (λ b. cond b (a ∷ filter p (range_with_len (a + 1) k)) (filter p (range_with_len (a + 1) k))) (all a (omega arith) (omega arith))
    ∙ ap (λ l. a ∷ l) (filter_all p (a + 1) k (λ u h h'. all u (omega (arith, h)) (omega (arith, h'))))

filter_no : (p : ℕ → Bool) (a k : ℕ) → ((u : ℕ) → a ≤ u → u < a + k → p u ≡ false) → filter p (range_with_len a k) ≡ []
filter_no p a zero none = refl
filter_no p a (suc k) none =
    ap (λ b. cond b (a ∷ filter p (range_with_len (a + 1) k)) (filter p (range_with_len (a + 1) k))) (none a (omega arith) (omega arith))
    ∙ filter_no p (a + 1) k (λ u h h'. none u (omega (arith, h)) (omega (arith, h')))

module _ (p : ℕ → Bool) (a next : ℕ) (after : a ≤ next) where
  pub picked_parts : picked p next ≡ picked p a ++ filter p (range_with_len a (next - a))
  picked_parts =
      let whole : next ≡ a + (next - a) = omega arith in
      let from : 0 + a ≡ a = omega arith in
      ap (picked p) whole ∙ ap (filter p) (range_append 0 a (next - a)) ∙ filter-append p (range_with_len 0 a) (range_with_len (0 + a) (next - a))
      ∙ ap (λ k. picked p a ++ filter p (range_with_len k (next - a))) from

  pub picked_all : ((u : ℕ) → a ≤ u → u < next → p u ≡ true) → picked p next ≡ picked p a ++ range_with_len a (next - a)
  picked_all all = picked_parts ∙ ap (λ l. picked p a ++ l) (filter_all p a (next - a) (λ u h h'. all u h (omega (arith, h'))))

  pub picked_no : ((u : ℕ) → a ≤ u → u < next → p u ≡ false) → picked p next ≡ picked p a
  picked_no none = picked_parts ∙ ap (λ l. picked p a ++ l) (filter_no p a (next - a) (λ u h h'. none u h (omega (arith, h')))) ∙ append-nil (picked p a)

-- how many pass
pub before_all : (p : ℕ → Bool) (a k : ℕ) → ((u : ℕ) → a ≤ u → u < a + k → p u ≡ true) → before p (a + k) ≡ before p a + k
before_all p a zero all = (let same : a + 0 ≡ a = omega arith in omega (arith, ap (before p) same))
before_all p a (suc k) all =
    let last : a + suc k ≡ a + k + 1 = omega arith in
    omega (arith, ap (before p) last, before_pass p (a + k) (all (a + k) (omega arith) (omega arith)), before_all p a k (λ u h h'. all u h (omega (arith, h'))))

pub before_no : (p : ℕ → Bool) (a k : ℕ) → ((u : ℕ) → a ≤ u → u < a + k → p u ≡ false) → before p (a + k) ≡ before p a
before_no p a zero none = (let same : a + 0 ≡ a = omega arith in omega (arith, ap (before p) same))
before_no p a (suc k) none =
    let last : a + suc k ≡ a + k + 1 = omega arith in
    omega (arith, ap (before p) last, before_fail p (a + k) (none (a + k) (omega arith) (omega arith)), before_no p a k (λ u h h'. none u h (omega (arith, h'))))

-- ---- what is read at numbers that follow each other

pub cut : (xs : List Bool) (place : ℕ → ℕ) (a d k : ℕ) → ((u : ℕ) → a ≤ u → u < a + k → place u + a ≡ d + u) → d + k ≤ length xs → map (λ u. get_or xs (place u) false) (range_with_len a k) ≡ take k (drop d xs)
cut xs place a d zero at within = refl
cut xs place a d (suc k) at within =
    let here : place a ≡ d = omega (arith, at a (omega arith) (omega arith)) in
    let rest = cut xs place (a + 1) (d + 1) k (λ u h h'. omega (arith, at u (omega (arith, h)) (omega (arith, h')))) (omega (arith, within)) in
    ap (λ i. get_or xs i false ∷ map (λ u. get_or xs (place u) false) (range_with_len (a + 1) k)) here ∙ ap (λ l. get_or xs d false ∷ l) rest
    ∙ ap (take (suc k)) (sym (drop_more xs d false (omega (arith, within))))
