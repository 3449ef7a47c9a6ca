-- Four desynchronisers below a demultiplexer: no leaf is below two of them, and each stands at its place.
use Rattle.std.proofs.Common.{◌≡◌, ◌⊎◌, inl, inr, ℕ, zero, suc, ◌+◌, ◌*◌, ◌<◌, ◌≤◌, Bool, true, false, IsTrue, ◌||◌, [], ◌∷◌, map, slice_get, Some, refl, sym, ap, subst, ◌∙◌, arith}
use Rattle.std.proofs.lemmas.Bool.{false≢true}
use Rattle.std.proofs.lemmas.Option.{same_Some}
use Rattle.pdh_line.specs.Paths.{steps_of}
use Rattle.pdh_rx.specs.Meaning.{Meaning}
use Rattle.pdh_rx.specs.Node.{any_leaf, IsDisjoint, ArePlaced}
use Rattle.pdh_eframes.specs.Plans.{e2}
use Rattle.pdh_desync.specs.Smooth.{is_from, smooth_meaning}
use Rattle.pdh_desync.proofs.FarGiving.{is_from-below}
use Rattle.pdh_tests_of_desync.specs.FourSmooth.{smooth_at, four_smooth}

none_behind : {C : Type 0} (j : ℕ) (x : C) → slice_get [] j ≡ Some x → ⊥
none_behind j x e = cc

-- what holds of each of four holds of each that a list of them has
each_of_four : {C : Type 0} (P : ℕ → C → Type 0) (a b c d : C) → P 0 a → P 1 b → P 2 c → P 3 d → (j : ℕ) (x : C) → slice_get (a ∷ b ∷ c ∷ d ∷ []) j ≡ Some x → P j x
each_of_four P a b c d p q r s zero x e = subst (P 0) (same_Some a x e) p
each_of_four P a b c d p q r s (suc zero) x e = subst (P 1) (same_Some b x e) q
each_of_four P a b c d p q r s (suc (suc zero)) x e = subst (P 2) (same_Some c x e) r
each_of_four P a b c d p q r s (suc (suc (suc zero))) x e = subst (P 3) (same_Some d x e) s
each_of_four P a b c d p q r s (suc (suc (suc (suc j)))) x e = absurd (none_behind j x e)

-- what a list of four has is one of them
pub which_node : {C : Type 0} (a b c d x : C) (j : ℕ) → slice_get (a ∷ b ∷ c ∷ d ∷ []) j ≡ Some x → (x ≡ a) ⊎ ((x ≡ b) ⊎ ((x ≡ c) ⊎ (x ≡ d)))
which_node a b c d x j is = each_of_four (λ j y. (y ≡ a) ⊎ ((y ≡ b) ⊎ ((y ≡ c) ⊎ (y ≡ d)))) a b c d (inl refl) (inr (inl refl)) (inr (inr (inl refl))) (inr (inr (inr refl))) j x is

-- each is the one of its number
which : (j : ℕ) (m : Meaning) → slice_get four_smooth j ≡ Some m → (j < 4) × (smooth_at j ≡ m)
which = each_of_four (λ j m. (j < 4) × (smooth_at j ≡ m)) (smooth_at 0) (smooth_at 1) (smooth_at 2) (smooth_at 3) (omega arith, refl) (omega arith, refl) (omega arith, refl) (omega arith, refl)

either : (a b : Bool) → (a || b) ≡ true → (a ≡ true) ⊎ (b ≡ true)
either true b is = inl refl
either false b is = inr is

-- a leaf of one of them
leaf_of : (n k : ℕ) → (smooth_at n).leaves k ≡ true → ((4 * n ≤ k) × (k < 4 * n + 4)) ⊎ ((4 * n + 16 ≤ k) × (k < 4 * n + 16 + 4))
leaf_of n k is = elim (either (is_from (4 * n) 4 k) (is_from (4 * n + 16) 4 k) is) [
  | inl first ↦ inl (is_from-below (4 * n) 4 k first).1
  | inr mark ↦ inr (is_from-below (4 * n + 16) 4 k mark).1
]

apart : (n m k : ℕ) → n < 4 → m < 4 → (smooth_at n).leaves k ≡ true → (smooth_at m).leaves k ≡ true → n ≡ m
apart n m k few few' one other = elim (leaf_of n k one) [
  | inl a ↦ elim (leaf_of m k other) [
    | inl b ↦ omega (arith, a.0, a.1, b.0, b.1)
    | inr b ↦ omega (arith, few, a.1, b.0)
  ]
  | inr a ↦ elim (leaf_of m k other) [
    | inl b ↦ omega (arith, few', a.0, b.1)
    | inr b ↦ omega (arith, a.0, a.1, b.0, b.1)
  ]
]

pub four_disjoint : IsDisjoint four_smooth
four_disjoint i j k a b ea eb ha hb =
    let first = which i a ea in
    let second = which j b eb in
    apart i j k first.0 second.0 (ap (λ (m : Meaning). m.leaves k) first.1 ∙ ha) (ap (λ (m : Meaning). m.leaves k) second.1 ∙ hb)

pub four_placed : ArePlaced (record { depth = 0; first = 0; second = 0 }) four_smooth
four_placed j m node at is =
    let own = which j m at in
    let here : record { depth = 1; first = j + 1; second = 0 } ≡ node = same_Some _ node (ap (λ (m : Meaning). m.path) own.1 ∙ is) in
    sym (ap steps_of here)

-- a leaf below them is one of the numbers
pub leaf_below : (k : ℕ) → any_leaf four_smooth k ≡ true → k < 32
leaf_below k is = elim (either ((smooth_at 0).leaves k) (any_leaf (map smooth_at (1 ∷ 2 ∷ 3 ∷ [])) k) is) [
  | inl a ↦ bound 0 (omega arith) a
  | inr one ↦ elim (either ((smooth_at 1).leaves k) (any_leaf (map smooth_at (2 ∷ 3 ∷ [])) k) one) [
    | inl b ↦ bound 1 (omega arith) b
    | inr two ↦ elim (either ((smooth_at 2).leaves k) (any_leaf (map smooth_at (3 ∷ [])) k) two) [
      | inl c ↦ bound 2 (omega arith) c
      | inr three ↦ elim (either ((smooth_at 3).leaves k) false three) [
        | inl d ↦ bound 3 (omega arith) d
        | inr none ↦ absurd (false≢true none)
      ]
    ]
  ]
]
  where
    bound : (n : ℕ) → n < 4 → (smooth_at n).leaves k ≡ true → k < 32
    bound n few h = elim (leaf_of n k h) [
      | inl a ↦ omega (arith, few, a.1)
      | inr b ↦ omega (arith, few, b.1)
    ]

-- so where there is a list for each number, there is one for each leaf below them
pub lists_for_each : (leaves holds : ℕ → Bool) → leaves ≡ any_leaf four_smooth → ((k : ℕ) → k < 32 → IsTrue (holds k)) → (k : ℕ) → IsTrue (leaves k) → IsTrue (holds k)
lists_for_each leaves holds are held k leaf = held k (leaf_below k (ap (λ of. of k) (sym are) ∙ leaf))

-- nor does one alone put to another leaf than these
one_below : (k : ℕ) → (smooth_meaning e2 (record { depth = 0; first = 0; second = 0 }) 0 4).leaves k ≡ true → k < 32
one_below k is = elim (either (is_from 0 4 k) (is_from 4 4 k) is) [
  | inl first ↦ (let bounds = (is_from-below 0 4 k first).1 in omega (arith, bounds.1))
  | inr mark ↦ (let bounds = (is_from-below 4 4 k mark).1 in omega (arith, bounds.1))
]

pub lists_for_one : (leaves holds : ℕ → Bool) → leaves ≡ (smooth_meaning e2 (record { depth = 0; first = 0; second = 0 }) 0 4).leaves → ((k : ℕ) → k < 32 → IsTrue (holds k)) → (k : ℕ) → IsTrue (leaves k) → IsTrue (holds k)
lists_for_one leaves holds are held k leaf = held k (one_below k (ap (λ of. of k) (sym are) ∙ leaf))
