-- Which leaves stand below which node of a chain, for senders and receivers alike.
use Rattle.std.proofs.Common.{◌≡◌, ℕ, zero, suc, ◌+◌, ◌*◌, ◌/◌, ◌%◌, ◌<◌, ◌≤◌, ◌==◌, Bool, true, false, ◌||◌, cond, List, [], ◌∷◌, ◌++◌, length, map, refl, sym, ap, ◌∙◌, inl, inr, arith, Some, slice_get}
use Rattle.std.specs.List.{range_with_len}
use Rattle.std.proofs.lemmas.Bool.{eqb-true, eq-eqb, cases_Bool, cases_eq, false≢true}
use Rattle.std.proofs.lemmas.List.{map-append, length-map}
use Rattle.std.proofs.lemmas.List.FromFn.{length-range_with_len}
use Rattle.pdh_shape.specs.declared.place.Path.{Path}
use Rattle.pdh_shape.specs.Frame.{FrameShape}
use Rattle.pdh_nesting.specs.Chains.{width}
use Rattle.pdh_line.proofs.LeafNumbers.{leaf-tributary, leaf-below, leaf-number}
use Rattle.pdh_events.specs.Chain.{child_path}
use Rattle.pdh_chain.proofs.Numbered.{found_at, one_more, below_node, earlier, apart}

-- What chains mean, by the frames of their levels, by the path of the top and by the number of the first leaf. A leaf has its
-- own number, and a node the leaves of its tributaries.
pub record Meanings (M : Type 0) : Type 0 where
  pub leaves : M → ℕ → Bool
  pub any : List M → ℕ → Bool
  pub of : List FrameShape → Path → ℕ → M
  pub none : (k : ℕ) → any [] k ≡ false
  pub more : (m : M) (ms : List M) (k : ℕ) → any (m ∷ ms) k ≡ (leaves m k || any ms k)
  pub leaf : (path : Path) (first k : ℕ) → leaves (of [] path first) k ≡ (k == first)
  pub node : (s : FrameShape) (below : List FrameShape) (path : Path) (first k : ℕ)
      → leaves (of (s ∷ below) path first) k ≡ any (map (λ j. of below (child_path path j) (first + j * width below)) (range_with_len 0 s.tribs)) k

module _ {M : Type 0} (c : Meanings M) where
  -- ---- a node's tributaries

  abbrev pub tributary : List FrameShape → Path → ℕ → ℕ → M
  tributary below path first j = c.of below (child_path path j) (first + j * width below)

  -- the first n
  abbrev pub tributaries : List FrameShape → Path → ℕ → ℕ → List M
  tributaries below path first n = map (tributary below path first) (range_with_len 0 n)

  -- one more is made
  pub one_more_below : {C : Type 0} (meaning : C → M) (below : List FrameShape) (path at : Path) (first n next : ℕ) (made : List C) (new : C) → map meaning made ≡ tributaries below path first n → at ≡ child_path path n
      → next ≡ first + n * width below → meaning new ≡ c.of below at next → map meaning (made ++ new ∷ []) ≡ tributaries below path first (n + 1)
  one_more_below meaning below path at first n next made new sofar here number is =
      map-append meaning made (new ∷ []) ∙ ap (λ ms. ms ++ meaning new ∷ []) sofar
      ∙ ap (λ m. tributaries below path first n ++ m ∷ []) (is ∙ ap (λ p. c.of below p next) here ∙ ap (c.of below (child_path path n)) number)
      ∙ sym (one_more (tributary below path first) n)

  pub count_below : {C : Type 0} (meaning : C → M) (below : List FrameShape) (path : Path) (first n : ℕ) (made : List C) → map meaning made ≡ tributaries below path first n → length made ≡ n
  count_below meaning below path first n made all =
      sym (length-map made meaning) ∙ ap length all ∙ length-map (range_with_len 0 n) (tributary below path first) ∙ length-range_with_len 0 n

  -- ---- the leaves

  any-some : (f : ℕ → M) (a n k : ℕ) → c.any (map f (range_with_len a n)) k ≡ true → (j : ℕ) × (a ≤ j) × (j < a + n) × (c.leaves (f j) k ≡ true)
  any-some f a zero k is = absurd (false≢true (sym (c.none k) ∙ is))
  any-some f a (suc n) k is =
      let rest : List M = map f (range_with_len (a + 1) n) in
      elim (cases_Bool (c.leaves (f a) k)) [
        | inl here ↦ (a, omega arith, omega arith, here)
        | inr other ↦
            let later = any-some f (a + 1) n k (ap (λ b. b || c.any rest k) (sym other) ∙ sym (c.more (f a) rest k) ∙ is) in
            (later.0, omega (arith, later.1), omega (arith, later.2), later.3)
      ]

  any-here : (f : ℕ → M) (a n j k : ℕ) → a ≤ j → j < a + n → c.leaves (f j) k ≡ true → c.any (map f (range_with_len a n)) k ≡ true
  any-here f a zero j k l h is = absurd (omega arith)
  any-here f a (suc n) j k l h is =
      let rest : List M = map f (range_with_len (a + 1) n) in
      c.more (f a) rest k
      ∙ elim (cases_eq a j) [
        | inl same ↦ ap (λ b. b || c.any rest k) (ap (λ i. c.leaves (f i) k) same ∙ is)
        | inr other ↦ either (c.leaves (f a) k) (any-here f (a + 1) n j k (omega arith) (omega arith) is)
      ]
    where
      either : (b : Bool) {d : Bool} → d ≡ true → (b || d) ≡ true
      either true h = refl
      either false h = h

  -- the leaves of a chain are those from its first number on,
  pub leaf_within : (shapes : List FrameShape) (path : Path) (first k : ℕ) → c.leaves (c.of shapes path first) k ≡ true → (first ≤ k) × (k < first + width shapes)
  leaf_within [] path first k is = let same : k ≡ first = eqb-true k first (sym (c.leaf path first k) ∙ is) in (omega arith, omega arith)
  leaf_within (s ∷ below) path first k is =
      let some = any-some (tributary below path first) 0 s.tribs k (sym (c.node s below path first k) ∙ is) in
      let j : ℕ = some.0 in
      let there = leaf_within below (child_path path j) (first + j * width below) k some.3 in
      (omega (arith, there.0), omega (arith, there.1, below_node first (width below) s.tribs j (omega (arith, some.2))))

  -- as many as are below its top
  pub leaf_known : (shapes : List FrameShape) (path : Path) (first k : ℕ) → k < width shapes → c.leaves (c.of shapes path first) (first + k) ≡ true
  leaf_known [] path first k h = c.leaf path first (first + k) ∙ eq-eqb (first + k) first (omega arith)
  leaf_known (s ∷ below) path first k h =
      let w : ℕ = width below in
      let j : ℕ = k / w in
      let number : first + j * w + k % w ≡ first + k = leaf-number first w k in
      c.node s below path first (first + k)
      ∙ any-here (tributary below path first) 0 s.tribs j (first + k) (omega arith) (omega (arith, leaf-tributary s.tribs w k h))
      (ap (c.leaves (tributary below path first j)) (sym number) ∙ leaf_known below (child_path path j) (first + j * w) (k % w) (leaf-below s.tribs w k h))

  pub leaf_in : (shapes : List FrameShape) (path : Path) (k : ℕ) → c.leaves (c.of shapes path 0) k ≡ true → k < width shapes
  leaf_in shapes path k is = omega (arith, (leaf_within shapes path 0 k is).1)

  pub leaf_out : (shapes : List FrameShape) (path : Path) (k : ℕ) → width shapes ≤ k → c.leaves (c.of shapes path 0) k ≡ false
  leaf_out shapes path k other = elim (cases_Bool (c.leaves (c.of shapes path 0) k)) [
    | inl is ↦ absurd (omega (arith, other, leaf_in shapes path k is))
    | inr none ↦ none
  ]

  -- no leaf is below two tributaries
  pub disjoint : (below : List FrameShape) (path : Path) (first n i j k : ℕ) (a b : M) → slice_get (tributaries below path first n) i ≡ Some a → slice_get (tributaries below path first n) j ≡ Some b → c.leaves a k ≡ true → c.leaves b k ≡ true → i ≡ j
  disjoint below path first n i j k a b at at' is is' =
      let f : ℕ → M = tributary below path first in
      let here : a ≡ f i = (found_at f 0 n i a at).1 ∙ ap f (omega arith) in
      let there : b ≡ f j = (found_at f 0 n j b at').1 ∙ ap f (omega arith) in
      let one = leaf_within below (child_path path i) (first + i * width below) k (sym (ap (λ m. c.leaves m k) here) ∙ is) in
      let other = leaf_within below (child_path path j) (first + j * width below) k (sym (ap (λ m. c.leaves m k) there) ∙ is') in
      apart first (width below) i j k one.0 one.1 other.0 other.1

  -- ---- what is told of a leaf by the tributary that has it

  module _ {X V : Type 0} (k : ℕ) (one : M → X → V) (told : List M → (ℕ → X) → V) (step : (m : M) (ms : List M) (g : ℕ → X) → told (m ∷ ms) g ≡ cond (c.leaves m k) (one m (g 0)) (told ms (λ j. g (suc j)))) where
    told-at : (f : ℕ → M) (a n i : ℕ) (g : ℕ → X) → i < n → ((j : ℕ) → j < i → c.leaves (f (a + j)) k ≡ false) → c.leaves (f (a + i)) k ≡ true → told (map f (range_with_len a n)) g ≡ one (f (a + i)) (g i)
    told-at f a zero i g h others is = absurd (omega arith)
    told-at f a (suc n) zero g h others is =
        let here : a ≡ a + 0 = omega arith in
        let rest : List M = map f (range_with_len (a + 1) n) in
        step (f a) rest g ∙ ap (λ b. cond b (one (f a) (g 0)) (told rest (λ j. g (suc j)))) (ap (λ i. c.leaves (f i) k) here ∙ is) ∙ ap (λ i. one (f i) (g 0)) here
    told-at f a (suc n) (suc i) g h others is =
        let here : a ≡ a + 0 = omega arith in
        let next : (j : ℕ) → a + 1 + j ≡ a + suc j = λ j. omega arith in
        let rest : List M = map f (range_with_len (a + 1) n) in
        step (f a) rest g ∙ ap (λ b. cond b (one (f a) (g 0)) (told rest (λ j. g (suc j)))) (ap (λ i. c.leaves (f i) k) here ∙ others 0 (omega arith))
        ∙ told-at f (a + 1) n i (λ j. g (suc j)) (omega arith) (λ j l. ap (λ i. c.leaves (f i) k) (next j) ∙ others (suc j) (omega arith)) (ap (λ i. c.leaves (f i) k) (next i) ∙ is)
        ∙ ap (λ m. one (f m) (g (suc i))) (next i)

    -- a leaf of a tributary isn't one of an earlier one
    not_earlier : (below : List FrameShape) (path : Path) (first i j : ℕ) → i < j → first + j * width below ≤ k → c.leaves (tributary below path first i) k ≡ false
    not_earlier below path first i j less from = elim (cases_Bool (c.leaves (tributary below path first i) k)) [
      | inl is ↦ absurd (omega (arith, from, (leaf_within below (child_path path i) (first + i * width below) k is).1, earlier first (width below) i j less))
      | inr none ↦ none
    ]

    pub told_below : (tribs : ℕ) (below : List FrameShape) (path : Path) (first j r : ℕ) (g : ℕ → X) → j < tribs → r < width below → first + j * width below + r ≡ k → told (tributaries below path first tribs) g ≡ one (tributary below path first j) (g j)
    told_below tribs below path first j r g known low number =
        let f : ℕ → M = tributary below path first in
        let here : 0 + j ≡ j = omega arith in
        told-at f 0 tribs j g known (λ i l. not_earlier below path first (0 + i) j (omega arith) (omega (arith, number)))
        (ap (λ i. c.leaves (f i) k) here ∙ ap (c.leaves (f j)) (sym number) ∙ leaf_known below (child_path path j) (first + j * width below) r low)
        ∙ ap (λ i. one (f i) (g j)) here
