-- Tributaries that take bits of their children, one after another.
use Rattle.std.proofs.Common.{◌≡◌, ◌⊎◌, inl, inr, ℕ, zero, suc, ◌+◌, ◌<◌, ◌≤◌, Bool, true, false, ◌||◌, List, [], ◌∷◌, ◌++◌, length, map, cond, refl, sym, ap, ◌∙◌, subst, arith, Option, Some, None, slice_get, slice_set, eq-eqb, append_assoc, length-append}
use Rattle.std.proofs.lemmas.List.{get_or_append_left, get_or-append-add}
use Rattle.std.proofs.lemmas.Bool.{cases_Bool, ne_eqb}
use Rattle.std.proofs.lemmas.Option.{slice_get-map}
use Rattle.pdh_edge.specs.Ports.{Inputs, Takes, before, nothing}
use Rattle.pdh_tx.specs.declared.tx.TxStop.{TxStop}
use Rattle.pdh_tx.specs.Meaning.{Meaning, Plan, Supply, Fits, Agrees}
use Rattle.pdh_tx.specs.Held.{Gains, Halts}
use Rattle.pdh_tx.specs.Node.{any_leaf, given_by, IsDisjoint, Moves, Stays, AllFit, set_at}

-- ---- leaves and what they gave

none_there : {X : Type 0} (j : ℕ) {m : X} → slice_get {X = X} [] j ≡ Some m → ⊥
none_there j h = cc

some_same : {X : Type 0} {a b : X} → Some a ≡ Some b → a ≡ b
some_same h = cc

differ : false ≡ true → ⊥
differ h = cc

pub leaf_of : (ms : List Meaning) (t k : ℕ) (m : Meaning) → slice_get ms t ≡ Some m → m.leaves k ≡ true → any_leaf ms k ≡ true
leaf_of [] t k m at leaf = absurd (none_there t at)
leaf_of (y ∷ ms) zero k m at leaf =
    let same : y ≡ m = some_same at in
    let here : y.leaves k ≡ true = ap (λ v. v.leaves k) same ∙ leaf in
    ap (λ b. b || any_leaf ms k) here
leaf_of (y ∷ ms) (suc t) k m at leaf = rw (leaf_of ms t k m at leaf) (go (y.leaves k))
  where
    go : (b : Bool) → (b || true) ≡ true
    go true = refl
    go false = refl

pub not_leaf : (ms : List Meaning) (t k : ℕ) (m : Meaning) → slice_get ms t ≡ Some m → any_leaf ms k ≡ false → m.leaves k ≡ false
not_leaf ms t k m at none = elim (cases_Bool (m.leaves k)) [
  | inl leaf ↦ absurd (differ (sym none ∙ leaf_of ms t k m at leaf))
  | inr other ↦ other
]

pub given_at : (ms : List Meaning) (plan : Plan) (made : ℕ → ℕ) (t k : ℕ) (m : Meaning) → IsDisjoint ms → slice_get ms t ≡ Some m → m.leaves k ≡ true → given_by ms plan made k ≡ m.given plan (made t) k
given_at [] plan made t k m dis at leaf = absurd (none_there t at)
given_at (y ∷ ms) plan made zero k m dis at leaf =
    let same : y ≡ m = some_same at in
    let here : y.leaves k ≡ true = ap (λ v. v.leaves k) same ∙ leaf in
    ap (λ b. cond b (y.given plan (made 0) k) (given_by ms plan (λ j. made (suc j)) k)) here ∙ ap (λ v. v.given plan (made 0) k) same
given_at (y ∷ ms) plan made (suc t) k m dis at leaf = elim (cases_Bool (y.leaves k)) [
  | inl here ↦ let z : 0 ≡ suc t = dis 0 (suc t) k y m refl at here leaf in absurd (omega arith)
  | inr other ↦
      ap (λ b. cond b (y.given plan (made 0) k) (given_by ms plan (λ j. made (suc j)) k)) other
      ∙ given_at ms plan (λ j. made (suc j)) t k m (λ i j l a b ea eb ha hb. let z : suc i ≡ suc j = dis (suc i) (suc j) l a b ea eb ha hb in omega arith) at leaf
]

-- two counts that are related for each child that has the leaf
pub given_same : (ms : List Meaning) (plan : Plan) (made made' : ℕ → ℕ) (k : ℕ) → ((j : ℕ) (m : Meaning) → slice_get ms j ≡ Some m → m.leaves k ≡ true → m.given plan (made j) k ≡ m.given plan (made' j) k)
    → given_by ms plan made k ≡ given_by ms plan made' k
given_same [] plan made made' k h = refl
given_same (y ∷ ms) plan made made' k h =
    let rest = given_same ms plan (λ j. made (suc j)) (λ j. made' (suc j)) k (λ j m at leaf. h (suc j) m at leaf) in
    go (y.leaves k) (λ leaf. h 0 y refl leaf) rest
  where
    go : (b : Bool) → (b ≡ true → y.given plan (made 0) k ≡ y.given plan (made' 0) k) → given_by ms plan (λ j. made (suc j)) k ≡ given_by ms plan (λ j. made' (suc j)) k
        → cond b (y.given plan (made 0) k) (given_by ms plan (λ j. made (suc j)) k) ≡ cond b (y.given plan (made' 0) k) (given_by ms plan (λ j. made' (suc j)) k)
    go true f r = f refl
    go false f r = r

pub given_less : (ms : List Meaning) (plan : Plan) (made made' : ℕ → ℕ) (k : ℕ) → ((j : ℕ) (m : Meaning) → slice_get ms j ≡ Some m → m.given plan (made j) k ≤ m.given plan (made' j) k)
    → given_by ms plan made k ≤ given_by ms plan made' k
given_less [] plan made made' k h = omega arith
given_less (y ∷ ms) plan made made' k h =
    let rest = given_less ms plan (λ j. made (suc j)) (λ j. made' (suc j)) k (λ j m at. h (suc j) m at) in
    go (y.leaves k) (h 0 y refl) rest
  where
    go : (b : Bool) → y.given plan (made 0) k ≤ y.given plan (made' 0) k → given_by ms plan (λ j. made (suc j)) k ≤ given_by ms plan (λ j. made' (suc j)) k
        → cond b (y.given plan (made 0) k) (given_by ms plan (λ j. made (suc j)) k) ≤ cond b (y.given plan (made' 0) k) (given_by ms plan (λ j. made' (suc j)) k)
    go true f r = f
    go false f r = r

pub set_here : {X : Type 0} (made : ℕ → X) (t : ℕ) (x : X) → set_at made t x t ≡ x
set_here made t x = ap (λ b. cond b x (made t)) (eq-eqb t t refl)

pub set_other : {X : Type 0} (made : ℕ → X) (t : ℕ) (x : X) (j : ℕ) → (j ≡ t → ⊥) → set_at made t x j ≡ made j
set_other made t x j ne = ap (λ b. cond b x (made j)) (ne_eqb j t ne)

-- ---- lists of bits

-- the bits that two calls took
pub takes_join : (g h : ℕ → List Bool) (a b c : Inputs) → Takes g a b → Takes h b c → Takes (λ k. g k ++ h k) a c
takes_join g h a b c first second = record {
  counts = λ k. (let p = first.counts k in let q = second.counts k in let l = length-append (g k) (h k) in omega arith);
  bits = λ k. first.bits k ∙ ap (before (g k)) (second.bits k) ∙ both (g k) (h k) (c.told k);
}
  where
    both : (g h : List Bool) (o : Option (List Bool)) → before g (before h o) ≡ before (g ++ h) o
    both g h None = refl
    both g h (Some l) = ap Some (sym (append_assoc g h l))

pub takes_none : (a : Inputs) → Takes nothing a a
takes_none a = record { counts = λ k. omega arith; bits = λ k. same (a.told k) }
  where
    same : (o : Option (List Bool)) → o ≡ before [] o
    same None = refl
    same (Some l) = refl

pub agrees_left : (leaves : ℕ → Bool) (lists : ℕ → ℕ → Bool) (from : ℕ → ℕ) (g h : ℕ → List Bool) → Agrees leaves lists from (λ k. g k ++ h k) → Agrees leaves lists from g
agrees_left leaves lists from g h all k leaf i l =
    sym (get_or_append_left (g k) (h k) false i l) ∙ all k leaf i (let e = length-append (g k) (h k) in omega arith)

pub agrees_right : (leaves : ℕ → Bool) (lists : ℕ → ℕ → Bool) (from from' : ℕ → ℕ) (g h : ℕ → List Bool) → ((k : ℕ) → leaves k ≡ true → from k + length (g k) ≡ from' k) → Agrees leaves lists from (λ k. g k ++ h k) → Agrees leaves lists from' h
agrees_right leaves lists from from' g h next all k leaf i l =
    let e : from k + (length (g k) + i) ≡ from' k + i = (let n = next k leaf in omega arith) in
    sym (get_or-append-add (g k) (h k) i false) ∙ all k leaf (length (g k) + i) (let e = length-append (g k) (h k) in omega arith) ∙ ap (lists k) e

-- ---- what lies at j after a write at i
pub slice_get_set : {C : Type 0} (xs : List C) (i j : ℕ) (y c : C) → slice_get (slice_set xs i y) j ≡ Some c → ((j ≡ i) × (y ≡ c)) ⊎ ((j ≡ i → ⊥) × (slice_get xs j ≡ Some c))
slice_get_set [] i j y c e = absurd (none_there j e)
slice_get_set (x ∷ xs) zero zero y c e = inl (refl, cc)
slice_get_set (x ∷ xs) zero (suc j) y c e = inr ((λ h. omega arith), e)
slice_get_set (x ∷ xs) (suc i) zero y c e = inr ((λ h. omega arith), e)
slice_get_set (x ∷ xs) (suc i) (suc j) y c e = elim (slice_get_set xs i j y c e) [
  | inl p ↦ inl (ap suc p.0, p.1)
  | inr p ↦ inr ((λ h. p.0 (omega arith)), p.1)
]

pub inside : {X : Type 0} (xs : List X) (j : ℕ) (x : X) → slice_get xs j ≡ Some x → j < length xs
inside [] j x e = absurd (none_there j e)
inside (y ∷ xs) zero x e = omega arith
inside (y ∷ xs) (suc j) x e = let r = inside xs j x e in omega arith

-- a fact of each, where one is another now
pub each_set : {W X : Type 0} (P : ℕ → W → X → Type 0) (old : List W) (i : ℕ) (w' : W) (f : ℕ → X) (x : X) → ((j : ℕ) (w : W) → slice_get old j ≡ Some w → P j w (f j)) → P i w' x
    → (j : ℕ) (w : W) → slice_get (slice_set old i w') j ≡ Some w → P j w (set_at f i x j)
each_set {W = W} {X = X} P old i w' f x each now j w e = elim (slice_get_set old i j w' w e) [
  | inl p ↦
      let Q : ℕ → Type 0 = λ v. P v w' (set_at f i x v) in
      let R : W → Type 0 = λ v. P j v (set_at f i x j) in
      let N : X → Type 0 = λ n. P i w' n in
      subst R p.1 (subst Q (sym p.0) (subst N (sym (set_here f i x)) now))
  | inr p ↦ let N : X → Type 0 = λ n. P j w n in subst N (sym (set_other f i x j p.0)) (each j w p.1)
]

-- ---- one tributary among all, and one call after another

module _ {W R : Type 0} (held : W → Supply → ℕ → R → Type 0) (meaning : W → Meaning) (plan : Plan) where
  pub moves_none : (ms : List Meaning) (ws : List W) (made : ℕ → ℕ) (read : ℕ → R) (a : Inputs) → Moves held ms plan ws ws made made read read a a
  moves_none ms ws made read a = record {
    given = nothing;
    takes = takes_none a;
    others = λ k h. refl;
    exact = λ k h. omega arith;
    onward = λ supply is each agrees. each;
  }

  pub moves_one : (old : List W) (t : ℕ) (w w' : W) (x : ℕ) (y : R) (made : ℕ → ℕ) (read : ℕ → R) (a b : Inputs) → IsDisjoint (map meaning old) → slice_get old t ≡ Some w
      → Gains (meaning w) plan (held w) (held w') (made t) x (read t) y a b
      → Moves held (map meaning old) plan old (slice_set old t w') made (set_at made t x) read (set_at read t y) a b
  moves_one old t w w' x y made read a b dis at gains =
      let ms : List Meaning = map meaning old in
      let m : Meaning = meaning w in
      let maker : slice_get ms t ≡ Some m = slice_get-map meaning old t ∙ rw at refl in
      record {
        given = gains.given;
        takes = gains.takes;
        others = λ k h. gains.others k (not_leaf ms t k m maker h);
        exact = λ k h. elim (cases_Bool (m.leaves k)) [
          | inl leaf ↦
              let before' : given_by ms plan made k ≡ m.given plan (made t) k = given_at ms plan made t k m dis maker leaf in
              let after' : given_by ms plan (set_at made t x) k ≡ m.given plan x k = given_at ms plan (set_at made t x) t k m dis maker leaf ∙ ap (λ v. m.given plan v k) (set_here made t x) in
              let e = gains.exact k leaf in
              omega arith
          | inr other ↦
              let none : length (gains.given k) ≡ 0 = ap length (gains.others k other) in
              let same : given_by ms plan made k ≡ given_by ms plan (set_at made t x) k = given_same ms plan made (set_at made t x) k
              (λ j n at' leaf. ap (λ v. n.given plan v k) (sym (set_other made t x j (λ jt. differ (sym other ∙ ap (λ v. v.leaves k) (some_same (sym maker ∙ ap (slice_get ms) (sym jt) ∙ at')) ∙ leaf))))) in
              omega arith
        ];
        onward = λ supply is each agrees j c e. elim (slice_get_set old t j w' c e) [
          | inl p ↦
              let P : ℕ → Type 0 = λ v. held w' supply v y in
              let L : R → Type 0 = λ r. held w' supply (set_at made t x t) r in
              let now : held w' supply x y = gains.onward supply is (each t w at)
              (λ k leaf i h. agrees k (leaf_of ms t k m maker leaf) i h ∙ ap (λ v. supply.lists k (v + i)) (given_at ms plan made t k m dis maker leaf)) in
              let Q : ℕ → Type 0 = λ v. held w' supply (set_at made t x v) (set_at read t y v) in
              let M : W → Type 0 = λ v. held v supply (set_at made t x j) (set_at read t y j) in
              subst M p.1 (subst Q (sym p.0) (subst L (sym (set_here read t y)) (subst P (sym (set_here made t x)) now)))
          | inr p ↦
              let P : ℕ → Type 0 = λ v. held c supply v (read j) in
              let L : R → Type 0 = λ r. held c supply (set_at made t x j) r in
              subst L (sym (set_other read t y j p.0)) (subst P (sym (set_other made t x j p.0)) (each j c p.1))
        ];
      }

  pub moves_join : (ms : List Meaning) (u v w : List W) (x y z : ℕ → ℕ) (p q r : ℕ → R) (a b c : Inputs) → Moves held ms plan u v x y p q a b → Moves held ms plan v w y z q r b c → Moves held ms plan u w x z p r a c
  moves_join ms u v w x y z p q r a b c first second = record {
    given = λ k. first.given k ++ second.given k;
    takes = takes_join first.given second.given a b c first.takes second.takes;
    others = λ k h. ap (λ l. l ++ second.given k) (first.others k h) ∙ second.others k h;
    exact = λ k h. (let d = first.exact k h in let e = second.exact k h in let l = length-append (first.given k) (second.given k) in omega arith);
    onward = λ supply is each agrees.
        second.onward supply is (first.onward supply is each (agrees_left (any_leaf ms) supply.lists (given_by ms plan x) first.given second.given agrees))
        (agrees_right (any_leaf ms) supply.lists (given_by ms plan x) (given_by ms plan y) first.given second.given first.exact agrees);
  }

  -- counts of bits made, and what was read, that are the same for each child
  pub moves_to : (ms : List Meaning) (u v : List W) (x y z : ℕ → ℕ) (p q r : ℕ → R) (a b : Inputs) → length ms ≡ length v → ((j : ℕ) → j < length ms → y j ≡ z j) → ((j : ℕ) → j < length ms → q j ≡ r j)
      → Moves held ms plan u v x y p q a b → Moves held ms plan u v x z p r a b
  moves_to ms u v x y z p q r a b long same alike moves = record {
    given = moves.given;
    takes = moves.takes;
    others = moves.others;
    exact = λ k h. moves.exact k h ∙ given_same ms plan y z k (λ j m at leaf. ap (λ n. m.given plan n k) (same j (inside ms j m at)));
    onward = λ supply is each agrees j c e.
        let known : j < length ms = (let l = inside v j c e in omega arith) in
        let P : ℕ → Type 0 = λ n. held c supply n (q j) in
        let L : R → Type 0 = λ l. held c supply (z j) l in
        subst L (alike j known) (subst P (same j known) (moves.onward supply is each agrees j c e));
  }

  -- the lists still hold so many bits in all
  pub moves_fit : (ms : List Meaning) (u v : List W) (x y : ℕ → ℕ) (p q : ℕ → R) (a b : Inputs) (size : ℕ → ℕ) → Moves held ms plan u v x y p q a b → AllFit ms plan x a size → AllFit ms plan y b size
  moves_fit ms u v x y p q a b size moves fit k h = (let s = fit k h in let t = moves.takes.counts k in let e = moves.exact k h in omega arith)

  pub fit_one : (ms : List Meaning) (t : ℕ) (m : Meaning) (x : ℕ → ℕ) (a : Inputs) (size : ℕ → ℕ) → IsDisjoint ms → slice_get ms t ≡ Some m → AllFit ms plan x a size → Fits m plan (x t) a size
  fit_one ms t m x a size dis at fit k leaf = fit k (leaf_of ms t k m at leaf) ∙ ap (λ n. n + a.left k) (given_at ms plan x t k m dis at leaf)

  -- one tributary stopped
  pub stays_one : (ms : List Meaning) (t : ℕ) (m : Meaning) (made most : ℕ → ℕ) (stop : TxStop) (a b : Inputs) → IsDisjoint ms → slice_get ms t ≡ Some m → ((k : ℕ) → any_leaf ms k ≡ true → given_by ms plan made k ≤ given_by ms plan most k)
      → Halts m plan (made t) (most t) stop a b → Stays ms plan made most stop a b
  stays_one ms t m made most stop a b dis at grows halts = record {
    given = halts.given;
    takes = halts.takes;
    others = λ k h. halts.others k (not_leaf ms t k m at h);
    no_more = λ k h. elim (cases_Bool (m.leaves k)) [
      | inl leaf ↦ (let p = halts.no_more k leaf in let q = given_at ms plan made t k m dis at leaf in let r = given_at ms plan most t k m dis at leaf in omega arith)
      | inr other ↦ (let none : length (halts.given k) ≡ 0 = ap length (halts.others k other) in let g = grows k h in omega arith)
    ];
    used_up = halts.used_up;
  }

  pub stays_join : (ms : List Meaning) (u v : List W) (x y most : ℕ → ℕ) (p q : ℕ → R) (stop : TxStop) (a b c : Inputs) → Moves held ms plan u v x y p q a b → Stays ms plan y most stop b c → Stays ms plan x most stop a c
  stays_join ms u v x y most p q stop a b c first second = record {
    given = λ k. first.given k ++ second.given k;
    takes = takes_join first.given second.given a b c first.takes second.takes;
    others = λ k h. ap (λ l. l ++ second.given k) (first.others k h) ∙ second.others k h;
    no_more = λ k h. (let d = first.exact k h in let e = second.no_more k h in let l = length-append (first.given k) (second.given k) in omega arith);
    used_up = second.used_up;
  }
