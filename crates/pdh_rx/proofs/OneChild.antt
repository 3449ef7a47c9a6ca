-- Bits for one child: what all the children then stand for, what leaves have got, what is noted, and the room for the others' bits.
use Rattle.std.proofs.Common.{◌≡◌, ◌≤◌, ◌⊎◌, inl, inr, ℕ, zero, suc, Bool, true, false, IsTrue, ◌||◌, List, [], ◌∷◌, ◌++◌, cond, refl, sym, ◌∙◌, ap, subst, arith, length, map, get_or, Some, slice_get, slice_set, eq-eqb, ◌<◌, Result}
use Rattle.std.specs.Option.{option_map}
use Rattle.std.proofs.lemmas.Option.{slice_get_read, slice_get-map}
use Rattle.std.proofs.lemmas.List.{append-nil, length-map}
use Rattle.std.proofs.Math.Seq.{map-set_same}
use Rattle.std.proofs.lemmas.Bool.{cases_Bool, cases_eq, ne_eqb, false≢true}
use Rattle.pdh_edge.specs.Ports.{Outputs, for_leaf, HasCause}
use Rattle.pdh_rx.specs.Meaning.{Meaning, HoldsAll, IsSound, Gains, GainsPart}
use Rattle.pdh_events.specs.Acts.{with_more}
use Rattle.pdh_rx.specs.Node.{EachStands, IsDisjoint, AreChildren, AreReady, ChildFits, Keeps, any_leaf, got_by, child_notes}
use Rattle.pdh_rx.specs.laws.NodeLaws.{got_by_same}

none_there : {X : Type 0} (t : ℕ) (x : X) → slice_get [] t ≡ Some x → ⊥
none_there t x e = cc

-- what lies at j after a write at i
pub slice_get_set : {C : Type 0} (xs : List C) (i j : ℕ) (y c : C) → slice_get (slice_set xs i y) j ≡ Some c → ((j ≡ i) × (y ≡ c)) ⊎ ((j ≡ i → ⊥) × (slice_get xs j ≡ Some c))
slice_get_set [] i j y c e = absurd (none_there j c e)
slice_get_set (x ∷ xs) zero zero y c e = inl (refl, cc)
slice_get_set (x ∷ xs) zero (suc j) y c e = inr ((λ h. omega arith), e)
slice_get_set (x ∷ xs) (suc i) zero y c e = inr ((λ h. omega arith), e)
slice_get_set (x ∷ xs) (suc i) (suc j) y c e = elim (slice_get_set xs i j y c e) [
  | inl p ↦ inl (ap suc p.0, p.1)
  | inr p ↦ inr ((λ h. p.0 (omega arith)), p.1)
]

-- a line with more bits, and the others
for_leaf_here : (lines : ℕ → List Bool) (t : ℕ) (bits : List Bool) → with_more lines (for_leaf t bits) t ≡ lines t ++ bits
for_leaf_here lines t bits = ap (λ v. lines t ++ cond v bits []) (eq-eqb t t refl)

for_leaf_elsewhere : (lines : ℕ → List Bool) (t : ℕ) (bits : List Bool) (j : ℕ) → (j ≡ t → ⊥) → with_more lines (for_leaf t bits) j ≡ lines j
for_leaf_elsewhere lines t bits j ne = ap (λ v. lines j ++ cond v bits []) (ne_eqb j t ne) ∙ append-nil (lines j)

pub each_with_bits : {C : Type 0} (stands : C → List Bool → Type 0) (cs : List C) (lines : ℕ → List Bool) (t : ℕ) (bits : List Bool) (new : C) → EachStands stands cs lines → stands new (lines t ++ bits) → EachStands stands (slice_set cs t new) (with_more lines (for_leaf t bits))
each_with_bits {C = C} stands cs lines t bits new each at j c e = elim (slice_get_set cs t j new c e) [
  | inl p ↦
      let P : ℕ → Type 0 = λ v. stands c (with_more lines (for_leaf t bits) v) in
      let Q : List Bool → Type 0 = stands c in
      let N : C → Type 0 = λ v. stands v (lines t ++ bits) in
      subst P (sym p.0) (subst Q (sym (for_leaf_here lines t bits)) (subst N p.1 at))
  | inr p ↦ let Q : List Bool → Type 0 = stands c in subst Q (sym (for_leaf_elsewhere lines t bits j p.0)) (each j c p.1)
]

-- a child's leaf is a leaf of all
pub leaf_of_all : (ms : List Meaning) (t : ℕ) (m : Meaning) (k : ℕ) → slice_get ms t ≡ Some m → IsTrue (m.leaves k) → IsTrue (any_leaf ms k)
leaf_of_all [] t m k e h = absurd (none_there t m e)
leaf_of_all (x ∷ ms) zero m k e h =
    let same : m ≡ x = cc in
    let P : Meaning → Type 0 = λ v. IsTrue (v.leaves k) in
    left (x.leaves k) (any_leaf ms k) (subst P same h)
  where
    left : (a b : Bool) → IsTrue a → IsTrue (a || b)
    left true b h = h
    left false b h = absurd (false≢true h)
leaf_of_all (x ∷ ms) (suc t) m k e h = right (x.leaves k) (any_leaf ms k) (leaf_of_all ms t m k e h)
  where
    right : (a b : Bool) → IsTrue b → IsTrue (a || b)
    right true b h = refl
    right false b h = h

-- the child of a tributary, and what it receives, among all
pub record IsChildOf {C : Type 0} (meaning : C → Meaning) (cs : List C) (t : ℕ) (child : C) : Type 0 where
  pub here : slice_get cs t ≡ Some child
  pub known : slice_get (map meaning cs) t ≡ Some (meaning child)

pub child_of : {C : Type 0} (meaning : C → Meaning) (cs : List C) (tribs t : ℕ) (child : C) → AreChildren tribs (map meaning cs) → t < tribs → child ≡ get_or cs t child → IsChildOf meaning cs t child
child_of meaning cs tribs t child are below found =
    let inside : t < length cs = omega (arith, are.count, length-map cs meaning) in
    let here : slice_get cs t ≡ Some child = slice_get_read cs _ t child refl inside found in
    record { here = here; known = slice_get-map meaning cs t ∙ ap (option_map meaning) here }

-- it can take bits where all can
pub child_ready : {C : Type 0} (stands : C → List Bool → Type 0) (meaning : C → Meaning) (cs seen : List C) (t : ℕ) (child : C) (outputs : Outputs) → IsChildOf meaning cs t child → cs ≡ seen
    → AreReady stands meaning seen outputs → ((line : List Bool) × stands child line) × HoldsAll (meaning child).leaves outputs
child_ready {C = C} stands meaning cs seen t child outputs is same ready =
    let inside = subst (λ (list : List C). AreReady stands meaning list outputs) (sym same) ready in
    ((inside.lines t, inside.each t child is.here), λ k leaf. inside.lists k (leaf_of_all (map meaning cs) t (meaning child) k is.known leaf))

-- and a call after which it means the same leaves what all mean
pub child_same : {C : Type 0} (meaning : C → Meaning) (cs : List C) (t : ℕ) (child new : C) → meaning new ≡ meaning child → child ≡ get_or cs t child → map meaning (slice_set cs t new) ≡ map meaning cs
child_same meaning cs t child new same found = map-set_same meaning cs t new child (same ∙ ap meaning found)

pub still_children : {C : Type 0} (meaning : C → Meaning) (cs : List C) (tribs t : ℕ) (child new : C) → meaning new ≡ meaning child → child ≡ get_or cs t child → AreChildren tribs (map meaning cs)
    → AreChildren tribs (map meaning (slice_set cs t new))
still_children meaning cs tribs t child new same found are = subst (AreChildren tribs) (sym (child_same meaning cs t child new same found)) are

pub child_keeps : {C D T E : Type 0} (meaning : C → Meaning) (faults : D → ℕ) (drained : D → D → Type 0) (cs : List C) (t : ℕ) (child new : C) (before after : D) (result : Result T E) → meaning new ≡ meaning child → child ≡ get_or cs t child
    → drained before after → HasCause (faults before) (faults after) result → Keeps meaning faults drained cs (slice_set cs t new) before after result
child_keeps meaning faults drained cs t child new before after result same found drains cause =
    record { same = child_same meaning cs t child new same found; drains = drains; cause = cause }

-- what a bit for a child brings is what the child notes
pub child_notes_at : (ms : List Meaning) (j : ℕ) (m : Meaning) (line : List Bool) (bit : Bool) → slice_get ms j ≡ Some m → child_notes ms j line bit ≡ m.notes line bit
child_notes_at [] j m line bit e = absurd (no e)
  where
    no : slice_get {X = Meaning} [] j ≡ Some m → ⊥
    no h = cc
child_notes_at (x ∷ ms) zero m line bit e = let same : x ≡ m = cc in ap (λ v. v.notes line bit) same
child_notes_at (x ∷ ms) (suc j) m line bit e = child_notes_at ms j m line bit e

cond_step : (b : Bool) (x y x' y' more : List Bool) → (b ≡ true → x ≡ x' ++ more) → (b ≡ false → y ≡ y' ++ more) → cond b x y ≡ cond b x' y' ++ more
cond_step true x y x' y' more f g = f refl
cond_step false x y x' y' more f g = g refl

-- the children behind the first are apart too
disjoint_behind : (m : Meaning) (ms : List Meaning) → IsDisjoint (m ∷ ms) → IsDisjoint ms
disjoint_behind m ms dis i j k a b ea eb ha hb = let e : suc i ≡ suc j = dis (suc i) (suc j) k a b ea eb ha hb in omega arith

-- the lines behind the first
behind : (lines : ℕ → List Bool) (t : ℕ) (bits : List Bool) (j : ℕ) → with_more lines (for_leaf (suc t) bits) (suc j) ≡ with_more (λ i. lines (suc i)) (for_leaf t bits) j
behind lines t bits j = elim (cases_eq j t) [
  | inl e ↦ let P : ℕ → Type 0 = λ v. with_more lines (for_leaf (suc t) bits) (suc v) ≡ with_more (λ i. lines (suc i)) (for_leaf t bits) v in
      subst P (sym e) (for_leaf_here lines (suc t) bits ∙ sym (for_leaf_here (λ i. lines (suc i)) t bits))
  | inr ne ↦ for_leaf_elsewhere lines (suc t) bits (suc j) (λ h. ne (omega arith)) ∙ sym (for_leaf_elsewhere (λ i. lines (suc i)) t bits j ne)
]

-- more bits for one child
got_step : (ms : List Meaning) (lines : ℕ → List Bool) (t : ℕ) (bits : List Bool) (m : Meaning) → slice_get ms t ≡ Some m → IsDisjoint ms
    → (more : ℕ → List Bool) → ((k : ℕ) → m.leaves k ≡ false → more k ≡ [])
    → ((k : ℕ) → m.got (lines t ++ bits) k ≡ m.got (lines t) k ++ more k)
    → (k : ℕ) → got_by ms (with_more lines (for_leaf t bits)) k ≡ got_by ms lines k ++ more k
got_step [] lines t bits m e dis more elsewhere gained k = absurd (none_there t m e)
got_step (x ∷ ms) lines zero bits m e dis more elsewhere gained k =
    let same : m ≡ x = cc in
    let P : Meaning → Type 0 = λ v. v.leaves k ≡ false → more k ≡ [] in
    let Q : Meaning → Type 0 = λ v. v.got (lines 0 ++ bits) k ≡ v.got (lines 0) k ++ more k in
    let none : x.leaves k ≡ false → more k ≡ [] = subst P same (elsewhere k) in
    let here : x.got (lines 0 ++ bits) k ≡ x.got (lines 0) k ++ more k = subst Q same (gained k) in
    cond_step (x.leaves k) _ _ _ _ (more k)
    (λ h. ap (λ v. x.got v k) (for_leaf_here lines 0 bits) ∙ here)
    (λ h. got_by_same ms _ _ (λ j. for_leaf_elsewhere lines 0 bits (suc j) (λ z. omega arith)) k
    ∙ sym (append-nil _) ∙ ap (λ v. got_by ms (λ j. lines (suc j)) k ++ v) (sym (none h)))
got_step (x ∷ ms) lines (suc t) bits m e dis more elsewhere gained k =
    cond_step (x.leaves k) _ _ _ _ (more k)
    (λ h. ap (λ v. x.got v k) (for_leaf_elsewhere lines (suc t) bits 0 (λ z. omega arith)) ∙ sym (append-nil _) ∙ ap (λ v. x.got (lines 0) k ++ v) (sym (none h)))
    (λ h. got_by_same ms _ _ (behind lines t bits) k ∙ got_step ms (λ j. lines (suc j)) t bits m e (disjoint_behind x ms dis) more elsewhere gained k)
  where
    none : x.leaves k ≡ true → more k ≡ []
    none h = elim (cases_Bool (m.leaves k)) [
      | inl both ↦ let z : 0 ≡ suc t = dis 0 (suc t) k x m refl e h both in absurd (omega arith)
      | inr apart ↦ elsewhere k apart
    ]

-- the bits that came to no leaf of a meaning's are none
more_elsewhere : (m : Meaning) → IsSound m → (l l' : List Bool) (more : ℕ → List Bool) → ((k : ℕ) → m.got l' k ≡ m.got l k ++ more k) → (k : ℕ) → m.leaves k ≡ false → more k ≡ []
more_elsewhere m s l l' more h k e = sym (ap (λ v. v ++ more k) (s.elsewhere l k e)) ∙ sym (h k) ∙ s.elsewhere l' k e

-- what comes to a child's leaves comes to those of all
got_of_one : (ms : List Meaning) (lines : ℕ → List Bool) (t : ℕ) (bits : List Bool) (m : Meaning) → slice_get ms t ≡ Some m → IsDisjoint ms → IsSound m → (more : ℕ → List Bool)
    → ((k : ℕ) → m.got (lines t ++ bits) k ≡ m.got (lines t) k ++ more k) → (k : ℕ) → got_by ms (with_more lines (for_leaf t bits)) k ≡ got_by ms lines k ++ more k
got_of_one ms lines t bits m e dis s more gained = got_step ms lines t bits m e dis more (more_elsewhere m s _ _ more gained) gained

-- what a child's call did, as seen from all the children
pub gains_of_one : (ms : List Meaning) (lines : ℕ → List Bool) (t : ℕ) (bits : List Bool) (m : Meaning) → slice_get ms t ≡ Some m → IsDisjoint ms → IsSound m → (old new : Outputs)
    → Gains (m.got (lines t)) (m.got (lines t ++ bits)) old new → Gains (got_by ms lines) (got_by ms (with_more lines (for_leaf t bits))) old new
gains_of_one ms lines t bits m e dis s old new p = record { more = p.more; gained = got_of_one ms lines t bits m e dis s p.more p.gained; puts = p.puts }

pub part_of_one : (ms : List Meaning) (lines : ℕ → List Bool) (t : ℕ) (bits : List Bool) (m : Meaning) → slice_get ms t ≡ Some m → IsDisjoint ms → IsSound m → (old new : Outputs)
    → GainsPart (m.got (lines t)) (m.got (lines t ++ bits)) old new → GainsPart (got_by ms lines) (got_by ms (with_more lines (for_leaf t bits))) old new
part_of_one ms lines t bits m e dis s old new p = record { more = p.more; gained = got_of_one ms lines t bits m e dis s p.more p.gained; puts = p.puts }

-- there is as much room for the bits of another child as before, where only this one's leaves took room
pub fits_other : {C : Type 0} (meaning : C → Meaning) (fits : C → (ℕ → ℕ) → ℕ → Type 0) → ((m : C) (r r' : ℕ → ℕ) (n n' : ℕ) → ((k : ℕ) → (meaning m).leaves k ≡ true → r k ≡ r' k) → n' ≤ n → fits m r n → fits m r' n')
    → (xs : List C) (t j n : ℕ) (old new : C) (r r' : ℕ → ℕ) → slice_get xs t ≡ Some old → IsDisjoint (map meaning xs) → (j ≡ t → ⊥)
    → ((k : ℕ) → (meaning old).leaves k ≡ false → r' k ≡ r k) → ChildFits fits xs j r n → ChildFits fits (slice_set xs t new) j r' n
fits_other meaning fits by_room xs t j n old new r r' here dis ne others f c at = elim (slice_get_set xs t j new c at) [
  | inl p ↦ absurd (ne p.0)
  | inr p ↦ by_room c r r' n n (λ k mine. sym (others k (apart k p.1 mine))) (omega arith) (f c p.1)
]
  where
    apart : (k : ℕ) → slice_get xs j ≡ Some c → (meaning c).leaves k ≡ true → (meaning old).leaves k ≡ false
    apart k found mine = elim (cases_Bool ((meaning old).leaves k)) [
      | inl both ↦
          absurd (ne (dis j t k (meaning c) (meaning old) (slice_get-map meaning xs j ∙ ap (option_map meaning) found) (slice_get-map meaning xs t ∙ ap (option_map meaning) here) mine both))
      | inr away ↦ away
    ]
