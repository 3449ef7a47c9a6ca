-- Calls that follow each other in giving bits to the children.
use Rattle.std.proofs.Common.{suc, length, cond, arith, ◌≡◌, ℕ, ◌<◌, Bool, List, [], ◌∷◌, ◌++◌, refl, sym, ◌∙◌, ap, subst, append_assoc, Option, Some, None, Result, Ok, Err, OnOk, OnErr}
use Rattle.std.proofs.lemmas.List.{append-nil}
use Rattle.std.proofs.lemmas.Option.{slice_get_within}
use Rattle.pdh_edge.specs.Ports.{Outputs, PrefixOf, IsPrefix, after, nothing}
use Rattle.pdh_rx.specs.Meaning.{Meaning, Gains, GainsPart}
use Rattle.pdh_events.specs.Acts.{with_more}
use Rattle.pdh_rx.specs.Node.{EachStands, got_by, Gives, GivesPart}
use Rattle.pdh_rx.specs.laws.NodeLaws.{AllSound, got_by_same, got_by_grows}

pub on_err_from : {T E : Type 0} (P : Type 0) (r : Result T E) → P → OnErr r P
on_err_from P (Ok x) p = tt
on_err_from P (Err e) p = p

pub on_ok_from : {T E : Type 0} (P : Type 0) (r : Result T E) → P → OnOk r P
on_ok_from P (Ok x) p = p
on_ok_from P (Err e) p = tt

pub on_ok_each : {T E A : Type 0} {B : A → Type 0} (P : A → Type 0) (r : Result T E) → ((x : A) → B x → OnOk r (P x)) → OnOk r ((x : A) → B x → P x)
on_ok_each P (Ok y) h = h
on_ok_each P (Err e) h = tt

pub on_err_each : {T E A : Type 0} {B : A → Type 0} (P : A → Type 0) (r : Result T E) → ((x : A) → B x → OnErr r (P x)) → OnErr r ((x : A) → B x → P x)
on_err_each P (Ok y) h = tt
on_err_each P (Err e) h = h

pub on_err_both : {T E : Type 0} (P Q : Type 0) (r : Result T E) → OnErr r P → OnErr r Q → OnErr r (P × Q)
on_err_both P Q (Ok x) p q = tt
on_err_both P Q (Err e) p q = (p, q)

pub on_ok_both : {T E : Type 0} (P Q : Type 0) (r : Result T E) → OnOk r P → OnOk r Q → OnOk r (P × Q)
on_ok_both P Q (Ok x) p q = (p, q)
on_ok_both P Q (Err e) p q = tt

after_join : (x y : List Bool) (o : Option (List Bool)) → after y (after x o) ≡ after (x ++ y) o
after_join x y None = refl
after_join x y (Some l) = ap Some (append_assoc l x y)

after_nothing : (o : Option (List Bool)) → o ≡ after [] o
after_nothing None = refl
after_nothing (Some l) = ap Some (sym (append-nil l))

part_join : (x y : List Bool) (o n : Option (List Bool)) → PrefixOf y (after x o) n → PrefixOf (x ++ y) o n
part_join x y None None h = tt
part_join x y None (Some n) h = h
part_join x y (Some l) None h = h
part_join x y (Some l) (Some n) h = (h.0, sym (append_assoc l x y) ∙ h.1)

part_more : (x y : List Bool) (o n : Option (List Bool)) → PrefixOf x o n → PrefixOf (x ++ y) o n
part_more x y None None h = tt
part_more x y None (Some n) h = h
part_more x y (Some l) None h = h
part_more x y (Some l) (Some n) h = (h.0 ++ y, sym (append_assoc l x y) ∙ ap (λ v. v ++ y) h.1 ∙ append_assoc n h.0 y)

pub gains_nothing : (was is : ℕ → List Bool) (o : Outputs) → ((k : ℕ) → is k ≡ was k) → Gains was is o o
gains_nothing was is o h = record { more = nothing; gained = λ k. h k ∙ sym (append-nil (was k)); puts = λ k. after_nothing (o.told k) }

pub gains_join : (a b c : ℕ → List Bool) (o p q : Outputs) → Gains a b o p → Gains b c p q → Gains a c o q
gains_join a b c o p q f g = record {
  more = λ k. f.more k ++ g.more k;
  gained = λ k. g.gained k ∙ ap (λ v. v ++ g.more k) (f.gained k) ∙ append_assoc (a k) (f.more k) (g.more k);
  puts = λ k. g.puts k ∙ ap (after (g.more k)) (f.puts k) ∙ after_join (f.more k) (g.more k) (o.told k);
}

pub part_after : (a b c d : ℕ → List Bool) (o p q : Outputs) → Gains a b o p → GainsPart b c p q → ((k : ℕ) → IsPrefix (c k) (d k)) → GainsPart a d o q
part_after a b c d o p q f g h = record {
  more = λ k. (f.more k ++ g.more k) ++ (h k).0;
  gained = λ k. (h k).1 ∙ ap (λ v. v ++ (h k).0) (g.gained k ∙ ap (λ v. v ++ g.more k) (f.gained k) ∙ append_assoc (a k) (f.more k) (g.more k)) ∙ append_assoc (a k) (f.more k ++ g.more k) (h k).0;
  puts = λ k.
      let P : Option (List Bool) → Type 0 = λ v. PrefixOf (g.more k) v (q.told k) in
      part_more (f.more k ++ g.more k) (h k).0 (o.told k) (q.told k) (part_join (f.more k) (g.more k) (o.told k) (q.told k) (subst P (f.puts k) (g.puts k)));
}

pub gains_is : (was is is' : ℕ → List Bool) (o p : Outputs) → ((k : ℕ) → is' k ≡ is k) → Gains was is o p → Gains was is' o p
gains_is was is is' o p h g = record { more = g.more; gained = λ k. h k ∙ g.gained k; puts = g.puts }

pub part_is : (was is is' : ℕ → List Bool) (o p : Outputs) → ((k : ℕ) → is' k ≡ is k) → GainsPart was is o p → GainsPart was is' o p
part_is was is is' o p h g = record { more = g.more; gained = λ k. h k ∙ g.gained k; puts = g.puts }

pub each_same : {C : Type 0} (stands : C → List Bool → Type 0) (cs : List C) (lines lines' : ℕ → List Bool) → ((j : ℕ) → lines j ≡ lines' j) → EachStands stands cs lines → EachStands stands cs lines'
each_same stands cs lines lines' h each j c e = let P : List Bool → Type 0 = stands c in subst P (h j) (each j c e)

-- only the children's own lines count
got_by_below : (ms : List Meaning) (lines lines' : ℕ → List Bool) → ((j : ℕ) → j < length ms → lines j ≡ lines' j) → (k : ℕ) → got_by ms lines k ≡ got_by ms lines' k
got_by_below [] lines lines' h k = refl
got_by_below (m ∷ ms) lines lines' h k =
    ap (λ v. cond (m.leaves k) (m.got v k) (got_by ms (λ j. lines (suc j)) k)) (h 0 (omega arith))
    ∙ ap (λ v. cond (m.leaves k) (m.got (lines' 0) k) v) (got_by_below ms (λ j. lines (suc j)) (λ j. lines' (suc j)) (λ j lt. h (suc j) (omega arith)) k)

module _ {C : Type 0} (stands : C → List Bool → Type 0) (ms : List Meaning) where
  -- nothing was given
  pub gives_nothing : (cs : List C) (o : Outputs) (more : ℕ → List Bool) → ((j : ℕ) → more j ≡ []) → Gives stands ms more cs cs o o
  gives_nothing cs o more none = record {
    each = λ lines each. each_same stands cs lines _ (λ j. sym (same lines j)) each;
    gains = λ lines each. gains_nothing _ _ o (λ k. got_by_same ms _ lines (same lines) k);
  }
    where
      same : (lines : ℕ → List Bool) (j : ℕ) → with_more lines more j ≡ lines j
      same lines j = ap (λ v. lines j ++ v) (none j) ∙ append-nil (lines j)

  -- the same bits, told in another way
  pub gives_same : (more more' : ℕ → List Bool) (xs bs : List C) (o p : Outputs) → ((j : ℕ) → more' j ≡ more j) → Gives stands ms more xs bs o p → Gives stands ms more' xs bs o p
  gives_same more more' xs bs o p h g = record {
    each = λ lines each. each_same stands bs _ _ (λ j. ap (λ v. lines j ++ v) (sym (h j))) (g.each lines each);
    gains = λ lines each. gains_is _ _ _ o p (λ k. got_by_same ms _ _ (λ j. ap (λ v. lines j ++ v) (h j)) k) (g.gains lines each);
  }

  pub gives_below : (more more' : ℕ → List Bool) (xs bs : List C) (o p : Outputs) → length bs ≡ length ms → ((j : ℕ) → j < length ms → more' j ≡ more j) → Gives stands ms more xs bs o p → Gives stands ms more' xs bs o p
  gives_below more more' xs bs o p count h g = record {
    each = λ lines each j c e.
        let inside : j < length ms = omega (arith, slice_get_within bs j c e, count) in
        let P : List Bool → Type 0 = stands c in
        subst P (ap (λ v. lines j ++ v) (sym (h j inside))) (g.each lines each j c e);
    gains = λ lines each. gains_is _ _ _ o p (λ k. got_by_below ms _ _ (λ j lt. ap (λ v. lines j ++ v) (h j lt)) k) (g.gains lines each);
  }

  pub part_same : (more more' : ℕ → List Bool) (xs : List C) (o p : Outputs) → ((j : ℕ) → more' j ≡ more j) → GivesPart stands ms more xs o p → GivesPart stands ms more' xs o p
  part_same more more' xs o p h g = record {
    gains = λ lines each. part_is _ _ _ o p (λ k. got_by_same ms _ _ (λ j. ap (λ v. lines j ++ v) (h j)) k) (g.gains lines each);
  }

  pub part_below : (more more' : ℕ → List Bool) (xs : List C) (o p : Outputs) → ((j : ℕ) → j < length ms → more' j ≡ more j) → GivesPart stands ms more xs o p → GivesPart stands ms more' xs o p
  part_below more more' xs o p h g = record {
    gains = λ lines each. part_is _ _ _ o p (λ k. got_by_below ms _ _ (λ j lt. ap (λ v. lines j ++ v) (h j lt)) k) (g.gains lines each);
  }

  -- these bits and then those
  pub gives_join : (more more' all : ℕ → List Bool) (xs bs cs : List C) (o p q : Outputs) → ((j : ℕ) → all j ≡ more j ++ more' j)
      → Gives stands ms more xs bs o p → Gives stands ms more' bs cs p q → Gives stands ms all xs cs o q
  gives_join more more' all xs bs cs o p q h f g = record {
    each = λ lines each. each_same stands cs _ _ (λ j. sym (same lines j)) (g.each (with_more lines more) (f.each lines each));
    gains = λ lines each. gains_join _ _ _ o p q (f.gains lines each) (gains_is _ _ _ p q (λ k. got_by_same ms _ _ (same lines) k) (g.gains (with_more lines more) (f.each lines each)));
  }
    where
      same : (lines : ℕ → List Bool) (j : ℕ) → with_more lines all j ≡ with_more (with_more lines more) more' j
      same lines j = ap (λ v. lines j ++ v) (h j) ∙ sym (append_assoc (lines j) (more j) (more' j))

  -- these bits and then those, of which the call failed to give all; more was to come
  pub gives_part : AllSound ms → (more more' all : ℕ → List Bool) (xs bs : List C) (o p q : Outputs) → ((j : ℕ) → IsPrefix (more j ++ more' j) (all j))
      → Gives stands ms more xs bs o p → GivesPart stands ms more' bs p q → GivesPart stands ms all xs o q
  gives_part sound more more' all xs bs o p q h f g = record {
    gains = λ lines each. part_after _ _ _ _ o p q (f.gains lines each) (g.gains (with_more lines more) (f.each lines each)) (λ k. got_by_grows ms sound _ _ (longer lines) k);
  }
    where
      longer : (lines : ℕ → List Bool) (j : ℕ) → IsPrefix (with_more (with_more lines more) more' j) (with_more lines all j)
      longer lines j = ((h j).0, ap (λ v. lines j ++ v) (h j).1 ∙ sym (append_assoc (lines j) (more j ++ more' j) (h j).0) ∙ ap (λ v. v ++ (h j).0) (sym (append_assoc (lines j) (more j) (more' j))))

  -- what is said of equal meanings
  pub gives_at : (ms' : List Meaning) → ms' ≡ ms → (more : ℕ → List Bool) (xs bs : List C) (o p : Outputs) → Gives stands ms' more xs bs o p → Gives stands ms more xs bs o p
  gives_at ms' e more xs bs o p g = let P : List Meaning → Type 0 = λ m. Gives stands m more xs bs o p in subst P e g

  pub part_at : (ms' : List Meaning) → ms' ≡ ms → (more : ℕ → List Bool) (xs : List C) (o p : Outputs) → GivesPart stands ms' more xs o p → GivesPart stands ms more xs o p
  part_at ms' e more xs o p g = let P : List Meaning → Type 0 = λ m. GivesPart stands m more xs o p in subst P e g
