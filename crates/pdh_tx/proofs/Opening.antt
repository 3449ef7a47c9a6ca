-- A multiplexer with stores that has made no bit.
use Rattle.std.proofs.Common.{◌≡◌, inl, inr, ℕ, ◌+◌, Bool, List, [], ◌∷◌, ◌++◌, length, map, refl, sym, ap, ◌∙◌, subst, arith, Some, slice_get, slice_index_or}
use Rattle.std.specs.Prelude.{All}
use Rattle.std.proofs.lemmas.Bool.{cases_lt}
use Rattle.std.proofs.lemmas.Option.{slice_get-map, get_or_from_slice_get}
use Rattle.std.proofs.lemmas.List.{get_or_append_left, get_or-append-add, length-append}
use Rattle.pdh_shape.specs.declared.place.Path.{Path}
use Rattle.pdh_shape.specs.Frame.{FrameShape}
use Rattle.pdh_line.specs.Sending.{HasStores}
use Rattle.pdh_tx.specs.declared.tx.Tx.{Ghosts}
use Rattle.pdh_tx.specs.declared.tributary.Tributary.{Tributary}
use Rattle.pdh_tx.specs.Meaning.{Plan, Supply, IsFresh}
use Rattle.pdh_tx.specs.Held.{IsPart, unslipped}
use Rattle.pdh_tx.specs.Slipping.{read_to}
use Rattle.pdh_tx.proofs.Readouts.{none-by}
use Rattle.pdh_tx.specs.Tributary.{placed_in, held_in, share_in, child_in}
use Rattle.pdh_tx.specs.Node.{below}
use Rattle.pdh_tx.specs.Stored.{Before, HoldBefore}
use Rattle.pdh_tx.proofs.Moving.{inside}

-- what holds of each element, with one more
pub all_push : {X : Type 0} (P : X → Type 0) (xs : List X) (x : X) → All P xs → P x → All P (xs ++ x ∷ [])
all_push P xs x all here k d h = elim (cases_lt k (length xs)) [
  | inl before ↦ subst P (sym (get_or_append_left xs (x ∷ []) d k before)) (all k d before)
  | inr last ↦
      let e = length-append xs (x ∷ []) in
      let at : length xs + 0 ≡ k = omega arith in
      subst (λ i. P (slice_index_or (xs ++ x ∷ []) i d)) at (subst P (sym (get_or-append-add xs (x ∷ []) 0 d)) here)
]

all_get : {X : Type 0} (P : X → Type 0) (xs : List X) (j : ℕ) (x : X) → All P xs → slice_get xs j ≡ Some x → P x
all_get P xs j x all e = subst P (get_or_from_slice_get xs j x x e) (all j x (inside xs j x e))

module _ {C : Type 0} (tx : Ghosts C) (s : FrameShape) (stores : HasStores s) (path : Path)
    (children : List C) (ws : List (Tributary C)) (same : map child_in ws ≡ children) (empty : All (λ w. w.store ≡ []) ws) (fresh : All (IsFresh tx.stands_at tx.stands_for tx.says tx.is_stopped) children) where
  child_fresh : (j : ℕ) (w : Tributary C) → slice_get ws j ≡ Some w → IsFresh tx.stands_at tx.stands_for tx.says tx.is_stopped w.child
  child_fresh j w e = all_get (IsFresh tx.stands_at tx.stands_for tx.says tx.is_stopped) children j w.child fresh (ap (λ l. slice_get l j) (sym same) ∙ slice_get-map child_in ws j ∙ rw e refl)

  store_empty : (j : ℕ) (w : Tributary C) → slice_get ws j ≡ Some w → w.store ≡ []
  store_empty j w e = all_get (λ w. w.store ≡ []) ws j w empty e

  read_none : (plan : Plan) (j : ℕ) → read_to s path plan 0 0 j ≡ unslipped 0
  read_none plan j = none-by s j (plan.counts path j) plan.mode stores

  pub opened_before : (plan : Plan) → Before (placed_in tx) (held_in tx) share_in s path plan (read_to s path plan) ws 0 0
  opened_before plan = record {
    made = λ j w e.
        let child = child_fresh j w e in
        subst (placed_in tx w plan 0) (sym (read_none plan j))
        (record {
          runs = child.runs;
          idles = child.idles;
          place = child.placed plan;
          count = (let none = ap length (store_empty j w e) in omega (arith, none));
        });
    decided = λ h. absurd (omega (arith, h));
    scheduled = λ h. absurd (omega (arith, h));
    bounded = λ h. absurd (omega (arith, h));
  }

  pub opened_holds : (supply : Supply) → HoldBefore (placed_in tx) (held_in tx) share_in s path supply.plan (read_to s path supply.plan) ws 0 0 supply
  opened_holds supply j w e =
      let none = store_empty j w e in
      let line : ℕ → Bool = (tx.meaning w.child).line (below supply) in
      subst (held_in tx w (below supply) 0) (sym (read_none supply.plan j))
      (record {
        quiet = λ n. refl;
        made_for = (child_fresh j w e).held (below supply);
        holds = subst (λ bits. IsPart line bits 0) (sym none) refl;
        ahead = λ k. (let same : 0 + length w.store + k ≡ 0 + k = omega (arith, ap length none) in ap line same);
      })
