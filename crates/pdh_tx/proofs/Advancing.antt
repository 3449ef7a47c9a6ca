-- Steps of all tributaries, one after another.
use Rattle.std.proofs.Common.{◌≡◌, inl, inr, ℕ, suc, ◌+◌, ◌<◌, ◌≤◌, Bool, true, false, List, [], ◌∷◌, ◌++◌, length, map, cond, ltb, refl, sym, ap, ◌∙◌, subst, arith, Option, Some, None, slice_get, slice_set, ◌⊎◌, ◌-◌}
use Rattle.std.specs.Prelude.{flat_map}
use Rattle.std.specs.List.{range_with_len}
use Rattle.std.proofs.lemmas.List.{append-nil, length-map}
use Rattle.std.proofs.lemmas.Grind.{flat_map-append}
use Rattle.std.proofs.lemmas.Bool.{cases_eq, cases_lt, lt-ltb, le-ltb}
use Rattle.std.proofs.lemmas.Option.{slice_get-map}
use Rattle.pdh_line.proofs.Ranges.{range_push, range_append}
use Rattle.pdh_edge.specs.Ports.{Inputs}
use Rattle.pdh_tx.specs.declared.tx.TxStop.{TxStop}
use Rattle.pdh_tx.specs.Meaning.{Meaning, Plan, Supply, Fits, Met}
use Rattle.pdh_tx.specs.Held.{Gains, Halts, first_some}
use Rattle.pdh_tx.specs.Node.{IsDisjoint, EachPlaced, AllFit, set_at, Advance, Blocked}
use Rattle.pdh_tx.proofs.Firsts.{first_after, first_here}
use Rattle.pdh_tx.specs.laws.Growing.{given_more}
use Rattle.pdh_tx.proofs.Moving.{set_here, set_other, slice_get_set, moves_none, moves_one, moves_join, moves_to, moves_fit, fit_one, stays_one, stays_join}
use Rattle.pdh_tx.proofs.TributarySteps.{met_weaker}

-- values of which the first i are others
abbrev pub upto : {X : Type 0} → (ℕ → X) → (ℕ → X) → ℕ → ℕ → X
upto f g i j = cond (ltb j i) (g j) (f j)

pub upto_here : {X : Type 0} (f g : ℕ → X) (i : ℕ) → upto f g i i ≡ f i
upto_here f g i = ap (λ b. cond b (g i) (f i)) (le-ltb i i (omega arith))

pub upto_next : {X : Type 0} (f g : ℕ → X) (i : ℕ) → upto f g (suc i) i ≡ g i
upto_next f g i = ap (λ b. cond b (g i) (f i)) (lt-ltb i (suc i) (omega arith))

pub upto_other : {X : Type 0} (f g : ℕ → X) (i j : ℕ) → (j ≡ i → ⊥) → upto f g i j ≡ upto f g (suc i) j
upto_other f g i j ne = elim (cases_lt j i) [
  | inl less ↦ ap (λ b. cond b (g j) (f j)) (lt-ltb j i less ∙ sym (lt-ltb j (suc i) (omega arith)))
  | inr more ↦
      let past : suc i ≤ j = not_here more (cases_lt i j) in
      ap (λ b. cond b (g j) (f j)) (le-ltb j i more ∙ sym (le-ltb j (suc i) past))
]
  where
    not_here : i ≤ j → (i < j) ⊎ (j ≤ i) → suc i ≤ j
    not_here more (inl h) = omega arith
    not_here more (inr h) = absurd (ne (omega arith))

pub upto_most : (f g : ℕ → ℕ) (i j : ℕ) → f j ≤ g j → upto f g i j ≤ g j
upto_most f g i j h = go (ltb j i)
  where
    go : (b : Bool) → cond b (g j) (f j) ≤ g j
    go true = omega arith
    go false = h

pub set_upto : (f g : ℕ → ℕ) (i j : ℕ) → set_at (upto f g i) i (g i) j ≡ upto f g (suc i) j
set_upto f g i j = elim (cases_eq j i) [
  | inl same ↦
      let P : ℕ → Type 0 = λ v. set_at (upto f g i) i (g i) v ≡ upto f g (suc i) v in
      subst P (sym same) (set_here (upto f g i) i (g i) ∙ sym (upto_next f g i))
  | inr other ↦ set_other (upto f g i) i (g i) j other ∙ upto_other f g i j other
]

module _ {W R : Type 0} (placed : W → Plan → ℕ → R → Type 0) (held : W → Supply → ℕ → R → Type 0) (meaning : W → Meaning) (plan : Plan) where
  pub advance_none : (ms : List Meaning) (ws : List W) (made : ℕ → ℕ) (read : ℕ → R) (a : Inputs) → EachPlaced placed ws plan made read → Advance placed held ms plan ws ws made made read read (λ size. []) a a
  advance_none ms ws made read a each = record { place = each; moves = moves_none held meaning plan ms ws made read a; free = λ size fit. refl }

  pub advance_join : (ms : List Meaning) (u v w : List W) (x y z : ℕ → ℕ) (p q r : ℕ → R) (steps next : (ℕ → ℕ) → List (Option TxStop)) (a b c : Inputs)
      → Advance placed held ms plan u v x y p q steps a b → Advance placed held ms plan v w y z q r next b c → Advance placed held ms plan u w x z p r (λ size. steps size ++ next size) a c
  advance_join ms u v w x y z p q r steps next a b c first second = record {
    place = second.place;
    moves = moves_join held meaning plan ms u v w x y z p q r a b c first.moves second.moves;
    free = λ size fit. first_after (steps size) (next size) (first.free size fit) ∙ second.free size (moves_fit held meaning plan ms u v x y p q a b size first.moves fit);
  }

  pub blocked_join : (ms : List Meaning) (u v : List W) (x y most : ℕ → ℕ) (p q : ℕ → R) (steps next : (ℕ → ℕ) → List (Option TxStop)) (stop : TxStop) (a b c : Inputs) (f g h : ℕ) → g ≡ f
      → Advance placed held ms plan u v x y p q steps a b → Blocked ms plan y most next stop b c g h → Blocked ms plan x most (λ size. steps size ++ next size) stop a c f h
  blocked_join ms u v x y most p q steps next stop a b c f g h less first second = record {
    stays = stays_join held meaning plan ms u v x y most p q stop a b c first.moves second.stays;
    met = met_weaker (AllFit ms plan y b) (AllFit ms plan x a) (λ size. first_some (next size)) (λ size. first_some (steps size ++ next size)) stop g h f less
        (λ size fit. moves_fit held meaning plan ms u v x y p q a b size first.moves fit)
        (λ size fit e. first_after (steps size) (next size) (first.free size fit) ∙ e) second.met;
  }

  -- steps that weren't come to
  pub blocked_more : (ms : List Meaning) (x most : ℕ → ℕ) (steps next all : (ℕ → ℕ) → List (Option TxStop)) (stop : TxStop) (a b : Inputs) (f g : ℕ) → ((size : ℕ → ℕ) → all size ≡ steps size ++ next size)
      → Blocked ms plan x most steps stop a b f g → Blocked ms plan x most all stop a b f g
  blocked_more ms x most steps next all stop a b f g is blocked = record {
    stays = blocked.stays;
    met = met_weaker (AllFit ms plan x a) (AllFit ms plan x a) (λ size. first_some (steps size)) (λ size. first_some (all size)) stop f g f refl (λ size fit. fit)
        (λ size fit e. ap first_some (is size) ∙ first_here (steps size) (next size) stop e) blocked.met;
  }

  pub advance_steps : (ms : List Meaning) (u v : List W) (x y : ℕ → ℕ) (p q : ℕ → R) (steps steps' : (ℕ → ℕ) → List (Option TxStop)) (a b : Inputs) → ((size : ℕ → ℕ) → steps' size ≡ steps size)
      → Advance placed held ms plan u v x y p q steps a b → Advance placed held ms plan u v x y p q steps' a b
  advance_steps ms u v x y p q steps steps' a b same advance = record { place = advance.place; moves = advance.moves; free = λ size fit. ap first_some (same size) ∙ advance.free size fit }

  -- the next tributary went its step
  pub advance_one : (old : List W) (i : ℕ) (w w' : W) (f g : ℕ → ℕ) (p q : ℕ → R) (steps : (ℕ → ℕ) → List (Option TxStop)) (a b : Inputs) → IsDisjoint (map meaning old) → slice_get old i ≡ Some w
      → length (slice_set old i w') ≡ length old → ((j : ℕ) → (j ≡ i → ⊥) → p j ≡ q j)
      → EachPlaced placed old plan (upto f g i) p → placed w' plan (g i) (q i) → Gains (meaning w) plan (held w) (held w') (f i) (g i) (p i) (q i) a b
      → ((size : ℕ → ℕ) → Fits (meaning w) plan (f i) a size → first_some (steps size) ≡ None)
      → Advance placed held (map meaning old) plan old (slice_set old i w') (upto f g i) (upto f g (suc i)) p q steps a b
  advance_one old i w w' f g p q steps a b dis at long alike each now gains free =
      let m : Meaning = meaning w in
      let maker : slice_get (map meaning old) i ≡ Some m = slice_get-map meaning old i ∙ rw at refl in
      let P : ℕ → Type 0 = λ n. Gains m plan (held w) (held w') n (g i) (p i) (q i) a b in
      let one = moves_one held meaning plan old i w w' (g i) (q i) (upto f g i) p a b dis at (subst P (sym (upto_here f g i)) gains) in
      record {
        place = λ j c e. elim (slice_get_set old i j w' c e) [
          | inl s ↦
              let Q : ℕ → Type 0 = λ v. placed w' plan (upto f g (suc i) v) (q v) in
              let M : W → Type 0 = λ v. placed v plan (upto f g (suc i) j) (q j) in
              let N : ℕ → Type 0 = λ n. placed w' plan n (q i) in
              subst M s.1 (subst Q (sym s.0) (subst N (sym (upto_next f g i)) now))
          | inr s ↦
              let N : ℕ → Type 0 = λ n. placed c plan n (p j) in
              let L : R → Type 0 = λ r. placed c plan (upto f g (suc i) j) r in
              subst L (alike j s.0) (subst N (upto_other f g i j s.0) (each j c s.1))
        ];
        moves = moves_to held meaning plan (map meaning old) old (slice_set old i w') (upto f g i) (set_at (upto f g i) i (g i)) (upto f g (suc i)) p (set_at p i (q i)) q a b
            (length-map old meaning ∙ sym long) (λ j h. set_upto f g i j)
            (λ j h. elim (cases_eq j i) [
              | inl same ↦ let S : ℕ → Type 0 = λ v. set_at p i (q i) v ≡ q v in subst S (sym same) (set_here p i (q i))
              | inr other ↦ set_other p i (q i) j other ∙ alike j other
            ])
            one;
        free = λ size fit. free size (let F : ℕ → Type 0 = λ n. Fits m plan n a size in subst F (upto_here f g i) (fit_one held meaning plan (map meaning old) i m (upto f g i) a size dis maker fit));
      }

  -- it had none to go
  pub advance_idle : (ms : List Meaning) (ws : List W) (i : ℕ) (f g : ℕ → ℕ) (p q : ℕ → R) (steps : (ℕ → ℕ) → List (Option TxStop)) (a : Inputs) → length ms ≡ length ws → f i ≡ g i → ((j : ℕ) → p j ≡ q j)
      → EachPlaced placed ws plan (upto f g i) p → ((size : ℕ → ℕ) → steps size ≡ [])
      → Advance placed held ms plan ws ws (upto f g i) (upto f g (suc i)) p q steps a a
  advance_idle ms ws i f g p q steps a long same alike each none =
      let next : (j : ℕ) → upto f g i j ≡ upto f g (suc i) j = λ j. elim (cases_eq j i) [
        | inl here ↦
            let P : ℕ → Type 0 = λ v. upto f g i v ≡ upto f g (suc i) v in
            subst P (sym here) (upto_here f g i ∙ same ∙ sym (upto_next f g i))
        | inr other ↦ upto_other f g i j other
      ] in
      record {
        place = λ j c e.
            let N : ℕ → Type 0 = λ n. placed c plan n (p j) in
            let L : R → Type 0 = λ r. placed c plan (upto f g (suc i) j) r in
            subst L (alike j) (subst N (next j) (each j c e));
        moves = moves_to held meaning plan ms ws ws (upto f g i) (upto f g i) (upto f g (suc i)) p p q a a long (λ j h. next j) (λ j h. alike j) (moves_none held meaning plan ms ws (upto f g i) p a);
        free = λ size fit. ap first_some (none size);
      }

  -- it stopped
  pub blocked_one : (old : List W) (i : ℕ) (w : W) (f g : ℕ → ℕ) (steps : (ℕ → ℕ) → List (Option TxStop)) (first : (ℕ → ℕ) → Option TxStop) (stop : TxStop) (a b : Inputs) (faults now : ℕ) → IsDisjoint (map meaning old) → slice_get old i ≡ Some w
      → ((w : W) (n k : ℕ) → (meaning w).given plan n k ≤ (meaning w).given plan (suc n) k) → ((j : ℕ) → f j ≤ g j)
      → Halts (meaning w) plan (f i) (g i) stop a b → Met (Fits (meaning w) plan (f i) a) first stop faults now
      → ((size : ℕ → ℕ) → first_some (steps size) ≡ first size)
      → Blocked (map meaning old) plan (upto f g i) g steps stop a b faults now
  blocked_one old i w f g steps first stop a b faults now dis at grows less halts met same =
      let m : Meaning = meaning w in
      let maker : slice_get (map meaning old) i ≡ Some m = slice_get-map meaning old i ∙ rw at refl in
      let P : ℕ → Type 0 = λ n. Halts m plan n (g i) stop a b in
      record {
        stays = stays_one held meaning plan (map meaning old) i m (upto f g i) g stop a b dis maker (λ k leaf. given_more meaning plan old (upto f g i) g k grows (λ j. upto_most f g i j (less j)))
            (subst P (sym (upto_here f g i)) halts);
        met = met_weaker (Fits m plan (f i) a) (AllFit (map meaning old) plan (upto f g i) a) first (λ size. first_some (steps size)) stop faults now faults (omega arith)
            (λ size fit. (let F : ℕ → Type 0 = λ n. Fits m plan n a size in subst F (upto_here f g i) (fit_one held meaning plan (map meaning old) i m (upto f g i) a size dis maker fit)))
            (λ size fit e. same size ∙ e) met;
      }

-- one tributary after another
pub flat_push : {X : Type 0} (f : ℕ → List X) (n : ℕ) → flat_map f (range_with_len 0 (suc n)) ≡ flat_map f (range_with_len 0 n) ++ f n
flat_push f n =
    let e : 0 + n ≡ n = omega arith in
    ap (flat_map f) (range_push 0 n) ∙ flat_map-append f (range_with_len 0 n) ((0 + n) ∷ []) ∙ ap (λ l. flat_map f (range_with_len 0 n) ++ l) (append-nil (f (0 + n)) ∙ ap f e)

pub flat_split : {X : Type 0} (f : ℕ → List X) (n m : ℕ) → n ≤ m → flat_map f (range_with_len 0 m) ≡ flat_map f (range_with_len 0 n) ++ flat_map f (range_with_len (0 + n) (m - n))
flat_split f n m h =
    let e : m ≡ n + (m - n) = omega arith in
    ap (λ k. flat_map f (range_with_len 0 k)) e ∙ ap (flat_map f) (range_append 0 n (m - n)) ∙ flat_map-append f (range_with_len 0 n) (range_with_len (0 + n) (m - n))

-- A loop over the tributaries, which mean what they did at its start: `to i` tells how far each has come after i of them, `gone i`
-- what was read of each, and `f` what each may meet.
module _ {W R : Type 0} (placed : W → Plan → ℕ → R → Type 0) (held : W → Supply → ℕ → R → Type 0) (meaning : W → Meaning) (plan : Plan) (to : ℕ → ℕ → ℕ) (gone : ℕ → ℕ → R) (f : List Meaning → (ℕ → ℕ) → ℕ → List (Option TxStop)) (ms now : List Meaning) (same : now ≡ ms) (u v : List W) (i : ℕ) (a b : Inputs) (first : Advance placed held ms plan u v (to 0) (to i) (gone 0) (gone i) (λ size. flat_map (f ms size) (range_with_len 0 i)) a b) where
  pub loop_step : (w : List W) (c : Inputs) → Advance placed held now plan v w (to i) (to (suc i)) (gone i) (gone (suc i)) (λ size. f now size i) b c → Advance placed held ms plan u w (to 0) (to (i + 1)) (gone 0) (gone (i + 1)) (λ size. flat_map (f ms size) (range_with_len 0 (i + 1))) a c
  loop_step w c second =
      let here = subst (λ (ms : List Meaning). Advance placed held ms plan v w (to i) (to (suc i)) (gone i) (gone (suc i)) (λ size. f ms size i) b c) same second in
      let next : suc i ≡ i + 1 = omega arith in
      subst (λ k. Advance placed held ms plan u w (to 0) (to k) (gone 0) (gone k) (λ size. flat_map (f ms size) (range_with_len 0 k)) a c) next
      (advance_steps placed held meaning plan ms u w (to 0) (to (suc i)) (gone 0) (gone (suc i)) (λ size. flat_map (f ms size) (range_with_len 0 i) ++ f ms size i) (λ size. flat_map (f ms size) (range_with_len 0 (suc i))) a c (λ size. flat_push (f ms size) i)
      (advance_join placed held meaning plan ms u v w (to 0) (to i) (to (suc i)) (gone 0) (gone i) (gone (suc i)) (λ size. flat_map (f ms size) (range_with_len 0 i)) (λ size. f ms size i) a b c first here))

  pub loop_stop : (most : ℕ → ℕ) (n : ℕ) (stop : TxStop) (c : Inputs) (j k l : ℕ) → i < n → k ≡ j → Blocked now plan (to i) most (λ size. f now size i) stop b c k l → Blocked ms plan (to 0) most (λ size. flat_map (f ms size) (range_with_len 0 n)) stop a c j l
  loop_stop most n stop c j k l less later second =
      let here = subst (λ (ms : List Meaning). Blocked ms plan (to i) most (λ size. f ms size i) stop b c k l) same second in
      blocked_more placed held meaning plan ms (to 0) most (λ size. flat_map (f ms size) (range_with_len 0 i) ++ f ms size i) (λ size. flat_map (f ms size) (range_with_len (0 + suc i) (n - suc i)))
      (λ size. flat_map (f ms size) (range_with_len 0 n)) stop a c j l
      (λ size. flat_split (f ms size) (suc i) n (omega arith) ∙ ap (λ r. r ++ flat_map (f ms size) (range_with_len (0 + suc i) (n - suc i))) (flat_push (f ms size) i))
      (blocked_join placed held meaning plan ms u v (to 0) (to i) most (gone 0) (gone i) (λ size. flat_map (f ms size) (range_with_len 0 i)) (λ size. f ms size i) stop a b c j k l later first here)

  pub loop_end : (n tribs : ℕ) → i ≡ n → tribs ≡ n → Advance placed held ms plan u v (to 0) (to n) (gone 0) (gone n) (λ size. flat_map (f ms size) (range_with_len 0 tribs)) a b
  loop_end n tribs end all =
      let here = subst (λ k. Advance placed held ms plan u v (to 0) (to k) (gone 0) (gone k) (λ size. flat_map (f ms size) (range_with_len 0 k)) a b) end first in
      subst (λ k. Advance placed held ms plan u v (to 0) (to n) (gone 0) (gone n) (λ size. flat_map (f ms size) (range_with_len 0 k)) a b) (sym all) here
