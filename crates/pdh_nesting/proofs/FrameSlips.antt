-- The slips of a frame of a tributary, slot by slot.
use Rattle.std.proofs.Common.{◌≡◌, ℕ, zero, suc, ◌+◌, ◌-◌, Bool, true, false, not, ◌&&◌, ◌||◌, cond, eqb, leb, List, [], ◌∷◌, ◌++◌, filter, refl, sym, ap, ◌∙◌, subst, arith, eq-eqb}
use Rattle.std.specs.Prelude.{count_by}
use Rattle.std.proofs.lemmas.List.Sums.{sum_by-cons}
use Rattle.pdh_shape.specs.Frame.{FrameShape}
use Rattle.pdh_shape.specs.Tributary.{reads_from}
use Rattle.pdh_shape.specs.OwnNumbers.{store_size}
use Rattle.pdh_line.specs.Edits.{half_store}
use Rattle.pdh_line.specs.Sending.{Slip, arrived_in, arrives_at, slips_from, shifted}
use Rattle.pdh_nesting.proofs.Orders.{Each}

-- ---- the slips of a kind in a slot

-- those in slot t, where `k` tells of the kind
abbrev pub in_slot : (Bool → Bool) → ℕ → List Slip → List Slip
in_slot k t = filter (λ (slip : Slip). eqb slip.slot t && k slip.over)

pub each_if : (P : Slip → Type 0) (test : Bool) (slip : Slip) (rest : List Slip) → (test ≡ true → P slip) → Each P rest → Each P (cond test (slip ∷ rest) rest)
each_if P true slip rest here each = (here refl, each)
each_if P false slip rest here each = each

-- ---- a slot

module _ (s : FrameShape) (j count : ℕ) (more : Bool) where
  -- an overflow stands in slot t, where so many bits were put into the store and so many are gone from it
  abbrev pub over : ℕ → ℕ → ℕ → Bool
  over t put gone = arrives_at s count t && leb (gone + store_size) (put + arrived_in s count t)

  -- the slot reads the tributary, and its store is empty
  abbrev pub emptied : ℕ → ℕ → ℕ → Bool
  emptied t put gone = reads_from j more (s.role t) && leb (put + arrived_in s count (suc t)) gone

  abbrev pub under : ℕ → ℕ → ℕ → Bool
  under t put gone = not (over t put gone) && emptied t put gone

  abbrev pub one : ℕ → ℕ
  one t = cond (reads_from j more (s.role t)) 1 0

  abbrev pub put_in : ℕ → ℕ → ℕ → ℕ
  put_in t put gone = put + cond (under t put gone) half_store 0

  abbrev pub gone_in : ℕ → ℕ → ℕ → ℕ
  gone_in t put gone = gone + cond (over t put gone) half_store 0 + one t

  abbrev pub slip_in : ℕ → ℕ → ℕ → ℕ → Slip
  slip_in t put gone reads = record { over = over t put gone; slot = t; reads = reads }

  -- the slips of the slots behind it, so many
  abbrev pub rest_of : ℕ → ℕ → ℕ → ℕ → ℕ → List Slip
  rest_of left t put gone reads = slips_from s j count more left (suc t) (put_in t put gone) (gone_in t put gone) (reads + one t)

  -- ---- the last slot of some

  append-if : (test : Bool) (slip : Slip) (whole front rest : List Slip) → whole ≡ front ++ rest → cond test (slip ∷ whole) whole ≡ cond test (slip ∷ front) front ++ rest
  append-if true slip whole front rest h = ap (λ l. slip ∷ l) h
  append-if false slip whole front rest h = h

  -- the slip in the slot behind so many, if there is one
  pub record Last (slots t put gone reads : ℕ) : Type 0 where
    pub last : List Slip
    pub split : slips_from s j count more (suc slots) t put gone reads ≡ slips_from s j count more slots t put gone reads ++ last
    pub in_it : Each (λ slip. slip.slot ≡ t + slots) last

  pub last_of : (slots t put gone reads : ℕ) → Last slots t put gone reads
  last_of zero t put gone reads = record {
    last = slips_from s j count more 1 t put gone reads;
    split = refl;
    in_it = each_if (λ slip. slip.slot ≡ t + 0) (over t put gone || under t put gone) (slip_in t put gone reads) [] (λ here. omega arith) tt;
  }
  last_of (suc slots) t put gone reads =
      let inner = last_of slots (suc t) (put_in t put gone) (gone_in t put gone) (reads + one t) in
      let next : suc t + slots ≡ t + suc slots = omega arith in
      record {
        last = inner.last;
        split = append-if (over t put gone || under t put gone) (slip_in t put gone reads) _ _ inner.last inner.split;
        in_it = subst (λ u. Each (λ slip. slip.slot ≡ u) inner.last) next inner.in_it;
      }

-- slips of one slot, none of which is of either kind, are none
pub none_of_slot : (t : ℕ) (slips : List Slip) → Each (λ slip. slip.slot ≡ t) slips → in_slot (λ over. over) t slips ≡ [] → in_slot not t slips ≡ [] → slips ≡ []
none_of_slot t [] here no_over no_under = refl
none_of_slot t (slip ∷ slips) here no_over no_under = go slip.over refl
  where
    same : eqb slip.slot t ≡ true
    same = eq-eqb slip.slot t here.0

    go : (b : Bool) → slip.over ≡ b → slip ∷ slips ≡ []
    go true e =
        let p : (eqb slip.slot t && slip.over) ≡ true = ap (λ b. b && slip.over) same ∙ e in
        let some : slip ∷ in_slot (λ over. over) t slips ≡ [] = sym (ap (λ b. cond b (slip ∷ in_slot (λ over. over) t slips) (in_slot (λ over. over) t slips)) p) ∙ no_over in
        cc
    go false e =
        let p : (eqb slip.slot t && not slip.over) ≡ true = ap (λ b. b && not slip.over) same ∙ ap not e in
        let some : slip ∷ in_slot not t slips ≡ [] = sym (ap (λ b. cond b (slip ∷ in_slot not t slips) (in_slot not t slips)) p) ∙ no_under in
        cc

-- ---- how many bits slips put in and take out

shifted-if : (kind test : Bool) (slip : Slip) (slips : List Slip)
    → shifted kind (cond test (slip ∷ slips) slips) ≡ cond test (cond (cond kind slip.over (not slip.over)) half_store 0) 0 + shifted kind slips
shifted-if kind true slip slips = go (cond kind slip.over (not slip.over)) (sum_by-cons (λ (slip : Slip). cond (cond kind slip.over (not slip.over)) 1 0) slip slips)
  where
    go : (b : Bool) → count_by (λ slip. cond kind slip.over (not slip.over)) (slip ∷ slips) ≡ cond b 1 0 + count_by (λ slip. cond kind slip.over (not slip.over)) slips
        → shifted kind (slip ∷ slips) ≡ cond b half_store 0 + shifted kind slips
    go true e = omega (arith, e)
    go false e = omega (arith, e)
shifted-if kind false slip slips = omega arith

pub shifted-some : (kind : Bool) (slip : Slip) (slips : List Slip) → shifted kind (slip ∷ slips) ≡ cond (cond kind slip.over (not slip.over)) half_store 0 + shifted kind slips
shifted-some kind slip slips = shifted-if kind true slip slips

taken_out : (a b : Bool) → cond (a || (not a && b)) (cond (cond true a (not a)) half_store 0) 0 ≡ cond a half_store 0
taken_out true b = refl
taken_out false true = refl
taken_out false false = refl

put_back : (a b : Bool) → cond (a || (not a && b)) (cond (cond false a (not a)) half_store 0) 0 ≡ cond (not a && b) half_store 0
put_back true b = refl
put_back false true = refl
put_back false false = refl

module _ (s : FrameShape) (j count : ℕ) (more : Bool) where
  pub dropped-next : (left t put gone reads : ℕ) → shifted true (slips_from s j count more (suc left) t put gone reads)
      ≡ cond (over s j count more t put gone) half_store 0 + shifted true (rest_of s j count more left t put gone reads)
  dropped-next left t put gone reads =
      shifted-if true (over s j count more t put gone || under s j count more t put gone) (slip_in s j count more t put gone reads) (rest_of s j count more left t put gone reads)
      ∙ ap (λ n. n + shifted true (rest_of s j count more left t put gone reads)) (taken_out (over s j count more t put gone) (emptied s j count more t put gone))

  pub added-next : (left t put gone reads : ℕ) → shifted false (slips_from s j count more (suc left) t put gone reads)
      ≡ cond (under s j count more t put gone) half_store 0 + shifted false (rest_of s j count more left t put gone reads)
  added-next left t put gone reads =
      shifted-if false (over s j count more t put gone || under s j count more t put gone) (slip_in s j count more t put gone reads) (rest_of s j count more left t put gone reads)
      ∙ ap (λ n. n + shifted false (rest_of s j count more left t put gone reads)) (put_back (over s j count more t put gone) (emptied s j count more t put gone))
