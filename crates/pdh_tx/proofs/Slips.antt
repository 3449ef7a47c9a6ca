-- The slips of a tributary in slip mode, slot by slot and frame by frame.
use Rattle.std.proofs.Common.{◌≡◌, ℕ, zero, suc, ◌+◌, ◌-◌, ◌<◌, ◌≤◌, Bool, true, false, not, ◌&&◌, ◌||◌, cond, leb, ltb, List, [], ◌∷◌, ◌++◌, map, refl, sym, ap, ◌∙◌, arith, inl, inr, append_assoc, eqb, filter, eq-eqb}
use Rattle.std.specs.Prelude.{count_by, flat_map}
use Rattle.std.specs.List.{range_with_len}
use Rattle.std.proofs.lemmas.Bool.{cases_lt, ne_eqb, lt-leb, le-leb, lt-ltb, le-ltb}
use Rattle.std.proofs.lemmas.List.{map-append}
use Rattle.std.proofs.lemmas.List.Elements.{filter-append}
use Rattle.std.proofs.lemmas.List.Sums.{sum_by-cons}
use Rattle.pdh_shape.specs.Frame.{FrameShape, IsFrame}
use Rattle.pdh_shape.specs.Tributary.{reads_from, reads_below}
use Rattle.pdh_shape.specs.OwnNumbers.{lead, threshold, store_size}
use Rattle.pdh_line.specs.Edits.{half_store, Edit}
use Rattle.pdh_line.specs.Events.{Event, overflow_at, underflow_at}
use Rattle.pdh_line.specs.Events.Kind.{Overflow, Underflow}
use Rattle.pdh_line.specs.Sending.Mode.{Slipping}
use Rattle.pdh_line.specs.Progress.{arrived}
use Rattle.pdh_line.specs.Sending.{HasStores, arrived_in, arrives_at, came_before, Slip, Start, slips_from, slips_in, shifted, carries_at, start_of, edits_in, edits_to}
use Rattle.pdh_line.proofs.SendingLaws.{reads_below-suc}
use Rattle.pdh_tx.specs.Held.{gone_with, put_with}
use Rattle.pdh_tx.specs.Slipping.{has_any}
use Rattle.pdh_tx.specs.laws.Carrying.{no-edits}
use Rattle.pdh_tx.proofs.Advancing.{flat_push}
use Rattle.pdh_tx.proofs.SlipSteps.{gone-append, put-append}

-- ---- one slot more of a frame

append-if : (b : Bool) (slip : Slip) (whole front rest : List Slip) → whole ≡ front ++ rest → cond b (slip ∷ whole) whole ≡ cond b (slip ∷ front) front ++ rest
append-if true slip whole front rest h = ap (λ l. slip ∷ l) h
append-if false slip whole front rest h = h

-- a slip of an earlier slot isn't one of slot t; `k` tells of which kind
skip_if : (t : ℕ) (k : Bool → Bool) (b : Bool) (slip : Slip) (rest : List Slip) → eqb slip.slot t ≡ false → filter (λ (slip : Slip). eqb slip.slot t && k slip.over) rest ≡ [] → filter (λ (slip : Slip). eqb slip.slot t && k slip.over) (cond b (slip ∷ rest) rest) ≡ []
skip_if t k true slip rest other none = ap (λ b. cond (b && k slip.over) (slip ∷ filter (λ (slip : Slip). eqb slip.slot t && k slip.over) rest) (filter (λ (slip : Slip). eqb slip.slot t && k slip.over) rest)) other ∙ none
skip_if t k false slip rest other none = none

filter_past : {X : Type 0} (p : X → Bool) (xs ys : List X) → filter p xs ≡ [] → filter p (xs ++ ys) ≡ filter p ys
filter_past p xs ys h = filter-append p xs ys ∙ ap (λ l. l ++ filter p ys) h

has_map : {X Y : Type 0} (f : X → Y) (xs : List X) → has_any (map f xs) ≡ has_any xs
has_map f [] = refl
has_map f (x ∷ xs) = refl

module _ (s : FrameShape) (j count : ℕ) (more : Bool) where
  abbrev over : ℕ → ℕ → ℕ → Bool
  over t put gone = arrives_at s count t && leb (gone + store_size) (put + arrived_in s count t)

  abbrev under : ℕ → ℕ → ℕ → Bool
  under t put gone = not (over t put gone) && (reads_from j more (s.role t) && leb (put + arrived_in s count (suc t)) gone)

  abbrev one : ℕ → ℕ
  one t = cond (reads_from j more (s.role t)) 1 0

  abbrev put_in : ℕ → ℕ → ℕ → ℕ
  put_in t put gone = put + cond (under t put gone) half_store 0

  abbrev gone_in : ℕ → ℕ → ℕ → ℕ
  gone_in t put gone = gone + cond (over t put gone) half_store 0 + one t

  -- the slip in a slot, if there is one
  abbrev pub slip_in : ℕ → ℕ → ℕ → ℕ → List Slip
  slip_in t put gone reads = cond (over t put gone || under t put gone) (record { over = over t put gone; slot = t; reads = reads } ∷ []) []

  -- the slip in the slot behind so many
  slip_behind : ℕ → ℕ → ℕ → ℕ → ℕ → List Slip
  slip_behind zero t put gone reads = slip_in t put gone reads
  slip_behind (suc m) t put gone reads = slip_behind m (suc t) (put_in t put gone) (gone_in t put gone) (reads + one t)

  slips-behind : (m t put gone reads : ℕ) → slips_from s j count more (suc m) t put gone reads ≡ slips_from s j count more m t put gone reads ++ slip_behind m t put gone reads
  unfolding slip_behind
  slips-behind zero t put gone reads = refl
  slips-behind (suc m) t put gone reads =
      append-if (over t put gone || under t put gone) (record { over = over t put gone; slot = t; reads = reads }) _ _ (slip_behind m (suc t) (put_in t put gone) (gone_in t put gone) (reads + one t))
      (slips-behind m (suc t) (put_in t put gone) (gone_in t put gone) (reads + one t))

  none-later : (t : ℕ) (k : Bool → Bool) (m from put gone reads : ℕ) → from + m ≤ t → filter (λ (slip : Slip). eqb slip.slot t && k slip.over) (slips_from s j count more m from put gone reads) ≡ []
  none-later t k zero from put gone reads h = refl
  none-later t k (suc m) from put gone reads h =
      skip_if t k (over from put gone || under from put gone) (record { over = over from put gone; slot = from; reads = reads })
      (slips_from s j count more m (suc from) (put_in from put gone) (gone_in from put gone) (reads + one from))
      (ne_eqb from t (λ e. absurd (omega (arith, h, e)))) (none-later t k m (suc from) (put_in from put gone) (gone_in from put gone) (reads + one from) (omega (arith, h)))

  -- how many bits the slips put in and take out
  shifted-if : (kind b : Bool) (slip : Slip) (slips : List Slip) → shifted kind (cond b (slip ∷ slips) slips) ≡ cond b (cond (cond kind slip.over (not slip.over)) half_store 0) 0 + shifted kind slips
  shifted-if kind true slip slips =
      let cons = sum_by-cons (λ (slip : Slip). cond (cond kind slip.over (not slip.over)) 1 0) slip slips in
      go (cond kind slip.over (not slip.over)) cons
    where
      go : (b : Bool) → count_by (λ slip. cond kind slip.over (not slip.over)) (slip ∷ slips) ≡ cond b 1 0 + count_by (λ slip. cond kind slip.over (not slip.over)) slips
          → shifted kind (slip ∷ slips) ≡ cond b half_store 0 + shifted kind slips
      go true e = omega (arith, e)
      go false e = omega (arith, e)
  shifted-if kind false slip slips = omega arith

  both : (a b : Bool) → cond (a || (not a && b)) (cond (cond true a (not a)) half_store 0) 0 ≡ cond a half_store 0
  both true b = refl
  both false true = refl
  both false false = refl

  other : (a b : Bool) → cond (a || (not a && b)) (cond (cond false a (not a)) half_store 0) 0 ≡ cond (not a && b) half_store 0
  other true b = refl
  other false true = refl
  other false false = refl

  -- the slot behind so many, by what stands at its start
  behind-is : (m t put gone reads : ℕ)
      → slip_behind m t put gone reads
      ≡ slip_in (t + m) (put + shifted false (slips_from s j count more m t put gone reads)) (gone + shifted true (slips_from s j count more m t put gone reads) + (reads_below s j more (t + m) - reads_below s j more t)) (reads + (reads_below s j more (t + m) - reads_below s j more t))
  unfolding slip_behind
  behind-is zero t put gone reads =
      let a : t ≡ t + 0 = omega arith in
      let b : put ≡ put + shifted false [] = omega arith in
      let none : reads_below s j more (t + 0) ≡ reads_below s j more t = ap (reads_below s j more) (sym a) in
      let c : gone ≡ gone + shifted true [] + (reads_below s j more (t + 0) - reads_below s j more t) = omega (arith, none) in
      let d : reads ≡ reads + (reads_below s j more (t + 0) - reads_below s j more t) = omega (arith, none) in
      ap (λ v. slip_in v put gone reads) a ∙ ap (λ v. slip_in (t + 0) v gone reads) b ∙ ap (λ v. slip_in (t + 0) (put + shifted false []) v reads) c
      ∙ ap (slip_in (t + 0) (put + shifted false []) (gone + shifted true [] + (reads_below s j more (t + 0) - reads_below s j more t))) d
  behind-is (suc m) t put gone reads =
      let o : Bool = over t put gone in
      let u : Bool = reads_from j more (s.role t) && leb (put + arrived_in s count (suc t)) gone in
      let rest : List Slip = slips_from s j count more m (suc t) (put_in t put gone) (gone_in t put gone) (reads + one t) in
      let slip : Slip = record { over = o; slot = t; reads = reads } in
      let whole : List Slip = slips_from s j count more (suc m) t put gone reads in
      let ins : shifted false whole ≡ cond (not o && u) half_store 0 + shifted false rest = shifted-if false (o || (not o && u)) slip rest ∙ ap (λ v. v + shifted false rest) (other o u) in
      let outs : shifted true whole ≡ cond o half_store 0 + shifted true rest = shifted-if true (o || (not o && u)) slip rest ∙ ap (λ v. v + shifted true rest) (both o u) in
      let step = reads_below-suc s j more t in
      let a : suc t + m ≡ t + suc m = omega arith in
      let grows : reads_below s j more (suc t) ≤ reads_below s j more (t + suc m) = ap_le m in
      let same : reads_below s j more (suc t + m) ≡ reads_below s j more (t + suc m) = ap (reads_below s j more) a in
      let p : put_in t put gone + shifted false rest ≡ put + shifted false whole = omega (arith, ins) in
      let q : gone_in t put gone + shifted true rest + (reads_below s j more (suc t + m) - reads_below s j more (suc t)) ≡ gone + shifted true whole + (reads_below s j more (t + suc m) - reads_below s j more t) = omega (arith, outs, step, same, grows) in
      let r : reads + one t + (reads_below s j more (suc t + m) - reads_below s j more (suc t)) ≡ reads + (reads_below s j more (t + suc m) - reads_below s j more t) = omega (arith, step, same, grows) in
      behind-is m (suc t) (put_in t put gone) (gone_in t put gone) (reads + one t)
      ∙ ap (λ v. slip_in v (put_in t put gone + shifted false rest) (gone_in t put gone + shifted true rest + (reads_below s j more (suc t + m) - reads_below s j more (suc t))) (reads + one t + (reads_below s j more (suc t + m) - reads_below s j more (suc t)))) a
      ∙ ap (λ v. slip_in (t + suc m) v (gone_in t put gone + shifted true rest + (reads_below s j more (suc t + m) - reads_below s j more (suc t))) (reads + one t + (reads_below s j more (suc t + m) - reads_below s j more (suc t)))) p
      ∙ ap (λ v. slip_in (t + suc m) (put + shifted false whole) v (reads + one t + (reads_below s j more (suc t + m) - reads_below s j more (suc t)))) q
      ∙ ap (slip_in (t + suc m) (put + shifted false whole) (gone + shifted true whole + (reads_below s j more (t + suc m) - reads_below s j more t))) r
    where
      ap_le : (m : ℕ) → reads_below s j more (suc t) ≤ reads_below s j more (t + suc m)
      ap_le zero = (let e : t + 1 ≡ suc t = omega arith in omega (arith, ap (reads_below s j more) e))
      ap_le (suc m) =
          let e : t + suc (suc m) ≡ suc (t + suc m) = omega arith in
          omega (arith, ap_le m, ap (reads_below s j more) e, reads_below-suc s j more (t + suc m))

-- ---- by frames

module _ (s : FrameShape) (j : ℕ) (counts : ℕ → ℕ) (stores : HasStores s) where
  abbrev at : ℕ → Start
  at n = start_of s j counts n

  abbrev more : ℕ → Bool
  more n = carries_at s counts n (at n)

  abbrev put_at : ℕ → ℕ
  put_at n = lead + arrived counts n + (at n).added

  abbrev gone_at : ℕ → ℕ
  gone_at n = (at n).sent + (at n).dropped

  in-is : (n t : ℕ) → slips_in s j counts n t ≡ slips_from s j (counts n) (more n) t 0 (put_at n) (gone_at n) 0
  in-is n t = ap (λ b. cond b [] (slips_from s j (counts n) (more n) t 0 (put_at n) (gone_at n) 0)) stores

  abbrev pub as_edit : ℕ → Slip → Edit
  as_edit n slip = record { over = slip.over; place = (at n).sent + slip.reads }

  -- the slips of one slot more
  pub slips-next : (n t : ℕ) → slips_in s j counts n (suc t)
      ≡ slips_in s j counts n t ++ slip_in s j (counts n) (more n) t (put_at n + shifted false (slips_in s j counts n t)) (gone_at n + shifted true (slips_in s j counts n t) + reads_below s j (more n) t) (reads_below s j (more n) t)
  slips-next n t =
      let none : reads_below s j (more n) 0 ≡ 0 = refl in
      let a : 0 + t ≡ t = omega arith in
      let same = ap (reads_below s j (more n)) a in
      let slips : List Slip = slips_from s j (counts n) (more n) t 0 (put_at n) (gone_at n) 0 in
      let S : ℕ → ℕ → ℕ → ℕ → List Slip = slip_in s j (counts n) (more n) in
      let r : 0 + (reads_below s j (more n) (0 + t) - reads_below s j (more n) 0) ≡ reads_below s j (more n) t = omega (arith, none, same) in
      let q : gone_at n + shifted true slips + (reads_below s j (more n) (0 + t) - reads_below s j (more n) 0) ≡ gone_at n + shifted true slips + reads_below s j (more n) t = omega (arith, none, same) in
      in-is n (suc t) ∙ slips-behind s j (counts n) (more n) t 0 (put_at n) (gone_at n) 0
      ∙ ap (λ l. slips ++ l) (behind-is s j (counts n) (more n) t 0 (put_at n) (gone_at n) 0
      ∙ ap (λ v. S v (put_at n + shifted false slips) (gone_at n + shifted true slips + (reads_below s j (more n) (0 + t) - reads_below s j (more n) 0)) (0 + (reads_below s j (more n) (0 + t) - reads_below s j (more n) 0))) a
      ∙ ap (λ v. S t (put_at n + shifted false slips) v (0 + (reads_below s j (more n) (0 + t) - reads_below s j (more n) 0))) q
      ∙ ap (S t (put_at n + shifted false slips) (gone_at n + shifted true slips + reads_below s j (more n) t)) r)
      ∙ ap (λ l. l ++ S t (put_at n + shifted false l) (gone_at n + shifted true l + reads_below s j (more n) t) (reads_below s j (more n) t)) (sym (in-is n t))

  -- the edits of slips move the counts as the slips do
  edits-gone : (n r : ℕ) (slips : List Slip) → gone_with (map (as_edit n) slips) r ≡ r + shifted true slips
  edits-gone n r [] = omega arith
  edits-gone n r (slip ∷ slips) =
      let cons = sum_by-cons (λ (slip : Slip). cond slip.over 1 0) slip slips in
      edits-gone n (cond slip.over (r + half_store) r) slips ∙ go slip.over cons
    where
      go : (b : Bool) → count_by (λ (slip : Slip). slip.over) (slip ∷ slips) ≡ cond b 1 0 + count_by (λ (slip : Slip). slip.over) slips
          → cond b (r + half_store) r + shifted true slips ≡ r + shifted true (slip ∷ slips)
      go true e = omega (arith, e)
      go false e = omega (arith, e)

  edits-put : (n m : ℕ) (slips : List Slip) → put_with (map (as_edit n) slips) m ≡ m + shifted false slips
  edits-put n m [] = omega arith
  edits-put n m (slip ∷ slips) =
      let cons = sum_by-cons (λ (slip : Slip). cond (not slip.over) 1 0) slip slips in
      edits-put n (cond slip.over m (m + half_store)) slips ∙ go slip.over cons
    where
      go : (b : Bool) → count_by (λ (slip : Slip). not slip.over) (slip ∷ slips) ≡ cond (not b) 1 0 + count_by (λ (slip : Slip). not slip.over) slips
          → cond b m (m + half_store) + shifted false slips ≡ m + shifted false (slip ∷ slips)
      go true e = omega (arith, e)
      go false e = omega (arith, e)

  -- the edits of all frames before frame n
  abbrev whole : ℕ → List Edit
  whole n = flat_map (λ m. edits_in s j counts m s.len) (range_with_len 0 n)

  whole-gone : (n r : ℕ) → gone_with (whole n) r ≡ r + (at n).dropped
  unfolding start_of
  whole-gone zero r = omega arith
  whole-gone (suc n) r =
      ap (λ l. gone_with l r) (flat_push (λ m. edits_in s j counts m s.len) n) ∙ gone-append (whole n) (edits_in s j counts n s.len) r
      ∙ edits-gone n (gone_with (whole n) r) (slips_in s j counts n s.len) ∙ ap (λ v. v + shifted true (slips_in s j counts n s.len)) (whole-gone n r) ∙ omega arith

  whole-put : (n m : ℕ) → put_with (whole n) m ≡ m + (at n).added
  unfolding start_of
  whole-put zero m = omega arith
  whole-put (suc n) m =
      ap (λ l. put_with l m) (flat_push (λ m. edits_in s j counts m s.len) n) ∙ put-append (whole n) (edits_in s j counts n s.len) m
      ∙ edits-put n (put_with (whole n) m) (slips_in s j counts n s.len) ∙ ap (λ v. v + shifted false (slips_in s j counts n s.len)) (whole-put n m) ∙ omega arith

  pub gone-is : (n t r : ℕ) → gone_with (edits_to s j counts n t) r ≡ r + (at n).dropped + shifted true (slips_in s j counts n t)
  gone-is n t r = gone-append (whole n) (edits_in s j counts n t) r ∙ edits-gone n (gone_with (whole n) r) (slips_in s j counts n t) ∙ ap (λ v. v + shifted true (slips_in s j counts n t)) (whole-gone n r)

  pub put-is : (n t m : ℕ) → put_with (edits_to s j counts n t) m ≡ m + (at n).added + shifted false (slips_in s j counts n t)
  put-is n t m = put-append (whole n) (edits_in s j counts n t) m ∙ edits-put n (put_with (whole n) m) (slips_in s j counts n t) ∙ ap (λ v. v + shifted false (slips_in s j counts n t)) (whole-put n m)

  -- ---- the slip of a slot, by what was put in and what is gone before it

  abbrev put_by : ℕ → ℕ → ℕ
  put_by n t = put_at n + shifted false (slips_in s j counts n t)

  abbrev gone_by : ℕ → ℕ → ℕ
  gone_by n t = gone_at n + shifted true (slips_in s j counts n t) + reads_below s j (more n) t

  abbrev read_by : ℕ → ℕ → ℕ
  read_by n t = (at n).sent + reads_below s j (more n) t

  gone-by : (n t : ℕ) → gone_by n t ≡ gone_with (edits_to s j counts n t) (read_by n t)
  gone-by n t = omega (arith, gone-is n t (read_by n t))

  put-by : (n t u : ℕ) → put_by n t + arrived_in s (counts n) u ≡ put_with (edits_to s j counts n t) (came_before s counts n u)
  put-by n t u = omega (arith, put-is n t (came_before s counts n u))

  over-is : (n t : ℕ) → over s j (counts n) (more n) t (put_by n t) (gone_by n t)
      ≡ (arrives_at s (counts n) t && leb (gone_with (edits_to s j counts n t) (read_by n t) + store_size) (put_with (edits_to s j counts n t) (came_before s counts n t)))
  over-is n t =
      ap (λ g. arrives_at s (counts n) t && leb (g + store_size) (put_by n t + arrived_in s (counts n) t)) (gone-by n t)
      ∙ ap (λ p. arrives_at s (counts n) t && leb (gone_with (edits_to s j counts n t) (read_by n t) + store_size) p) (put-by n t t)

  emptied-is : (n t : ℕ) → leb (put_by n t + arrived_in s (counts n) (suc t)) (gone_by n t) ≡ leb (put_with (edits_to s j counts n t) (came_before s counts n (suc t))) (gone_with (edits_to s j counts n t) (read_by n t))
  emptied-is n t =
      ap (λ p. leb p (gone_by n t)) (put-by n t (suc t)) ∙ ap (leb (put_with (edits_to s j counts n t) (came_before s counts n (suc t)))) (gone-by n t)

  -- the slip in a slot, by whether the store is full and whether it is empty
  abbrev pub slip_with : ℕ → ℕ → Bool → Bool → List Slip
  slip_with n t o u = cond (o || (not o && (reads_from j (more n) (s.role t) && u))) (record { over = o; slot = t; reads = reads_below s j (more n) t } ∷ []) []

  abbrev pub full : ℕ → ℕ → Bool
  full n t = arrives_at s (counts n) t && leb (gone_with (edits_to s j counts n t) (read_by n t) + store_size) (put_with (edits_to s j counts n t) (came_before s counts n t))

  abbrev pub empty : ℕ → ℕ → Bool
  empty n t = leb (put_with (edits_to s j counts n t) (came_before s counts n (suc t))) (gone_with (edits_to s j counts n t) (read_by n t))

  abbrev of_slot : ℕ → (Bool → Bool) → List Slip → List Slip
  of_slot t k = filter (λ (slip : Slip). eqb slip.slot t && k slip.over)

  in-slot : (k : Bool → Bool) (n t : ℕ) → of_slot t k (slips_in s j counts n (suc t)) ≡ of_slot t k (slip_with n t (full n t) (empty n t))
  in-slot k n t =
      let slips : List Slip = slips_in s j counts n t in
      ap (of_slot t k) (slips-next n t ∙ ap (λ o. slips ++ slip_with n t o (leb (put_by n t + arrived_in s (counts n) (suc t)) (gone_by n t))) (over-is n t) ∙ ap (λ u. slips ++ slip_with n t (full n t) u) (emptied-is n t))
      ∙ filter_past (λ (slip : Slip). eqb slip.slot t && k slip.over) slips (slip_with n t (full n t) (empty n t))
      (ap (of_slot t k) (in-is n t) ∙ none-later s j (counts n) (more n) t k t 0 (put_at n) (gone_at n) 0 (omega arith))

  over-one : (n t : ℕ) (o v : Bool) → has_any (of_slot t (λ b. b) (cond (o || (not o && v)) (record { over = o; slot = t; reads = reads_below s j (more n) t } ∷ []) [])) ≡ o
  over-one n t true v = ap (λ b. has_any {X = Slip} (cond (b && true) (record { over = true; slot = t; reads = reads_below s j (more n) t } ∷ []) [])) (eq-eqb t t refl)
  over-one n t false true = ap (λ b. has_any {X = Slip} (cond (b && false) (record { over = false; slot = t; reads = reads_below s j (more n) t } ∷ []) [])) (eq-eqb t t refl)
  over-one n t false false = refl

  under-one : (n t : ℕ) (o v : Bool) → has_any (of_slot t not (cond (o || (not o && v)) (record { over = o; slot = t; reads = reads_below s j (more n) t } ∷ []) [])) ≡ (not o && v)
  under-one n t true v = ap (λ b. has_any {X = Slip} (cond (b && false) (record { over = true; slot = t; reads = reads_below s j (more n) t } ∷ []) [])) (eq-eqb t t refl)
  under-one n t false true = ap (λ b. has_any {X = Slip} (cond (b && true) (record { over = false; slot = t; reads = reads_below s j (more n) t } ∷ []) [])) (eq-eqb t t refl)
  under-one n t false false = refl

  -- the events of the definitions are those of a store that is full or empty
  pub over-event : (path : List ℕ) (n t : ℕ) → has_any (overflow_at Slipping s path j counts n t) ≡ full n t
  over-event path n t =
      let as_event : Slip → Event = λ slip. record { kind = Overflow; path = path; trib = j; frame = n; slot = t } in
      has_map as_event (of_slot t (λ b. b) (slips_in s j counts n (suc t))) ∙ ap has_any (in-slot (λ b. b) n t) ∙ over-one n t (full n t) (reads_from j (more n) (s.role t) && empty n t)

  pub under-event : (path : List ℕ) (n t : ℕ) → has_any (underflow_at Slipping s path j counts n t) ≡ (not (full n t) && (reads_from j (more n) (s.role t) && empty n t))
  under-event path n t =
      let as_event : Slip → Event = λ slip. record { kind = Underflow; path = path; trib = j; frame = n; slot = t } in
      has_map as_event (of_slot t not (slips_in s j counts n (suc t))) ∙ ap has_any (in-slot not n t) ∙ under-one n t (full n t) (reads_from j (more n) (s.role t) && empty n t)

  -- ---- the edits, slot by slot

  pub edits-next : (n t : ℕ) → edits_to s j counts n (suc t)
      ≡ edits_to s j counts n t ++ map (as_edit n) (slip_with n t (full n t) (empty n t))
  edits-next n t =
      ap (λ l. whole n ++ map (as_edit n) l) (slips-next n t)
      ∙ ap (λ l. whole n ++ l) (map-append (as_edit n) (slips_in s j counts n t) (slip_in s j (counts n) (more n) t (put_by n t) (gone_by n t) (reads_below s j (more n) t)))
      ∙ sym (append_assoc (whole n) (edits_in s j counts n t) (map (as_edit n) (slip_in s j (counts n) (more n) t (put_by n t) (gone_by n t) (reads_below s j (more n) t))))
      ∙ ap (λ o. edits_to s j counts n t ++ map (as_edit n) (slip_with n t o (leb (put_by n t + arrived_in s (counts n) (suc t)) (gone_by n t)))) (over-is n t)
      ∙ ap (λ u. edits_to s j counts n t ++ map (as_edit n) (slip_with n t (full n t) u)) (emptied-is n t)

  -- ---- frame by frame

  pub edits-none : edits_to s j counts 0 0 ≡ []
  edits-none = no-edits s j counts stores 0

  pub sent-none : (at 0).sent ≡ 0
  unfolding start_of
  sent-none = refl

  -- a frame's decision is that of the fill at its start
  pub more-is : IsFrame s → (n held : ℕ) → gone_with (edits_to s j counts n 0) ((at n).sent + reads_below s j (more n) 0) + held ≡ put_with (edits_to s j counts n 0) (lead + arrived counts n) → leb threshold held ≡ more n
  more-is frame n held count =
      let none : reads_below s j (more n) 0 ≡ 0 = refl in
      let no : shifted true (slips_in s j counts n 0) ≡ 0 = ap (shifted true) (in-is n 0) in
      let no' : shifted false (slips_in s j counts n 0) ≡ 0 = ap (shifted false) (in-is n 0) in
      let a : ℕ = put_at n in
      let b : ℕ = gone_at n in
      let held_is : b + held ≡ a = omega (arith, count, gone-is n 0 ((at n).sent + reads_below s j (more n) 0), put-is n 0 (lead + arrived counts n), none, no, no') in
      sym (ap (λ e. not (e || ltb a (b + threshold))) stores ∙ elim (cases_lt held threshold) [
        | inl few ↦ ap not (lt_is few held_is) ∙ sym (lt-leb _ _ few)
        | inr enough ↦ ap not (ge_is enough held_is) ∙ sym (le-leb _ _ enough)
      ])
    where
      lt_is : held < threshold → gone_at n + held ≡ put_at n → ltb (put_at n) (gone_at n + threshold) ≡ true
      lt_is few is = lt-ltb (put_at n) (gone_at n + threshold) (omega (arith, few, is))

      ge_is : threshold ≤ held → gone_at n + held ≡ put_at n → ltb (put_at n) (gone_at n + threshold) ≡ false
      ge_is enough is = le-ltb (put_at n) (gone_at n + threshold) (omega (arith, enough, is))
