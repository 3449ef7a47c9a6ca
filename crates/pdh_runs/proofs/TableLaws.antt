-- The tables of a frame's slots, as they are made.
use Rattle.std.proofs.Common.{◌≡◌, ℕ, zero, suc, ◌+◌, ◌<◌, ◌≤◌, Bool, true, false, not, ◌&&◌, ◌==◌, cond, List, [], ◌∷◌, ◌++◌, length, map, get_or, refl, sym, ap, ◌∙◌, inl, inr, arith, eq-eqb}
use Rattle.std.specs.Bool.{beq}
use Rattle.std.proofs.lemmas.Bool.{cases_eq, cases_lt, eqb-true}
use Rattle.std.proofs.lemmas.List.FromFn.{get_or-map-range_with_len, length-map-range_with_len}
use Rattle.pdh_shape.specs.declared.role.Role.{Role}
use Rattle.pdh_shape.specs.declared.role.Role.TheVariants.{Align, Service, Control, Just, Info}
use Rattle.pdh_shape.specs.Frame.{FrameShape}
use Rattle.pdh_shape.specs.Tributary.{reads_from, reads_below, is_just, HasTributaries}
use Rattle.pdh_shape.specs.Payload.{is_payload, payload_before}
use Rattle.pdh_runs.specs.Tables.{AreRoles, EndsStretch, payload_counts}
use Rattle.pdh_runs.proofs.Counts.{before, picked, before_next, before_less, picked_next, made_pass}

-- ---- roles and counts

pub role_at : (s : FrameShape) (roles : List Role) (t : ℕ) (d : Role) → AreRoles s roles → t < s.len → get_or roles t d ≡ s.role t
role_at s roles t d are within = ap (λ l. get_or l t d) are ∙ get_or-map-range_with_len s.role 0 s.len t t d within (omega arith)

pub roles_long : (s : FrameShape) (roles : List Role) → AreRoles s roles → length roles ≡ s.len
roles_long s roles are = ap length are ∙ length-map-range_with_len s.role 0 s.len

pub count_at : (s : FrameShape) (payload : List ℕ) (t d : ℕ) → payload ≡ payload_counts s → t ≤ s.len → get_or payload t d ≡ payload_before s t
count_at s payload t d are within = ap (λ l. get_or l t d) are ∙ get_or-map-range_with_len (payload_before s) 0 (suc s.len) t t d (omega (arith, within)) (omega arith)

pub counts_long : (s : FrameShape) (payload : List ℕ) → payload ≡ payload_counts s → length payload ≡ suc s.len
counts_long s payload are = ap length are ∙ length-map-range_with_len (payload_before s) 0 (suc s.len)

-- the numbers that pass, with the next
pub pick_next : (p : ℕ → Bool) (k : ℕ) (b : Bool) (old now : List ℕ) → old ≡ picked p k → b ≡ p k → now ≡ old ++ cond b (k ∷ []) [] → now ≡ picked p (k + 1)
pick_next p k b old now was is next = next ∙ ap (λ l. l ++ cond b (k ∷ []) []) was ∙ ap (λ b. picked p k ++ cond b (k ∷ []) []) is ∙ sym (picked_next p k)

-- what is made of the numbers that pass, with the next
pub make_next : {X : Type 0} (f : ℕ → X) (p : ℕ → Bool) (k : ℕ) (x : X) (old now : List X) → p k ≡ true → old ≡ map f (picked p k) → x ≡ f k → now ≡ old ++ x ∷ [] → now ≡ map f (picked p (k + 1))
make_next f p k x old now pass was own next = next ∙ ap (λ l. l ++ x ∷ []) was ∙ ap (λ y. map f (picked p k) ++ y ∷ []) own ∙ sym (made_pass p f k pass)

-- ---- the ends of stretches

-- the next slot is of the same kind
pub same_stretch : (s : FrameShape) (t next end : ℕ) → next ≡ t + 1 → is_payload (s.role t) ≡ is_payload (s.role next) → EndsStretch s next end → EndsStretch s t end
same_stretch s t next end is same rest = record {
  after = omega (arith, is, rest.after);
  within = rest.within;
  same = λ u h h'. elim (cases_eq u t) [
    | inl here ↦ ap (λ v. is_payload (s.role v)) here
    | inr past ↦ rest.same u (omega (arith, is, h, past)) h' ∙ sym same
  ];
  other = λ h. rest.other h ∙ ap not (sym same);
}

-- it is of the other
pub own_stretch : (s : FrameShape) (t end : ℕ) → end ≡ t + 1 → end ≤ s.len → beq (is_payload (s.role t)) (is_payload (s.role end)) ≡ false → EndsStretch s t end
own_stretch s t end is within differ = record {
  after = omega (arith, is);
  within = within;
  same = λ u h h'. (let here : u ≡ t = omega (arith, h, h', is) in ap (λ v. is_payload (s.role v)) here);
  other = λ h. turned (is_payload (s.role t)) (is_payload (s.role end)) differ;
}
  where
    turned : (a b : Bool) → beq a b ≡ false → b ≡ not a
    turned true true h = h
    turned true false h = refl
    turned false true h = refl
    turned false false h = sym h

-- ---- the justifiable slot

reads_split : (j : ℕ) (role : Role) → cond (reads_from j true role) 1 0 ≡ cond (reads_from j false role) 1 0 + cond (is_just j role) 1 0
reads_split j (Info i) = omega arith
reads_split j (Just i) = one (i == j)
  where
    one : (b : Bool) → cond (b && true) 1 0 ≡ cond (b && false) 1 0 + cond b 1 0
    one true = refl
    one false = refl
reads_split j (Align signal) = refl
reads_split j (Service number) = refl
reads_split j (Control i copy) = refl

module _ (s : FrameShape) (has : HasTributaries s) (j : ℕ) (known : j < s.tribs) where
  abbrev pub just_at : ℕ → Bool
  just_at t = is_just j (s.role t)

  -- those that may carry a bit are those that always do and the justifiable slot
  pub just_below : (t : ℕ) → reads_below s j true t ≡ reads_below s j false t + before just_at t
  just_below zero = refl
  just_below (suc t) =
      let e : suc t ≡ t + 1 = omega arith in
      omega (
        arith,
        ap (reads_below s j true) e,
        ap (reads_below s j false) e,
        ap (before just_at) e,
        before_next (λ t. reads_from j true (s.role t)) t,
        before_next (λ t. reads_from j false (s.role t)) t,
        before_next just_at t,
        just_below t,
        reads_split j (s.role t),
      )

  pub just_one : before just_at s.len ≡ 1
  just_one = omega (arith, just_below s.len, has.high j known, has.low j known)

  -- there is no other
  pub just_once : (t u : ℕ) → t < s.len → u < s.len → just_at t ≡ true → just_at u ≡ true → t ≡ u
  just_once t u ht hu pt pu = elim (cases_lt t u) [
    | inl less ↦ absurd (omega (arith, before_less just_at t u pt less, before_less just_at u s.len pu hu, just_one))
    | inr more ↦ elim (cases_lt u t) [
      | inl less ↦ absurd (omega (arith, before_less just_at u t pu less, before_less just_at t s.len pt ht, just_one))
      | inr less ↦ omega (arith, more, less)
    ]
  ]

-- a slot is the justifiable slot exactly where its role says so
pub just_role : (j : ℕ) (role : Role) → is_just j role ≡ true → role ≡ Just j
just_role j (Just i) h = ap Just (eqb-true i j h)
just_role j (Info i) h = cc
just_role j (Align signal) h = cc
just_role j (Service number) h = cc
just_role j (Control i copy) h = cc

pub role_just : (j : ℕ) (role : Role) → role ≡ Just j → is_just j role ≡ true
role_just j role is = ap (is_just j) is ∙ eq-eqb j j refl

-- ---- the tributaries
