-- What is read of a tributary, slot by slot, in either mode.
use Rattle.std.proofs.Common.{◌≡◌, ℕ, zero, suc, ◌+◌, ◌≤◌, Bool, true, false, not, ◌&&◌, cond, leb, eqb, List, [], ◌∷◌, ◌++◌, map, refl, sym, ap, ◌∙◌, subst, arith, inl, inr}
use Rattle.std.proofs.lemmas.Bool.{cases_Bool, cases_lt, lt-leb, le-leb, leb-true, ne_eqb}
use Rattle.std.proofs.lemmas.List.{append-nil}
use Rattle.pdh_shape.specs.Frame.{FrameShape, IsFrame}
use Rattle.pdh_shape.specs.Tributary.{reads_from, reads_below}
use Rattle.pdh_shape.specs.OwnNumbers.{threshold, store_size}
use Rattle.pdh_line.specs.Edits.{Edit}
use Rattle.pdh_line.specs.Events.{overflows, underflows, overflow_at, underflow_at}
use Rattle.pdh_line.specs.Sending.{HasStores, Mode, arrives_at, came_before, read_before, carriage, Start, start_of, carries_at, edits_to}
use Rattle.pdh_line.specs.Sending.Mode.{Plain, Slipping}
use Rattle.pdh_line.proofs.SendingLaws.{sent-zero, sends_more-fill, reads_below-suc, read_before-start, read_before-suc, came_before-start, came_before_grows}
use Rattle.pdh_tx.specs.Held.{stops, slips, Readout, unslipped, with_read, with_slip, gone_with, put_with}
use Rattle.pdh_tx.specs.Slipping.{has_any, is_full, is_empty}
use Rattle.pdh_tx.specs.laws.Carrying.{readout as readout_of}
use Rattle.pdh_tx.proofs.SlipSteps.{gone-append, put-append}
use Rattle.pdh_tx.proofs.Slips.{as_edit, slip_with, put-is, over-event, under-event, edits-next, edits-none, sent-none, more-is}

-- a store is full, or empty, by what was put into it and what is gone where it is by its fill
pub full_same : (gone put held : ℕ) → gone + held ≡ put → leb store_size held ≡ leb (gone + store_size) put
full_same gone put held count = elim (cases_lt held store_size) [
  | inl few ↦ lt-leb _ _ few ∙ sym (lt-leb _ _ (omega (arith, few, count)))
  | inr full ↦ le-leb _ _ full ∙ sym (le-leb _ _ (omega (arith, full, count)))
]

pub empty_same : (gone put held : ℕ) → gone + held ≡ put → eqb held 0 ≡ leb put gone
empty_same gone put zero count = sym (le-leb _ _ (omega (arith, count)))
empty_same gone put (suc held) count = ne_eqb (suc held) 0 (λ none. absurd (omega (arith, none))) ∙ sym (lt-leb put gone (omega (arith, count)))

module _ (s : FrameShape) (j : ℕ) (counts : ℕ → ℕ) where
  -- by the mode
  abbrev pub readout : Mode → ℕ → ℕ → Readout
  readout mode n t = readout_of s j counts mode n t

  -- a bit arrives in slot t of frame n at a full store
  abbrev pub overs : Mode → ℕ → ℕ → Bool
  overs mode n t = arrives_at s (counts n) t && is_full (readout mode n t) (came_before s counts n t)

  abbrev pub arrived_out : Mode → ℕ → ℕ → Readout
  arrived_out mode n t = with_slip (slips mode (overs mode n t)) true (readout mode n t)

  -- slot t of frame n reads an empty store
  abbrev pub unders : Mode → ℕ → ℕ → Bool
  unders mode n t = not (overs mode n t) && (reads_from j ((carriage mode s j counts).more n) (s.role t) && is_empty (readout mode n t) (came_before s counts n (suc t)))

  -- where a store holds so many bits with this, of which so many came
  abbrev pub IsCount : Readout → ℕ → ℕ → Type 0
  IsCount out held came = gone_with out.edits out.read + held ≡ put_with out.edits came

  pub none-by : (mode : Mode) → HasStores s → readout mode 0 0 ≡ unslipped 0
  none-by Plain stores = ap unslipped (read_before-start s j counts 0 ∙ sent-zero s counts)
  none-by Slipping stores =
      let start = start_of s j counts 0 in
      let none : reads_below s j (carries_at s counts 0 start) 0 ≡ 0 = refl in
      ap (λ (e : List Edit). record { read = start.sent + reads_below s j (carries_at s counts 0 start) 0; edits = e }) (edits-none s j counts stores) ∙ ap unslipped (omega (arith, none, sent-none s j counts stores))

  -- ---- an arrival

  pub arrival-by : (mode : Mode) (n t held : ℕ) → arrives_at s (counts n) t ≡ true → IsCount (readout mode n t) held (came_before s counts n t) → slips mode (leb store_size held) ≡ slips mode (overs mode n t)
  arrival-by Plain n t held is count = refl
  arrival-by Slipping n t held is count =
      let out = readout Slipping n t in
      full_same (gone_with out.edits out.read) (put_with out.edits (came_before s counts n t)) held count ∙ ap (λ b. b && is_full out (came_before s counts n t)) (sym is)

  pub no-arrival-by : (mode : Mode) (n t : ℕ) → arrives_at s (counts n) t ≡ false → slips mode (overs mode n t) ≡ false
  no-arrival-by Plain n t none = refl
  no-arrival-by Slipping n t none = ap (λ b. b && is_full (readout Slipping n t) (came_before s counts n t)) none

  -- the definitions' slips are those of a store that is full or empty
  pub over-told : (mode : Mode) (path : List ℕ) (n t : ℕ) → HasStores s → slips mode (has_any (overflow_at Slipping s path j counts n t)) ≡ slips mode (overs mode n t)
  over-told Plain path n t stores = refl
  over-told Slipping path n t stores = over-event s j counts stores path n t

  pub under-told : (mode : Mode) (path : List ℕ) (n t : ℕ) → HasStores s → slips mode (has_any (underflow_at Slipping s path j counts n t)) ≡ slips mode (unders mode n t)
  under-told Plain path n t stores = refl
  under-told Slipping path n t stores = under-event s j counts stores path n t

  -- ---- a read

  abbrev at : ℕ → Start
  at n = start_of s j counts n

  abbrev more : ℕ → Bool
  more n = carries_at s counts n (at n)

  -- what the slot makes of what was read: `k` bits are read, and before them an empty store slips or doesn't
  abbrev made_of : ℕ → ℕ → ℕ → Bool → Bool → Readout
  made_of n t k o e = with_read k (with_slip e false (with_slip o true (readout Slipping n t)))

  next-with : (n t k : ℕ) (e : Bool) → HasStores s → reads_below s j (more n) t + k ≡ reads_below s j (more n) (suc t)
      → (overs Slipping n t ≡ true → e ≡ false) → (overs Slipping n t ≡ false → e ≡ (reads_from j (more n) (s.role t) && is_empty (readout Slipping n t) (came_before s counts n (suc t))))
      → made_of n t k (overs Slipping n t) e ≡ readout Slipping n (suc t)
  next-with n t k e stores step full other = elim (cases_Bool (overs Slipping n t)) [
    | inl o ↦
        ap (λ v. made_of n t k v e) o ∙ ap (made_of n t k true) (full o)
        ∙ ap (λ (r : ℕ). record { read = r; edits = E ++ record { over = true; place = R } ∷ [] }) read
        ∙ ap (λ (l : List Edit). record { read = R'; edits = l }) (ap (λ v. E ++ map (as_edit s j counts stores n) (slip_with s j counts stores n t v u)) (sym o) ∙ sym (edits-next s j counts stores n t))
    | inr none ↦
        ap (λ v. made_of n t k v e) none ∙ ap (made_of n t k false) (other none) ∙ under (reads_from j (more n) (s.role t) && u)
        ∙ ap (λ (l : List Edit). record { read = R'; edits = l }) (ap (λ v. E ++ map (as_edit s j counts stores n) (slip_with s j counts stores n t v u)) (sym none) ∙ sym (edits-next s j counts stores n t))
  ]
    where
      E : List Edit
      E = edits_to s j counts n t

      R : ℕ
      R = (at n).sent + reads_below s j (more n) t

      R' : ℕ
      R' = (at n).sent + reads_below s j (more n) (suc t)

      u : Bool
      u = is_empty (readout Slipping n t) (came_before s counts n (suc t))

      read : R + k ≡ R'
      read = omega (arith, step)

      under : (v : Bool) → made_of n t k false v ≡ record { read = R'; edits = E ++ map (as_edit s j counts stores n) (cond v (record { over = false; slot = t; reads = reads_below s j (more n) t } ∷ []) []) }
      under true = ap (λ (r : ℕ). record { read = r; edits = E ++ record { over = false; place = R } ∷ [] }) read
      under false = ap (λ (r : ℕ). record { read = r; edits = E }) read ∙ ap (λ (l : List Edit). record { read = R'; edits = l }) (sym (append-nil E))

  right : (a b : Bool) → (a && b) ≡ true → b ≡ true
  right true b h = h
  right false b h = absurd (cc h)

  -- a store that slipped over holds bits still
  some-behind : (n t held : ℕ) → IsFrame s → HasStores s → overs Slipping n t ≡ true → IsCount (arrived_out Slipping n t) held (came_before s counts n (suc t)) → eqb held 0 ≡ false
  some-behind n t held frame stores o count =
      let R : ℕ = (at n).sent + reads_below s j (more n) t in
      let E : List Edit = edits_to s j counts n t in
      let slip : List Edit = record { over = true; place = R } ∷ [] in
      let here : gone_with (E ++ slip) R + held ≡ put_with (E ++ slip) (came_before s counts n (suc t)) =
      subst (λ v. IsCount (with_slip v true (readout Slipping n t)) held (came_before s counts n (suc t))) o count in
      let full : gone_with E R + store_size ≤ put_with E (came_before s counts n t) = leb-true _ _ (right (arrives_at s (counts n) t) (is_full (readout Slipping n t) (came_before s counts n t)) o) in
      ne_eqb held 0 (λ none. absurd (omega (
        arith,
        none,
        here,
        gone-append E slip R,
        put-append E slip (came_before s counts n (suc t)),
        full,
        came_before_grows s counts n t frame,
        put-is s j counts stores n t (came_before s counts n t),
        put-is s j counts stores n t (came_before s counts n (suc t)),
      )))

  empty-behind : (n t held : ℕ) → overs Slipping n t ≡ false → IsCount (arrived_out Slipping n t) held (came_before s counts n (suc t)) → eqb held 0 ≡ is_empty (readout Slipping n t) (came_before s counts n (suc t))
  empty-behind n t held none count =
      let out = readout Slipping n t in
      empty_same (gone_with out.edits out.read) (put_with out.edits (came_before s counts n (suc t))) held
      (subst (λ v. IsCount (with_slip v true (readout Slipping n t)) held (came_before s counts n (suc t))) none count)

  -- the store of a tributary that the slot reads slips under exactly where the definitions say so
  pub under-by : (mode : Mode) (n t held : ℕ) → IsFrame s → HasStores s → reads_from j ((carriage mode s j counts).more n) (s.role t) ≡ true → IsCount (arrived_out mode n t) held (came_before s counts n (suc t))
      → slips mode (eqb held 0) ≡ slips mode (unders mode n t)
  under-by Plain n t held frame stores reads count = refl
  under-by Slipping n t held frame stores reads count =
      let u = is_empty (readout Slipping n t) (came_before s counts n (suc t)) in
      elim (cases_Bool (overs Slipping n t)) [
        | inl o ↦ some-behind n t held frame stores o count ∙ ap (λ b. not b && (reads_from j (more n) (s.role t) && u)) (sym o)
        | inr none ↦
            empty-behind n t held none count ∙ ap (λ b. b && u) (sym reads) ∙ ap (λ b. not b && (reads_from j (more n) (s.role t) && u)) (sym none)
      ]

  pub not-under-by : (mode : Mode) (n t : ℕ) → reads_from j ((carriage mode s j counts).more n) (s.role t) ≡ false → slips mode (unders mode n t) ≡ false
  not-under-by Plain n t none = refl
  not-under-by Slipping n t none = ap (λ b. not (overs Slipping n t) && (b && is_empty (readout Slipping n t) (came_before s counts n (suc t)))) none ∙ both (not (overs Slipping n t))
    where
      both : (a : Bool) → (a && false) ≡ false
      both true = refl
      both false = refl

  -- a slot that reads the tributary
  pub next-by : (mode : Mode) (n t held : ℕ) → IsFrame s → HasStores s → reads_from j ((carriage mode s j counts).more n) (s.role t) ≡ true → IsCount (arrived_out mode n t) held (came_before s counts n (suc t))
      → with_read 1 (with_slip (slips mode (eqb held 0)) false (arrived_out mode n t)) ≡ readout mode n (suc t)
  next-by Plain n t held frame stores reads count = ap unslipped (sym (read_before-suc s j counts n t ∙ ap (λ b. read_before s j counts n t + cond b 1 0) reads))
  next-by Slipping n t held frame stores reads count =
      next-with n t 1 (eqb held 0) stores (sym (reads_below-suc s j (more n) t ∙ ap (λ b. reads_below s j (more n) t + cond b 1 0) reads))
      (λ o. some-behind n t held frame stores o count)
      (λ none. empty-behind n t held none count ∙ ap (λ b. b && is_empty (readout Slipping n t) (came_before s counts n (suc t))) (sym reads))

  -- and one that doesn't
  pub stays-by : (mode : Mode) (n t : ℕ) → HasStores s → reads_from j ((carriage mode s j counts).more n) (s.role t) ≡ false → arrived_out mode n t ≡ readout mode n (suc t)
  stays-by Plain n t stores none = ap unslipped (sym (read_before-suc s j counts n t ∙ ap (λ b. read_before s j counts n t + cond b 1 0) none ∙ omega arith))
  stays-by Slipping n t stores none =
      let out : Readout = arrived_out Slipping n t in
      let same : out.read ≡ out.read + 0 = omega arith in
      ap (λ (r : ℕ). record { read = r; edits = out.edits }) same
      ∙ next-with n t 0 false stores (sym (reads_below-suc s j (more n) t ∙ ap (λ b. reads_below s j (more n) t + cond b 1 0) none))
      (λ o. refl) (λ o. sym (ap (λ b. b && is_empty (readout Slipping n t) (came_before s counts n (suc t))) none))

  -- ---- a slot without an event

  pub over-off : (mode : Mode) (path : List ℕ) (n t : ℕ) → HasStores s → stops mode (overflows s j counts n t) ≡ false → slips mode (has_any (overflow_at Slipping s path j counts n t)) ≡ false → overs mode n t ≡ false
  over-off Plain path n t stores plain none = plain
  over-off Slipping path n t stores plain none = sym (over-told Slipping path n t stores) ∙ none

  pub under-off : (mode : Mode) (path : List ℕ) (n t : ℕ) → HasStores s → overs mode n t ≡ false → stops mode (underflows s j counts n t) ≡ false → slips mode (has_any (underflow_at Slipping s path j counts n t)) ≡ false
      → unders mode n t ≡ false
  under-off Plain path n t stores full plain none =
      ap (λ b. not b && (reads_from j ((carriage Plain s j counts).more n) (s.role t) && is_empty (readout Plain n t) (came_before s counts n (suc t)))) full ∙ plain
  under-off Slipping path n t stores full plain none = sym (under-told Slipping path n t stores) ∙ none

  -- it changes no edits
  pub calm-by : (mode : Mode) (n t : ℕ) → HasStores s → overs mode n t ≡ false → unders mode n t ≡ false → (carriage mode s j counts).edits n (suc t) ≡ (carriage mode s j counts).edits n t
  calm-by Plain n t stores full none = refl
  calm-by Slipping n t stores full none =
      let E : List Edit = edits_to s j counts n t in
      let u : Bool = is_empty (readout Slipping n t) (came_before s counts n (suc t)) in
      let v : Bool = reads_from j (more n) (s.role t) && u in
      let read : v ≡ false = sym (ap (λ b. not b && v) full) ∙ none in
      edits-next s j counts stores n t ∙ ap (λ o. E ++ map (as_edit s j counts stores n) (slip_with s j counts stores n t o u)) full
      ∙ ap (λ b. E ++ map (as_edit s j counts stores n) (cond b (record { over = false; slot = t; reads = reads_below s j (more n) t } ∷ []) [])) read ∙ append-nil E

  -- ---- a decision

  pub more-by : (mode : Mode) (n held : ℕ) → IsFrame s → HasStores s → IsCount (readout mode n 0) held (came_before s counts n 0) → leb threshold held ≡ (carriage mode s j counts).more n
  more-by Plain n held frame stores count =
      sym (sends_more-fill s counts n held stores (ap (λ k. k + held) (sym (read_before-start s j counts n)) ∙ count ∙ came_before-start s counts n frame))
  more-by Slipping n held frame stores count =
      more-is s j counts stores frame n held (count ∙ ap (put_with (edits_to s j counts n 0)) (came_before-start s counts n frame))
