-- What holds of the slots of a frame in whose way nothing stands.
use Rattle.std.proofs.Common.{◌≡◌, inl, inr, ℕ, zero, suc, ◌+◌, ◌<◌, ◌≤◌, true, false, List, [], map, cond, sym, ap, ◌∙◌, subst, arith, Some, None, slice_get, ◌∷◌}
use Rattle.std.specs.List.{range_with_len}
use Rattle.std.proofs.lemmas.Bool.{cases_Bool, cases_lt, le-leb}
use Rattle.pdh_edge.specs.Ports.{Inputs}
use Rattle.pdh_shape.specs.declared.place.Path.{Path}
use Rattle.pdh_shape.specs.Frame.{FrameShape}
use Rattle.pdh_shape.specs.Tributary.{reads_from}
use Rattle.pdh_tx.specs.declared.tx.Tx.{Ghosts}
use Rattle.pdh_tx.specs.declared.tx.TxStop.{TxStop}
use Rattle.pdh_tx.specs.declared.tx.TxStop.TheVariants.{NoFrame}
use Rattle.pdh_tx.specs.Meaning.{Meaning, Plan}
use Rattle.pdh_tx.specs.Held.{first_some, some_if}
use Rattle.pdh_tx.specs.Making.{IsClear}
use Rattle.pdh_tx.specs.Node.{obstacle_of, slips_below, IsDisjoint}
use Rattle.pdh_tx.specs.Locked.{locked_to, locked_beginning, locked_read, locked_steps, locked_read_slips, locked_slot_slips}
use Rattle.pdh_tx.proofs.Moving.{fit_one}
use Rattle.pdh_tx.proofs.Clearing.{none_right, none_map, nil_flat}
use Rattle.pdh_tx.specs.Body.{SlotsClear}
use Rattle.pdh_locked.specs.Children.{held_in}
use Rattle.pdh_locked.proofs.OneSlot.{locked_step, begin_stop}

module _ (s : FrameShape) (path : Path) (plan : Plan) (ms : List Meaning) (n : ℕ) where
  -- a bit that a slot of a piece reads
  module _ (j : ℕ) (P : ℕ → Type 0) where
    pub each_read : (t len : ℕ) → ((v : ℕ) → v < len → reads_from j false (s.role (t + v)) ≡ true → P (locked_to s n (t + v) j)) → (y : ℕ) → locked_to s n t j ≤ y → y < locked_to s n (t + len) j → P y
    each_read t zero read y from to = (let e : t + 0 ≡ t = omega arith in let d = ap (λ v. locked_to s n v j) e in absurd (omega arith))
    each_read t (suc len) read y from to =
        let e : t + suc len ≡ suc (t + len) = omega arith in
        let next : locked_to s n (t + suc len) j ≡ locked_to s n (t + len) j + cond (reads_from j false (s.role (t + len))) 1 0 = ap (λ v. locked_to s n v j) e ∙ locked_step s n (t + len) j in
        elim (cases_lt y (locked_to s n (t + len) j)) [
          | inl before ↦ each_read t len (λ v h. read v (omega arith)) y from before
          | inr here ↦ elim (cases_Bool (reads_from j false (s.role (t + len)))) [
            | inl reads ↦
                let one : locked_to s n (t + suc len) j ≡ locked_to s n (t + len) j + 1 = next ∙ ap (λ b. locked_to s n (t + len) j + cond b 1 0) reads in
                let same : locked_to s n (t + len) j ≡ y = omega arith in
                subst P same (read len (omega arith) reads)
            | inr none ↦ (let same : locked_to s n (t + suc len) j ≡ locked_to s n (t + len) j + 0 = next ∙ ap (λ b. locked_to s n (t + len) j + cond b 1 0) none in absurd (omega arith))
          ]
        ]

  -- nothing stands in the way of the bit that a slot reads
  pub read_clear : (size : ℕ → ℕ) (t j : ℕ) (m : Meaning) → j < s.tribs → slice_get ms j ≡ Some m → first_some (locked_steps s path plan ms size n t) ≡ None → reads_from j false (s.role t) ≡ true → m.obstacle plan size (locked_to s n t j) ≡ None
  read_clear size t j m known at clear reads =
      let own : locked_read s plan ms size n t j ≡ None = none_map (locked_read s plan ms size n t) 0 s.tribs j (none_right (locked_beginning path plan n t ∷ []) (map (locked_read s plan ms size n t) (range_with_len 0 s.tribs)) clear) (omega arith) (omega arith) in
      ap (λ o. obstacle_of o plan size (locked_to s n t j)) (sym at) ∙ sym (ap (λ b. cond b (obstacle_of (slice_get ms j) plan size (locked_to s n t j)) None) reads) ∙ own

  -- nor does it bring a slip
  pub read_quiet : (t j : ℕ) (m : Meaning) → j < s.tribs → slice_get ms j ≡ Some m → locked_slot_slips s plan ms n t ≡ [] → reads_from j false (s.role t) ≡ true → m.slips plan (locked_to s n t j) ≡ []
  read_quiet t j m known at quiet reads =
      let own : locked_read_slips s plan ms n t j ≡ [] = nil_flat (locked_read_slips s plan ms n t) 0 s.tribs j quiet (omega arith) (omega arith) in
      ap (λ o. slips_below o plan (locked_to s n t j)) (sym at) ∙ sym (ap (λ b. cond b (slips_below (slice_get ms j) plan (locked_to s n t j)) []) reads) ∙ own

module _ {C : Type 0} (tx : Ghosts C) (s : FrameShape) (path : Path) (plan : Plan) (children : List C) (n t len : ℕ) (a : Inputs) (clear : SlotsClear (λ size. locked_steps s path plan (map tx.meaning children) size n) (locked_slot_slips s plan (map tx.meaning children) n) (map tx.meaning children) plan (locked_to s n t) t len a) where
  -- nothing stands in the way of a child
  pub passable : (j : ℕ) (m : Meaning) → IsDisjoint (map tx.meaning children) → j < s.tribs → slice_get (map tx.meaning children) j ≡ Some m → IsClear m plan (locked_to s n t j) (locked_to s n (t + len) j) a
  passable j m dis known at = record {
    size = clear.size;
    fits = fit_one (held_in tx) tx.meaning plan (map tx.meaning children) j m (locked_to s n t) a clear.size dis at clear.fits;
    clear = each_read s path plan (map tx.meaning children) n j (λ y. m.obstacle plan clear.size y ≡ None) t len (λ v h reads. read_clear s path plan (map tx.meaning children) n clear.size (t + v) j m known at (clear.clear v h) reads);
    no_slip = each_read s path plan (map tx.meaning children) n j (λ y. m.slips plan y ≡ []) t len (λ v h reads. read_quiet s path plan (map tx.meaning children) n (t + v) j m known at (clear.no_slip v h) reads);
  }

  -- nor of the frame's beginning
  begins : (stop : TxStop) → 0 < len → locked_beginning path plan n t ≡ Some stop → ⊥
  begins stop some met =
      let e : t ≡ t + 0 = omega arith in
      no (sym (begin_stop s path plan (map tx.meaning children) clear.size n t stop met) ∙ ap (λ v. first_some (locked_steps s path plan (map tx.meaning children) clear.size n v)) e ∙ clear.clear 0 some)
    where
      no : Some stop ≡ None → ⊥
      no h = cc

  -- so the frame is scheduled
  pub scheduled : 0 < len → (0 < t → n < plan.frames path) → n < plan.frames path
  scheduled some inside = elim (cases_lt 0 t) [
    | inl later ↦ inside later
    | inr first ↦ elim (cases_lt n (plan.frames path)) [
      | inl less ↦ less
      | inr past ↦
          let begun : t ≡ 0 = omega arith in
          let stops : locked_beginning path plan n t ≡ Some (NoFrame path) =
          ap (λ v. locked_beginning path plan n v) begun ∙ ap (λ over. some_if over (NoFrame path)) (le-leb (plan.frames path) n past) in
          absurd (begins (NoFrame path) some stops)
    ]
  ]
