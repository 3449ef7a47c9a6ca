-- Slots that surely meet nothing, by the children of a multiplexer without stores, and by its frames' being scheduled.
use Rattle.std.proofs.Common.{◌≡◌, ℕ, suc, ◌+◌, ◌*◌, ◌<◌, ◌≤◌, Bool, true, false, List, [], ◌∷◌, length, map, cond, eqb, leb, refl, ap, ◌∙◌, inl, inr, arith, Option, Some, None, slice_get}
use Rattle.std.specs.List.{range_with_len}
use Rattle.std.proofs.lemmas.Bool.{cases_Bool, cases_lt, lt-leb}
use Rattle.std.proofs.Math.Nat.{mul-le-mul_right, add-mul}
use Rattle.pdh_edge.specs.Ports.{Inputs}
use Rattle.pdh_shape.specs.declared.place.Path.{Path}
use Rattle.pdh_shape.specs.Frame.{FrameShape}
use Rattle.pdh_shape.specs.Tributary.{reads_from, reads_below, HasTributaries}
use Rattle.pdh_shape.specs.laws.Ranges.{count-range_grows}
use Rattle.pdh_line.proofs.SendingLaws.{reads_below-suc, reads_below-all}
use Rattle.pdh_tx.specs.declared.tx.Tx.{Ghosts}
use Rattle.pdh_tx.specs.declared.tx.TxStop.{TxStop}
use Rattle.pdh_tx.specs.declared.tx.TxStop.TheVariants.{NoFrame}
use Rattle.pdh_tx.specs.Meaning.{Plan, Meaning}
use Rattle.pdh_slips.specs.declared.slip.Slip.{Slip}
use Rattle.pdh_tx.specs.Making.{IsUneventful}
use Rattle.pdh_tx.specs.Held.{first_some, some_if}
use Rattle.pdh_tx.specs.Node.{obstacle_of, slips_below, IsDisjoint, AllFit}
use Rattle.pdh_tx.specs.Locked.{locked_to, locked_beginning, locked_read, locked_steps, locked_read_slips, locked_slot_slips}
use Rattle.pdh_tx.proofs.Firsts.{map_none}
use Rattle.pdh_tx.proofs.Lists.{get_at, flat_nothing}
use Rattle.pdh_tx.proofs.Moving.{fit_one}
use Rattle.pdh_locked.specs.Children.{held_in}

module _ {C : Type 0} (tx : Ghosts C) (s : FrameShape) (has : HasTributaries s) (path : Path) (plan : Plan) (ms : List Meaning) (long : length ms ≡ s.tribs) (dis : IsDisjoint ms)
    (n t count : ℕ) (inside : t < s.len) (a : Inputs) (k : ℕ) (most : 0 < count → t + count ≤ k * s.len) (scheduled : (i : ℕ) → n ≤ i → i < n + k → i < plan.frames path)
    (asked : ℕ) (enough : t + count ≤ asked * s.len) (quiet : (j : ℕ) (m : Meaning) → slice_get ms j ≡ Some m → IsUneventful m plan (locked_to s n t j) (locked_to s n t j + asked * s.low) a)
    (m u : ℕ) (slot : u < s.len) (from : n * s.len + t ≤ m * s.len + u) (to : m * s.len + u < n * s.len + t + count) where
  later : n ≤ m
  later = elim (cases_lt m n) [
    | inl less ↦ (let up : suc m * s.len ≤ n * s.len = mul-le-mul_right s.len less in absurd (omega (arith, up, from, slot)))
    | inr fine ↦ fine
  ]

  -- it is one of so many frames
  before : (frames : ℕ) → t + count ≤ frames * s.len → m < n + frames
  before frames all = elim (cases_lt m (n + frames)) [
    | inl fine ↦ fine
    | inr over ↦ (let up : (n + frames) * s.len ≤ m * s.len = mul-le-mul_right s.len over in absurd (omega (arith, up, add-mul n frames s.len, to, all)))
  ]

  beginning_free : locked_beginning path plan m u ≡ None
  beginning_free = go (eqb u 0)
    where
      go : (b : Bool) → cond b (some_if (leb (plan.frames path) m) (NoFrame path)) None ≡ None
      go true = ap (λ v. some_if v (NoFrame path)) (lt-leb _ _ (scheduled m later (before k (most (omega (arith, from, to))))))
      go false = refl

  -- the bit that the slot reads is one of those that its child surely gives
  bit_first : (j : ℕ) → j < s.tribs → locked_to s n t j ≤ locked_to s m u j
  bit_first j known = elim (cases_lt n m) [
    | inl less ↦
        let up : suc n * s.low ≤ m * s.low = mul-le-mul_right s.low less in
        let few : reads_below s j false t ≤ reads_below s j false s.len = count-range_grows (λ v. reads_from j false (s.role v)) t s.len (omega (arith, inside)) in
        omega (arith, up, few, reads_below-all s j false has known)
    | inr same ↦
        let e : n ≡ m = omega (arith, later, same) in
        let whole : n * s.low ≡ m * s.low = ap (λ v. v * s.low) e in
        let place : n * s.len ≡ m * s.len = ap (λ v. v * s.len) e in
        omega (arith, whole, count-range_grows (λ v. reads_from j false (s.role v)) t u (omega (arith, from, place)))
  ]

  bit_last : (j : ℕ) → j < s.tribs → reads_from j false (s.role u) ≡ true → locked_to s m u j < locked_to s n t j + asked * s.low
  bit_last j known reads =
      let next : reads_below s j false (suc u) ≡ reads_below s j false u + 1 = reads_below-suc s j false u ∙ ap (λ b. reads_below s j false u + cond b 1 0) reads in
      let few : reads_below s j false (suc u) ≤ reads_below s j false s.len = count-range_grows (λ v. reads_from j false (s.role v)) (suc u) s.len (omega (arith, slot)) in
      let up : suc m * s.low ≤ (n + asked) * s.low = mul-le-mul_right s.low (before asked enough) in
      omega (arith, next, few, reads_below-all s j false has known, up, add-mul n asked s.low)

  read_free : (size : ℕ → ℕ) → AllFit ms plan (locked_to s n t) a size → (j : ℕ) → j < s.tribs → locked_read s plan ms size m u j ≡ None
  read_free size fit j known =
      let at = get_at ms j (omega (arith, known, long)) in
      let o : Option TxStop = obstacle_of (slice_get ms j) plan size (locked_to s m u j) in
      elim (cases_Bool (reads_from j false (s.role u))) [
        | inl reads ↦
            ap (λ b. cond b o None) reads ∙ ap (λ v. obstacle_of v plan size (locked_to s m u j)) at.1
            ∙ (quiet j at.0 at.1).free size (fit_one (held_in tx) tx.meaning plan ms j at.0 (locked_to s n t) a size dis at.1 fit) (locked_to s m u j) (bit_first j known) (bit_last j known reads)
        | inr none ↦ ap (λ b. cond b o None) none
      ]

  pub slot_free : (size : ℕ → ℕ) → AllFit ms plan (locked_to s n t) a size → first_some (locked_steps s path plan ms size m u) ≡ None
  slot_free size fit =
      ap (λ o. first_some (o ∷ map (locked_read s plan ms size m u) (range_with_len 0 s.tribs))) beginning_free
      ∙ map_none (locked_read s plan ms size m u) 0 s.tribs (λ j l h. read_free size fit j (omega (arith, h)))

  -- and it brings no slip
  read_quiet : (j : ℕ) → j < s.tribs → locked_read_slips s plan ms m u j ≡ []
  read_quiet j known =
      let at = get_at ms j (omega (arith, known, long)) in
      let o : List Slip = slips_below (slice_get ms j) plan (locked_to s m u j) in
      elim (cases_Bool (reads_from j false (s.role u))) [
        | inl reads ↦
            ap (λ b. cond b o []) reads ∙ ap (λ v. slips_below v plan (locked_to s m u j)) at.1
            ∙ (quiet j at.0 at.1).no_slip (locked_to s m u j) (bit_first j known) (bit_last j known reads)
        | inr none ↦ ap (λ b. cond b o []) none
      ]

  pub slot_quiet : locked_slot_slips s plan ms m u ≡ []
  slot_quiet = flat_nothing (locked_read_slips s plan ms m u) 0 s.tribs (λ j l h. read_quiet j (omega (arith, h)))
