-- A slot of a node without stores.
use Rattle.std.proofs.Common.{◌≡◌, inl, inr, ℕ, zero, suc, ◌+◌, ◌*◌, ◌<◌, Bool, true, false, ◌&&◌, ◌||◌, not, List, [], ◌∷◌, ◌++◌, map, cond, eqb, ltb, refl, sym, ap, ◌∙◌, subst, arith, Option, Some, None, slice_get, eq-eqb}
use Rattle.std.specs.Bool.{beq}
use Rattle.std.specs.List.{range_with_len}
use Rattle.std.proofs.lemmas.Bool.{cases_eq, ne_eqb}
use Rattle.pdh_shape.specs.declared.role.Role.{Role}
use Rattle.pdh_shape.specs.declared.role.Role.TheVariants.{Align, Service as ServiceSlot, Control, Just, Info}
use Rattle.pdh_shape.specs.declared.role.Service.{Service}
use Rattle.pdh_shape.specs.declared.place.Path.{Path}
use Rattle.pdh_shape.specs.Frame.{FrameShape}
use Rattle.pdh_shape.specs.Tributary.{reads_from, reads_below, turned, HasTributaries}
use Rattle.pdh_line.specs.Sending.Mode.{Plain, Slipping}
use Rattle.pdh_shape.specs.OwnNumbers.{lead, threshold}
use Rattle.pdh_line.specs.Edits.{edited}
use Rattle.pdh_line.specs.Progress.{arrived}
use Rattle.pdh_line.specs.Sending.{sent, read_before, Mode, carried, Start, carries_at, start_of, edits_in, edits_to, carriage, Source, more_in, input_bit, slot_bit, odd_before}
use Rattle.pdh_line.proofs.SendingLaws.{reads_below-suc, sends_more-locked, sent-locked}
use Rattle.pdh_slips.specs.declared.slip.Slip.{Slip}
use Rattle.pdh_tx.specs.declared.tx.TxStop.{TxStop}
use Rattle.pdh_tx.specs.Meaning.{Meaning, Plan}
use Rattle.pdh_tx.specs.Held.{first_some}
use Rattle.pdh_tx.specs.Node.{obstacle_of, slips_below, set_at, carried_by, overhead_bit}
use Rattle.pdh_tx.specs.Locked.{locked_to, locked_beginning, locked_read, locked_steps, locked_read_slips, locked_slot_slips}
use Rattle.pdh_tx.proofs.Firsts.{map_none, map_some}
use Rattle.pdh_tx.proofs.Lists.{some_same, flat_nothing, flat_one}
use Rattle.pdh_tx.proofs.Moving.{set_here, set_other}

-- ---- what it carries

and_false : (b : Bool) → (b && false) ≡ false
and_false true = refl
and_false false = refl

pub read_one : (r : Role) (i : ℕ) → carried_by [] r ≡ Some i → (j : ℕ) → reads_from j false r ≡ eqb i j
read_one (Info k) i h j = ap (λ v. eqb v j) (some_same h)
read_one (Just k) i h j = absurd (cc h)
read_one (Align b) i h j = absurd (cc h)
read_one (ServiceSlot k) i h j = absurd (cc h)
read_one (Control k copy) i h j = absurd (cc h)

pub read_none : (r : Role) → carried_by [] r ≡ None → (j : ℕ) → reads_from j false r ≡ false
read_none (Info k) h j = absurd (cc h)
read_none (Just k) h j = and_false (eqb k j)
read_none (Align b) h j = refl
read_none (ServiceSlot k) h j = refl
read_none (Control k copy) h j = refl

-- a bit of a child, by whether it is inverted
pub xor_turned : (bit inverted : Bool) → not (beq bit inverted) ≡ turned inverted bit
xor_turned true true = refl
xor_turned true false = refl
xor_turned false true = refl
xor_turned false false = refl

pub reader_known : (s : FrameShape) → HasTributaries s → (t i : ℕ) (r : Role) → t < s.len → s.role t ≡ r → carried_by [] r ≡ Some i → i < s.tribs
reader_known s has t i (Info k) within is h = (let same = some_same h in let known = has.info_known t k within is in omega arith)
reader_known s has t i (Just k) within is h = absurd (cc h)
reader_known s has t i (Align b) within is h = absurd (cc h)
reader_known s has t i (ServiceSlot k) within is h = absurd (cc h)
reader_known s has t i (Control k copy) within is h = absurd (cc h)

-- the bit of a slot that reads tributary i
pub reads_is : (s : FrameShape) (source : Source) (n t i : ℕ) (r : Role) → carried_by [] r ≡ Some i → slot_bit s source n t r ≡ input_bit s source n t i
reads_is s source n t i (Info k) h = ap (λ v. input_bit s source n t v) (some_same h)
reads_is s source n t i (Just k) h = absurd (cc h)
reads_is s source n t i (Align b) h = absurd (cc h)
reads_is s source n t i (ServiceSlot k) h = absurd (cc h)
reads_is s source n t i (Control k copy) h = absurd (cc h)

module _ (s : FrameShape) (locked : eqb s.copies 0 ≡ true) where
  -- all that is taken is read
  read_locked : (counts : ℕ → ℕ) (n t j : ℕ) → read_before s j counts n t ≡ locked_to s n t j
  read_locked counts n t j = ap (λ more. sent s counts n + reads_below s j more t) (sends_more-locked s counts n locked) ∙ ap (λ k. k + reads_below s j false t) (sent-locked s counts n locked)

  -- no frame carries an additional bit, and nothing slips
  slip_more : (counts : ℕ → ℕ) (n : ℕ) (at : Start) → carries_at s counts n at ≡ false
  slip_more counts n at = ap (λ b. not (b || ltb (lead + arrived counts n + at.added) (at.sent + at.dropped + threshold))) locked

  slip_sent : (j : ℕ) (counts : ℕ → ℕ) (n : ℕ) → (start_of s j counts n).sent ≡ n * s.low
  unfolding start_of
  slip_sent j counts zero = omega arith
  slip_sent j counts (suc n) =
      ap (λ more. (start_of s j counts n).sent + carried s more) (slip_more counts n (start_of s j counts n)) ∙ ap (λ k. k + s.low) (slip_sent j counts n) ∙ omega arith

  none_edited : (j : ℕ) (counts : ℕ → ℕ) (n t : ℕ) → edits_in s j counts n t ≡ []
  none_edited j counts n t = rw locked refl

  slip_edits : (j : ℕ) (counts : ℕ → ℕ) (n t : ℕ) → edits_to s j counts n t ≡ []
  slip_edits j counts n t =
      ap (λ l. l ++ edits_in s j counts n t) (flat_nothing (λ m. edits_in s j counts m s.len) 0 n (λ m l h. none_edited j counts m s.len)) ∙ none_edited j counts n t

  pub more_by : (mode : Mode) (j : ℕ) (counts : ℕ → ℕ) (n : ℕ) → (carriage mode s j counts).more n ≡ false
  more_by Plain j counts n = sends_more-locked s counts n locked
  more_by Slipping j counts n = slip_more counts n (start_of s j counts n)

  pub edits_none : (mode : Mode) (j : ℕ) (counts : ℕ → ℕ) (n t : ℕ) → (carriage mode s j counts).edits n t ≡ []
  edits_none Plain j counts n t = refl
  edits_none Slipping j counts n t = slip_edits j counts n t

  pub read_by : (mode : Mode) (j : ℕ) (counts : ℕ → ℕ) (n t : ℕ) → (carriage mode s j counts).sent n + reads_below s j ((carriage mode s j counts).more n) t ≡ locked_to s n t j
  read_by Plain j counts n t = read_locked counts n t j
  read_by Slipping j counts n t =
      let start = start_of s j counts n in
      ap (λ more. start.sent + reads_below s j more t) (slip_more counts n start) ∙ ap (λ k. k + reads_below s j false t) (slip_sent j counts n)

  bit_by : (mode : Mode) (j : ℕ) (counts : ℕ → ℕ) (inputs : ℕ → Bool) (n t : ℕ)
      → edited ((carriage mode s j counts).edits n (suc t)) inputs ((carriage mode s j counts).sent n + reads_below s j ((carriage mode s j counts).more n) t) ≡ inputs (locked_to s n t j)
  bit_by mode j counts inputs n t =
      let c = carriage mode s j counts in
      ap (λ l. edited l inputs (c.sent n + reads_below s j (c.more n) t)) (edits_none mode j counts n (suc t)) ∙ ap inputs (read_by mode j counts n t)

  more_locked : (source : Source) (k n : ℕ) → more_in s source k n ≡ false
  more_locked source k n = more_by source.mode k (source.counts k) n

  pub overhead_is : (source : Source) (n t : ℕ) (say : Service) (odd : Bool) (r : Role) → carried_by [] r ≡ None → source.says n ≡ say → odd ≡ odd_before s source n → overhead_bit s say odd [] r ≡ slot_bit s source n t r
  overhead_is source n t say odd (Align b) none said parity = refl
  overhead_is source n t say odd (ServiceSlot k) none said parity = ap (λ v. s.service k v odd) (sym said) ∙ ap (s.service k (source.says n)) parity
  overhead_is source n t say odd (Control k copy) none said parity = ap not (sym (more_locked source k n))
  overhead_is source n t say odd (Just k) none said parity = sym (ap (λ b. cond b (input_bit s source n t k) true) (more_locked source k n))
  overhead_is source n t say odd (Info k) none said parity = absurd (cc none)

  pub read_is : (source : Source) (n t i : ℕ) (r : Role) → carried_by [] r ≡ Some i → slot_bit s source n t r ≡ turned (s.inverted i) (source.inputs i (locked_to s n t i))
  read_is source n t i r h = reads_is s source n t i r h ∙ ap (turned (s.inverted i)) (bit_by source.mode i (source.counts i) (source.inputs i) n t)

-- ---- how many bits are taken after it

module _ (s : FrameShape) (n t : ℕ) where
  pub locked_step : (j : ℕ) → locked_to s n (suc t) j ≡ locked_to s n t j + cond (reads_from j false (s.role t)) 1 0
  locked_step j = (let e = reads_below-suc s j false t in omega arith)

  pub locked_same : ((j : ℕ) → reads_from j false (s.role t) ≡ false) → (j : ℕ) → locked_to s n t j ≡ locked_to s n (suc t) j
  locked_same none j = sym (locked_step j ∙ ap (λ b. locked_to s n t j + cond b 1 0) (none j) ∙ omega arith)

  pub locked_set : (i : ℕ) → ((j : ℕ) → reads_from j false (s.role t) ≡ eqb i j) → (j : ℕ) → set_at (locked_to s n t) i (suc (locked_to s n t i)) j ≡ locked_to s n (suc t) j
  locked_set i one j = elim (cases_eq j i) [
    | inl same ↦
        let here : reads_from i false (s.role t) ≡ true = one i ∙ eq-eqb i i refl in
        let next : locked_to s n (suc t) i ≡ suc (locked_to s n t i) = locked_step i ∙ ap (λ b. locked_to s n t i + cond b 1 0) here ∙ omega arith in
        let P : ℕ → Type 0 = λ v. set_at (locked_to s n t) i (suc (locked_to s n t i)) v ≡ locked_to s n (suc t) v in
        subst P (sym same) (set_here (locked_to s n t) i (suc (locked_to s n t i)) ∙ sym next)
    | inr other ↦
        let off : reads_from j false (s.role t) ≡ false = one j ∙ ne_eqb i j (λ h. other (sym h)) in
        set_other (locked_to s n t) i (suc (locked_to s n t i)) j other ∙ sym (locked_step j ∙ ap (λ b. locked_to s n t j + cond b 1 0) off ∙ omega arith)
  ]

-- ---- what stands in its way

module _ (s : FrameShape) (path : Path) (plan : Plan) (ms : List Meaning) (size : ℕ → ℕ) (n t : ℕ) where
  abbrev met_by : ℕ → Option TxStop
  met_by j = obstacle_of (slice_get ms j) plan size (locked_to s n t j)

  skip : locked_beginning path plan n t ≡ None → first_some (locked_steps s path plan ms size n t) ≡ first_some (map (locked_read s plan ms size n t) (range_with_len 0 s.tribs))
  skip h = ap (λ o. first_some (o ∷ map (locked_read s plan ms size n t) (range_with_len 0 s.tribs))) h

  pub none_free : locked_beginning path plan n t ≡ None → ((j : ℕ) → reads_from j false (s.role t) ≡ false) → first_some (locked_steps s path plan ms size n t) ≡ None
  none_free began none = skip began ∙ map_none (locked_read s plan ms size n t) 0 s.tribs (λ j l h. ap (λ b. cond b (met_by j) None) (none j))

  module _ (began : locked_beginning path plan n t ≡ None) (i : ℕ) (one : (j : ℕ) → reads_from j false (s.role t) ≡ eqb i j) where
    others_free : (j : ℕ) → (j ≡ i → ⊥) → locked_read s plan ms size n t j ≡ None
    others_free j other = ap (λ b. cond b (met_by j) None) (one j ∙ ne_eqb i j (λ h. other (sym h)))

    own : locked_read s plan ms size n t i ≡ met_by i
    own = ap (λ b. cond b (met_by i) None) (one i ∙ eq-eqb i i refl)

    pub one_free : met_by i ≡ None → first_some (locked_steps s path plan ms size n t) ≡ None
    one_free free = skip began ∙ map_none (locked_read s plan ms size n t) 0 s.tribs (λ j l h. elim (cases_eq j i) [
      | inl same ↦ ap (locked_read s plan ms size n t) same ∙ own ∙ free
      | inr other ↦ others_free j other
    ])

    pub one_stop : (stop : TxStop) → i < s.tribs → met_by i ≡ Some stop → first_some (locked_steps s path plan ms size n t) ≡ Some stop
    one_stop stop known met =
        skip began ∙ map_some (locked_read s plan ms size n t) stop 0 s.tribs i (omega arith) (omega arith) (λ j l h. others_free j (λ z. absurd (omega arith))) (own ∙ met)

  pub begin_stop : (stop : TxStop) → locked_beginning path plan n t ≡ Some stop → first_some (locked_steps s path plan ms size n t) ≡ Some stop
  begin_stop stop h = ap (λ o. first_some (o ∷ map (locked_read s plan ms size n t) (range_with_len 0 s.tribs))) h

-- ---- the slips in making its bit

module _ (s : FrameShape) (plan : Plan) (ms : List Meaning) (n t : ℕ) where
  abbrev told_by : ℕ → List Slip
  told_by j = slips_below (slice_get ms j) plan (locked_to s n t j)

  pub none_tells : ((j : ℕ) → reads_from j false (s.role t) ≡ false) → locked_slot_slips s plan ms n t ≡ []
  none_tells none = flat_nothing (locked_read_slips s plan ms n t) 0 s.tribs (λ j l h. ap (λ b. cond b (told_by j) []) (none j))

  pub one_tells : (i : ℕ) → i < s.tribs → ((j : ℕ) → reads_from j false (s.role t) ≡ eqb i j) → locked_slot_slips s plan ms n t ≡ told_by i
  one_tells i known one =
      flat_one (locked_read_slips s plan ms n t) 0 s.tribs i (omega arith) (omega arith) (λ j other. ap (λ b. cond b (told_by j) []) (one j ∙ ne_eqb i j (λ h. other (sym h))))
      ∙ ap (λ b. cond b (told_by i) []) (one i ∙ eq-eqb i i refl)
