-- In either mode a node's line is decided by the bits of its tributaries.
use Rattle.std.proofs.Common.{◌≡◌, ℕ, zero, suc, ◌+◌, ◌/◌, ◌%◌, ◌<◌, Bool, true, cond, eqb, refl, ap, arith}
use Rattle.std.proofs.lemmas.Nat.{mod_below}
use Rattle.pdh_shape.specs.declared.role.Role.{Role}
use Rattle.pdh_shape.specs.declared.role.Role.TheVariants.{Align, Service, Control, Just, Info}
use Rattle.pdh_shape.specs.declared.role.Service.{Service as Say}
use Rattle.pdh_shape.specs.Frame.{FrameShape, IsFrame}
use Rattle.pdh_shape.specs.Tributary.{turned, reads_below, HasTributaries}
use Rattle.pdh_line.specs.Sending.{Mode, Source, Carriage, carriage, more_in, input_bit, payload_bit, odd_before, slot_bit, line_bit}
use Rattle.pdh_line.proofs.Ranges.{count-range_same}
use Rattle.pdh_nesting.proofs.EditedLists.{edited-same}

module _ (s : FrameShape) (mode : Mode) (counts : ℕ → ℕ → ℕ) (p q : ℕ → ℕ → Bool) (says : ℕ → Say) (frame : IsFrame s) (has : HasTributaries s) (same : (j i : ℕ) → j < s.tribs → p j i ≡ q j i) where
  abbrev source : (ℕ → ℕ → Bool) → Source
  source inputs = record { mode = mode; counts = counts; inputs = inputs; says = says }

  input-same : (n t j : ℕ) → j < s.tribs → input_bit s (source p) n t j ≡ input_bit s (source q) n t j
  input-same n t j known =
      let c : Carriage = carriage mode s j (counts j) in
      ap (turned (s.inverted j)) (edited-same (c.edits n (suc t)) (p j) (q j) (λ i. same j i known) (c.sent n + reads_below s j (c.more n) t))

  payload-same : (n t : ℕ) (r : Role) → t < s.len → s.role t ≡ r → payload_bit s (source p) n t r ≡ payload_bit s (source q) n t r
  payload-same n t (Info j) inside e = input-same n t j (has.info_known t j inside e)
  payload-same n t (Just j) inside e = ap (λ bit. cond (more_in s (source p) j n) bit true) (input-same n t j (has.just_known t j inside e))
  payload-same n t (Align signal) inside e = refl
  payload-same n t (Service number) inside e = refl
  payload-same n t (Control j copy) inside e = refl

  odd-same : (n : ℕ) → odd_before s (source p) n ≡ odd_before s (source q) n
  unfolding odd_before
  odd-same zero = refl
  odd-same (suc n) = ap (λ ones. eqb (ones % 2) 1) (count-range_same _ _ 0 s.len (λ t l h. payload-same n t (s.role t) (omega arith) refl))

  slot-same : (n t : ℕ) (r : Role) → t < s.len → s.role t ≡ r → slot_bit s (source p) n t r ≡ slot_bit s (source q) n t r
  slot-same n t (Align signal) inside e = refl
  slot-same n t (Service number) inside e = ap (s.service number (says n)) (odd-same n)
  slot-same n t (Control j copy) inside e = refl
  slot-same n t (Just j) inside e = payload-same n t (Just j) inside e
  slot-same n t (Info j) inside e = payload-same n t (Info j) inside e

  pub line_bit-same_inputs : (x : ℕ) → line_bit s (source p) x ≡ line_bit s (source q) x
  unfolding line_bit
  line_bit-same_inputs x = slot-same (x / s.len) (x % s.len) (s.role (x % s.len)) (mod_below x s.len frame.some_slots) refl
