-- The parity of a frame's information and justifiable slots.
use Rattle.std.proofs.Common.{◌≡◌, ℕ, zero, suc, ◌+◌, ◌<◌, ◌≤◌, List, length, ◌%◌, Bool, true, false, ◌&&◌, not, cond, eqb, refl, sym, ap, ◌∙◌, inl, inr, arith, add-zero, zero-add}
use Rattle.std.specs.Prelude.{count_by}
use Rattle.std.specs.List.{range_with_len, slice_index_or}
use Rattle.std.specs.Bool.{beq}
use Rattle.std.proofs.lemmas.Bool.{cases_eq}
use Rattle.pdh_shape.specs.declared.role.Role.{Role}
use Rattle.pdh_shape.specs.declared.role.Role.TheVariants.{Align, Service, Control, Just, Info}
use Rattle.pdh_shape.specs.Frame.{FrameShape}
use Rattle.pdh_line.specs.Sending.{Source, more_in, input_bit, payload_bit, slot_bit, odd_before}
use Rattle.pdh_line.proofs.Ranges.{count-range_push}
use Rattle.pdh_tx.specs.Node.{odd_within}
use Rattle.pdh_shape.specs.Payload.{is_payload, payload_ones}

no_payload : (b : Bool) → (b && false) ≡ false
no_payload true = refl
no_payload false = refl

all_payload : (b : Bool) → (b && true) ≡ b
all_payload true = refl
all_payload false = refl

pub payload_of : (s : FrameShape) (source : Source) (n t : ℕ) (r : Role) → (slot_bit s source n t r && is_payload r) ≡ payload_bit s source n t r
payload_of s source n t (Align signal) = no_payload signal
payload_of s source n t (Service number) = no_payload (s.service number (source.says n) (odd_before s source n))
payload_of s source n t (Control j copy) = no_payload (not (more_in s source j n))
payload_of s source n t (Just j) = all_payload (cond (more_in s source j n) (input_bit s source n t j) true)
payload_of s source n t (Info j) = all_payload (input_bit s source n t j)

-- one more slot turns the parity where it holds a one
odd_more : (c : ℕ) (bit : Bool) → eqb ((c + cond bit 1 0) % 2) 1 ≡ not (beq (eqb (c % 2) 1) bit)
odd_more c true =
    elim (cases_eq (c % 2) 1) [
      | inl one ↦ let even : (c + 1) % 2 ≡ 0 = omega arith in rw (even, one) refl
      | inr none ↦ let zero : c % 2 ≡ 0 = omega arith in let odd : (c + 1) % 2 ≡ 1 = omega arith in rw (odd, zero) refl
    ]
odd_more c false = ap (λ n. eqb (n % 2) 1) (add-zero c) ∙ same (eqb (c % 2) 1)
  where
    same : (b : Bool) → b ≡ not (beq b false)
    same true = refl
    same false = refl

odd_within-suc : (s : FrameShape) (source : Source) (n t : ℕ) → odd_within s source n (suc t) ≡ not (beq (odd_within s source n t) (payload_bit s source n t (s.role t)))
odd_within-suc s source n t =
    ap (λ c. eqb (c % 2) 1) (count-range_push (λ t. payload_bit s source n t (s.role t)) t) ∙ odd_more (count_by (λ t. payload_bit s source n t (s.role t)) (range_with_len 0 t)) (payload_bit s source n t (s.role t))

pub odd_before-suc : (s : FrameShape) (source : Source) (n : ℕ) → odd_before s source (suc n) ≡ odd_within s source n s.len
unfolding odd_before
odd_before-suc s source n = refl

pub odd_before-zero : (s : FrameShape) (source : Source) → odd_before s source 0 ≡ false
unfolding odd_before
odd_before-zero s source = refl

pub odd_within-zero : (s : FrameShape) (source : Source) (n : ℕ) → odd_within s source n 0 ≡ false
odd_within-zero s source n = refl

-- the parity with one more bit
pub odd_next : (s : FrameShape) (source : Source) (n t : ℕ) (is_odd bit : Bool) → bit ≡ slot_bit s source n t (s.role t) → is_odd ≡ odd_within s source n t → not (beq is_odd (bit && is_payload (s.role t))) ≡ odd_within s source n (suc t)
odd_next s source n t is_odd bit is odd =
    ap (λ b. not (beq b (bit && is_payload (s.role t)))) odd ∙ ap (λ b. not (beq (odd_within s source n t) (b && is_payload (s.role t)))) is
    ∙ ap (λ b. not (beq (odd_within s source n t) b)) (payload_of s source n t (s.role t)) ∙ sym (odd_within-suc s source n t)

-- the parity with the bits of a piece
module _ (s : FrameShape) (source : Source) (n t : ℕ) (bits : List Bool) (is_odd : Bool) where
  abbrev is_one : ℕ → Bool
  is_one v = slice_index_or bits v false && is_payload (s.role (t + v))

  start : (b : Bool) → eqb ((cond b 1 0 + 0) % 2) 1 ≡ b
  start true = refl
  start false = refl

  odd_upto : ((v : ℕ) → v < length bits → slice_index_or bits v false ≡ slot_bit s source n (t + v) (s.role (t + v))) → is_odd ≡ odd_within s source n t
      → (m : ℕ) → m ≤ length bits → eqb ((cond is_odd 1 0 + count_by is_one (range_with_len 0 m)) % 2) 1 ≡ odd_within s source n (t + m)
  odd_upto line odd zero h = (let here : t ≡ t + 0 = omega arith in start is_odd ∙ odd ∙ ap (odd_within s source n) here)
  odd_upto line odd (suc m) h =
      let c : ℕ = cond is_odd 1 0 + count_by is_one (range_with_len 0 m) in
      let sum : cond is_odd 1 0 + count_by is_one (range_with_len 0 (suc m)) ≡ c + cond (is_one m) 1 0 = omega (arith, count-range_push is_one m) in
      let next : suc (t + m) ≡ t + suc m = omega arith in
      let here : is_one m ≡ payload_bit s source n (t + m) (s.role (t + m)) = ap (λ b. b && is_payload (s.role (t + m))) (line m (omega (arith, h))) ∙ payload_of s source n (t + m) (s.role (t + m)) in
      ap (λ k. eqb (k % 2) 1) sum ∙ odd_more c (is_one m) ∙ ap (λ b. not (beq b (is_one m))) (odd_upto line odd m (omega (arith, h)))
      ∙ ap (λ b. not (beq (odd_within s source n (t + m)) b)) here ∙ sym (odd_within-suc s source n (t + m)) ∙ ap (odd_within s source n) next

  pub odd_piece : ((v : ℕ) → v < length bits → slice_index_or bits v false ≡ slot_bit s source n (t + v) (s.role (t + v))) → is_odd ≡ odd_within s source n t
      → eqb ((cond is_odd 1 0 + payload_ones s t bits) % 2) 1 ≡ odd_within s source n (t + length bits)
  odd_piece line odd = odd_upto line odd (length bits) (omega arith)

-- the parity of a number added to one that is told
pub odd_with : (is_odd : Bool) (k : ℕ) → not (beq is_odd (eqb (k % 2) 1)) ≡ eqb ((cond is_odd 1 0 + k) % 2) 1
odd_with true k = elim (cases_eq (k % 2) 1) [
  | inl one ↦ let even : (1 + k) % 2 ≡ 0 = omega arith in rw (even, one) refl
  | inr none ↦ let zero : k % 2 ≡ 0 = omega arith in let odd : (1 + k) % 2 ≡ 1 = omega arith in rw (odd, zero) refl
]
odd_with false k = same (eqb (k % 2) 1) ∙ ap (λ n. eqb (n % 2) 1) (sym (zero-add k))
  where
    same : (b : Bool) → not (beq false b) ≡ b
    same true = refl
    same false = refl
