-- The payload of a frame dealt out word by word.
use Rattle.std.proofs.Common.{◌≡◌, ℕ, ◌+◌, ◌*◌, ◌<◌, ◌≤◌, ◌⊎◌, min, Bool, false, List, length, take, drop, get_or, refl, sym, ap, ◌∙◌, inl, inr, arith}
use Rattle.std.specs.Prelude.{suc, ◌-◌, ◌/◌, ◌%◌}
use Rattle.std.specs.List.{flat_map}
use Rattle.std.proofs.lemmas.Bool.{cases_lt}
use Rattle.std.proofs.lemmas.List.{get_or-take, length-take}
use Rattle.std.proofs.lemmas.Nat.{mul-add-lt}
use Rattle.pdh_bits.specs.BitOut.{BoundedBits}
use Rattle.pdh_packed.specs.Words.{low_bits, bits_of_words}
use Rattle.pdh_packed.specs.WordLaws.{length-low_bits}
use Rattle.pdh_line.proofs.Ranges.{map-range_same_on}
use Rattle.pdh_interleaving.specs.Interleaving.{column, dealt}
use Rattle.pdh_interleaving.proofs.DealtLaws.{appended_same, dealt_is, dealt_more, length-dealt}
use Rattle.pdh_shape.specs.Frame.{FrameShape}
use Rattle.pdh_shape.specs.Payload.{PayloadInTurn}
use Rattle.pdh_runs.specs.declared.words.WordAt.{WordAt}
use Rattle.pdh_runs.specs.Columns.{payload_bits}
use Rattle.pdh_runs.specs.WordTables.{word_size, slot_in, AreWords}
use Rattle.pdh_runs.proofs.WordLaws.{words_at}

-- bits that are the same as far as they are dealt out
dealt_alike : (count : ℕ) (line other : List Bool) (lists : List BoundedBits) → ((k : ℕ) → k < count * length lists → get_or line k false ≡ get_or other k false) → dealt count line lists ≡ dealt count other lists
dealt_alike count line other lists same =
    dealt_is count line lists
    ∙ appended_same (column (length lists) count line) (column (length lists) count other) 0 lists
    (λ j h. map-range_same_on (λ i. get_or line (i * length lists + j) false) (λ i. get_or other (i * length lists + j) false) 0 count
    (λ i h' h''. same (i * length lists + j) (omega (arith, mul-add-lt i (length lists) j count (omega (arith, h'')) (omega (arith, h))))))
    ∙ sym (dealt_is count other lists)

-- more of them behind those that were
pub dealt_next : (done count tribs : ℕ) (line payload : List Bool) (old now new : List BoundedBits) → new ≡ dealt count line now → now ≡ dealt done payload old → length old ≡ tribs → ((k : ℕ) → k < tribs * count → get_or line k false ≡ get_or (drop (tribs * done) payload) k false)
    → new ≡ dealt (done + count) payload old
dealt_next done count tribs line payload old now new is was many same =
    let place : tribs * done ≡ done * length old = ap (λ n. n * done) (sym many) ∙ omega arith in
    let long : length (dealt done payload old) ≡ tribs = length-dealt done payload old ∙ many in
    is ∙ ap (dealt count line) was
    ∙ dealt_alike count line (drop (done * length old) payload) (dealt done payload old)
    (λ k h. same k (omega (arith, h, ap (λ n. count * n) long)) ∙ ap (λ n. get_or (drop n payload) k false) place)
    ∙ dealt_more done count payload old

-- words are dealt out whole, but for the last
pub whole_words : {done each : ℕ} → (done % 64 ≡ 0) ⊎ (done ≡ each) → done < each → done % 64 ≡ 0
whole_words (inl whole) less = whole
whole_words (inr all) less = absurd (omega (arith, all, less))

pub whole_next : (done count each : ℕ) → done < each → done % 64 ≡ 0 → count ≡ min (each - done) 64 → ((done + count) % 64 ≡ 0) ⊎ (done + count ≡ each)
whole_next done count each less whole is = elim (cases_lt (each - done) 64) [
  | inl last ↦ inr (omega (arith, is, last, less))
  | inr more ↦ inl (omega (arith, is, more, whole, less))
]

-- the words of a payload of four tributaries, and of seven
module _ (s : FrameShape) (turns : PayloadInTurn s) (words : List WordAt) (are : AreWords s words) (frame : List Bool) (into : List ℕ) (done count each : ℕ) (all : each ≡ suc s.low) (within : done + count ≤ each) (whole : done % 64 ≡ 0) (few : count ≤ 64) where
  pub four_at : s.tribs ≡ 4 → length into ≡ 4 → ((i r : ℕ) (at : WordAt) → i < (count + 15) / 16 → r < 64 → get_or (low_bits 64 (get_or into i 0)) r false ≡ get_or frame (slot_in (get_or words (done / 16 + i) at) r) false)
      → (k : ℕ) → k < 4 * count → get_or (bits_of_words into) k false ≡ get_or (drop (4 * done) (payload_bits s frame)) k false
  unfolding bits_of_words
  four_at is room read k below =
      let sized : 64 ≡ word_size s.tribs = sym (ap word_size is) in
      let total : s.tribs * suc s.low ≡ 4 * each = ap (λ n. n * suc s.low) is ∙ ap (λ n. 4 * n) (sym all) in
      let known : done / 16 + (count + 15) / 16 ≤ length words = omega (arith, are.all, total, sized, ap (λ n. n * length words) sized, within, whole) in
      words_at s turns words are 64 sized frame into (done / 16) ((count + 15) / 16) (low_bits 64) (4 * done) (4 * done + k) k (length-low_bits 64) (λ x r h. refl) (omega arith) (omega arith) read (omega (arith, few, room)) known (omega (arith, whole)) refl (omega (arith, below)) (omega (arith, below, within, total))

  pub seven_at : s.tribs ≡ 7 → length into ≡ 8 → ((i r : ℕ) (at : WordAt) → i < (count + 7) / 8 → r < 64 → get_or (low_bits 64 (get_or into i 0)) r false ≡ get_or frame (slot_in (get_or words (done / 8 + i) at) r) false)
      → (k : ℕ) → k < 7 * count → get_or (flat_map (λ word. take 56 (low_bits 64 word)) into) k false ≡ get_or (drop (7 * done) (payload_bits s frame)) k false
  seven_at is room read k below =
      let sized : 56 ≡ word_size s.tribs = sym (ap word_size is) in
      let total : s.tribs * suc s.low ≡ 7 * each = ap (λ n. n * suc s.low) is ∙ ap (λ n. 7 * n) (sym all) in
      let known : done / 8 + (count + 7) / 8 ≤ length words = omega (arith, are.all, total, ap (λ n. n * length words) sized, within, whole) in
      words_at s turns words are 56 sized frame into (done / 8) ((count + 7) / 8) (λ word. take 56 (low_bits 64 word)) (7 * done) (7 * done + k) k
      (λ x. omega (arith, length-take 56 (low_bits 64 x), length-low_bits 64 x)) (λ x r h. get_or-take 56 (low_bits 64 x) r false h) (omega arith) (omega arith) read (omega (arith, few, room)) known (omega (arith, whole)) refl (omega (arith, below)) (omega (arith, below, within, total))
