-- Where the words of a frame's payload stand, and the bits that are read there.
use Rattle.std.proofs.Common.{◌≡◌, ℕ, zero, suc, ◌+◌, ◌-◌, ◌*◌, ◌/◌, ◌%◌, ◌^◌, ◌<◌, ◌≤◌, ◌⊎◌, Bool, true, false, cond, List, [], ◌∷◌, ◌++◌, length, filter, take, drop, replicate, get_or, set, not, ◌==◌, refl, sym, ap, ◌∙◌, inl, inr, subst, arith, append_assoc}
use Rattle.std.specs.List.{range_with_len, flat_map}
use Rattle.std.proofs.lemmas.Bool.{cases_eq, cases_lt, lt-ltb, le-ltb}
use Rattle.std.proofs.lemmas.List.{length-drop, length-take, get_or-append_right, get_or_append_left, get_or_at, get_or_past, get_or-drop, get_or-take, get_or-replicate, get_or-map, get_or_push, get_or_read, get_or-set_same, get_or-set_other, length_push}
use Rattle.std.proofs.lemmas.Nat.{div_below, div-add-mod', mod_below}
use Rattle.pdh_shape.specs.Frame.{FrameShape}
use Rattle.pdh_shape.specs.Payload.{PayloadInTurn, is_payload, payload_before}
use Rattle.pdh_packed.specs.Words.{low_bits}
use Rattle.pdh_packed.specs.WordLaws.{length-low_bits, shifted_in, top_small, top_bits}
use Rattle.pdh_runs.specs.declared.words.WordAt.{WordAt}
use Rattle.pdh_runs.specs.Columns.{payload_slots, payload_bits}
use Rattle.pdh_runs.specs.Tables.{EndsStretch}
use Rattle.pdh_runs.specs.WordTables.{word_size, slot_in, IsWordAt, AreWords}
use Rattle.pdh_runs.proofs.ColumnLaws.{count_is}
use Rattle.pdh_runs.proofs.Counts.{before, picked, length-picked, picked_next}
use Rattle.pdh_runs.proofs.StretchLaws.{picked_parts, before_all, before_no}

-- ---- the numbers that pass, by how many pass before them

pub picked_at : (p : ℕ → Bool) (n t d : ℕ) → p t ≡ true → t < n → get_or (picked p n) (before p t) d ≡ t
picked_at p n t d pass within =
    let next : List ℕ = filter p (range_with_len (t + 1) (n - (t + 1))) in
    let parts : picked p n ≡ picked p (t + 1) ++ next = picked_parts p (t + 1) n (omega (arith, within)) in
    let front : picked p (t + 1) ≡ picked p t ++ t ∷ [] = picked_next p t ∙ ap (λ b. picked p t ++ cond b (t ∷ []) []) pass in
    ap (λ l. get_or l (before p t) d) (parts ∙ ap (λ l. l ++ next) front ∙ append_assoc (picked p t) (t ∷ []) next)
    ∙ get_or_at (picked p t) t next d (before p t) (length-picked p t)

-- those of a stretch of numbers that all pass, as far as there are any
pub stretch_at : (p : ℕ → Bool) (n a end k d : ℕ) → ((u : ℕ) → a ≤ u → u < end → p u ≡ true) → a ≤ end → end ≤ n → (k < end - a) ⊎ (end ≡ n) → before p a + k < before p n → get_or (picked p n) (before p a + k) d ≡ a + k
stretch_at p n a end k d all after within here some =
    let inside : k < end - a = far here in
    ap (λ i. get_or (picked p n) i d) (sym (before_all p a k (λ u h h'. all u h (omega (arith, h', inside)))))
    ∙ picked_at p n (a + k) d (all (a + k) (omega arith) (omega (arith, inside))) (omega (arith, inside, within))
  where
    far : (k < end - a) ⊎ (end ≡ n) → k < end - a
    far (inl inside) = inside
    far (inr last) =
        let whole : a + (end - a) ≡ n = omega (arith, after, last) in
        omega (arith, some, before_all p a (end - a) (λ u h h'. all u h (omega (arith, h', after))), ap (before p) whole)

-- ---- a word's slots

first_slot : (at : WordAt) (k : ℕ) → k < at.first → at.slot + k ≡ slot_in at k
first_slot at k h = sym (ap (λ b. cond b (at.slot + k) (at.next + (k - at.first))) (lt-ltb k at.first h))

next_slot : (at : WordAt) (k : ℕ) → at.first ≤ k → at.next + (k - at.first) ≡ slot_in at k
next_slot at k h = sym (ap (λ b. cond b (at.slot + k) (at.next + (k - at.first))) (le-ltb k at.first h))

module _ (s : FrameShape) (turns : PayloadInTurn s) where
  abbrev pays : ℕ → Bool
  pays u = is_payload (s.role u)

  -- a word in one stretch of payload slots, or at the frame's end
  pub one_stretch : (slot end size : ℕ) → pays slot ≡ true → slot < s.len → EndsStretch s slot end → size ≤ 64 → (size ≤ end - slot) ⊎ (end ≡ s.len) → IsWordAt s (payload_before s slot) size (record { slot = slot; first = 64; next = 0 })
  one_stretch slot end size pass within ends few long = record {
    parted = (omega arith, omega arith);
    each = λ k inside some. stretch_at pays s.len slot end k 0 (λ u h h'. ends.same u h h' ∙ pass) (omega (arith, ends.after)) ends.within (reaches k inside long) (omega (arith, some, turns.whole))
        ∙ first_slot (record { slot = slot; first = 64; next = 0 }) k (omega (arith, inside, few));
  }
    where
      reaches : (k : ℕ) → k < size → (size ≤ end - slot) ⊎ (end ≡ s.len) → (k < end - slot) ⊎ (end ≡ s.len)
      reaches k inside (inl all) = inl (omega (arith, inside, all))
      reaches k inside (inr last) = inr last

  -- one in two
  pub two_stretches : (slot end next last first size : ℕ) → pays slot ≡ true → slot < s.len → EndsStretch s slot end → end < s.len → EndsStretch s end next → (next < s.len → EndsStretch s next last) → (next < s.len → (next + (size - first) ≤ last) ⊎ (last ≡ s.len))
      → first ≡ end - slot → first < size → size ≤ 64 → IsWordAt s (payload_before s slot) size (record { slot = slot; first = first; next = next })
  two_stretches slot end next last first size pass within ends other gap rest reach is less few = record {
    parted = (omega (arith, is, ends.after), omega (arith, less, few));
    each = λ k inside some. elim (cases_lt k first) [
      | inl here ↦
          stretch_at pays s.len slot end k 0 (λ u h h'. ends.same u h h' ∙ pass) (omega (arith, ends.after)) ends.within (inl (omega (arith, here, is))) (omega (arith, some, turns.whole))
          ∙ first_slot (record { slot = slot; first = first; next = next }) k here
      | inr past ↦
          let far : payload_before s slot + k ≡ before pays next + (k - first) = omega (arith, passed, is, past) in
          let inside' : next < s.len = elim (cases_lt next s.len) [
            | inl h ↦ h
            | inr h ↦ (let at : next ≡ s.len = omega (arith, h, gap.within) in absurd (omega (arith, some, turns.whole, far, ap (before pays) at)))
          ] in
          let more = rest inside' in
          ap (λ i. get_or (payload_slots s) i 0) far
          ∙ stretch_at pays s.len next last (k - first) 0 (λ u h h'. more.same u h h' ∙ paid inside') (omega (arith, more.after)) more.within (reaches k inside past (reach inside')) (omega (arith, some, turns.whole, far))
          ∙ next_slot (record { slot = slot; first = first; next = next }) k (omega (arith, past))
    ];
  }
    where
      unpaid : pays end ≡ false
      unpaid = ends.other other ∙ ap not pass

      paid : next < s.len → pays next ≡ true
      paid h = gap.other h ∙ ap not unpaid

      -- as many payload slots stand before the second stretch as to the end of the first
      passed : before pays next ≡ payload_before s slot + (end - slot)
      passed =
          let one : slot + (end - slot) ≡ end = omega (arith, ends.after) in
          let two : end + (next - end) ≡ next = omega (arith, gap.after) in
          ap (before pays) (sym two) ∙ before_no pays end (next - end) (λ u h h'. gap.same u h (omega (arith, h', gap.after)) ∙ unpaid)
          ∙ ap (before pays) (sym one) ∙ before_all pays slot (end - slot) (λ u h h'. ends.same u h (omega (arith, h', ends.after)) ∙ pass)

      reaches : (k : ℕ) → k < size → first ≤ k → (next + (size - first) ≤ last) ⊎ (last ≡ s.len) → (k - first < last - next) ⊎ (last ≡ s.len)
      reaches k inside past (inl all) = inl (omega (arith, inside, past, all))
      reaches k inside past (inr end) = inr end

-- ---- what is read of a frame

pub filled_at : (front slot : ℕ) (frame : List Bool) → low_bits 64 front ≡ take 64 (drop slot frame ++ replicate 64 false) → (k : ℕ) → k < 64 → get_or (low_bits 64 front) k false ≡ get_or frame (slot + k) false
filled_at front slot frame is k few =
    ap (λ l. get_or l k false) is ∙ get_or-take 64 (drop slot frame ++ replicate 64 false) k false few
    ∙ elim (cases_lt k (length (drop slot frame))) [
      | inl inside ↦ get_or_append_left (drop slot frame) (replicate 64 false) false k inside ∙ get_or-drop slot frame k false
      | inr past ↦
          get_or-append_right (drop slot frame) (replicate 64 false) (length (drop slot frame)) k false refl past
          ∙ get_or-replicate 64 (k - length (drop slot frame)) false false (omega (arith, few))
          ∙ sym (get_or_past frame (slot + k) false (omega (arith, past, length-drop slot frame)))
    ]

-- the first bits of one number and then those of another
pub both_read : (front behind first read : ℕ) → 0 < first → first < 64 → front < 2 ^ 64 → behind < 2 ^ 64 → read ≡ (front / 2 ^ (64 - first) * 2 ^ (64 - first) % 2 ^ 64 + behind / 2 ^ first) % 2 ^ 64
    → low_bits 64 read ≡ take first (low_bits 64 front) ++ take (64 - first) (low_bits 64 behind)
both_read front behind first read some few small small' is =
    let m : ℕ = 64 - first in
    let turned : first + m ≡ 64 = omega (arith, few) in
    let back : m + first ≡ 64 = omega (arith, few) in
    ap (low_bits 64) is ∙ shifted_in first m (front / 2 ^ m) (behind / 2 ^ first) turned (top_small behind first m turned small')
    ∙ ap (λ l. l ++ low_bits m (behind / 2 ^ first)) (top_bits front m first back) ∙ ap (λ l. take first (low_bits 64 front) ++ l) (top_bits behind first m turned)

pub read_at : (at : WordAt) (front behind read : ℕ) (frame : List Bool) → at.first < 64 → low_bits 64 front ≡ take 64 (drop at.slot frame ++ replicate 64 false) → low_bits 64 behind ≡ take 64 (drop at.next frame ++ replicate 64 false)
    → low_bits 64 read ≡ take at.first (low_bits 64 front) ++ take (64 - at.first) (low_bits 64 behind) → (k : ℕ) → k < 64 → get_or (low_bits 64 read) k false ≡ get_or frame (slot_in at k) false
read_at at front behind read frame few one two is k within =
    let long : length (take at.first (low_bits 64 front)) ≡ at.first = omega (arith, length-take at.first (low_bits 64 front), length-low_bits 64 front, few) in
    ap (λ l. get_or l k false) is ∙ elim (cases_lt k at.first) [
      | inl here ↦
          get_or_append_left (take at.first (low_bits 64 front)) (take (64 - at.first) (low_bits 64 behind)) false k (omega (arith, here, long))
          ∙ get_or-take at.first (low_bits 64 front) k false here ∙ filled_at front at.slot frame one k within ∙ ap (λ i. get_or frame i false) (first_slot at k here)
      | inr past ↦
          get_or-append_right (take at.first (low_bits 64 front)) (take (64 - at.first) (low_bits 64 behind)) at.first k false long past
          ∙ get_or-take (64 - at.first) (low_bits 64 behind) (k - at.first) false (omega (arith, within, past)) ∙ filled_at behind at.next frame two (k - at.first) (omega (arith, within))
          ∙ ap (λ i. get_or frame i false) (next_slot at k past)
    ]

pub read_whole : (at : WordAt) (read : ℕ) (frame : List Bool) → at.first ≡ 64 → low_bits 64 read ≡ take 64 (drop at.slot frame ++ replicate 64 false) → (k : ℕ) → k < 64 → get_or (low_bits 64 read) k false ≡ get_or frame (slot_in at k) false
read_whole at read frame all is k within = filled_at read at.slot frame is k within ∙ ap (λ i. get_or frame i false) (first_slot at k (omega (arith, all, within)))

-- ---- words of a payload, one behind the other

-- bit r of number i of lists of one length that are joined
pub joined_at : {X : Type 0} (f : X → List Bool) (size : ℕ) (xs : List X) (i r : ℕ) (d : X) → ((x : X) → length (f x) ≡ size) → i < length xs → r < size → get_or (flat_map f xs) (size * i + r) false ≡ get_or (f (get_or xs i d)) r false
joined_at f size [] i r d long within inside = absurd (omega (arith, within))
joined_at f size (x ∷ xs) zero r d long within inside =
    let first : size * 0 + r ≡ r = omega arith in
    ap (λ k. get_or (f x ++ flat_map f xs) k false) first ∙ get_or_append_left (f x) (flat_map f xs) false r (omega (arith, long x, inside))
joined_at f size (x ∷ xs) (suc i) r d long within inside =
    let less : size * suc i + r - size ≡ size * i + r = omega arith in
    get_or-append_right (f x) (flat_map f xs) size (size * suc i + r) false (long x) (omega arith) ∙ ap (λ k. get_or (flat_map f xs) k false) less
    ∙ joined_at f size xs i r d long (omega (arith, within)) inside

-- they are those of the payload
module _ (s : FrameShape) (turns : PayloadInTurn s) (words : List WordAt) (are : AreWords s words) (size : ℕ) (sized : size ≡ word_size s.tribs) (frame : List Bool) where
  pub payload_at : (index r : ℕ) (d : WordAt) → index < length words → r < size → size * index + r < s.tribs * suc s.low → get_or frame (slot_in (get_or words index d) r) false ≡ get_or (payload_bits s frame) (size * index + r) false
  payload_at index r d known inside some =
      let same : size * index ≡ word_size s.tribs * index = ap (λ n. n * index) sized in
      let at : get_or (payload_slots s) (word_size s.tribs * index + r) 0 ≡ slot_in (get_or words index d) r = (are.each index d known).each r (omega (arith, inside, sized)) (omega (arith, some, same)) in
      ap (λ t. get_or frame t false) (sym at) ∙ ap (λ n. get_or frame (get_or (payload_slots s) (n + r) 0) false) (sym same)
      ∙ sym (get_or-map (λ slot. get_or frame slot false) (payload_slots s) (size * index + r) 0 false (omega (arith, some, count_is s turns)))

-- ---- the table, word by word

pub some_size : (tribs : ℕ) → (0 < word_size tribs) × (word_size tribs ≤ 64)
some_size tribs = one (tribs == 7)
  where
    one : (b : Bool) → (0 < cond b 56 64) × (cond b 56 64 ≤ 64)
    one true = (omega arith, omega arith)
    one false = (omega arith, omega arith)

pub word_more : (size n : ℕ) → size * (n + 1) ≡ size * n + size
word_more size n = omega arith

-- with one word more
pub words_more : (s : FrameShape) (size number : ℕ) (words new : List WordAt) (word : WordAt) → new ≡ words ++ word ∷ [] → number ≡ size * length words → IsWordAt s number size word → ((index : ℕ) (at : WordAt) → index < length words → IsWordAt s (size * index) size (get_or words index at))
    → (index : ℕ) (at : WordAt) → index < length new → IsWordAt s (size * index) size (get_or new index at)
words_more s size number words new word is place stands before index at within = elim (cases_lt index (length words)) [
  | inl old ↦ subst (IsWordAt s (size * index) size) (sym (ap (λ l. get_or l index at) is ∙ get_or_append_left words (word ∷ []) at index old)) (before index at old)
  | inr last ↦
      let here : length words ≡ index = omega (arith, last, within, ap length is, length_push words word) in
      subst (IsWordAt s (size * index) size) (sym (ap (λ l. get_or l index at) is ∙ get_or_push words word at index here)) (subst (λ n. IsWordAt s n size word) (place ∙ ap (λ n. size * n) here) stands)
]

-- to the frame's end
pub words_made : (s : FrameShape) → PayloadInTurn s → (size slot : ℕ) (words : List WordAt) → size ≡ word_size s.tribs → slot ≡ s.len → payload_before s slot ≤ size * length words → ((index : ℕ) (at : WordAt) → index < length words → IsWordAt s (size * index) size (get_or words index at)) → AreWords s words
words_made s turns size slot words sized end all each = record {
  all = omega (arith, turns.whole, ap (payload_before s) end, all, ap (λ n. n * length words) sized);
  each = λ index at within. subst (λ n. IsWordAt s (n * index) n (get_or words index at)) sized (each index at within);
}

-- one more word read
pub read_more : (words : List WordAt) (frame : List Bool) (into : List ℕ) (read from index : ℕ) (word : WordAt) → index < length into → word ≡ get_or words (from + index) word → from + index < length words → ((k : ℕ) → k < 64 → get_or (low_bits 64 read) k false ≡ get_or frame (slot_in word k) false)
    → ((i k : ℕ) (at : WordAt) → i < index → k < 64 → get_or (low_bits 64 (get_or into i 0)) k false ≡ get_or frame (slot_in (get_or words (from + i) at) k) false)
    → (i k : ℕ) (at : WordAt) → i < index + 1 → k < 64 → get_or (low_bits 64 (get_or (set into index read) i 0)) k false ≡ get_or frame (slot_in (get_or words (from + i) at) k) false
read_more words frame into read from index word within is known bits before i k at below few = elim (cases_eq i index) [
  | inl same ↦
      ap (λ j. get_or (low_bits 64 (get_or (set into index read) j 0)) k false) same ∙ ap (λ n. get_or (low_bits 64 n) k false) (get_or-set_same into index read 0 within) ∙ bits k few
      ∙ ap (λ w. get_or frame (slot_in w k) false) (get_or_read words (from + index) word known is at) ∙ ap (λ j. get_or frame (slot_in (get_or words (from + j) at) k) false) (sym same)
  | inr other ↦ ap (λ n. get_or (low_bits 64 n) k false) (get_or-set_other into index i read 0 other) ∙ before i k at (omega (arith, below, other)) few
]

-- the bits of all of them, in turn
module _ (s : FrameShape) (turns : PayloadInTurn s) (words : List WordAt) (are : AreWords s words) (size : ℕ) (sized : size ≡ word_size s.tribs) (frame : List Bool) (into : List ℕ) (from count : ℕ) where
  pub words_at : (f : ℕ → List Bool) (number place k : ℕ) → ((x : ℕ) → length (f x) ≡ size) → ((x r : ℕ) → r < size → get_or (f x) r false ≡ get_or (low_bits 64 x) r false) → 0 < size → size ≤ 64
      → ((i r : ℕ) (at : WordAt) → i < count → r < 64 → get_or (low_bits 64 (get_or into i 0)) r false ≡ get_or frame (slot_in (get_or words (from + i) at) r) false)
      → count ≤ length into → from + count ≤ length words → number ≡ size * from → place ≡ number + k → k < size * count → place < s.tribs * suc s.low
      → get_or (flat_map f into) k false ≡ get_or (drop number (payload_bits s frame)) k false
  words_at f number place k long first some few read room known begun is below inside =
      let i : ℕ = k / size in
      let r : ℕ = k % size in
      let d : WordAt = record { slot = 0; first = 0; next = 0 } in
      let small : r < size = mod_below k size some in
      let here : i < count = div_below k size count some (omega (arith, below)) in
      let parts : i * size + r ≡ k = div-add-mod' k size in
      let order : i * size ≡ size * i = omega arith in
      let joined : size * (from + i) ≡ size * from + size * i = omega arith in
      let spot : size * (from + i) + r ≡ number + k = omega (arith, parts, order, joined, begun) in
      let at : size * i + r ≡ k = omega (arith, parts, order) in
      ap (λ n. get_or (flat_map f into) n false) (sym at) ∙ joined_at f size into i r 0 long (omega (arith, here, room)) small ∙ first (get_or into i 0) r small ∙ read i r d here (omega (arith, small, few))
      ∙ payload_at s turns words are size sized frame (from + i) r d (omega (arith, here, known)) small (omega (arith, spot, is, inside))
      ∙ ap (λ n. get_or (payload_bits s frame) n false) spot ∙ sym (get_or-drop number (payload_bits s frame) k false)
