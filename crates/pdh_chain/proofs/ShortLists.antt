-- What a leaf receives is no longer than its share of the line, and what is put to a list is no longer than what was due.
use Rattle.std.proofs.Common.{◌≡◌, ℕ, zero, suc, ◌+◌, ◌*◌, ◌/◌, ◌%◌, ◌<◌, ◌≤◌, nat_lt, eqb, Bool, true, false, ◌&&◌, cond, List, [], ◌∷◌, ◌++◌, length, map, filter, drop, replicate, refl, sym, ap, ◌∙◌, inl, inr, arith, length-drop, Option, Some, None, ◌==◌}
use Rattle.std.specs.Prelude.{count_by, flat_map}
use Rattle.std.specs.List.{range_with_len, slice_index_or}
use Rattle.std.proofs.Math.Nat.{add-mul, suc-mul, mul_assoc, mul-le-mul_left, mul-le-mul_right, div-mul-le_self}
use Rattle.std.proofs.lemmas.Bool.{cases_Bool, cases_eq, cases_lt, eq-eqb, ne_eqb, lt-ltb, le-ltb}
use Rattle.std.proofs.lemmas.List.{length-append, length-map, length-replicate}
use Rattle.std.proofs.lemmas.List.Sums.{sum_by-cons, length-filter, count_by-le-length}
use Rattle.pdh_shape.specs.declared.role.Role.{Role}
use Rattle.pdh_shape.specs.declared.role.Role.TheVariants.{Info, Just}
use Rattle.pdh_shape.specs.declared.role.Service.{Service}
use Rattle.pdh_shape.specs.Frame.{FrameShape, IsFrame, slots}
use Rattle.pdh_shape.specs.Tributary.{HasTributaries, reads_from, carries_more, turned, bits_read, stripped}
use Rattle.pdh_line.specs.Sending.{Mode}
use Rattle.pdh_line.specs.Tracking.{Piece, frame_of, gap_of, is_found, aligned, delivered, is_lost, after_loss, one_search, track_within, track, positions, is_confirmed}
use Rattle.pdh_line.specs.Tracking.Piece.{Gap, Delivered}
use Rattle.pdh_line.specs.Receiving.{piece_bits, received}
use Rattle.pdh_line.proofs.LeastLaws.{least_below-le}
use Rattle.pdh_line.proofs.Ranges.{length-range}
use Rattle.pdh_line.proofs.TrackingLaws.{gap_of_is, delivered_none, delivered_within, is_lost_found, after_loss_is, one_search_is, track_within_lost, track_within_open, track_is}
use Rattle.pdh_edge.specs.Ports.{Inputs, Outputs, PrefixOf}
use Rattle.pdh_edge.specs.MemLists.{length_of, bits_held}
use Rattle.pdh_line.proofs.SentFrames.{length-front}
use Rattle.pdh_line.specs.Nodes.{Counts}
use Rattle.pdh_nesting.specs.Sending.{chain_line}
use Rattle.std.proofs.lemmas.Nat.{le-div}
use Rattle.pdh_chain.specs.Muxing.{as_line}
use Rattle.pdh_chain.specs.Muxes.{bits_of, frames_of_line, PutsPrefix}
use Rattle.pdh_watch.specs.declared.event.Event.{Event}
use Rattle.pdh_chain.specs.Demuxes.{received_of, DemuxesPart}
use Rattle.pdh_nesting.specs.Chains.{width, top_len, AreFrames}
use Rattle.pdh_nesting.specs.Receiving.{far}
use Rattle.pdh_line.proofs.LeafNumbers.{leaf-tributary, leaf-below}

-- ---- the slots of all tributaries

-- a slot of this role carries a bit of one of the first n tributaries, in a frame that carries an additional bit of each
abbrev reads_below : ℕ → Role → Bool
reads_below n (Info i) = nat_lt i n
reads_below n (Just i) = nat_lt i n
reads_below n _ = false

one_number : (i n : ℕ) → ◌≡◌ {A = ℕ} (cond (nat_lt i (suc n)) 1 0) (cond (nat_lt i n) 1 0 + cond (eqb i n) 1 0)
one_number i n = elim (cases_lt i n) [
  | inl less ↦
      let a : nat_lt i (suc n) ≡ true = lt-ltb i (suc n) (omega arith) in
      let b : nat_lt i n ≡ true = lt-ltb i n less in
      let c : eqb i n ≡ false = ne_eqb i n (λ e. omega (arith, e, less)) in
      by_three (nat_lt i (suc n)) (nat_lt i n) (eqb i n) true true false a b c refl
  | inr more ↦ elim (cases_eq i n) [
    | inl same ↦
        by_three (nat_lt i (suc n)) (nat_lt i n) (eqb i n) true false true (lt-ltb i (suc n) (omega arith)) (le-ltb i n (omega arith)) (eq-eqb i n same) refl
    | inr other ↦
        let past : suc n ≤ i = past_of i n more other in
        by_three (nat_lt i (suc n)) (nat_lt i n) (eqb i n) false false false (le-ltb i (suc n) past) (le-ltb i n (omega arith)) (ne_eqb i n other) refl
  ]
]
  where
    by_three : (a b c x y z : Bool) → a ≡ x → b ≡ y → c ≡ z → ◌≡◌ {A = ℕ} (cond x 1 0) (cond y 1 0 + cond z 1 0) → ◌≡◌ {A = ℕ} (cond a 1 0) (cond b 1 0 + cond c 1 0)
    by_three a b c x y z p q r h = ap (λ v. cond v 1 0) p ∙ h ∙ sym (ap (λ v. cond v 1 0 + cond c 1 0) q ∙ ap (λ v. cond y 1 0 + cond v 1 0) r)

    past_of : (i n : ℕ) → n ≤ i → (i ≡ n → ⊥) → suc n ≤ i
    past_of i n more other = elim (cases_lt n i) [ inl less ↦ less | inr none ↦ absurd (other (omega arith)) ]

one_role : (n : ℕ) (r : Role) → ◌≡◌ {A = ℕ} (cond (reads_below (suc n) r) 1 0) (cond (reads_below n r) 1 0 + cond (reads_from n true r) 1 0)
one_role n (Info i) = one_number i n
one_role n (Just i) = one_number i n ∙ ap (λ v. cond (nat_lt i n) 1 0 + cond v 1 0) (both (eqb i n))
  where
    both : (a : Bool) → a ≡ (a && true)
    both true = refl
    both false = refl
one_role n _ = refl

count_both : {X : Type 0} (p q r : X → Bool) (xs : List X) → ((x : X) → ◌≡◌ {A = ℕ} (cond (r x) 1 0) (cond (p x) 1 0 + cond (q x) 1 0)) → count_by r xs ≡ count_by p xs + count_by q xs
count_both p q r [] each = refl
count_both p q r (x ∷ xs) each =
    omega (arith, each x, count_both p q r xs each, sum_by-cons (λ x. cond (p x) 1 0) x xs, sum_by-cons (λ x. cond (q x) 1 0) x xs, sum_by-cons (λ x. cond (r x) 1 0) x xs)

-- each of the first n tributaries has as many slots as its bits
all_slots : (s : FrameShape) (n : ℕ) → HasTributaries s → n ≤ s.tribs → n * suc s.low ≤ count_by (λ slot. reads_below n (s.role slot)) (slots s)
all_slots s zero has h = (let none : 0 * suc s.low ≡ 0 = omega arith in omega arith)
all_slots s (suc n) has h =
    omega (
      arith,
      suc-mul n (suc s.low),
      all_slots s n has (omega arith),
      has.high n (omega arith),
      count_both (λ slot. reads_below n (s.role slot)) (λ slot. reads_from n true (s.role slot)) (λ slot. reads_below (suc n) (s.role slot)) (slots s) (λ slot. one_role n (s.role slot)),
    )

-- a frame has a slot for each bit of each tributary
all_fit : (s : FrameShape) → HasTributaries s → suc s.low * s.tribs ≤ s.len
all_fit s has =
    let other : suc s.low * s.tribs ≡ s.tribs * suc s.low = omega arith in
    omega (arith, other, all_slots s s.tribs has (omega arith), count_by-le-length (λ slot. reads_below s.tribs (s.role slot)) (slots s), length-range 0 s.len)

-- ---- the pieces of a line

module _ (s : FrameShape) (j : ℕ) (shape : IsFrame s) (has : HasTributaries s) (known : j < s.tribs) where
  read_count : (more : Bool) → count_by (λ slot. reads_from j more (s.role slot)) (slots s) ≤ suc s.low
  read_count true = omega (arith, has.high j known)
  read_count false = omega (arith, has.low j known)

  frame_short : (frame : List Bool) → length (piece_bits s j (Delivered frame)) * s.tribs ≤ s.len
  unfolding piece_bits stripped
  frame_short frame =
      let more : Bool = carries_more s j frame in
      let reads : ℕ → Bool = λ slot. reads_from j more (s.role slot) in
      let few : length (bits_read s j more frame) ≤ suc s.low = omega (arith, length-map (filter reads (slots s)) (λ slot. turned (s.inverted j) (slice_index_or frame slot false)), length-filter reads (slots s), read_count more) in
      omega (arith, mul-le-mul_right s.tribs few, all_fit s has)

  gap_short : (n : ℕ) → length (piece_bits s j (Gap n)) * s.tribs ≤ n
  unfolding piece_bits
  gap_short n =
      let whole : ℕ = n / s.len in
      let long : length (replicate (whole * s.low) true) * s.tribs ≡ whole * (s.low * s.tribs) = ap (λ m. m * s.tribs) (length-replicate (whole * s.low) true) ∙ mul_assoc whole s.low s.tribs in
      let low : s.low ≤ suc s.low = omega arith in
      let one : s.low * s.tribs ≤ s.len = omega (arith, mul-le-mul_right s.tribs low, all_fit s has) in
      omega (arith, long, mul-le-mul_left whole one, div-mul-le_self n s.len)

  abbrev bits_of_pieces : List Piece → ℕ
  bits_of_pieces pieces = length (flat_map (piece_bits s j) pieces)

  pieces_append : (xs ys : List Piece) → bits_of_pieces (xs ++ ys) ≡ bits_of_pieces xs + bits_of_pieces ys
  pieces_append [] ys = omega arith
  pieces_append (x ∷ xs) ys =
      omega (arith, length-append (piece_bits s j x) (flat_map (piece_bits s j) (xs ++ ys)), length-append (piece_bits s j x) (flat_map (piece_bits s j) xs), pieces_append xs ys)

  pieces_cons : (x : Piece) (xs : List Piece) → bits_of_pieces (x ∷ xs) * s.tribs ≡ length (piece_bits s j x) * s.tribs + bits_of_pieces xs * s.tribs
  pieces_cons x xs = ap (λ n. n * s.tribs) (length-append (piece_bits s j x) (flat_map (piece_bits s j) xs)) ∙ add-mul (length (piece_bits s j x)) (bits_of_pieces xs) s.tribs

  frames_short : (frame : ℕ → List Bool) (ks : List ℕ) → bits_of_pieces (map (λ k. Delivered (frame k)) ks) * s.tribs ≤ length ks * s.len
  frames_short frame [] = (let none : 0 * s.tribs ≡ 0 = omega arith in omega arith)
  frames_short frame (k ∷ ks) =
      omega (arith, pieces_cons (Delivered (frame k)) (map (λ k. Delivered (frame k)) ks), frame_short (frame k), frames_short frame ks, suc-mul (length ks) s.len)

  search_short : (l : List Bool) → bits_of_pieces (one_search s l) * s.tribs ≤ gap_of s l + delivered s l * s.len
  search_short l =
      let frames : List Piece = map (λ k. Delivered (frame_of s (aligned s l) k)) (range_with_len 0 (delivered s l)) in
      let is : bits_of_pieces (one_search s l) * s.tribs ≡ bits_of_pieces (Gap (gap_of s l) ∷ frames) * s.tribs = ap (λ pieces. bits_of_pieces pieces * s.tribs) (one_search_is s l) in
      let all : length (range_with_len 0 (delivered s l)) * s.len ≡ delivered s l * s.len = ap (λ n. n * s.len) (length-range 0 (delivered s l)) in
      omega (arith, is, pieces_cons (Gap (gap_of s l)) frames, gap_short (gap_of s l), frames_short (frame_of s (aligned s l)) (range_with_len 0 (delivered s l)), all)

  -- ---- a search takes its gap and its frames from the line

  gap_within : (l : List Bool) → gap_of s l ≤ length l
  gap_within l =
      let some : 0 < s.len = shape.some_slots in
      let least : gap_of s l ≤ positions s l = omega (arith, gap_of_is s l, least_below-le (positions s l) (λ p. is_confirmed s (drop p l))) in
      omega (arith, least, some)

  -- what is left after it
  search_within : (l : List Bool) → is_found s l ≡ true → gap_of s l + delivered s l * s.len + length (drop (delivered s l * s.len) (aligned s l)) ≤ length l
  search_within l found =
      omega (arith, delivered_within s l shape found, length-drop (gap_of s l) l, length-drop (delivered s l * s.len) (aligned s l), gap_within l)

  search_fits : (l : List Bool) → gap_of s l + delivered s l * s.len ≤ length l
  search_fits l = elim (cases_Bool (is_found s l)) [
    | inl found ↦ omega (arith, search_within l found)
    | inr none ↦
        let no_frame : delivered s l * s.len ≡ 0 * s.len = ap (λ n. n * s.len) (delivered_none s l none) in
        let nothing : 0 * s.len ≡ 0 = omega arith in
        omega (arith, no_frame, nothing, gap_within l)
  ]

  track_short : (n : ℕ) (l : List Bool) → bits_of_pieces (track_within n s l) * s.tribs ≤ length l
  unfolding track_within
  track_short zero l = (let none : 0 * s.tribs ≡ 0 = omega arith in omega arith)
  track_short (suc n) l = elim (cases_Bool (is_lost s l)) [
    | inl lost ↦
        let rest : List Piece = track_within n s (after_loss s l) in
        let after : length (after_loss s l) ≡ length (drop (delivered s l * s.len) (aligned s l)) = ap length (after_loss_is s l) in
        let both : bits_of_pieces (track_within (suc n) s l) * s.tribs ≡ bits_of_pieces (one_search s l) * s.tribs + bits_of_pieces rest * s.tribs =
        ap (λ pieces. bits_of_pieces pieces * s.tribs) (track_within_lost n s l lost) ∙ ap (λ m. m * s.tribs) (pieces_append (one_search s l) rest) ∙ add-mul (bits_of_pieces (one_search s l)) (bits_of_pieces rest) s.tribs in
        omega (arith, both, track_short n (after_loss s l), after, search_short l, search_within l (is_lost_found s l lost))
    | inr kept ↦
        let one : bits_of_pieces (track_within (suc n) s l) * s.tribs ≡ bits_of_pieces (one_search s l) * s.tribs = ap (λ pieces. bits_of_pieces pieces * s.tribs) (track_within_open n s l kept) in
        omega (arith, one, search_short l, search_fits l)
  ]

  -- a tributary receives no more than its share of the line
  pub received_short : (l : List Bool) → length (received s j l) * s.tribs ≤ length l
  unfolding received
  received_short l =
      let is : bits_of_pieces (track s l) * s.tribs ≡ bits_of_pieces (track_within (suc (length l)) s l) * s.tribs = ap (λ pieces. bits_of_pieces pieces * s.tribs) (track_is s l) in
      omega (arith, is, track_short (suc (length l)) l)

-- a leaf receives no more than its share of the line
pub far_short : (shapes : List FrameShape) (line : List Bool) (k : ℕ) → AreFrames shapes → k < width shapes → length (far shapes line k) * width shapes ≤ length line
unfolding far
far_short [] line k are known = omega arith
far_short (s ∷ below) line k are known =
    let w : ℕ = width below in
    let j : ℕ = k / w in
    let rest : length (far below (received s j line) (k % w)) * w ≤ length (received s j line) = far_short below (received s j line) (k % w) are.2 (leaf-below s.tribs w k known) in
    let got : ℕ = length (far below (received s j line) (k % w)) in
    let turned : got * (s.tribs * w) ≡ got * w * s.tribs = turn got s.tribs w in
    omega (arith, turned, mul-le-mul_right s.tribs rest, received_short s j are.0 are.1 (leaf-tributary s.tribs w k known) line)
  where
    turn : (a b c : ℕ) → a * (b * c) ≡ a * c * b
    turn a b c = ap (λ n. a * n) (omega arith) ∙ sym (mul_assoc a c b)

-- ---- what is put

prefix_short : (bits : List Bool) (old new : Option (List Bool)) → PrefixOf bits old new → length_of new ≤ length_of old + length bits
prefix_short bits None None is = omega arith
prefix_short bits None (Some new) is = absurd is
prefix_short bits (Some old) None is = absurd is
prefix_short bits (Some old) (Some new) is = omega (arith, length-append old bits, ap length is.1, length-append new is.0)

line_short : (bits : List Bool) (k : ℕ) → length (as_line bits k) ≤ length bits
line_short bits k = one_of (k == 0)
  where
    one_of : (b : Bool) → length (cond {A = List Bool} b bits []) ≤ length bits
    one_of true = omega arith
    one_of false = omega arith

-- Where a bit couldn't be put, no list took more bits than the frames of the whole line have.
pub mux_short : (mode : Mode) (shapes : List FrameShape) (counts : Counts) (says : ℕ → Service) (scheduled : List ℕ → ℕ) (frames : ℕ) (inputs inputs_now : Inputs) (outputs outputs_now : Outputs) → PutsPrefix mode shapes counts says scheduled frames inputs inputs_now outputs outputs_now
    → (k : ℕ) → bits_held outputs_now k ≤ bits_held outputs k + frames * top_len shapes
mux_short mode shapes counts says scheduled frames inputs inputs_now outputs outputs_now put k =
    let line : List Bool = frames_of_line mode shapes counts says put.given put.made in
    let part = put.puts put.given (λ k i known less. refl) k in
    omega (arith, prefix_short (as_line line k) (outputs.told k) (outputs_now.told k) part, line_short line k, length-front (chain_line mode shapes counts (bits_of put.given) says [] 0) (put.made * top_len shapes), mul-le-mul_right (top_len shapes) put.upto)

received_few : (shapes : List FrameShape) (line : List Bool) (bits k : ℕ) → AreFrames shapes → length line ≤ bits → length (received_of shapes line k) ≤ bits / width shapes
received_few shapes line bits k are few = elim (cases_lt k (width shapes)) [
  | inl known ↦
      let is : received_of shapes line k ≡ far shapes line k = ap (λ b. cond b (far shapes line k) []) (lt-ltb k (width shapes) known) in
      let some : 0 < width shapes = omega arith in
      omega (arith, ap length is, le-div (length (far shapes line k)) bits (width shapes) some (omega (arith, far_short shapes line k are known)))
  | inr past ↦ (let none : received_of shapes line k ≡ [] = ap (λ b. cond b (far shapes line k) []) (le-ltb k (width shapes) (omega arith)) in omega (arith, ap length none))
]

-- Where a bit couldn't be put, no list took more bits than its share of the line.
pub demux_short : (shapes : List FrameShape) (sees : List Event → Type 0) (bits : ℕ) (inputs inputs_now : Inputs) (outputs outputs_now : Outputs) → AreFrames shapes → DemuxesPart shapes sees bits inputs inputs_now outputs outputs_now
    → (k : ℕ) → bits_held outputs_now k ≤ bits_held outputs k + bits / width shapes
demux_short shapes sees bits inputs inputs_now outputs outputs_now are put k =
    omega (arith, prefix_short (received_of shapes put.given k) (outputs.told k) (outputs_now.told k) (put.puts k), received_few shapes put.given bits k are put.upto)
