-- What comes out of a far store grows with the received line, and how many bits come into it.
use Rattle.std.proofs.Common.{◌≡◌, ℕ, zero, suc, ◌+◌, ◌-◌, ◌*◌, ◌/◌, ◌<◌, ◌≤◌, Bool, true, leb, List, [], ◌∷◌, ◌++◌, length, get_or, map, filter, take, drop, refl, sym, ap, ◌∙◌, inl, inr, arith, append_assoc, length-append}
use Rattle.std.specs.Prelude.{sum_by, flat_map}
use Rattle.std.specs.List.{range_with_len}
use Rattle.std.proofs.lemmas.Bool.{cases_lt}
use Rattle.std.proofs.lemmas.List.{map-append, take-append-le, take_all, length-replicate, length-take-le, get_or_append_left}
use Rattle.std.proofs.lemmas.List.{length-map}
use Rattle.std.proofs.lemmas.List.Folds.{sum_by-replicate}
use Rattle.std.proofs.lemmas.List.Sums.{sum_by-cons, sum_by-append, length-filter}
use Rattle.std.proofs.Math.Seq.{take-add, take-append-add, get_or-append_seam}
use Rattle.pdh_shape.specs.Frame.{FrameShape, IsFrame, slots}
use Rattle.pdh_shape.specs.Tributary.{reads_from, carries_more, stripped}
use Rattle.pdh_shape.specs.OwnNumbers.{threshold}
use Rattle.pdh_line.specs.Tracking.{Piece, track}
use Rattle.pdh_line.specs.Tracking.Piece.{Gap, Delivered}
use Rattle.pdh_line.specs.Receiving.{piece_bits, received}
use Rattle.pdh_line.specs.Sending.{carried}
use Rattle.pdh_line.proofs.Ranges.{range_append, map-range_same_on}
use Rattle.pdh_line.proofs.SendingLaws.{arrived_in-all}
use Rattle.pdh_align.proofs.PieceGrowth.{Begins}
use Rattle.pdh_rx.specs.laws.Growth.{received_grows}
use Rattle.pdh_desync.specs.FarStore.{FarPiece, far_pieces, pieces_of, came, piece_at, comes, start_fill, reads_more, reads, reads_over, comes_over, read_in_all, smooth, marks}
use Rattle.pdh_desync.specs.FarStore.FarPiece.{Ones, Frame}
use Rattle.pdh_desync.specs.laws.PieceSteps.{far_grow}
use Rattle.pdh_desync.specs.laws.FarBounds.{IsEven, start_fill-zero, start_fill-suc, run-balance}

-- ---- reads of more pieces

piece_at-append : (xs ys : List FarPiece) (n : ℕ) → n < length xs → piece_at (xs ++ ys) n ≡ piece_at xs n
piece_at-append xs ys n h = get_or_append_left xs ys Ones n h

pub start_fill-append : (s : FrameShape) (j : ℕ) (xs ys : List FarPiece) (n : ℕ) → n ≤ length xs → start_fill s j (xs ++ ys) n ≡ start_fill s j xs n
start_fill-append s j xs ys zero h = start_fill-zero s j (xs ++ ys) ∙ sym (start_fill-zero s j xs)
start_fill-append s j xs ys (suc n) h =
    start_fill-suc s j (xs ++ ys) n
    ∙ ap (λ k. k + comes s j (xs ++ ys) n - carried s (leb threshold k)) (start_fill-append s j xs ys n (omega arith))
    ∙ ap (λ p. start_fill s j xs n + came s j p - carried s (leb threshold (start_fill s j xs n))) (piece_at-append xs ys n (omega arith))
    ∙ sym (start_fill-suc s j xs n)

pub reads_more-append : (s : FrameShape) (j : ℕ) (xs ys : List FarPiece) (n : ℕ) → n < length xs → reads_more s j (xs ++ ys) n ≡ reads_more s j xs n
reads_more-append s j xs ys n h = ap (leb threshold) (start_fill-append s j xs ys n (omega arith))

sum-range_same : (f g : ℕ → ℕ) (a n : ℕ) → ((k : ℕ) → a ≤ k → k < a + n → f k ≡ g k) → sum_by f (range_with_len a n) ≡ sum_by g (range_with_len a n)
sum-range_same f g a zero same = refl
sum-range_same f g a (suc n) same =
    let here : f a ≡ g a = same a (omega arith) (omega arith) in
    let rest : sum_by f (range_with_len (a + 1) n) ≡ sum_by g (range_with_len (a + 1) n) = sum-range_same f g (a + 1) n (λ k h h'. same k (omega arith) (omega arith)) in
    omega (arith, sum_by-cons f a (range_with_len (a + 1) n), sum_by-cons g a (range_with_len (a + 1) n), here, rest)

-- the reads of the first pieces
reads_first : (s : FrameShape) (j : ℕ) (xs ys : List FarPiece) → reads_over s j (xs ++ ys) 0 (length xs) ≡ reads_over s j xs 0 (length xs)
reads_first s j xs ys =
    sum-range_same (reads s j (xs ++ ys)) (reads s j xs) 0 (length xs) (λ k h h'. ap (carried s) (reads_more-append s j xs ys k (omega arith)))

-- and those of the further ones
pub reads_all : (s : FrameShape) (j : ℕ) (xs ys : List FarPiece)
    → reads_over s j (xs ++ ys) 0 (length (xs ++ ys)) ≡ reads_over s j xs 0 (length xs) + reads_over s j (xs ++ ys) (0 + length xs) (length ys)
reads_all s j xs ys =
    let f : ℕ → ℕ = reads s j (xs ++ ys) in
    ap (λ n. sum_by f (range_with_len 0 n)) (length-append xs ys)
    ∙ ap (sum_by f) (range_append 0 (length xs) (length ys))
    ∙ sum_by-append f (range_with_len 0 (length xs)) (range_with_len (0 + length xs) (length ys))
    ∙ ap (λ n. n + sum_by f (range_with_len (0 + length xs) (length ys))) (reads_first s j xs ys)

pub read_grows : (s : FrameShape) (j : ℕ) (l m : List Bool) → IsFrame s → read_in_all s j l ≤ read_in_all s j (l ++ m)
read_grows s j l m frame =
    let more = far_grow s l m frame in
    let e : read_in_all s j (l ++ m) ≡ reads_over s j (pieces_of s l ++ more.0) 0 (length (pieces_of s l ++ more.0)) = ap (λ xs. reads_over s j xs 0 (length xs)) more.1 in
    omega (arith, e, reads_all s j (pieces_of s l) more.0)

-- ---- how many bits come

pub came_in : (s : FrameShape) (j : ℕ) (xs : List FarPiece) → comes_over s j xs 0 (length xs) ≡ sum_by (came s j) xs
came_in s j xs = from 0 [] xs refl
  where
    from : (a : ℕ) (before rest : List FarPiece) → length before ≡ a → sum_by (comes s j (before ++ rest)) (range_with_len a (length rest)) ≡ sum_by (came s j) rest
    from a before [] e = refl
    from a before (x ∷ rest) e =
        let here : piece_at (before ++ x ∷ rest) a ≡ x = ap (λ i. get_or (before ++ x ∷ rest) i Ones) (sym e) ∙ get_or-append_seam before x rest Ones in
        let long : length (before ++ x ∷ []) ≡ a + 1 = omega (arith, length-append before (x ∷ []), e) in
        let all : (before ++ x ∷ []) ++ rest ≡ before ++ x ∷ rest = append_assoc before (x ∷ []) rest in
        let next : sum_by (comes s j (before ++ x ∷ rest)) (range_with_len (a + 1) (length rest)) ≡ sum_by (came s j) rest =
        sym (ap (λ ys. sum_by (comes s j ys) (range_with_len (a + 1) (length rest))) all) ∙ from (a + 1) (before ++ x ∷ []) rest long in
        sum_by-cons (comes s j (before ++ x ∷ rest)) a (range_with_len (a + 1) (length rest))
        ∙ ap (λ p. came s j p + sum_by (comes s j (before ++ x ∷ rest)) (range_with_len (a + 1) (length rest))) here
        ∙ ap (λ n. came s j x + n) next
        ∙ sym (sum_by-cons (came s j) x rest)

pub stripped_long : (s : FrameShape) (j : ℕ) (frame : List Bool) → length (stripped s j frame) ≡ came s j (Frame frame)
unfolding stripped
stripped_long s j frame =
    length-map (filter (λ slot. reads_from j (carries_more s j frame) (s.role slot)) (slots s)) _
    ∙ length-filter (λ slot. reads_from j (carries_more s j frame) (s.role slot)) (slots s)

piece_long : (s : FrameShape) (j : ℕ) (piece : Piece) → IsFrame s → length (piece_bits s j piece) ≡ sum_by (came s j) (far_pieces s piece)
unfolding piece_bits
piece_long s j (Gap n) frame =
    length-replicate (n / s.len * s.low) true
    ∙ sym (sum_by-replicate (came s j) (n / s.len) Ones ∙ ap (λ k. n / s.len * k) (arrived_in-all s s.low frame))
piece_long s j (Delivered f) frame = stripped_long s j f ∙ sym (sum_by-cons (came s j) (Frame f) [] ∙ omega arith)

-- what comes into a far store is the received line
came_is_received : (s : FrameShape) (j : ℕ) (line : List Bool) → IsFrame s → comes_over s j (pieces_of s line) 0 (length (pieces_of s line)) ≡ length (received s j line)
unfolding received pieces_of
came_is_received s j line frame = came_in s j (flat_map (far_pieces s) (track s line)) ∙ sym (go (track s line))
  where
    go : (pieces : List Piece) → length (flat_map (piece_bits s j) pieces) ≡ sum_by (came s j) (flat_map (far_pieces s) pieces)
    go [] = refl
    go (p ∷ rest) =
        length-append (piece_bits s j p) (flat_map (piece_bits s j) rest)
        ∙ ap (λ n. n + length (flat_map (piece_bits s j) rest)) (piece_long s j p frame)
        ∙ ap (λ n. sum_by (came s j) (far_pieces s p) + n) (go rest)
        ∙ sym (sum_by-append (came s j) (far_pieces s p) (flat_map (far_pieces s) rest))

-- the store holds what came and wasn't read, the ones with which it begins among it: as much as it does at the start of the next
-- piece
pub read_balance : (s : FrameShape) (j : ℕ) (line : List Bool) → IsEven s → j < s.tribs
    → threshold + length (received s j line) ≡ start_fill s j (pieces_of s line) (length (pieces_of s line)) + read_in_all s j line
read_balance s j line laws known =
    let pieces : List FarPiece = pieces_of s line in
    let e : 0 + length pieces ≡ length pieces = omega arith in
    omega (
      arith,
      run-balance s j pieces 0 (length pieces) laws known,
      start_fill-zero s j pieces,
      came_is_received s j line laws.frame,
      ap (start_fill s j pieces) e,
    )

-- all that comes out has come
read_received : (s : FrameShape) (j : ℕ) (line : List Bool) → IsEven s → j < s.tribs → read_in_all s j line - threshold ≤ length (received s j line)
read_received s j line laws known = omega (arith, read_balance s j line laws known)

-- as many bits come out as are read, but for the ones of the beginning
pub smooth_long : (s : FrameShape) (j : ℕ) (line : List Bool) → IsEven s → j < s.tribs → length (smooth s j line) ≡ read_in_all s j line - threshold
unfolding smooth
smooth_long s j line laws known = length-take-le (read_in_all s j line - threshold) (received s j line) (read_received s j line laws known)

-- ---- what comes out grows

pub take_begins : {X : Type 0} (xs rest : List X) (a b : ℕ) → a ≤ b → Begins (take a xs) (take b (xs ++ rest))
take_begins xs rest a b le = elim (cases_lt (length xs) a) [
  | inl past ↦
      let e : b ≡ length xs + (b - length xs) = omega (arith, past, le) in
      (take (b - length xs) rest, ap (λ n. take n (xs ++ rest)) e ∙ take-append-add xs rest (b - length xs) ∙ ap (λ x. x ++ take (b - length xs) rest) (sym (take_all a xs (omega (arith, past)))))
  | inr within ↦
      let e : b ≡ a + (b - a) = omega arith in
      (take (b - a) (drop a (xs ++ rest)), ap (λ n. take n (xs ++ rest)) e ∙ take-add a (b - a) (xs ++ rest) ∙ ap (λ x. x ++ take (b - a) (drop a (xs ++ rest))) (take-append-le a xs rest within))
]

pub smooth_grows : (s : FrameShape) (j : ℕ) (l m : List Bool) → IsFrame s → Begins (smooth s j l) (smooth s j (l ++ m))
unfolding smooth
smooth_grows s j l m frame =
    let more = received_grows s j l m frame in
    let a : ℕ = read_in_all s j l - threshold in
    let b : ℕ = read_in_all s j (l ++ m) - threshold in
    let grown = take_begins (received s j l) more.0 a b (omega (arith, read_grows s j l m frame)) in
    (grown.0, ap (take b) more.1 ∙ grown.1)

pub marks_grow : (s : FrameShape) (j : ℕ) (l m : List Bool) → IsFrame s → Begins (marks s j l) (marks s j (l ++ m))
unfolding marks
marks_grow s j l m frame =
    let more = far_grow s l m frame in
    let xs : List FarPiece = pieces_of s l in
    let all : List FarPiece = xs ++ more.0 in
    let later : List Bool = map (reads_more s j all) (range_with_len (0 + length xs) (length more.0)) in (
      later,
      ap (λ ys. map (reads_more s j ys) (range_with_len 0 (length ys))) more.1
          ∙ ap (λ n. map (reads_more s j all) (range_with_len 0 n)) (length-append xs more.0)
          ∙ ap (map (reads_more s j all)) (range_append 0 (length xs) (length more.0))
          ∙ map-append (reads_more s j all) (range_with_len 0 (length xs)) (range_with_len (0 + length xs) (length more.0))
          ∙ ap (λ x. x ++ later) (map-range_same_on (reads_more s j all) (reads_more s j xs) 0 (length xs) (λ k h h'. reads_more-append s j xs more.0 k (omega arith))),
    )
