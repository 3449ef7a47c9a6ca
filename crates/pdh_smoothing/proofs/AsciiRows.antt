-- The text of a schedule that would make a line again: each of its bytes is one, and it is short.
use Rattle.std.proofs.Common.{◌≡◌, inl, inr, ℕ, suc, ◌+◌, ◌-◌, ◌*◌, ◌%◌, ◌^◌, ◌<◌, ◌≤◌, Bool, List, [], ◌∷◌, ◌++◌, length, map, All, decimal, refl, sym, subst, arith, lit<, length-append}
use Rattle.std.specs.List.{flat_map, range_with_len}
use Rattle.std.specs.Str.{bytes_eq}
use Rattle.std.proofs.lemmas.Bool.{cases_Bool}
use Rattle.std.proofs.lemmas.Fmt.{decimal_by_steps}
use Rattle.std.proofs.lemmas.List.Elements.{All-nil, All-cons, All-append, All-head, All-tail}
use Rattle.std.proofs.lemmas.List.FromFn.{length-map-range_with_len}
use Rattle.std.proofs.Math.Nat.{mul-le-mul_left}
use Rattle.pdh_bits.specs.Bits.{bits_of, bytes_of}
use Rattle.pdh_bits.proofs.BitsLemmas.{bytes_of-bits_of}
use Rattle.pdh_shape.specs.Frame.{FrameShape, IsFrame}
use Rattle.pdh_levels.specs.Levels.{most_tributaries}
use Rattle.pdh_text.proofs.Lengths.{digits}
use Rattle.pdh_row_text.specs.Form.{Form, counts_form}
use Rattle.pdh_clock.specs.Written.{with_frame, longest_rows, number_words, row_line}
use Rattle.pdh_desync.specs.FarStore.{FarPiece, pieces_of, reads, reads_more}
use Rattle.pdh_desync.specs.laws.FarBounds.{carried-most}
use Rattle.pdh_desync.proofs.PiecesFit.{pieces_fit}
use Rattle.pdh_smoothing.specs.Again.{reads_in, frames_again, schedule_again}

abbrev IsByte : ℕ → Type 0
IsByte byte = byte < 256

-- numbers that words write
abbrev IsSmall : ℕ → Type 0
IsSmall number = number < 2 ^ 64

one_byte : (byte : ℕ) → IsByte byte → All IsByte (byte ∷ [])
one_byte byte small = All-cons IsByte byte [] small (All-nil IsByte)

decimal_bytes : (number : ℕ) → IsSmall number → All IsByte (decimal number)
decimal_bytes number small =
    decimal_by_steps (λ n digits. All IsByte digits) (λ n less. one_byte (48 + n) (omega (arith, less)))
    (λ n digits least before. All-append IsByte digits ((48 + n % 10) ∷ []) before (one_byte (48 + n % 10) (omega arith))) number small

words_bytes : (numbers : List ℕ) → All IsSmall numbers → All IsByte (number_words numbers)
words_bytes [] small = All-nil IsByte
words_bytes (n ∷ numbers) small =
    All-append IsByte (32 ∷ decimal n) (number_words numbers) (All-cons IsByte 32 (decimal n) (lit< tt) (decimal_bytes n (All-head IsSmall n numbers small))) (words_bytes numbers (All-tail IsSmall n numbers small))

-- ---- rows of the top

-- a row of at most so many frames, with small counts
record IsSmallRow (most : ℕ) (row : Form) : Type 0 where
  here : row.path ≡ []
  few : row.repeat ≤ most
  counts : All IsSmall row.numbers

line_bytes : (most : ℕ) (row : Form) → IsSmall most → IsSmallRow most row → All IsByte (row_line row)
line_bytes most row small is =
    let words : All IsByte (number_words (row.repeat ∷ row.numbers)) = words_bytes (row.repeat ∷ row.numbers) (All-cons IsSmall row.repeat row.numbers (omega (arith, small, is.few)) is.counts) in
    subst (λ path. All IsByte (row_line (record row { path = path }))) (sym is.here)
    (All-cons IsByte 47 (number_words (row.repeat ∷ row.numbers) ++ 10 ∷ []) (lit< tt) (All-append IsByte (number_words (row.repeat ∷ row.numbers)) (10 ∷ []) words (one_byte 10 (lit< tt))))

lines_bytes : (most : ℕ) (rows : List Form) → IsSmall most → All (IsSmallRow most) rows → All IsByte (flat_map row_line rows)
lines_bytes most [] small each = All-nil IsByte
lines_bytes most (row ∷ rows) small each =
    All-append IsByte (row_line row) (flat_map row_line rows) (line_bytes most row small (All-head (IsSmallRow most) row rows each)) (lines_bytes most rows small (All-tail (IsSmallRow most) row rows each))

more_rows : (most : ℕ) (rows : List Form) → All (IsSmallRow most) rows → All (IsSmallRow (suc most)) rows
more_rows most [] each = All-nil (IsSmallRow (suc most))
more_rows most (row ∷ rows) each =
    let is = All-head (IsSmallRow most) row rows each in
    All-cons (IsSmallRow (suc most)) row rows (record { here = is.here; few = omega (arith, is.few); counts = is.counts }) (more_rows most rows (All-tail (IsSmallRow most) row rows each))

with_small : (most : ℕ) (frame : List ℕ) (rows : List Form) → All IsSmall frame → All (IsSmallRow most) rows → All (IsSmallRow (suc most)) (with_frame [] frame rows)
with_small most frame [] small each = All-cons (IsSmallRow (suc most)) (counts_form [] 1 frame) [] (record { here = refl; few = omega arith; counts = small }) (All-nil (IsSmallRow (suc most)))
with_small most frame (row ∷ rows) small each = elim (cases_Bool (bytes_eq frame row.numbers)) [
  | inl same ↦ rw same (
      let is = All-head (IsSmallRow most) row rows each in
      All-cons (IsSmallRow (suc most)) (counts_form [] (suc row.repeat) frame) rows (record { here = refl; few = omega (arith, is.few); counts = small }) (more_rows most rows (All-tail (IsSmallRow most) row rows each))
      )
  | inr other ↦ rw other (All-cons (IsSmallRow (suc most)) (counts_form [] 1 frame) (row ∷ rows) (record { here = refl; few = omega arith; counts = small }) (more_rows most (row ∷ rows) each))
]

longest_small : (frames : List (List ℕ)) → All (All IsSmall) frames → All (IsSmallRow (length frames)) (longest_rows [] frames)
longest_small [] each = All-nil (IsSmallRow 0)
longest_small (frame ∷ frames) each =
    with_small (length frames) frame (longest_rows [] frames) (All-head (All IsSmall) frame frames each) (longest_small frames (All-tail (All IsSmall) frame frames each))

-- ---- of a line

pub each_of : {X Y : Type 0} (P : Y → Type 0) (f : X → Y) (xs : List X) → ((x : X) → P (f x)) → All P (map f xs)
each_of P f [] each = All-nil P
each_of P f (x ∷ xs) each = All-cons P (f x) (map f xs) (each x) (each_of P f xs each)

-- the rows of a line have small numbers
again_small : (s : FrameShape) (line : List Bool) → IsFrame s → suc s.low < 2 ^ 64 → length line < 2 ^ 63
    → IsSmall (length (frames_again s (pieces_of s line))) × All (IsSmallRow (length (frames_again s (pieces_of s line)))) (longest_rows [] (frames_again s (pieces_of s line)))
again_small s line shape low short =
    let pieces : List FarPiece = pieces_of s line in
    let frames : List (List ℕ) = frames_again s pieces in
    let each : All (All IsSmall) frames = each_of (All IsSmall) (reads_in s pieces) (range_with_len 1 (length pieces - 1)) (λ n. each_of IsSmall (λ j. reads s j pieces n) (range_with_len 0 s.tribs) (λ j. omega (arith, carried-most s (reads_more s j pieces n), low))) in
    let count : length frames ≡ length pieces - 1 = length-map-range_with_len (reads_in s pieces) 1 (length pieces - 1) in
    let some : length pieces * 1 ≤ length pieces * s.len = mul-le-mul_left (length pieces) shape.some_slots in
    (omega (arith, count, some, pieces_fit s line shape, short), longest_small frames each)

pub schedule_bytes : (s : FrameShape) (line : List Bool) → IsFrame s → suc s.low < 2 ^ 64 → length line < 2 ^ 63 → All IsByte (schedule_again s line)
unfolding schedule_again
schedule_bytes s line shape low short =
    let frames : List (List ℕ) = frames_again s (pieces_of s line) in
    let small = again_small s line shape low short in
    lines_bytes (length frames) (longest_rows [] frames) small.0 small.1

-- so as bits they make it
pub schedule_whole : (s : FrameShape) (line : List Bool) → IsFrame s → suc s.low < 2 ^ 64 → length line < 2 ^ 63 → bytes_of (bits_of (schedule_again s line)) ≡ schedule_again s line
schedule_whole s line shape low short = bytes_of-bits_of (schedule_again s line) (schedule_bytes s line shape low short)

-- ---- how long it is

-- a row of at most so many counts
abbrev IsNarrow : ℕ → Form → Type 0
IsNarrow most row = length row.numbers ≤ most

with_narrow : (most : ℕ) (frame : List ℕ) (rows : List Form) → length frame ≤ most → All (IsNarrow most) rows → All (IsNarrow most) (with_frame [] frame rows)
with_narrow most frame [] narrow each = All-cons (IsNarrow most) (counts_form [] 1 frame) [] narrow (All-nil (IsNarrow most))
with_narrow most frame (row ∷ rows) narrow each = elim (cases_Bool (bytes_eq frame row.numbers)) [
  | inl same ↦ rw same (All-cons (IsNarrow most) (counts_form [] (suc row.repeat) frame) rows narrow (All-tail (IsNarrow most) row rows each))
  | inr other ↦ rw other (All-cons (IsNarrow most) (counts_form [] 1 frame) (row ∷ rows) narrow each)
]

longest_narrow : (most : ℕ) (frames : List (List ℕ)) → All (λ (frame : List ℕ). length frame ≤ most) frames → All (IsNarrow most) (longest_rows [] frames)
longest_narrow most [] each = All-nil (IsNarrow most)
longest_narrow most (frame ∷ frames) each =
    with_narrow most frame (longest_rows [] frames) (All-head (λ (frame : List ℕ). length frame ≤ most) frame frames each)
    (longest_narrow most frames (All-tail (λ (frame : List ℕ). length frame ≤ most) frame frames each))

-- there are no more rows than frames
with_one_more : (frame : List ℕ) (rows : List Form) → length (with_frame [] frame rows) ≤ suc (length rows)
with_one_more frame [] = omega arith
with_one_more frame (row ∷ rows) = elim (cases_Bool (bytes_eq frame row.numbers)) [
  | inl same ↦ rw same (omega arith)
  | inr other ↦ rw other (omega arith)
]

rows_few : (frames : List (List ℕ)) → length (longest_rows [] frames) ≤ length frames
rows_few [] = omega arith
rows_few (frame ∷ frames) = omega (arith, with_one_more frame (longest_rows [] frames), rows_few frames)

words_short : (numbers : List ℕ) → All IsSmall numbers → length (number_words numbers) ≤ 21 * length numbers
words_short [] small = omega arith
words_short (n ∷ numbers) small =
    let few : length (decimal n) ≤ 20 = digits n (All-head IsSmall n numbers small) in
    omega (arith, few, length-append (32 ∷ decimal n) (number_words numbers), words_short numbers (All-tail IsSmall n numbers small))

line_short : (most : ℕ) (row : Form) → IsSmall most → IsSmallRow most row → IsNarrow most_tributaries row → length (row_line row) ≤ 256
line_short most row small is narrow =
    let words : length (number_words (row.repeat ∷ row.numbers)) ≤ 21 * length (row.repeat ∷ row.numbers) = words_short (row.repeat ∷ row.numbers) (All-cons IsSmall row.repeat row.numbers (omega (arith, small, is.few)) is.counts) in
    subst (λ path. length (row_line (record row { path = path })) ≤ 256) (sym is.here)
    (omega (arith, words, narrow, length-append (number_words (row.repeat ∷ row.numbers)) (10 ∷ [])))

lines_short : (most : ℕ) (rows : List Form) → IsSmall most → All (IsSmallRow most) rows → All (IsNarrow most_tributaries) rows → length (flat_map row_line rows) ≤ 256 * length rows
lines_short most [] small each narrow = omega arith
lines_short most (row ∷ rows) small each narrow =
    omega (
      arith,
      length-append (row_line row) (flat_map row_line rows),
      line_short most row small (All-head (IsSmallRow most) row rows each) (All-head (IsNarrow most_tributaries) row rows narrow),
      lines_short most rows small (All-tail (IsSmallRow most) row rows each) (All-tail (IsNarrow most_tributaries) row rows narrow),
    )

pub schedule_short : (s : FrameShape) (line : List Bool) → IsFrame s → s.tribs ≤ most_tributaries → suc s.low < 2 ^ 64 → length line < 2 ^ 63 → length (schedule_again s line) ≤ 256 * (length (pieces_of s line) - 1)
unfolding schedule_again
schedule_short s line shape tribs low short =
    let pieces : List FarPiece = pieces_of s line in
    let frames : List (List ℕ) = frames_again s pieces in
    let small = again_small s line shape low short in
    let narrow : All (λ (frame : List ℕ). length frame ≤ most_tributaries) frames =
    each_of (λ (frame : List ℕ). length frame ≤ most_tributaries) (reads_in s pieces) (range_with_len 1 (length pieces - 1)) (λ n. omega (arith, tribs, length-map-range_with_len (λ j. reads s j pieces n) 0 s.tribs)) in
    omega (
      arith,
      lines_short (length frames) (longest_rows [] frames) small.0 small.1 (longest_narrow most_tributaries frames narrow),
      rows_few frames,
      length-map-range_with_len (reads_in s pieces) 1 (length pieces - 1),
    )
