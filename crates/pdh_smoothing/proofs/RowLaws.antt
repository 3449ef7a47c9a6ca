-- The text of frames that are told by marks, run by run.
use Rattle.std.proofs.Common.{◌≡◌, inl, inr, ℕ, zero, suc, ◌+◌, ◌-◌, ◌<◌, ◌≤◌, ◌==◌, false, cond, List, [], ◌∷◌, ◌++◌, length, map, take, replicate, refl, ap, sym, ◌∙◌, arith, append_assoc}
use Rattle.std.specs.List.{range_with_len}
use Rattle.std.specs.Str.{bytes_eq}
use Rattle.std.proofs.lemmas.Bool.{cases_eq, ne_eqb}
use Rattle.std.proofs.lemmas.List.{append-nil, map-append}
use Rattle.std.proofs.Math.Seq.{take-length}
use Rattle.pdh_shape.specs.Frame.{FrameShape}
use Rattle.pdh_bits.specs.BitOut.{BoundedBits}
use Rattle.pdh_bits.specs.Bits.{bits_of}
use Rattle.pdh_bits.proofs.BitsLemmas.{bits_of-append}
use Rattle.pdh_edge.specs.Ports.{Outputs, IsPrefix}
use Rattle.pdh_line.proofs.Ranges.{range_append}
use Rattle.pdh_row_text.specs.Form.{counts_form}
use Rattle.pdh_clock.specs.Written.{row_line}
use Rattle.pdh_clock.proofs.WrittenRows.{longest_text, run_written, last_written}
use Rattle.pdh_smoothing.specs.Again.{rows_text, pieces_marked, counts_marked, frames_marked}

-- ---- equal frames and then others

-- a run of some frames is its row
run_text : (n : ℕ) (counts : List ℕ) → 0 < n → cond (n == 0) [] (row_line (counts_form [] n (take (length counts) counts))) ≡ row_line (counts_form [] n counts)
run_text n counts some =
    ap (λ b. cond b [] (row_line (counts_form [] n (take (length counts) counts)))) (ne_eqb n 0 (λ none. omega (arith, none, some)))
    ∙ ap (λ cs. row_line (counts_form [] n cs)) (take-length counts)

-- they are a row where others follow, or none
run_row : (n : ℕ) (counts next : List ℕ) (rest : List (List ℕ)) → 0 < n → bytes_eq counts next ≡ false
    → rows_text (replicate n counts ++ next ∷ rest) ≡ row_line (counts_form [] n counts) ++ rows_text (next ∷ rest)
run_row n counts next rest some other =
    let differs : bytes_eq (take (length counts) counts) next ≡ false = ap (λ cs. bytes_eq cs next) (take-length counts) ∙ other in
    ap (λ cs. longest_text [] (replicate n cs ++ next ∷ rest)) (sym (take-length counts))
    ∙ sym (run_written [] [] (record { frames = n; tribs = length counts; first = counts }) 1 next rest (omega arith) differs)
    ∙ ap (λ front. front ++ longest_text [] (next ∷ rest)) (run_text n counts some)

last_row : (n : ℕ) (counts : List ℕ) → 0 < n → rows_text (replicate n counts) ≡ row_line (counts_form [] n counts)
last_row n counts some =
    ap (longest_text []) (sym (append-nil (replicate n counts)))
    ∙ ap (λ cs. longest_text [] (replicate n cs ++ [])) (sym (take-length counts))
    ∙ sym (last_written [] [] (record { frames = n; tribs = length counts; first = counts }))
    ∙ run_text n counts some

-- ---- frames that are told by marks

all_alike : (s : FrameShape) (lists : Outputs) (counts : List ℕ) (first n : ℕ) → ((k : ℕ) → k < n → counts_marked s lists (first + k) ≡ counts) → map (counts_marked s lists) (range_with_len first n) ≡ replicate n counts
all_alike s lists counts first zero alike = refl
all_alike s lists counts first (suc n) alike =
    let at : first + 0 ≡ first = omega arith in
    ap (λ c. c ∷ map (counts_marked s lists) (range_with_len (first + 1) n)) (ap (counts_marked s lists) (sym at) ∙ alike 0 (omega arith))
    ∙ ap (λ rest. counts ∷ rest) (all_alike s lists counts (first + 1) n (λ k less. let next : first + 1 + k ≡ first + suc k = omega arith in ap (counts_marked s lists) next ∙ alike (suc k) (omega arith)))

-- the first ones are equal, and the next one differs from them
pub first_row : (s : FrameShape) (lists : Outputs) (first n : ℕ) → 0 < n → first + n ≤ pieces_marked lists
    → ((k : ℕ) → k < n → counts_marked s lists (first + k) ≡ counts_marked s lists first)
    → (first + n < pieces_marked lists → bytes_eq (counts_marked s lists first) (counts_marked s lists (first + n)) ≡ false)
    → rows_text (frames_marked s lists first) ≡ row_line (counts_form [] n (counts_marked s lists first)) ++ rows_text (frames_marked s lists (first + n))
first_row s lists first n some within alike ends =
    let counts : List ℕ = counts_marked s lists first in
    let left : ℕ = pieces_marked lists - (first + n) in
    let count : pieces_marked lists - first ≡ n + left = omega (arith, within) in
    let parts : frames_marked s lists first ≡ replicate n counts ++ frames_marked s lists (first + n) =
    ap (λ m. map (counts_marked s lists) (range_with_len first m)) count ∙ ap (map (counts_marked s lists)) (range_append first n left)
    ∙ map-append (counts_marked s lists) (range_with_len first n) (range_with_len (first + n) left)
    ∙ ap (λ front. front ++ frames_marked s lists (first + n)) (all_alike s lists counts first n alike) in
    elim (cases_eq (first + n) (pieces_marked lists)) [
      | inl end ↦
          let none : left ≡ 0 = omega (arith, end) in
          let no_frames : frames_marked s lists (first + n) ≡ [] = ap (λ m. map (counts_marked s lists) (range_with_len (first + n) m)) none in
          ap rows_text (parts ∙ ap (λ rest. replicate n counts ++ rest) no_frames ∙ append-nil (replicate n counts)) ∙ last_row n counts some
          ∙ sym (append-nil (row_line (counts_form [] n counts))) ∙ ap (λ frames. row_line (counts_form [] n counts) ++ rows_text frames) (sym no_frames)
      | inr more ↦
          let inside : first + n < pieces_marked lists = omega (arith, within, more) in
          let one : left ≡ suc (left - 1) = omega (arith, inside) in
          let next : frames_marked s lists (first + n) ≡ counts_marked s lists (first + n) ∷ map (counts_marked s lists) (range_with_len (first + n + 1) (left - 1)) =
          ap (λ m. map (counts_marked s lists) (range_with_len (first + n) m)) one in
          ap rows_text (parts ∙ ap (λ rest. replicate n counts ++ rest) next)
          ∙ run_row n counts (counts_marked s lists (first + n)) (map (counts_marked s lists) (range_with_len (first + n + 1) (left - 1))) some (ends inside)
          ∙ ap (λ frames. row_line (counts_form [] n counts) ++ rows_text frames) (sym next)
    ]

-- behind the last piece there is none
pub no_rows : (s : FrameShape) (lists : Outputs) (piece : ℕ) → pieces_marked lists ≤ piece → rows_text (frames_marked s lists piece) ≡ []
no_rows s lists piece past =
    let none : pieces_marked lists - piece ≡ 0 = omega (arith, past) in
    ap (λ m. rows_text (map (counts_marked s lists) (range_with_len piece m))) none

-- ---- rows as bits

-- the bits of a row, in place of those that were there
pub row_bits : (new none old : BoundedBits) (bytes row line : List ℕ) → new ≡ record none { bits = none.bits ++ bits_of bytes } → none ≡ record old { bits = [] } → bytes ≡ row → row ≡ line → new.bits ≡ bits_of line
row_bits new none old bytes row line is empty same said =
    ap (λ (b : BoundedBits). b.bits) is ∙ ap (λ (b : BoundedBits). b.bits ++ bits_of bytes) empty ∙ ap bits_of (same ∙ said)

-- so much is put, then comes a row, and then the rest
pub rows_then : (text row rest whole : List ℕ) → text ++ (row ++ rest) ≡ whole → (text ++ row) ++ rest ≡ whole
rows_then text row rest whole is = append_assoc text row rest ∙ is

pub rows_begin : (text row rest whole : List ℕ) → text ++ (row ++ rest) ≡ whole → IsPrefix (bits_of text ++ bits_of row) (bits_of whole)
rows_begin text row rest whole is =
    (bits_of rest, ap bits_of (sym (rows_then text row rest whole is)) ∙ bits_of-append (text ++ row) rest ∙ ap (λ bits. bits ++ bits_of rest) (bits_of-append text row))
