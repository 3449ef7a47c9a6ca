-- The reads of a piece by its marks, tributary by tributary.
use Rattle.std.proofs.Common.{◌≡◌, inl, inr, ℕ, ◌+◌, ◌<◌, ◌≤◌, Bool, false, List, [], ◌∷◌, ◌++◌, map, get_or, ap, sym, ◌∙◌, arith, Some}
use Rattle.std.specs.Prelude.{unwrap_or, decimal}
use Rattle.std.specs.List.{range_with_len}
use Rattle.std.specs.Str.{bytes_eq}
use Rattle.std.proofs.lemmas.Bool.{cases_Bool}
use Rattle.std.proofs.lemmas.List.{append-nil}
use Rattle.std.proofs.lemmas.List.Concat.{flat_map-append}
use Rattle.std.proofs.lemmas.List.FromFn.{get_or-map-range_with_len, map-range_with_len_more}
use Rattle.std.proofs.lemmas.Slice.Eq.{bytes_eq-Decides}
use Rattle.pdh_shape.specs.Frame.{FrameShape}
use Rattle.pdh_edge.specs.Ports.{Outputs}
use Rattle.pdh_line.specs.Sending.{carried}
use Rattle.pdh_line.proofs.Ranges.{map-range_same_on}
use Rattle.pdh_clock.specs.Written.{number_words}
use Rattle.pdh_smoothing.specs.Again.{count_marked, counts_marked}

-- by the mark of a tributary
pub count_is : (s : FrameShape) (lists : Outputs) (n j : ℕ) (bits : List Bool) (more : Bool) → lists.told j ≡ Some bits → more ≡ get_or bits n false → count_marked s lists n j ≡ carried s more
count_is s lists n j bits more told is = ap (λ t. carried s (get_or (unwrap_or t []) n false)) told ∙ ap (carried s) (sym is)

-- as many of each tributary
pub counts_alike : (s : FrameShape) (lists : Outputs) (one other t : ℕ) → s.tribs ≤ t → ((j : ℕ) → j < t → count_marked s lists one j ≡ count_marked s lists other j) → counts_marked s lists other ≡ counts_marked s lists one
counts_alike s lists one other t all alike = sym (map-range_same_on (count_marked s lists one) (count_marked s lists other) 0 s.tribs (λ j h less. alike j (omega (arith, less, all))))

-- or not
pub counts_differ : (s : FrameShape) (lists : Outputs) (one other j : ℕ) → j < s.tribs → (count_marked s lists one j ≡ count_marked s lists other j → ⊥) → bytes_eq (counts_marked s lists one) (counts_marked s lists other) ≡ false
counts_differ s lists one other j known differ = elim (cases_Bool (bytes_eq (counts_marked s lists one) (counts_marked s lists other))) [
  | inl same ↦
      let equal : counts_marked s lists one ≡ counts_marked s lists other = (bytes_eq-Decides (counts_marked s lists one) (counts_marked s lists other)).0 same in
      let at : (n : ℕ) → get_or (counts_marked s lists n) j 0 ≡ count_marked s lists n j = λ n. get_or-map-range_with_len (count_marked s lists n) 0 s.tribs j j 0 known (omega arith) in
      absurd (differ (sym (at one) ∙ ap (λ counts. get_or counts j 0) equal ∙ at other))
  | inr not ↦ not
]

-- the words of one number more
pub words_more : (numbers : List ℕ) (number : ℕ) → number_words (numbers ++ number ∷ []) ≡ number_words numbers ++ 32 ∷ decimal number
words_more numbers number = flat_map-append (λ n. 32 ∷ decimal n) numbers (number ∷ []) ∙ ap (λ words. number_words numbers ++ words) (append-nil (32 ∷ decimal number))

counts_more : (s : FrameShape) (lists : Outputs) (n first t : ℕ) → number_words (first ∷ map (count_marked s lists n) (range_with_len 0 (t + 1))) ≡ number_words (first ∷ map (count_marked s lists n) (range_with_len 0 t)) ++ 32 ∷ decimal (count_marked s lists n t)
counts_more s lists n first t =
    let counts : List ℕ = map (count_marked s lists n) (range_with_len 0 t) in
    ap (λ all. number_words (first ∷ all)) (map-range_with_len_more (count_marked s lists n) 0 t t (omega arith)) ∙ words_more (first ∷ counts) (count_marked s lists n t)

-- so a row of the reads of a piece grows by those of a tributary
pub row_more : (s : FrameShape) (lists : Outputs) (n frames t count : ℕ) (row longer : List ℕ) → row ≡ 47 ∷ number_words (frames ∷ map (count_marked s lists n) (range_with_len 0 t)) → longer ≡ row ++ 32 ∷ decimal count
    → count ≡ count_marked s lists n t → longer ≡ 47 ∷ number_words (frames ∷ map (count_marked s lists n) (range_with_len 0 (t + 1)))
row_more s lists n frames t count row longer so_far more is =
    let words : List ℕ = number_words (frames ∷ map (count_marked s lists n) (range_with_len 0 t)) in
    more ∙ ap (λ (row : List ℕ). row ++ 32 ∷ decimal count) so_far ∙ ap (λ k. 47 ∷ (words ++ 32 ∷ decimal k)) is
    ∙ ap (λ (all : List ℕ). 47 ∷ all) (sym (counts_more s lists n frames t))
