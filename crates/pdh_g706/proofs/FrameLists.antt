-- The whole frames of a line, and those of a longer line or of its end.
use Rattle.std.proofs.Common.{◌≡◌, ℕ, suc, ◌+◌, ◌-◌, ◌*◌, ◌/◌, ◌<◌, ◌≤◌, Bool, List, [], ◌∷◌, ◌++◌, length, get_or, map, take, drop, refl, sym, ap, ◌∙◌, arith, length-append, length-drop}
use Rattle.std.specs.List.{range_with_len}
use Rattle.std.proofs.lemmas.List.{append-nil, map-append, take-append-le, drop-append-le, drop-drop, drop_at}
use Rattle.std.proofs.lemmas.List.FromFn.{length-map-range_with_len, get_or-map-range_with_len}
use Rattle.pdh_line.proofs.Ranges.{range_append, map-range_same_on, map-range_shift}
use Rattle.pdh_g706.specs.Frames.{frame_of, frames_of}

pub frames_of_is : (line : List Bool) → frames_of line ≡ map (frame_of line) (range_with_len 0 (length line / 256))
unfolding frames_of
frames_of_is line = refl

-- how many there are
pub length_frames : (line : List Bool) → length (frames_of line) ≡ length line / 256
length_frames line = ap length (frames_of_is line) ∙ length-map-range_with_len (frame_of line) 0 (length line / 256)

-- frame k
pub frame_at : (line : List Bool) (k : ℕ) → k < length line / 256 → get_or (frames_of line) k [] ≡ frame_of line k
frame_at line k within =
    ap (λ (l : List (List Bool)). get_or l k []) (frames_of_is line) ∙ get_or-map-range_with_len (frame_of line) 0 (length line / 256) k k [] within (omega arith)

-- a frame that was whole is the same in a longer line
pub frame_of-append : (l m : List Bool) (k : ℕ) → 256 * k + 256 ≤ length l → frame_of (l ++ m) k ≡ frame_of l k
frame_of-append l m k h =
    let within : 256 * k ≤ length l = omega arith in
    let whole : 256 ≤ length (drop (256 * k) l) = simp length-drop (omega arith) in
    rw (drop-append-le, take-append-le) refl

-- the frames of a longer line
pub frames-append : (l m : List Bool) (more : ℕ) → length (l ++ m) / 256 ≡ length l / 256 + more
    → frames_of (l ++ m) ≡ frames_of l ++ map (frame_of (l ++ m)) (range_with_len (0 + length l / 256) more)
frames-append l m more count =
    let n : ℕ = length l / 256 in
    let f : ℕ → List Bool = frame_of (l ++ m) in
    let same : map f (range_with_len 0 n) ≡ map (frame_of l) (range_with_len 0 n) =
    map-range_same_on f (frame_of l) 0 n (λ k _from lt. frame_of-append l m k (omega arith)) in
    frames_of_is (l ++ m) ∙ ap (λ k. map f (range_with_len 0 k)) count ∙ ap (map f) (range_append 0 n more)
    ∙ map-append f (range_with_len 0 n) (range_with_len (0 + n) more)
    ∙ ap (λ (x : List (List Bool)). x ++ map f (range_with_len (0 + n) more)) (same ∙ sym (frames_of_is l))

-- some frames follow those of the shorter line
pub frames_grow : (l m : List Bool) → (rest : List (List Bool)) × (frames_of (l ++ m) ≡ frames_of l ++ rest)
frames_grow l m =
    let more : ℕ = length (l ++ m) / 256 - length l / 256 in
    (map (frame_of (l ++ m)) (range_with_len (0 + length l / 256) more), frames-append l m more (omega (arith, length-append l m)))

-- a bit that ends no frame
pub frames_part : (l : List Bool) (bit : Bool) (n : ℕ) → length (l ++ bit ∷ []) ≡ n → n / 256 ≡ (n - 1) / 256 → frames_of (l ++ bit ∷ []) ≡ frames_of l
frames_part l bit n long part = frames-append l (bit ∷ []) 0 (omega (arith, length-append l (bit ∷ []))) ∙ append-nil (frames_of l)

-- a bit that ends a frame
pub frames_whole : (l : List Bool) (bit : Bool) (n : ℕ) → length (l ++ bit ∷ []) ≡ 256 * suc n
    → frames_of (l ++ bit ∷ []) ≡ frames_of l ++ frame_of (l ++ bit ∷ []) (0 + length l / 256) ∷ []
frames_whole l bit n long = frames-append l (bit ∷ []) 1 (omega (arith, length-append l (bit ∷ [])))

-- the frames of the end of a line
pub frames-drop : (line : List Bool) (k : ℕ) → 256 * k ≤ length line → frames_of (drop (256 * k) line) ≡ drop k (frames_of line)
frames-drop line k within =
    let n : ℕ = length line / 256 - k in
    let f : ℕ → List Bool = frame_of line in
    let count : length (drop (256 * k) line) / 256 ≡ n = omega (arith, length-drop (256 * k) line) in
    let all : length line / 256 ≡ k + n = omega arith in
    let first : length (map f (range_with_len 0 k)) ≡ k = length-map-range_with_len f 0 k in
    let shifted : map (λ j. f (k + j)) (range_with_len 0 n) ≡ map f (range_with_len (0 + k) n) =
    sym (map-range_shift f k 0 n) ∙ ap (λ j. map f (range_with_len j n)) (omega arith) in
    frames_of_is (drop (256 * k) line) ∙ ap (λ j. map (frame_of (drop (256 * k) line)) (range_with_len 0 j)) count
    ∙ map-range_same_on (frame_of (drop (256 * k) line)) (λ j. f (k + j)) 0 n (λ j _from lt. moved line k j)
    ∙ shifted
    ∙ sym (drop_at (map f (range_with_len 0 k)) (map f (range_with_len (0 + k) n)) k first)
    ∙ ap (drop k) (sym (map-append f (range_with_len 0 k) (range_with_len (0 + k) n)))
    ∙ ap (λ (x : List ℕ). drop k (map f x)) (sym (range_append 0 k n))
    ∙ ap (λ j. drop k (map f (range_with_len 0 j))) (sym all) ∙ ap (drop k) (sym (frames_of_is line))
  where
    moved : (line : List Bool) (k : ℕ) (j : ℕ) → frame_of (drop (256 * k) line) j ≡ frame_of line (k + j)
    moved line k j = ap (take 256) (drop-drop (256 * j) (256 * k) line ∙ ap (λ i. drop i line) (omega arith))
