-- The fill of a store that meets no overflow and no underflow.
use Rattle.std.proofs.Common.{◌≡◌, ℕ, zero, suc, ◌+◌, ◌*◌, ◌<◌, ◌≤◌, false, ◌&&◌, cond, leb, sym, ap, ◌∙◌, subst, inl, inr, arith}
use Rattle.std.proofs.lemmas.Bool.{leb-false, cases_Bool}
use Rattle.pdh_shape.specs.Frame.{FrameShape, IsFrame}
use Rattle.pdh_shape.specs.Tributary.{reads_from, HasTributaries}
use Rattle.pdh_shape.specs.OwnNumbers.{store_size}
use Rattle.pdh_line.specs.Sending.{arrives_at, sends_more, came_before, read_before}
use Rattle.pdh_line.specs.Events.{overflows, underflows}
use Rattle.pdh_line.proofs.SendingLaws.{sent-zero, came_before-first, came_before-suc, came_before-next, came_before_grows, read_before-start, read_before-suc, read_before-next}

-- what was read had come
pub read_before_came : (s : FrameShape) (counts : ℕ → ℕ) (j n t : ℕ) → IsFrame s → HasTributaries s → j < s.tribs
    → ((m u : ℕ) → u < s.len → m * s.len + u < n * s.len + t → underflows s j counts m u ≡ false) → t ≤ s.len
    → read_before s j counts n t ≤ came_before s counts n t
read_before_came s counts j zero zero frame has known none h =
    omega (arith, came_before-first s counts frame, read_before-start s j counts 0, sent-zero s counts)
read_before_came s counts j (suc n) zero frame has known none h =
    let last : read_before s j counts n s.len ≤ came_before s counts n s.len =
    read_before_came s counts j n s.len frame has known (λ m u h' lt. none m u h' (omega arith)) (omega arith) in
    omega (arith, came_before-next s counts n frame, read_before-next s j counts n has known)
read_before_came s counts j n (suc t) frame has known none h =
    let before : read_before s j counts n t ≤ came_before s counts n t = read_before_came s counts j n t frame has known (λ m u h' lt. none m u h' (omega arith)) (omega arith) in
    one_more s counts j n t frame before (none n t h (omega arith))
  where
    one_more : (s : FrameShape) (counts : ℕ → ℕ) (j n t : ℕ) → IsFrame s → read_before s j counts n t ≤ came_before s counts n t → underflows s j counts n t ≡ false
        → read_before s j counts n (suc t) ≤ came_before s counts n (suc t)
    one_more s counts j n t frame before fine =
        let next = read_before-suc s j counts n t in
        elim (cases_Bool (reads_from j (sends_more s counts n) (s.role t))) [
          | inl reads ↦
              let left : leb (came_before s counts n (suc t)) (read_before s j counts n t) ≡ false =
              ap (λ b. b && leb (came_before s counts n (suc t)) (read_before s j counts n t)) (sym reads) ∙ fine in
              let few : read_before s j counts n t < came_before s counts n (suc t) = leb-false _ _ left in
              let one : read_before s j counts n (suc t) ≡ read_before s j counts n t + 1 = next ∙ ap (λ b. read_before s j counts n t + cond b 1 0) reads in
              subst (λ k. k ≤ came_before s counts n (suc t)) (sym one) (omega arith)
          | inr passed ↦
              let same : read_before s j counts n (suc t) ≡ read_before s j counts n t + 0 = next ∙ ap (λ b. read_before s j counts n t + cond b 1 0) passed in
              subst (λ k. k ≤ came_before s counts n (suc t)) (sym same) (omega (arith, came_before_grows s counts n t frame))
        ]

-- no more than a store's size came that wasn't read
pub came_before_fits : (s : FrameShape) (counts : ℕ → ℕ) (j n t : ℕ) → IsFrame s → HasTributaries s → j < s.tribs → ((m : ℕ) → counts m ≤ s.len)
    → ((m u : ℕ) → u < s.len → m * s.len + u < n * s.len + t → overflows s j counts m u ≡ false) → t ≤ s.len
    → came_before s counts n t ≤ read_before s j counts n t + store_size
came_before_fits s counts j zero zero frame has known few none h =
    omega (arith, came_before-first s counts frame, read_before-start s j counts 0, sent-zero s counts)
came_before_fits s counts j (suc n) zero frame has known few none h =
    let last : came_before s counts n s.len ≤ read_before s j counts n s.len + store_size =
    came_before_fits s counts j n s.len frame has known few (λ m u h' lt. none m u h' (omega arith)) (omega arith) in
    omega (arith, came_before-next s counts n frame, read_before-next s j counts n has known)
came_before_fits s counts j n (suc t) frame has known few none h =
    let before : came_before s counts n t ≤ read_before s j counts n t + store_size = came_before_fits s counts j n t frame has known few (λ m u h' lt. none m u h' (omega arith)) (omega arith) in
    one_more s counts j n t frame (few n) before (none n t h (omega arith))
  where
    one_more : (s : FrameShape) (counts : ℕ → ℕ) (j n t : ℕ) → IsFrame s → counts n ≤ s.len → came_before s counts n t ≤ read_before s j counts n t + store_size → overflows s j counts n t ≡ false
        → came_before s counts n (suc t) ≤ read_before s j counts n (suc t) + store_size
    one_more s counts j n t frame few before fine =
        let next = came_before-suc s counts n t frame few in
        let grows : read_before s j counts n t ≤ read_before s j counts n (suc t) = subst (λ k. read_before s j counts n t ≤ k) (sym (read_before-suc s j counts n t)) (omega arith) in
        elim (cases_Bool (arrives_at s (counts n) t)) [
          | inl arrives ↦
              let left : leb (read_before s j counts n t + store_size) (came_before s counts n t) ≡ false =
              ap (λ b. b && leb (read_before s j counts n t + store_size) (came_before s counts n t)) (sym arrives) ∙ fine in
              let room : came_before s counts n t < read_before s j counts n t + store_size = leb-false _ _ left in
              let one : came_before s counts n (suc t) ≡ came_before s counts n t + 1 = next ∙ ap (λ b. came_before s counts n t + cond b 1 0) arrives in
              subst (λ k. k ≤ read_before s j counts n (suc t) + store_size) (sym one) (omega arith)
          | inr none ↦
              let same : came_before s counts n (suc t) ≡ came_before s counts n t + 0 = next ∙ ap (λ b. came_before s counts n t + cond b 1 0) none in
              subst (λ k. k ≤ read_before s j counts n (suc t) + store_size) (sym same) (omega arith)
        ]
