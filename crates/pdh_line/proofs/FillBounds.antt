-- The bounds on a store's fill within the tolerance, at each frame's start and at each step inside a frame.
use Rattle.std.proofs.Common.{◌≡◌, ℕ, zero, suc, ◌+◌, ◌*◌, ◌<◌, ◌≤◌, true, false, leb, refl, sym, ap, ◌∙◌, subst, inl, inr, arith, zero-add}
use Rattle.std.specs.Prelude.{sum_by}
use Rattle.std.specs.List.{range_with_len}
use Rattle.std.proofs.lemmas.Bool.{leb-true, leb-false, cases_Bool, cases_lt}
use Rattle.std.proofs.lemmas.List.Sums.{sum_by-append}
use Rattle.pdh_shape.specs.Frame.{FrameShape, IsFrame}
use Rattle.pdh_shape.specs.Tributary.{HasTributaries, ReadsEvenly}
use Rattle.pdh_line.specs.Progress.{arrived}
use Rattle.pdh_shape.specs.OwnNumbers.{lead, threshold, allowance}
use Rattle.pdh_line.specs.Sending.{carried, sent, sends_more, came_before, read_before, fill_before, fill_arrived}
use Rattle.pdh_line.specs.Tolerance.{arrived_over, IsWithin, least_at_start, most_at_start, least_inside, most_inside}
use Rattle.pdh_line.proofs.Ranges.{range_append}
use Rattle.pdh_line.proofs.FrameBounds.{reads_below-more, reads-few, arrivals-few}
use Rattle.pdh_line.proofs.SendingLaws.{HasStores, arrived-zero, arrived-suc, sent-zero, sent-suc, sends_more-is, came_before-start, came_before-next, came_before_grows, read_before-start, read_before-next}

-- ---- arrivals over a run

pub arrived-run : (counts : ℕ → ℕ) (first run : ℕ) → arrived counts (first + run) ≡ arrived counts first + arrived_over counts first run
unfolding arrived
arrived-run counts first run =
    ap (sum_by counts) (range_append 0 first run) ∙ sum_by-append counts (range_with_len 0 first) (range_with_len (0 + first) run)
    ∙ ap (λ k. sum_by counts (range_with_len 0 first) + sum_by counts (range_with_len k run)) (zero-add first)

within-least : (s : FrameShape) (counts : ℕ → ℕ) (frames first run n : ℕ) → IsWithin s counts frames → first + run ≡ n → n ≤ frames → arrived counts first + s.low * run ≤ arrived counts n + allowance
within-least s counts frames first run n within e h =
    subst (λ k. arrived counts first + s.low * run ≤ arrived counts k + allowance) e (omega (arith, arrived-run counts first run, within.least first run (omega arith)))

pub within-most : (s : FrameShape) (counts : ℕ → ℕ) (frames first run n : ℕ) → IsWithin s counts frames → first + run ≡ n → n ≤ frames → arrived counts n ≤ arrived counts first + suc s.low * run + allowance
within-most s counts frames first run n within e h =
    subst (λ k. arrived counts k ≤ arrived counts first + suc s.low * run + allowance) e (omega (arith, arrived-run counts first run, within.most first run (omega arith)))

-- ---- at a frame's start

-- where a frame carries an additional bit, what was sent had arrived
pub sent-arrived : (s : FrameShape) (counts : ℕ → ℕ) (n : ℕ) → HasStores s → sends_more s counts n ≡ true → sent s counts n ≤ arrived counts n
sent-arrived s counts n stores more =
    let at : leb (sent s counts n + threshold) (lead + arrived counts n) ≡ true = sym (sends_more-is s counts n stores) ∙ more in
    let h : sent s counts n + threshold ≤ lead + arrived counts n = leb-true _ _ at in
    omega arith

-- where it is justified, more was sent than had arrived
pub arrived-sent : (s : FrameShape) (counts : ℕ → ℕ) (n : ℕ) → HasStores s → sends_more s counts n ≡ false → arrived counts n < sent s counts n
arrived-sent s counts n stores justified =
    let at : leb (sent s counts n + threshold) (lead + arrived counts n) ≡ false = sym (sends_more-is s counts n stores) ∙ justified in
    let h : lead + arrived counts n < sent s counts n + threshold = leb-false _ _ at in
    omega arith

sent-more : (s : FrameShape) (counts : ℕ → ℕ) (n : ℕ) → sends_more s counts n ≡ true → sent s counts (suc n) ≡ sent s counts n + suc s.low
sent-more s counts n more = sent-suc s counts n ∙ ap (λ b. sent s counts n + carried s b) more

sent-justified : (s : FrameShape) (counts : ℕ → ℕ) (n : ℕ) → sends_more s counts n ≡ false → sent s counts (suc n) ≡ sent s counts n + s.low
sent-justified s counts n justified = sent-suc s counts n ∙ ap (λ b. sent s counts n + carried s b) justified

-- After the last frame that carried an additional bit all were justified, and that frame began with no more sent than
-- had arrived.
sent-few : (s : FrameShape) (counts : ℕ → ℕ) (n : ℕ) → HasStores s → (first : ℕ) × (run : ℕ) × (first + run ≡ n) × (sent s counts n ≤ arrived counts first + s.low * run + 1)
sent-few s counts zero stores = (0, 0, refl, omega (arith, sent-zero s counts))
sent-few s counts (suc n) stores =
    let before = sent-few s counts n stores in
    elim (cases_Bool (sends_more s counts n)) [
      | inl more ↦ (n, 1, omega arith, omega (arith, sent-more s counts n more, sent-arrived s counts n stores more))
      | inr justified ↦ (before.0, suc before.1, omega (arith, before.2), omega (arith, sent-justified s counts n justified, before.3))
    ]

-- After the last justified frame each carried an additional bit, and that frame began with more sent than had arrived.
sent-many : (s : FrameShape) (counts : ℕ → ℕ) (n : ℕ) → HasStores s → (first : ℕ) × (run : ℕ) × (first + run ≡ n) × (arrived counts first + suc s.low * run ≤ sent s counts n)
sent-many s counts zero stores = (0, 0, refl, omega (arith, sent-zero s counts, arrived-zero counts))
sent-many s counts (suc n) stores =
    let before = sent-many s counts n stores in
    elim (cases_Bool (sends_more s counts n)) [
      | inl more ↦ (before.0, suc before.1, omega (arith, before.2), omega (arith, sent-more s counts n more, before.3))
      | inr justified ↦ (n, 1, omega arith, omega (arith, sent-justified s counts n justified, arrived-sent s counts n stores justified))
    ]

-- within the tolerance a store holds at each frame's start at least so many bits
pub fill_at_start-least : (s : FrameShape) (counts : ℕ → ℕ) (frames n : ℕ) → HasStores s → IsWithin s counts frames → n ≤ frames → sent s counts n + least_at_start ≤ lead + arrived counts n
fill_at_start-least s counts frames n stores within h =
    let few = sent-few s counts n stores in
    omega (arith, few.3, within-least s counts frames few.0 few.1 n within few.2 h)

-- and at most so many
pub fill_at_start-most : (s : FrameShape) (counts : ℕ → ℕ) (frames n : ℕ) → HasStores s → IsWithin s counts frames → n ≤ frames → lead + arrived counts n ≤ sent s counts n + most_at_start
fill_at_start-most s counts frames n stores within h =
    let many = sent-many s counts n stores in
    omega (arith, many.3, within-most s counts frames many.0 many.1 n within many.2 h)

-- ---- inside a frame

-- within the tolerance a store holds at least so many bits before each slot and at each frame's end
pub fill-from : (s : FrameShape) (j : ℕ) (counts : ℕ → ℕ) (frames n t : ℕ) → IsFrame s → HasTributaries s → HasStores s → ReadsEvenly s → j < s.tribs
    → IsWithin s counts frames → n < frames → t ≤ s.len → read_before s j counts n t + least_inside ≤ came_before s counts n t
fill-from s j counts frames n t frame has stores even known within scheduled h =
    let next : n + 1 ≡ suc n = omega arith in
    let rate : s.low ≤ counts n + allowance = omega (arith, within-least s counts frames n 1 (suc n) within next scheduled, arrived-suc counts n) in
    omega (arith, reads-few s j (counts n) allowance t (sends_more s counts n) frame has even known rate h, fill_at_start-least s counts frames n stores within (omega arith))

-- and at most so many with the bit that arrives in a slot, before the slot is read
pub fill-upto : (s : FrameShape) (j : ℕ) (counts : ℕ → ℕ) (frames n t : ℕ) → IsFrame s → HasTributaries s → HasStores s → ReadsEvenly s → j < s.tribs
    → IsWithin s counts frames → n < frames → t < s.len → came_before s counts n (suc t) ≤ read_before s j counts n t + most_inside
fill-upto s j counts frames n t frame has stores even known within scheduled h =
    let next : n + 1 ≡ suc n = omega arith in
    let rate : counts n ≤ suc s.low + allowance = omega (arith, within-most s counts frames n 1 (suc n) within next scheduled, arrived-suc counts n) in
    let came = arrivals-few s j (counts n) allowance t frame even known rate h in
    elim (cases_Bool (sends_more s counts n)) [
      | inl more ↦ rw more (omega (arith, came, fill_at_start-most s counts frames n stores within (omega arith)))
      | inr justified ↦ rw justified (omega (arith, came, reads_below-more s j t has known (omega arith), arrived-sent s counts n stores justified))
    ]

-- At each step inside a frame the fill is between the two: before a slot and at the frame's end,
pub fill_before_slot : (s : FrameShape) (j : ℕ) (counts : ℕ → ℕ) (frames n t : ℕ) → IsFrame s → HasTributaries s → HasStores s → ReadsEvenly s → j < s.tribs
    → IsWithin s counts frames → n < frames → t ≤ s.len
    → (read_before s j counts n t + least_inside ≤ came_before s counts n t) × (came_before s counts n t ≤ read_before s j counts n t + most_inside)
fill_before_slot s j counts frames n t frame has stores even known within scheduled h = (
  fill-from s j counts frames n t frame has stores even known within scheduled h,
  elim (cases_lt t s.len) [
    | inl slot ↦ omega (arith, came_before_grows s counts n t frame, fill-upto s j counts frames n t frame has stores even known within scheduled slot)
    | inr end ↦
        let e : s.len ≡ t = omega arith in
        let last : came_before s counts n s.len ≤ read_before s j counts n s.len + most_inside =
        omega (
          arith,
          came_before-next s counts n frame,
          came_before-start s counts (suc n) frame,
          read_before-next s j counts n has known,
          read_before-start s j counts (suc n),
          fill_at_start-most s counts frames (suc n) stores within scheduled,
        ) in
        subst (λ t. came_before s counts n t ≤ read_before s j counts n t + most_inside) e last
  ],
)

-- and after the arrivals of a slot, before it is read
pub fill_after_arrivals : (s : FrameShape) (j : ℕ) (counts : ℕ → ℕ) (frames n t : ℕ) → IsFrame s → HasTributaries s → HasStores s → ReadsEvenly s → j < s.tribs
    → IsWithin s counts frames → n < frames → t < s.len
    → (read_before s j counts n t + least_inside ≤ came_before s counts n (suc t)) × (came_before s counts n (suc t) ≤ read_before s j counts n t + most_inside)
fill_after_arrivals s j counts frames n t frame has stores even known within scheduled h = (
  omega (arith, came_before_grows s counts n t frame, fill-from s j counts frames n t frame has stores even known within scheduled (omega arith)),
  fill-upto s j counts frames n t frame has stores even known within scheduled h,
)

-- ---- as the fills themselves

pub fill-start : (s : FrameShape) (j : ℕ) (counts : ℕ → ℕ) (frames n : ℕ) → IsFrame s → HasStores s → IsWithin s counts frames → n ≤ frames
    → (least_at_start ≤ fill_before s j counts n 0) × (fill_before s j counts n 0 ≤ most_at_start)
fill-start s j counts frames n frame stores within h =
    let came : came_before s counts n 0 ≡ lead + arrived counts n = came_before-start s counts n frame in
    let read : read_before s j counts n 0 ≡ sent s counts n = read_before-start s j counts n in
    let least = fill_at_start-least s counts frames n stores within h in
    let most = fill_at_start-most s counts frames n stores within h in
    (omega (arith, came, read, least), omega (arith, came, read, most))

pub fill-slot : (s : FrameShape) (j : ℕ) (counts : ℕ → ℕ) (frames n t : ℕ) → IsFrame s → HasTributaries s → HasStores s → ReadsEvenly s → j < s.tribs
    → IsWithin s counts frames → n < frames → t ≤ s.len
    → (least_inside ≤ fill_before s j counts n t) × (fill_before s j counts n t ≤ most_inside)
fill-slot s j counts frames n t frame has stores even known within scheduled h =
    let bounds = fill_before_slot s j counts frames n t frame has stores even known within scheduled h in
    (omega (arith, bounds.0), omega (arith, bounds.1))

pub fill-arrivals : (s : FrameShape) (j : ℕ) (counts : ℕ → ℕ) (frames n t : ℕ) → IsFrame s → HasTributaries s → HasStores s → ReadsEvenly s → j < s.tribs
    → IsWithin s counts frames → n < frames → t < s.len
    → (least_inside ≤ fill_arrived s j counts n t) × (fill_arrived s j counts n t ≤ most_inside)
fill-arrivals s j counts frames n t frame has stores even known within scheduled h =
    let bounds = fill_after_arrivals s j counts frames n t frame has stores even known within scheduled h in
    (omega (arith, bounds.0), omega (arith, bounds.1))
