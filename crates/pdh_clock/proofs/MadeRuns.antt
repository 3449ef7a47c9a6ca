-- How many bits arrive in a run of frames of a made node.
use Rattle.std.proofs.Common.{◌≡◌, ℕ, zero, suc, ◌+◌, ◌-◌, ◌*◌, ◌/◌, ◌<◌, ◌≤◌, List, [], length, ap, sym, ◌∙◌, subst, arith, refl, slice_index}
use Rattle.std.specs.List.{range_with_len, slice_index_or}
use Rattle.std.proofs.lemmas.List.Sums.{sum_by-cons}
use Rattle.std.proofs.Math.Nat.{mul-le-mul_left, mul_assoc, mul_comm, add-mul, div-mul-le_self}
use Rattle.std.proofs.lemmas.Nat.{le-div}
use Rattle.pdh_shape.specs.declared.place.Level.{Level}
use Rattle.pdh_shape.specs.Frame.{FrameShape}
use Rattle.pdh_line.specs.Tolerance.{arrived_over, IsWithin}
use Rattle.pdh_levels.specs.Levels.{IsElastic, level_stores}
use Rattle.pdh_levels.proofs.LevelLaws.{has_stores}
use Rattle.pdh_clock.specs.declared.bias.Bias.{Bias}
use Rattle.pdh_clock.specs.declared.bias.Offset.{Offset}
use Rattle.pdh_clock.specs.Made.{IsRated, tributary_offset, made_arrived, made_count, made_frames}
use Rattle.pdh_clock.proofs.MadeLaws.{scale-between, div-grows, line_rate, trib_rate, some_line, made_arrived-grows}
use Rattle.pdh_clock.proofs.MadeRows.{length-made_frames, counts-made}

-- ---- the arrivals of a run

arrived_over-same : (f g : ℕ → ℕ) (first run : ℕ) → ((n : ℕ) → n < first + run → f n ≡ g n) → arrived_over f first run ≡ arrived_over g first run
arrived_over-same f g first zero same = refl
arrived_over-same f g first (suc run) same =
    let rest = arrived_over-same f g (first + 1) run (λ n h. same n (omega arith)) in
    omega (arith, sum_by-cons f first (range_with_len (first + 1) run), sum_by-cons g first (range_with_len (first + 1) run), same first (omega arith), rest)

-- where each frame brings what a total grows by, a run brings what it grows by over the run
arrived_over-grown : (total : ℕ → ℕ) → ((n : ℕ) → total n ≤ total (suc n)) → (first run : ℕ)
    → total first + arrived_over (λ n. total (suc n) - total n) first run ≡ total (first + run)
arrived_over-grown total grows first zero = omega (arith, ap total (let same : first + 0 ≡ first = omega arith in same))
arrived_over-grown total grows first (suc run) =
    let next : first + 1 ≡ suc first = omega arith in
    let end : first + 1 + run ≡ first + suc run = omega arith in
    omega (
      arith,
      sum_by-cons (λ n. total (suc n) - total n) first (range_with_len (first + 1) run),
      arrived_over-grown total grows (first + 1) run,
      grows first,
      ap total next,
      ap total end,
    )

-- ---- the rates

-- the bits that arrive in the time of a frame lie between those that it carries at least and at most
frame-least : (level : Level) (line trib : Offset) → IsRated level → IsElastic level → level.low * line_rate level line ≤ level.len * trib_rate level trib
frame-least level line trib rated elastic =
    let whole = level.rate * level.trib_per in
    let arriving = level.trib_rate * level.per in
    let above = mul-le-mul_left level.low (mul-le-mul_left whole (scale-between line level.ppm).1) in
    let below = mul-le-mul_left level.len (mul-le-mul_left arriving (scale-between trib level.trib_ppm).0) in
    omega (arith, above, below, rated.least elastic)

frame-most : (level : Level) (line trib : Offset) → IsRated level → IsElastic level → level.len * trib_rate level trib ≤ suc level.low * line_rate level line
frame-most level line trib rated elastic =
    let whole = level.rate * level.trib_per in
    let arriving = level.trib_rate * level.per in
    let above = mul-le-mul_left (suc level.low) (mul-le-mul_left whole (scale-between line level.ppm).0) in
    let below = mul-le-mul_left level.len (mul-le-mul_left arriving (scale-between trib level.trib_ppm).1) in
    omega (arith, above, below, rated.most elastic)

-- the same of a run
run-least : (run low line len arriving : ℕ) → low * line ≤ len * arriving → low * run * line ≤ run * len * arriving
run-least run low line len arriving h = omega (arith, mul-le-mul_left run h, mul_assoc run len arriving, mul_assoc run low line, ap (λ n. n * line) (mul_comm low run))

run-most : (run high line len arriving : ℕ) → len * arriving ≤ high * line → run * len * arriving ≤ high * run * line
run-most run high line len arriving h = omega (arith, mul-le-mul_left run h, mul_assoc run len arriving, mul_assoc run high line, ap (λ n. n * line) (mul_comm high run))

-- ---- the tolerance

-- what is divided grows by a part that is no less than so many times the divisor
div-grows-least : (x part line least : ℕ) → 0 < line → least * line ≤ part → x / line + least ≤ (x + part) / line
div-grows-least x part line least some h =
    le-div (x / line + least) (x + part) line some (omega (arith, add-mul (x / line) least line, div-mul-le_self x line, h))

-- what is divided by the line's rate to count the bits that arrive in so many frames
abbrev bits : Level → Offset → ℕ → ℕ
bits level trib n = n * level.len * trib_rate level trib

bits-more : (level : Level) (trib : Offset) (first run : ℕ) → bits level trib (first + run) ≡ bits level trib first + bits level trib run
bits-more level trib first run = ap (λ n. n * trib_rate level trib) (add-mul first run level.len) ∙ add-mul (first * level.len) (run * level.len) (trib_rate level trib)

-- what arrives in a run lies between what its frames carry at least and at most
made_arrived-run : (level : Level) (line trib : Offset) (first run : ℕ) → IsRated level → IsElastic level
    → (made_arrived level line trib first + level.low * run ≤ made_arrived level line trib (first + run))
    × (made_arrived level line trib (first + run) ≤ made_arrived level line trib first + suc level.low * run)
made_arrived-run level line trib first run rated elastic =
    let whole = line_rate level line in
    let some = some_line level line rated in
    let before = bits level trib first in
    let least = div-grows-least before (bits level trib run) whole (level.low * run) some (run-least run level.low whole level.len (trib_rate level trib) (frame-least level line trib rated elastic)) in
    let most = div-grows before (bits level trib run) whole (suc level.low * run) some (run-most run (suc level.low) whole level.len (trib_rate level trib) (frame-most level line trib rated elastic)) in (
      subst (λ n. before / whole + level.low * run ≤ n / whole) (sym (bits-more level trib first run)) least,
      subst (λ n. n / whole ≤ before / whole + suc level.low * run) (sym (bits-more level trib first run)) most,
    )

-- the counts of a tributary that frames say
abbrev pub frame_counts : List (List ℕ) → ℕ → ℕ → ℕ
frame_counts frames trib n = slice_index (slice_index_or frames n []) trib

-- a run of frames of a made node
arrived_over-made : (level : Level) (bias : Bias) (height : ℕ) (line : Offset) (frames trib first run : ℕ) → IsRated level → trib < level_stores level → first + run ≤ frames
    → made_arrived level line (tributary_offset level bias height line (suc trib)) first + arrived_over (frame_counts (made_frames level bias height line frames) trib) first run
    ≡ made_arrived level line (tributary_offset level bias height line (suc trib)) (first + run)
arrived_over-made level bias height line frames trib first run rated m inside =
    let offset = tributary_offset level bias height line (suc trib) in
    ap (λ n. made_arrived level line offset first + n)
    (arrived_over-same (frame_counts (made_frames level bias height line frames) trib) (made_count level line offset) first run
    (λ n h. counts-made level bias height line frames trib n (omega arith) m))
    ∙ arrived_over-grown (made_arrived level line offset) (λ n. made_arrived-grows level line offset n rated) first run

-- a made node is within the tolerance
pub made-within : (level : Level) (bias : Bias) (height : ℕ) (line : Offset) (frames trib : ℕ) (shape : FrameShape) → IsRated level → trib < level_stores level → shape.low ≡ level.low
    → IsWithin shape (frame_counts (made_frames level bias height line frames) trib) (length (made_frames level bias height line frames))
made-within level bias height line frames trib shape rated m low =
    let elastic = has_stores level trib m in
    subst (IsWithin shape (frame_counts (made_frames level bias height line frames) trib)) (sym (length-made_frames level bias height line frames)) (record {
      least = λ first run inside. omega (arith, (made_arrived-run level line (tributary_offset level bias height line (suc trib)) first run rated elastic).0, arrived_over-made level bias height line frames trib first run rated m inside, ap (λ n. n * run) low);
      most = λ first run inside. omega (arith, (made_arrived-run level line (tributary_offset level bias height line (suc trib)) first run rated elastic).1, arrived_over-made level bias height line frames trib first run rated m inside, ap (λ n. suc n * run) low);
    })
