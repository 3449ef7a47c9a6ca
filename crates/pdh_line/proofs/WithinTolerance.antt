-- Within the tolerance no elastic store overflows or underflows.
use Rattle.std.proofs.Common.{◌≡◌, ℕ, zero, suc, ◌+◌, ◌*◌, ◌<◌, ◌≤◌, Bool, true, false, ◌&&◌, leb, refl, arith}
use Rattle.std.specs.List.{range_with_len}
use Rattle.std.proofs.lemmas.Bool.{lt-leb}
use Rattle.std.proofs.lemmas.List.Sums.{sum_by-cons}
use Rattle.pdh_shape.specs.Frame.{FrameShape, IsFrame}
use Rattle.pdh_shape.specs.Tributary.{reads_from, HasTributaries, ReadsEvenly}
use Rattle.pdh_shape.specs.OwnNumbers.{store_size}
use Rattle.pdh_line.specs.Sending.{arrives_at, sends_more, came_before, read_before}
use Rattle.pdh_line.specs.Events.{overflows, underflows}
use Rattle.pdh_line.specs.Tolerance.{arrived_over, IsWithin}
use Rattle.pdh_line.proofs.SendingLaws.{HasStores, came_before_grows}
use Rattle.pdh_line.proofs.FillBounds.{fill-from, fill-upto}

pub and_false : (a b : Bool) → b ≡ false → (a && b) ≡ false
and_false true b h = h
and_false false b h = refl

pub no_overflow : (s : FrameShape) (j : ℕ) (counts : ℕ → ℕ) (frames n t : ℕ) → IsFrame s → HasTributaries s → HasStores s → ReadsEvenly s → j < s.tribs
    → IsWithin s counts frames → n < frames → t < s.len → overflows s j counts n t ≡ false
no_overflow s j counts frames n t frame has stores even known within scheduled h =
    and_false (arrives_at s (counts n) t) (leb (read_before s j counts n t + store_size) (came_before s counts n t))
    (lt-leb _ _ (omega (arith, fill-upto s j counts frames n t frame has stores even known within scheduled h, came_before_grows s counts n t frame)))

pub no_underflow : (s : FrameShape) (j : ℕ) (counts : ℕ → ℕ) (frames n t : ℕ) → IsFrame s → HasTributaries s → HasStores s → ReadsEvenly s → j < s.tribs
    → IsWithin s counts frames → n < frames → t < s.len → underflows s j counts n t ≡ false
no_underflow s j counts frames n t frame has stores even known within scheduled h =
    and_false (reads_from j (sends_more s counts n) (s.role t)) (leb (came_before s counts n (suc t)) (read_before s j counts n t))
    (lt-leb _ _ (omega (arith, fill-from s j counts frames n t frame has stores even known within scheduled (omega arith), came_before_grows s counts n t frame)))

-- ---- arrivals within the tolerance

-- in a run of frames that each bring from the least to the greatest number of bits
arrived_over-least : (counts : ℕ → ℕ) (low first run : ℕ) → ((n : ℕ) → low ≤ counts n) → low * run ≤ arrived_over counts first run
arrived_over-least counts low first zero each = omega arith
arrived_over-least counts low first (suc run) each =
    omega (arith, sum_by-cons counts first (range_with_len (first + 1) run), each first, arrived_over-least counts low (first + 1) run each)

arrived_over-most : (counts : ℕ → ℕ) (high first run : ℕ) → ((n : ℕ) → counts n ≤ high) → arrived_over counts first run ≤ high * run
arrived_over-most counts high first zero each = omega arith
arrived_over-most counts high first (suc run) each =
    omega (arith, sum_by-cons counts first (range_with_len (first + 1) run), each first, arrived_over-most counts high (first + 1) run each)

-- a tributary each of whose frames brings as many bits as a frame can carry is within the tolerance
pub within-each : (s : FrameShape) (counts : ℕ → ℕ) (frames : ℕ) → ((n : ℕ) → s.low ≤ counts n) → ((n : ℕ) → counts n ≤ suc s.low) → IsWithin s counts frames
within-each s counts frames least most = record {
  least = λ first run h. omega (arith, arrived_over-least counts s.low first run least);
  most = λ first run h. omega (arith, arrived_over-most counts (suc s.low) first run most);
}

-- what is within the tolerance over so many frames is so over fewer
pub within-fewer : (s : FrameShape) (counts : ℕ → ℕ) (m n : ℕ) → m ≤ n → IsWithin s counts n → IsWithin s counts m
within-fewer s counts m n h within = record {
  least = λ first run h'. within.least first run (omega arith);
  most = λ first run h'. within.most first run (omega arith);
}
