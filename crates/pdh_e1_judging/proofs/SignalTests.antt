-- The signals of a multiframe that stands in a line.
use Rattle.std.proofs.Common.{◌≡◌, ℕ, ◌+◌, ◌*◌, ◌<◌, ◌≤◌, Bool, false, not, List, length, get_or, take, drop, sym, ◌∙◌, ap, arith, length-drop}
use Rattle.std.specs.Bool.{beq}
use Rattle.std.proofs.lemmas.List.{length-take-le}
use Rattle.pdh_g706.specs.Frames.{bit_of, frames_of, has_signal}
use Rattle.pdh_g706.specs.Alignment.{frame, multiframe_signal}
use Rattle.pdh_g706.proofs.HeldLaws.{bit_in_frame, multi_test, multi_at, signal_of_frame}
use Rattle.pdh_e1_judging.proofs.WindowLaws.{part_of_part}

-- the alignment signal stands in the even frame of this number
abbrev pub signal_test : List Bool → ℕ → ℕ → Bool
signal_test bits start k = has_signal (frame (frames_of (take 4096 (drop start bits))) (2 * k))

size_of : (bits : List Bool) (start : ℕ) → start + 4096 ≤ length bits → length (take 4096 (drop start bits)) ≡ 4096
size_of bits start inside = length-take-le 4096 (drop start bits) (omega (arith, length-drop start bits))

pub signal_in : (bits : List Bool) (start pair : ℕ) → start + 4096 ≤ length bits → pair < 8 → signal_test bits start pair ≡ has_signal (take 256 (drop (start + 512 * pair) bits))
signal_in bits start pair inside lt =
    signal_of_frame (take 4096 (drop start bits)) (2 * pair) (512 * pair) (omega (arith, size_of bits start inside)) (omega arith)
    ∙ ap has_signal (part_of_part bits start 4096 (512 * pair) 256 inside (omega arith))

-- a bit of the multiframe alignment signal
pub multi_in : (bits : List Bool) (start i : ℕ) (bit want wrong : Bool) → start + 4096 ≤ length bits → i < 6 → bit ≡ get_or bits (start + 512 * i + 256) false → want ≡ bit_of multiframe_signal i → not (beq bit want) ≡ wrong
    → multi_test (frames_of (take 4096 (drop start bits))) 0 i ≡ not wrong
multi_in bits start i bit want wrong inside lt is want_is differs =
    let place : start + 512 * i + 256 ≡ start + 256 * (0 + 2 * i + 1) = omega arith in
    let within : 256 * (0 + 2 * i + 1) < 4096 = omega arith in
    multi_at (take 4096 (drop start bits)) 0 i bit want wrong lt (omega (arith, size_of bits start inside))
    (is ∙ ap (λ (k : ℕ). get_or bits k false) place ∙ sym (bit_in_frame bits start (256 * (0 + 2 * i + 1)) 4096 within)) want_is differs
