-- A DS1 line that was packed, frame by frame.
use Rattle.std.proofs.Common.{◌≡◌, ℕ, ◌*◌, ◌/◌, ◌%◌, ◌<◌, List, Bool, length, refl, ap, ◌∙◌, arith}
use Rattle.std.specs.Prelude.{Result, Ok, Err, IfOk, IsErr, MatchResult}
use Rattle.pdh_bits.specs.Bits.{bits_of}
use Rattle.pdh_bits.proofs.BitsLemmas.{length-bits_of, length-bytes_of, bits_of-bytes_of}
use Rattle.pdh_ds1.specs.declared.form.Frame1.{Frame1}
use Rattle.pdh_ds1.specs.Packing.{packed_frames, FramePacked}
use Rattle.pdh_ds1.specs.Codec.{f_bits_of, frames_of, frames_in, packed_line, IsPacked}
use Rattle.pdh_ds1.proofs.PackingLaws.{frames_packed}

-- what is told of both, where there is a line
pub where_packed : {V E : Type 0} (r : Result V E) (P Q R : V → Type 0) (N : E → Type 0) → ((v : V) → P v → Q v → R v) → MatchResult r P N → IfOk r Q → IfOk r R
where_packed (Ok v) P Q R N both p q = both v p q
where_packed (Err e) P Q R N both p q = tt

-- or there is none, where that can't be
pub never_packed : {V E : Type 0} (r : Result V E) (P Q : V → Type 0) (N : E → Type 0) → ((v : V) → P v → Q v → ⊥) → MatchResult r P N → IfOk r Q → IsErr r
never_packed (Ok v) P Q N both p q = absurd (both v p q)
never_packed (Err e) P Q N both p q = refl

-- how many octets it has
pub line_long : (form : Frame1) (payload : List ℕ) → length (packed_line form payload) ≡ 193 * (length payload / 24) / 8
unfolding packed_line
line_long form payload =
    let count : ℕ = length payload / 24 in
    length-bytes_of (packed_frames (f_bits_of form) (frames_of form) (bits_of payload) count)
    ∙ ap (λ n. n / 8) (frames_packed (f_bits_of form) (frames_of form) (bits_of payload) count (omega (arith, length-bits_of payload))).long

-- it has as many frames as its payload fills
frames_made : (form : Frame1) (payload : List ℕ) → length payload % 576 ≡ 0 → frames_in (packed_line form payload) ≡ length payload / 24
unfolding packed_line
frames_made form payload whole =
    let count : ℕ = length payload / 24 in
    let line : List Bool = packed_frames (f_bits_of form) (frames_of form) (bits_of payload) count in
    let long : length line ≡ 193 * count = (frames_packed (f_bits_of form) (frames_of form) (bits_of payload) count (omega (arith, length-bits_of payload))).long in
    ap (λ (x : List Bool). length x / 193) (bits_of-bytes_of line (omega (arith, long, whole))) ∙ omega (arith, long)

-- and each of them is packed
pub frame_made : (form : Frame1) (payload line : List ℕ) (k : ℕ) → length payload % 576 ≡ 0 → k < length payload / 24 → IsPacked form payload line → line ≡ packed_line form payload → FramePacked (f_bits_of form) (frames_of form) (bits_of line) k
frame_made form payload line k whole below packed is = packed.idle k (omega (arith, below, ap frames_in is ∙ frames_made form payload whole))
