-- The line of a payload is the one packed line.
use Rattle.std.proofs.Common.{◌≡◌, ℕ, zero, suc, ◌+◌, ◌-◌, ◌*◌, ◌/◌, ◌%◌, ◌<◌, ◌≤◌, List, [], ◌∷◌, ◌++◌, length, get_or, take, drop, refl, sym, ap, subst, ◌∙◌, add-one, arith, length-append, length-take, length-drop}
use Rattle.std.specs.List.{slice_range}
use Rattle.std.proofs.lemmas.List.{take-append-drop, drop_more}
use Rattle.std.proofs.Math.Seq.{take-add, take-length, take-append_seam, drop-append_seam}
use Rattle.pdh_e1.specs.Multiframe.{packed_octet, sent_word, FramePacked, frame_payload, frames_payload}
use Rattle.pdh_e1.specs.Codec.{frames_of, IsPacked, IsPackedUpTo}
use Rattle.pdh_e1.proofs.WordLaws.{sent_word-append}
use Rattle.pdh_e1.proofs.PackingLaws.{packed_none, packed_more, packed_all, payload_none, payload_more}
use Rattle.pdh_streams.specs.E1.{packed_frames, packed_line}

-- ---- it is packed

cut_is : (payload : List ℕ) (frame : ℕ) → slice_range payload (31 * frame) (31 * frame + 31) ≡ take 31 (drop (31 * frame) payload)
cut_is payload frame = let count : 31 * frame + 31 - 31 * frame ≡ 31 = omega arith in ap (λ (n : ℕ). take n (drop (31 * frame) payload)) count

frames_packed : (payload : List ℕ) (frames : ℕ) → 31 * frames ≤ length payload → IsPackedUpTo payload (packed_frames payload frames) frames
unfolding packed_frames
frames_packed payload zero enough = packed_none payload [] 0 refl refl
frames_packed payload (suc frame) enough =
    let before : List ℕ = packed_frames payload frame in
    let piece : List ℕ = slice_range payload (31 * frame) (31 * frame + 31) in
    let word : ℕ = sent_word before (frame / 8) in
    let more : IsPackedUpTo payload (before ++ packed_octet (frame % 16) word ∷ piece) (frame + 1) = packed_more payload before piece frame word (packed_octet (frame % 16) word) (frames_packed payload frame (omega arith)) refl refl (omega arith) (cut_is payload frame) in
    subst (λ (n : ℕ). IsPackedUpTo payload (before ++ packed_octet (frame % 16) word ∷ piece) n) (add-one frame) more

pub line_is_packed : (payload : List ℕ) → length payload % 496 ≡ 0 → IsPacked payload (packed_line payload)
line_is_packed payload whole =
    let same : length payload / 31 ≡ 8 * (length payload / 248) = omega arith in
    packed_all payload (packed_line payload) whole (subst (λ (n : ℕ). IsPackedUpTo payload (packed_line payload) n) same (frames_packed payload (length payload / 31) (omega arith)))

-- ---- no other line is

payload_len : (line : List ℕ) (frames : ℕ) → 32 * frames ≤ length line → length (frames_payload line frames) ≡ 31 * frames
payload_len line zero enough = ap length (payload_none line)
payload_len line (suc frame) enough =
    let more : frames_payload line (suc frame) ≡ frames_payload line frame ++ frame_payload line frame = ap (frames_payload line) (sym (add-one frame)) ∙ payload_more line frame in
    let rest : List ℕ = drop (32 * frame + 1) line in
    ap length more ∙ omega (arith, payload_len line frame (omega arith), length-append (frames_payload line frame) (frame_payload line frame), length-take (32 * frame + 32 - (32 * frame + 1)) rest, length-drop (32 * frame + 1) line)

split_same : (xs ys us vs : List ℕ) → xs ++ ys ≡ us ++ vs → length xs ≡ length us → (xs ≡ us) × (ys ≡ vs)
split_same xs ys us vs e long = (
  sym (take-append_seam xs ys) ∙ ap (take (length xs)) e ∙ ap (λ (n : ℕ). take n (us ++ vs)) long ∙ take-append_seam us vs,
  sym (drop-append_seam xs ys) ∙ ap (drop (length xs)) e ∙ ap (λ (n : ℕ). drop n (us ++ vs)) long ∙ drop-append_seam us vs,
)

-- a frame that is packed follows from the frames before it
frame_is : (payload line before : List ℕ) (frame : ℕ) → 32 * frame + 32 ≤ length line → FramePacked line frame → frame_payload line frame ≡ take 31 (drop (31 * frame) payload) → take (32 * frame) line ≡ before →
    take (32 * frame + 32) line ≡ before ++ packed_octet (frame % 16) (sent_word before (frame / 8)) ∷ slice_range payload (31 * frame) (31 * frame + 31)
unfolding FramePacked
frame_is payload line before frame enough packed carries same =
    let front : List ℕ = take (32 * frame) line in
    let long : length front ≡ 32 * frame = omega (arith, length-take (32 * frame) line) in
    let word : sent_word line (frame / 8) ≡ sent_word before (frame / 8) =
    ap (λ (l : List ℕ). sent_word l (frame / 8)) (sym (take-append-drop (32 * frame) line)) ∙ sent_word-append front (drop (32 * frame) line) (frame / 8) (omega arith) ∙ ap (λ (l : List ℕ). sent_word l (frame / 8)) same in
    let octet : get_or line (32 * frame) 0 ≡ packed_octet (frame % 16) (sent_word before (frame / 8)) = packed ∙ ap (packed_octet (frame % 16)) word in
    let count : 32 * frame + 32 - (32 * frame + 1) ≡ 31 = omega arith in
    let rest : take 31 (drop (32 * frame + 1) line) ≡ slice_range payload (31 * frame) (31 * frame + 31) =
    ap (λ (n : ℕ). take n (drop (32 * frame + 1) line)) (sym count) ∙ carries ∙ sym (cut_is payload frame) in
    let here : take 32 (drop (32 * frame) line) ≡ get_or line (32 * frame) 0 ∷ take 31 (drop (32 * frame + 1) line) = ap (take 32) (drop_more line (32 * frame) 0 (omega arith)) in
    take-add (32 * frame) 32 line
    ∙ ap (λ (l : List ℕ). l ++ take 32 (drop (32 * frame) line)) same
    ∙ ap (λ (l : List ℕ). before ++ l) (here ∙ ap (λ (o : ℕ). o ∷ take 31 (drop (32 * frame + 1) line)) octet ∙ ap (λ (l : List ℕ). packed_octet (frame % 16) (sent_word before (frame / 8)) ∷ l) rest)

frames_same : (payload line : List ℕ) (frames : ℕ) → 32 * frames ≤ length line → 31 * frames ≤ length payload → ((frame : ℕ) → frame < frames → FramePacked line frame) → frames_payload line frames ≡ take (31 * frames) payload → take (32 * frames) line ≡ packed_frames payload frames
unfolding packed_frames
frames_same payload line zero enough there idle carries = refl
frames_same payload line (suc frame) enough there idle carries =
    let more : frames_payload line (suc frame) ≡ frames_payload line frame ++ frame_payload line frame = ap (frames_payload line) (sym (add-one frame)) ∙ payload_more line frame in
    let far : 31 * suc frame ≡ 31 * frame + 31 = omega arith in
    let total : frames_payload line frame ++ frame_payload line frame ≡ take (31 * frame) payload ++ take 31 (drop (31 * frame) payload) =
    sym more ∙ carries ∙ ap (λ (n : ℕ). take n payload) far ∙ take-add (31 * frame) 31 payload in
    let long : length (frames_payload line frame) ≡ length (take (31 * frame) payload) = omega (arith, payload_len line frame (omega arith), length-take (31 * frame) payload) in
    let parts = split_same (frames_payload line frame) (frame_payload line frame) (take (31 * frame) payload) (take 31 (drop (31 * frame) payload)) total long in
    let before : take (32 * frame) line ≡ packed_frames payload frame = frames_same payload line frame (omega arith) (omega arith) (λ k h. idle k (omega arith)) parts.0 in
    let end : 32 * suc frame ≡ 32 * frame + 32 = omega arith in
    ap (λ (n : ℕ). take n line) end ∙ frame_is payload line (packed_frames payload frame) frame (omega arith) (idle frame (omega arith)) parts.1 before

pub packed_is : (payload line : List ℕ) → IsPacked payload line → line ≡ packed_line payload
packed_is payload line packed =
    let frames : ℕ = frames_of line in
    let whole : length line % 512 ≡ 0 = packed.framed.whole in
    let long : length payload ≡ 31 * frames = ap length (sym packed.carries) ∙ payload_len line frames (omega arith) in
    let filled : frames ≡ length payload / 31 = omega arith in
    let all : 32 * frames ≡ length line = omega arith in
    let carries : frames_payload line frames ≡ take (31 * frames) payload = packed.carries ∙ sym (take-length payload) ∙ ap (λ (n : ℕ). take n payload) long in
    sym (take-length line) ∙ ap (λ (n : ℕ). take n line) (sym all) ∙ frames_same payload line frames (omega arith) (omega arith) packed.idle carries ∙ ap (packed_frames payload) filled
