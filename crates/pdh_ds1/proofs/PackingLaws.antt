-- A line that is packed frame by frame, and frames that are right one after another.
use Rattle.std.proofs.Common.{◌≡◌, ℕ, zero, suc, ◌+◌, ◌-◌, ◌*◌, ◌/◌, ◌%◌, ◌<◌, ◌≤◌, Bool, true, false, List, [], ◌∷◌, ◌++◌, length, get_or, take, drop, append_assoc, inl, inr, subst, refl, sym, ap, ◌∙◌, add-one, arith, length-append, length-take, length-drop}
use Rattle.std.specs.Prelude.{All, flat_map}
use Rattle.std.specs.Bool.{beq}
use Rattle.std.specs.List.{range_with_len}
use Rattle.std.proofs.lemmas.Bool.{cases_lt}
use Rattle.std.proofs.lemmas.List.{append-nil, get_or_append_left, take_all, drop-drop}
use Rattle.std.proofs.lemmas.Nat.{div-mul-add, mod-mul-add, le-div}
use Rattle.std.proofs.Math.Nat.{div-add-mod, mul-div-le, mul-le-mul_right, zero-div}
use Rattle.std.proofs.Math.Seq.{take-add, get_or-append_seam, drop-append_seam}
use Rattle.pdh_bits.specs.BitOut.{BoundedBits}
use Rattle.pdh_bits.specs.Bits.{bits_of, bytes_of}
use Rattle.pdh_edge.specs.Ports.{IsPrefix}
use Rattle.pdh_bits.proofs.BitsLemmas.{length-bits_of, length-bytes_of, bits_of-bytes_of, bytes_of-bits_of}
use Rattle.pdh_framed.specs.RightFrames.{AreRight, FirstWrong}
use Rattle.pdh_framed.proofs.Parts.{slice_range-append}
use Rattle.pdh_framed.proofs.RightLaws.{are_right-push, none_wrong}
use Rattle.pdh_shape.specs.declared.role.Role.{Role}
use Rattle.pdh_shape.specs.declared.role.Role.TheVariants.{Align, Service, Control, Just, Info}
use Rattle.pdh_ds1.specs.declared.form.Frame1.{Frame1}
use Rattle.pdh_ds1.specs.declared.fault.Ds1UnpackFault.{Ds1UnpackFault}
use Rattle.pdh_ds1.specs.declared.fault.Ds1UnpackFault.TheVariants as unpack_faults
use Rattle.pdh_ds1.specs.Superframe.{f_bit_at}
use Rattle.pdh_ds1.specs.Packing.{payload_at, word_of, sent_word, crc_place, packed_bit, fits, frame_right, packed_f_bit, FramePacked, line_payload, frame_bits, packed_frames, superframe_of}
use Rattle.pdh_ds1.specs.Codec.{f_bits_of, frames_of, frames_in, right_in, packed_line, IsSuperframes, IsPacked, IsNotUnpacked, PackedIsGivenBack}
use Rattle.pdh_ds1.proofs.WordLaws.{flat_map_push, payload_at-append, payload_at-new, sent_word-first, sent_word-next, sent_word-append}

-- ---- the numbers of frames

-- a frame of a superframe, by the number of the superframe's first frame and its own place in it
place_div : (frames first place : ℕ) → frames * (first / frames) ≡ first → place < frames → (first + place) / frames ≡ first / frames
place_div frames first place whole small =
    let e : first + place ≡ first / frames * frames + place = omega (arith, whole) in ap (λ n. n / frames) e ∙ div-mul-add (first / frames) frames place small

place_mod : (frames first place : ℕ) → frames * (first / frames) ≡ first → place < frames → (first + place) % frames ≡ place
place_mod frames first place whole small =
    let e : first + place ≡ first / frames * frames + place = omega (arith, whole) in ap (λ n. n % frames) e ∙ mod-mul-add (first / frames) frames place small

-- the next superframe
next_div : (frames first : ℕ) → 0 < frames → frames * (first / frames) ≡ first → (first + frames) / frames ≡ first / frames + 1
next_div frames first some whole =
    let e : first + frames ≡ (first / frames + 1) * frames + 0 = omega (arith, whole) in ap (λ n. n / frames) e ∙ div-mul-add (first / frames + 1) frames 0 some

pub next_whole : (frames first : ℕ) → 0 < frames → frames * (first / frames) ≡ first → frames * ((first + frames) / frames) ≡ first + frames
next_whole frames first some whole = ap (λ n. frames * n) (next_div frames first some whole) ∙ omega (arith, whole)

-- the first
pub first_whole : (frames : ℕ) → frames * (0 / frames) ≡ 0
first_whole frames = ap (λ n. frames * n) (zero-div frames) ∙ omega arith

pub sends_first : (frames : ℕ) (line : List Bool) → 0 ≡ sent_word frames line (0 / frames)
sends_first frames line = sym (ap (sent_word frames line) (zero-div frames) ∙ sent_word-first frames line)

-- where no superframe more fits, whole superframes are all frames
pub frames_all : (frames first count : ℕ) → 0 < frames → frames * (first / frames) ≡ first → count % frames ≡ 0 → first ≤ count → count - first < frames → first ≡ count
frames_all frames first count some whole all within few =
    let q : ℕ = first / frames in
    let n : ℕ = count / frames in
    let count_is : n * frames ≡ count = omega (arith, div-add-mod count frames, all) in
    let at_least : q ≤ n = le-div q count frames some (omega (arith, whole, within)) in
    elim (cases_lt q n) [
      | inl less ↦
          let one_more : q + 1 ≤ n = omega arith in
          absurd (omega (arith, mul-le-mul_right frames one_more, count_is, whole, few))
      | inr last ↦ let same : q ≡ n = omega arith in omega (arith, whole, count_is, ap (λ k. k * frames) same)
    ]

-- ---- the payload

pub line_payload-is : (line : List Bool) (frames : ℕ) → line_payload line frames ≡ flat_map (payload_at line) (range_with_len 0 frames)
unfolding line_payload
line_payload-is line frames = refl

-- of no frame
pub payload_none : (line : List Bool) → line_payload line 0 ≡ []
unfolding line_payload
payload_none line = refl

-- of one more frame
pub payload_more : (line : List Bool) (k : ℕ) → line_payload line (k + 1) ≡ line_payload line k ++ payload_at line k
unfolding line_payload
payload_more line k = flat_map_push (payload_at line) k

-- it stays as more follows
payload-append : (line more : List Bool) (k : ℕ) → 193 * k ≤ length line → line_payload (line ++ more) k ≡ line_payload line k
unfolding line_payload
payload-append line more zero within = refl
payload-append line more (suc k) within =
    let next : suc k ≡ k + 1 = omega arith in
    ap (line_payload (line ++ more)) next ∙ payload_more (line ++ more) k
    ∙ ap (λ (x : List Bool). x ++ payload_at (line ++ more) k) (payload-append line more k (omega arith))
    ∙ ap (λ (x : List Bool). line_payload line k ++ x) (payload_at-append line more k (omega arith))
    ∙ sym (ap (line_payload line) next ∙ payload_more line k)

payload_long : (line : List Bool) (k : ℕ) → 193 * k + 193 ≤ length line → length (payload_at line k) ≡ 192
payload_long line k within =
    let count : 193 * k + 193 - (193 * k + 1) ≡ 192 = omega arith in
    omega (arith, length-take (193 * k + 193 - (193 * k + 1)) (drop (193 * k + 1) line), length-drop (193 * k + 1) line)

-- one more frame's payload is appended
pub payload_push : (line : List Bool) (k : ℕ) (initial before new : BoundedBits)
    → before ≡ record initial { bits = initial.bits ++ line_payload line k } → length before.bits ≡ length initial.bits + 192 * k
    → new ≡ record before { bits = before.bits ++ take 192 (drop (193 * k + 1) line) } → 193 * k + 193 ≤ length line
    → (new ≡ record initial { bits = initial.bits ++ line_payload line (k + 1) }) × (length new.bits ≡ length initial.bits + 192 * (k + 1))
payload_push line k initial before new so long extend within =
    let count : 193 * k + 193 - (193 * k + 1) ≡ 192 = omega arith in
    let piece : take 192 (drop (193 * k + 1) line) ≡ payload_at line k = sym (ap (λ n. take n (drop (193 * k + 1) line)) count) in
    let is : new ≡ record initial { bits = initial.bits ++ line_payload line (k + 1) } =
    extend
    ∙ ap (λ (x : List Bool). record before { bits = before.bits ++ x }) piece
    ∙ ap (λ (p : BoundedBits). record p { bits = p.bits ++ payload_at line k }) so
    ∙ ap (λ (x : List Bool). record initial { bits = x }) (append_assoc initial.bits (line_payload line k) (payload_at line k))
    ∙ sym (ap (λ (x : List Bool). record initial { bits = initial.bits ++ x }) (payload_more line k)) in
    let new_long : length new.bits ≡ length before.bits + length (payload_at line k) =
    ap (λ (p : BoundedBits). length p.bits) extend ∙ ap (λ (x : List Bool). length (before.bits ++ x)) piece ∙ length-append before.bits (payload_at line k) in
    (is, omega (arith, new_long, long, payload_long line k within))

-- ---- packed frames

-- a packed frame stays so as more follows
packed-append : (f_bits : List Role) (frames : ℕ) (line more : List Bool) (k : ℕ) → 193 * k + 193 ≤ length line → FramePacked f_bits frames line k → FramePacked f_bits frames (line ++ more) k
unfolding FramePacked
packed-append f_bits frames line more k within packed =
    let sent : sent_word frames (line ++ more) (k / frames) ≡ sent_word frames line (k / frames) = sent_word-append frames line more (k / frames) (omega (arith, within, mul-div-le k frames)) in
    get_or_append_left line more false (193 * k) (omega arith) ∙ packed ∙ sym (ap (λ (w : ℕ). packed_bit w (k % frames) (f_bit_at f_bits (k % frames))) sent)

-- one that is appended with its F bit is packed
packed-new : (f_bits : List Role) (frames : ℕ) (line rest : List Bool) (k : ℕ) (b : Bool) → length line ≡ 193 * k → b ≡ packed_f_bit f_bits frames line k → FramePacked f_bits frames (line ++ b ∷ rest) k
unfolding FramePacked
packed-new f_bits frames line rest k b long is =
    let sent : sent_word frames (line ++ b ∷ rest) (k / frames) ≡ sent_word frames line (k / frames) = sent_word-append frames line (b ∷ rest) (k / frames) (omega (arith, long, mul-div-le k frames)) in
    ap (λ (i : ℕ). get_or (line ++ b ∷ rest) i false) (sym long)
    ∙ get_or-append_seam line b rest false
    ∙ is
    ∙ sym (ap (λ (w : ℕ). packed_bit w (k % frames) (f_bit_at f_bits (k % frames))) sent)

-- the F bit that a packer puts may be received
packed_fits : (word k : ℕ) (role : Role) → fits word k role (packed_bit word k role) ≡ true
packed_fits word k (Align signal) = beq_same signal
  where
    beq_same : (b : Bool) → beq b b ≡ true
    beq_same true = refl
    beq_same false = refl
packed_fits word k (Service (suc zero)) = beq_same (crc_place word k)
  where
    beq_same : (b : Bool) → beq b b ≡ true
    beq_same true = refl
    beq_same false = refl
packed_fits word k (Service zero) = refl
packed_fits word k (Service (suc (suc n))) = refl
packed_fits word k (Control j copy) = refl
packed_fits word k (Just j) = refl
packed_fits word k (Info j) = refl

-- so a packed frame is right
right-packed : (f_bits : List Role) (frames : ℕ) (line : List Bool) (k : ℕ) → FramePacked f_bits frames line k → frame_right f_bits frames line k ≡ true
unfolding FramePacked frame_right
right-packed f_bits frames line k packed =
    let word : ℕ = sent_word frames line (k / frames) in
    ap (fits word (k % frames) (f_bit_at f_bits (k % frames))) packed ∙ packed_fits word (k % frames) (f_bit_at f_bits (k % frames))

-- ---- the line of a payload

-- the first frames of a line are packed, and carry the first bits of a payload
pub record ArePacked (f_bits : List Role) (frames : ℕ) (payload : List Bool) (line : List Bool) (count : ℕ) : Type 0 where
  pub long : length line ≡ 193 * count
  pub idle : (k : ℕ) → k < count → FramePacked f_bits frames line k
  pub carries : line_payload line count ≡ take (192 * count) payload

-- the bits of a frame
pub bits_at : (payload : List Bool) (k : ℕ) → frame_bits payload k ≡ take 192 (drop (192 * k) payload)
bits_at payload k = let count : 192 * k + 192 - 192 * k ≡ 192 = omega arith in ap (λ (n : ℕ). take n (drop (192 * k) payload)) count

-- are so many where they are there
pub bits_long : (payload : List Bool) (k : ℕ) → 192 * k + 192 ≤ length payload → length (frame_bits payload k) ≡ 192
bits_long payload k within = omega (arith, ap length (bits_at payload k), length-take 192 (drop (192 * k) payload), length-drop (192 * k) payload)

-- one more frame is packed
packed_more : (f_bits : List Role) (frames : ℕ) (payload bits line : List Bool) (k : ℕ) (b : Bool) → ArePacked f_bits frames payload line k → 192 * k + 192 ≤ length payload
    → bits ≡ frame_bits payload k → b ≡ packed_f_bit f_bits frames line k → ArePacked f_bits frames payload (line ++ b ∷ bits) (k + 1)
packed_more f_bits frames payload bits line k b part enough cut is =
    let long : length line ≡ 193 * k = part.long in
    let size : length bits ≡ 192 = ap length cut ∙ bits_long payload k enough in
    let far : 192 * (k + 1) ≡ 192 * k + 192 = omega arith in
    record {
      long = omega (arith, length-append line (b ∷ bits), long, size);
      idle = λ j below. elim (cases_lt j k) [
        | inl less ↦ packed-append f_bits frames line (b ∷ bits) j (omega (arith, less, long)) (part.idle j less)
        | inr least ↦ let same : k ≡ j = omega arith in subst (λ (n : ℕ). FramePacked f_bits frames (line ++ b ∷ bits) n) same (packed-new f_bits frames line bits k b long is)
      ];
      carries =
          payload_more (line ++ b ∷ bits) k
          ∙ ap (λ (p : List Bool). p ++ payload_at (line ++ b ∷ bits) k) (payload-append line (b ∷ bits) k (omega (arith, long)) ∙ part.carries)
          ∙ ap (λ (p : List Bool). take (192 * k) payload ++ p) (payload_at-new line bits k b long size ∙ cut ∙ bits_at payload k)
          ∙ sym (take-add (192 * k) 192 payload)
          ∙ sym (ap (λ (n : ℕ). take n payload) far);
    }

-- so it is with those of the line of that payload
pub frames_packed : (f_bits : List Role) (frames : ℕ) (payload : List Bool) (count : ℕ) → 192 * count ≤ length payload → ArePacked f_bits frames payload (packed_frames f_bits frames payload count) count
unfolding packed_frames line_payload
frames_packed f_bits frames payload zero enough = record { long = refl; idle = λ k below. absurd (omega arith); carries = refl }
frames_packed f_bits frames payload (suc k) enough =
    let before : List Bool = packed_frames f_bits frames payload k in
    let bits : List Bool = frame_bits payload k in
    let b : Bool = packed_f_bit f_bits frames before k in
    let more : ArePacked f_bits frames payload (before ++ b ∷ bits) (k + 1) = packed_more f_bits frames payload bits before k b (frames_packed f_bits frames payload k (omega arith)) (omega arith) refl refl in
    subst (λ (n : ℕ). ArePacked f_bits frames payload (before ++ b ∷ bits) n) (add-one k) more

-- the line of no frame is empty
pub frames_none : (f_bits : List Role) (frames : ℕ) (payload : List Bool) → packed_frames f_bits frames payload 0 ≡ []
unfolding packed_frames
frames_none f_bits frames payload = refl

-- it stays as more of the payload follows
pub frames-append : (f_bits : List Role) (frames : ℕ) (payload more : List Bool) (count : ℕ) → 192 * count ≤ length payload → packed_frames f_bits frames (payload ++ more) count ≡ packed_frames f_bits frames payload count
unfolding packed_frames
frames-append f_bits frames payload more zero within = refl
frames-append f_bits frames payload more (suc k) within =
    let before : packed_frames f_bits frames (payload ++ more) k ≡ packed_frames f_bits frames payload k = frames-append f_bits frames payload more k (omega arith) in
    let bits : frame_bits (payload ++ more) k ≡ frame_bits payload k = slice_range-append payload more (192 * k) (192 * k + 192) (omega arith) (omega arith) in
    ap (λ (x : List Bool). x ++ packed_f_bit f_bits frames x k ∷ frame_bits (payload ++ more) k) before
    ∙ ap (λ (x : List Bool). packed_frames f_bits frames payload k ++ packed_f_bit f_bits frames (packed_frames f_bits frames payload k) k ∷ x) bits

-- a shorter one is a prefix of it
pub frames_begin : (f_bits : List Role) (frames : ℕ) (payload : List Bool) (count more : ℕ) → IsPrefix (packed_frames f_bits frames payload count) (packed_frames f_bits frames payload (count + more))
unfolding packed_frames
frames_begin f_bits frames payload count zero =
    let same : count + 0 ≡ count = omega arith in
    ([], ap (packed_frames f_bits frames payload) same ∙ sym (append-nil (packed_frames f_bits frames payload count)))
frames_begin f_bits frames payload count (suc more) =
    let next : count + suc more ≡ suc (count + more) = omega arith in
    let before : List Bool = packed_frames f_bits frames payload (count + more) in
    let end : List Bool = packed_f_bit f_bits frames before (count + more) ∷ frame_bits payload (count + more) in
    let begins : IsPrefix (packed_frames f_bits frames payload count) before = frames_begin f_bits frames payload count more in
    (begins.0 ++ end, ap (packed_frames f_bits frames payload) next ∙ ap (λ (x : List Bool). x ++ end) begins.1 ∙ append_assoc (packed_frames f_bits frames payload count) begins.0 end)

-- ---- superframes

pub superframe_none : (f_bits : List Role) (sent : ℕ) (payload : List Bool) → superframe_of f_bits sent payload 0 ≡ []
unfolding superframe_of
superframe_none f_bits sent payload = refl

-- one more frame is its F bit and its bits
pub superframe_more : (f_bits : List Role) (sent : ℕ) (payload : List Bool) (frame : ℕ)
    → superframe_of f_bits sent payload (frame + 1) ≡ superframe_of f_bits sent payload frame ++ packed_bit sent frame (f_bit_at f_bits frame) ∷ frame_bits payload frame
unfolding superframe_of
superframe_more f_bits sent payload frame = let next : frame + 1 ≡ suc frame = omega arith in ap (superframe_of f_bits sent payload) next

pub superframe_long : (f_bits : List Role) (sent : ℕ) (payload : List Bool) (frame : ℕ) → 192 * frame ≤ length payload → length (superframe_of f_bits sent payload frame) ≡ 193 * frame
unfolding superframe_of
superframe_long f_bits sent payload zero within = refl
superframe_long f_bits sent payload (suc frame) within =
    let before : List Bool = superframe_of f_bits sent payload frame in
    omega (arith, length-append before (packed_bit sent frame (f_bit_at f_bits frame) ∷ frame_bits payload frame), superframe_long f_bits sent payload frame (omega arith), bits_long payload frame (omega arith))

-- behind whole superframes the next frames are those of the superframe that sends the word of the one before
pub frames_then : (f_bits : List Role) (frames : ℕ) (payload : List Bool) (first sent place : ℕ) → frames * (first / frames) ≡ first → place ≤ frames → 192 * first ≤ length payload
    → sent ≡ sent_word frames (packed_frames f_bits frames payload first) (first / frames)
    → packed_frames f_bits frames payload (first + place) ≡ packed_frames f_bits frames payload first ++ superframe_of f_bits sent (drop (192 * first) payload) place
unfolding packed_frames superframe_of
frames_then f_bits frames payload first sent zero whole small within sends =
    let same : first + 0 ≡ first = omega arith in
    ap (packed_frames f_bits frames payload) same ∙ sym (append-nil (packed_frames f_bits frames payload first))
frames_then f_bits frames payload first sent (suc place) whole small within sends =
    let k : ℕ = first + place in
    let start : List Bool = packed_frames f_bits frames payload first in
    let rest : List Bool = drop (192 * first) payload in
    let part : List Bool = superframe_of f_bits sent rest place in
    let before : List Bool = packed_frames f_bits frames payload k in
    let so_far : before ≡ start ++ part = frames_then f_bits frames payload first sent place whole (omega arith) within sends in
    let long : length start ≡ 193 * first = (frames_packed f_bits frames payload first within).long in
    let word : sent_word frames before (first / frames) ≡ sent =
    ap (λ (x : List Bool). sent_word frames x (first / frames)) so_far ∙ sent_word-append frames start part (first / frames) (omega (arith, long, whole)) ∙ sym sends in
    let bit : packed_f_bit f_bits frames before k ≡ packed_bit sent place (f_bit_at f_bits place) =
    ap (λ (n : ℕ). packed_bit (sent_word frames before n) (k % frames) (f_bit_at f_bits (k % frames))) (place_div frames first place whole (omega arith))
    ∙ ap (λ (p : ℕ). packed_bit (sent_word frames before (first / frames)) p (f_bit_at f_bits p)) (place_mod frames first place whole (omega arith))
    ∙ ap (λ (w : ℕ). packed_bit w place (f_bit_at f_bits place)) word in
    let at : 192 * first + 192 * place ≡ 192 * k = omega arith in
    let bits : frame_bits payload k ≡ frame_bits rest place =
    bits_at payload k ∙ ap (λ (n : ℕ). take 192 (drop n payload)) (sym at) ∙ sym (ap (take 192) (drop-drop (192 * place) (192 * first) payload)) ∙ sym (bits_at rest place) in
    let next : first + suc place ≡ suc k = omega arith in
    ap (packed_frames f_bits frames payload) next
    ∙ ap (λ (x : List Bool). x ++ packed_f_bit f_bits frames before k ∷ frame_bits payload k) so_far
    ∙ ap (λ (x : Bool). (start ++ part) ++ x ∷ frame_bits payload k) bit
    ∙ ap (λ (x : List Bool). (start ++ part) ++ packed_bit sent place (f_bit_at f_bits place) ∷ x) bits
    ∙ append_assoc start part (packed_bit sent place (f_bit_at f_bits place) ∷ frame_bits rest place)

-- the word that the superframe behind one sends
pub sends_next : (frames first word : ℕ) (line : List Bool) → 0 < frames → frames * (first / frames) ≡ first → word ≡ word_of frames (drop (193 * first) line) → word ≡ sent_word frames line ((first + frames) / frames)
sends_next frames first word line some whole is =
    is ∙ sym (ap (λ (n : ℕ). word_of frames (drop (193 * n) line)) whole) ∙ sym (sent_word-next frames line (first / frames)) ∙ sym (ap (sent_word frames line) (next_div frames first some whole))

-- one more superframe
pub superframe_pushed : (f_bits : List Role) (frames : ℕ) (payload line : List Bool) (first sent word : ℕ) → 0 < frames → frames * (first / frames) ≡ first → 192 * (first + frames) ≤ length payload
    → line ≡ packed_frames f_bits frames payload first → sent ≡ sent_word frames line (first / frames) → word ≡ word_of frames (superframe_of f_bits sent (drop (192 * first) payload) frames)
    → (line ++ superframe_of f_bits sent (drop (192 * first) payload) frames ≡ packed_frames f_bits frames payload (first + frames))
    × (word ≡ sent_word frames (line ++ superframe_of f_bits sent (drop (192 * first) payload) frames) ((first + frames) / frames))
superframe_pushed f_bits frames payload line first sent word some whole enough made sends is =
    let one : List Bool = superframe_of f_bits sent (drop (192 * first) payload) frames in
    let long : length line ≡ 193 * first = ap length made ∙ (frames_packed f_bits frames payload first (omega arith)).long in
    let behind : drop (193 * first) (line ++ one) ≡ one = ap (λ (n : ℕ). drop n (line ++ one)) (sym long) ∙ drop-append_seam line one in (
      ap (λ (x : List Bool). x ++ one) made ∙ sym (frames_then f_bits frames payload first sent frames whole (omega arith) (omega arith) (sends ∙ ap (λ (x : List Bool). sent_word frames x (first / frames)) made)),
      sends_next frames first word (line ++ one) some whole (is ∙ sym (ap (word_of frames) behind)),
    )

-- all frames of a payload, in octets, are its line
pub line_made : (form : Frame1) (payload : List ℕ) (line : List Bool) (octets : List ℕ) → octets ≡ bytes_of line → line ≡ packed_frames (f_bits_of form) (frames_of form) (bits_of payload) (length payload / 24) → octets ≡ packed_line form payload
unfolding packed_line
line_made form payload line octets is made = is ∙ ap bytes_of made

-- the line of a payload that fills whole superframes is packed
pub line_is_packed : (form : Frame1) (payload : List ℕ) → length payload % 576 ≡ 0 → All (λ byte. byte < 256) payload → IsPacked form payload (packed_line form payload)
unfolding packed_line
line_is_packed form payload whole small =
    let f_bits : List Role = f_bits_of form in
    let frames : ℕ = frames_of form in
    let count : ℕ = length payload / 24 in
    let carried : List Bool = bits_of payload in
    let line : List Bool = packed_frames f_bits frames carried count in
    let part : ArePacked f_bits frames carried line count = frames_packed f_bits frames carried count (omega (arith, length-bits_of payload)) in
    let octets : List ℕ = bytes_of line in
    let long : length line ≡ 193 * count = part.long in
    let eight : length line % 8 ≡ 0 = omega (arith, long, whole) in
    let bits : bits_of octets ≡ line = bits_of-bytes_of line eight in
    let number : frames_in octets ≡ count = ap (λ (x : List Bool). length x / 193) bits ∙ omega (arith, long) in
    record {
      framed = record {
        whole = omega (arith, length-bytes_of line, long, whole);
        right = λ frame below.
            ap (λ (x : List Bool). frame_right f_bits frames x frame) bits
            ∙ right-packed f_bits frames line frame (part.idle frame (omega (arith, below, number)));
      };
      carries =
          ap (λ (n : ℕ). bytes_of (line_payload (bits_of octets) n)) number
          ∙ ap (λ (x : List Bool). bytes_of (line_payload x count)) bits
          ∙ ap bytes_of part.carries
          ∙ ap bytes_of (take_all (192 * count) carried (omega (arith, whole, length-bits_of payload)))
          ∙ bytes_of-bits_of payload small;
      idle = λ frame below. subst (λ (x : List Bool). FramePacked f_bits frames x frame) (sym bits) (part.idle frame (omega (arith, below, number)));
    }

-- ---- unpacking

-- whether a frame is right, by its F bit and the word that its superframe sends
right_is : (f_bits : List Role) (frames first place sent : ℕ) (line : List Bool) (role : Role) (b right : Bool) → frames * (first / frames) ≡ first → place < frames → sent ≡ sent_word frames line (first / frames)
    → role ≡ f_bit_at f_bits place → b ≡ get_or line (193 * (first + place)) false → right ≡ fits sent place role b → frame_right f_bits frames line (first + place) ≡ right
unfolding frame_right
right_is f_bits frames first place sent line role b right whole small sends role_is bit is =
    let k : ℕ = first + place in
    let at : Bool = get_or line (193 * k) false in
    ap (λ (n : ℕ). fits (sent_word frames line n) (k % frames) (f_bit_at f_bits (k % frames)) at) (place_div frames first place whole small)
    ∙ ap (λ (p : ℕ). fits (sent_word frames line (first / frames)) p (f_bit_at f_bits p) at) (place_mod frames first place whole small)
    ∙ ap (λ (w : ℕ). fits w place (f_bit_at f_bits place) at) (sym sends)
    ∙ ap (λ (r : Role). fits sent place r at) (sym role_is)
    ∙ ap (fits sent place role) (sym bit)
    ∙ sym is

-- one more frame is right
pub right_more : (f_bits : List Role) (frames first place sent : ℕ) (line : List Bool) (role : Role) (b right : Bool) → frames * (first / frames) ≡ first → place < frames → sent ≡ sent_word frames line (first / frames)
    → role ≡ f_bit_at f_bits place → b ≡ get_or line (193 * (first + place)) false → right ≡ fits sent place role b → AreRight (frame_right f_bits frames line) (first + place) → right ≡ true
    → AreRight (frame_right f_bits frames line) (first + (place + 1))
right_more f_bits frames first place sent line role b right whole small sends role_is bit is before holds =
    let next : first + place + 1 ≡ first + (place + 1) = omega arith in
    subst (AreRight (frame_right f_bits frames line)) next
    (are_right-push (frame_right f_bits frames line) (first + place) before (right_is f_bits frames first place sent line role b right whole small sends role_is bit is ∙ holds))

-- or it is the first wrong one
pub first_wrong_is : (f_bits : List Role) (frames first place sent : ℕ) (line : List Bool) (role : Role) (b right : Bool) → frames * (first / frames) ≡ first → place < frames → sent ≡ sent_word frames line (first / frames)
    → role ≡ f_bit_at f_bits place → b ≡ get_or line (193 * (first + place)) false → right ≡ fits sent place role b → AreRight (frame_right f_bits frames line) (first + place) → right ≡ false
    → 193 * first + 193 * frames ≤ length line → FirstWrong (frame_right f_bits frames line) (length line / 193) (first + place)
first_wrong_is f_bits frames first place sent line role b right whole small sends role_is bit is before fails room = record {
  within = omega arith;
  wrong = right_is f_bits frames first place sent line role b right whole small sends role_is bit is ∙ fails;
  before = before;
}

-- right superframes have no fault but want of memory
only_memory : (form : Frame1) (line : List ℕ) (fault : Ds1UnpackFault) → IsSuperframes form line → IsNotUnpacked form line fault → fault ≡ unpack_faults.Memory
only_memory form line (unpack_faults.NotWhole len) framed why = absurd (why.1 framed.whole)
only_memory form line (unpack_faults.Wrong frame) framed why = absurd (none_wrong (right_in form line) (frames_in line) frame framed.right why.1)
only_memory form line unpack_faults.Memory framed why = refl

-- what was packed is unpacked to the same payload
pub given_back : PackedIsGivenBack
given_back form payload line packed = record {
  same = λ unpacked out. out.carried ∙ packed.carries;
  no_fault = λ fault why. only_memory form line fault packed.framed why;
}
