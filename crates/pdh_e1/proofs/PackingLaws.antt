-- A line that is packed frame by frame, and frames that are right one after another.
use Rattle.std.proofs.Common.{◌≡◌, ℕ, zero, suc, ◌+◌, ◌-◌, ◌*◌, ◌/◌, ◌%◌, ◌<◌, ◌≤◌, Bool, true, false, List, [], ◌∷◌, ◌++◌, length, get_or, take, drop, append_assoc, inl, inr, subst, refl, sym, ap, ◌∙◌, add-one, arith, length-append, length-take, length-drop}
use Rattle.std.specs.List.{slice_range}
use Rattle.std.proofs.lemmas.Bool.{cases_lt}
use Rattle.std.proofs.lemmas.List.{get_or_append_left, take_all}
use Rattle.std.proofs.Math.Seq.{take-add, drop-append-add, get_or-append_seam}
use Rattle.pdh_e1.specs.declared.fault.UnpackFault.{UnpackFault}
use Rattle.pdh_e1.specs.declared.fault.UnpackFault.TheVariants as unpack_faults
use Rattle.pdh_e1.specs.Multiframe.{octet_right, packed_octet, sent_word, frame_right, FramePacked, frame_payload, frames_payload}
use Rattle.pdh_e1.specs.Codec.{frames_of, RightUpTo, IsMultiframes, IsPacked, IsPackedUpTo, IsFirstWrong, IsNotUnpacked, PackedIsGivenBack}
use Rattle.pdh_e1.proofs.OctetLaws.{packed_right}
use Rattle.pdh_e1.proofs.WordLaws.{sent_word_lt, sent_word-append}
use Rattle.pdh_framed.proofs.Parts.{slice_range-append}
use Rattle.pdh_framed.proofs.RightLaws.{are_right-push, none_wrong}

-- a packed frame stays so as more octets follow
packed-append : (line more : List ℕ) (frame : ℕ) → 32 * frame + 32 ≤ length line → FramePacked line frame → FramePacked (line ++ more) frame
unfolding FramePacked
packed-append line more frame within packed =
    get_or_append_left line more 0 (32 * frame) (omega arith)
    ∙ packed
    ∙ ap (packed_octet (frame % 16)) (sym (sent_word-append line more (frame / 8) (omega arith)))

-- one that is appended with its octet is packed
packed-new : (line rest : List ℕ) (frame word octet : ℕ) → length line ≡ 32 * frame → word ≡ sent_word line (frame / 8) → octet ≡ packed_octet (frame % 16) word → FramePacked (line ++ octet ∷ rest) frame
unfolding FramePacked
packed-new line rest frame word octet long sends is =
    ap (λ (i : ℕ). get_or (line ++ octet ∷ rest) i 0) (sym long)
    ∙ get_or-append_seam line octet rest 0
    ∙ is
    ∙ ap (packed_octet (frame % 16)) (sends ∙ sym (sent_word-append line (octet ∷ rest) (frame / 8) (omega arith)))

-- the payload of whole frames stays as more octets follow
payload-append : (line more : List ℕ) (frames : ℕ) → 32 * frames ≤ length line → frames_payload (line ++ more) frames ≡ frames_payload line frames
unfolding frames_payload
payload-append line more zero within = refl
payload-append line more (suc frame) within =
    ap (λ (p : List ℕ). p ++ frame_payload (line ++ more) frame) (payload-append line more frame (omega arith))
    ∙ ap (λ (p : List ℕ). frames_payload line frame ++ p) (slice_range-append line more (32 * frame + 1) (32 * frame + 32) (omega arith) (omega arith))

-- that of no frame is empty
pub payload_none : (line : List ℕ) → frames_payload line 0 ≡ []
unfolding frames_payload
payload_none line = refl

-- the payload of one more frame
pub payload_more : (line : List ℕ) (frame : ℕ) → frames_payload line (frame + 1) ≡ frames_payload line frame ++ frame_payload line frame
unfolding frames_payload
payload_more line frame = ap (frames_payload line) (add-one frame)

-- the payload of a frame that is appended
payload-new : (line piece : List ℕ) (frame octet : ℕ) → length line ≡ 32 * frame → length piece ≡ 31 → frame_payload (line ++ octet ∷ piece) frame ≡ piece
payload-new line piece frame octet long whole =
    let count : 32 * frame + 32 - (32 * frame + 1) ≡ 31 = omega arith in
    let at : 32 * frame + 1 ≡ length line + 1 = omega arith in
    ap (λ (n : ℕ). take n (drop (32 * frame + 1) (line ++ octet ∷ piece))) count
    ∙ ap (λ (i : ℕ). take 31 (drop i (line ++ octet ∷ piece))) at
    ∙ ap (take 31) (drop-append-add line (octet ∷ piece) 1)
    ∙ take_all 31 piece (omega arith)

-- no frame is packed yet
pub packed_none : (payload line : List ℕ) (frames : ℕ) → line ≡ [] → frames ≡ 0 → IsPackedUpTo payload line frames
unfolding frames_payload
packed_none payload line frames empty none =
    let before : IsPackedUpTo payload [] 0 = record { long = refl; idle = λ frame below. absurd (omega arith); carries = refl } in
    subst (λ (n : ℕ). IsPackedUpTo payload line n) (sym none) (subst (λ (l : List ℕ). IsPackedUpTo payload l 0) (sym empty) before)

-- one more frame is packed
pub packed_more : (payload line piece : List ℕ) (frames word octet : ℕ) → IsPackedUpTo payload line frames → word ≡ sent_word line (frames / 8) → octet ≡ packed_octet (frames % 16) word → 31 * frames + 31 ≤ length payload → piece ≡ take 31 (drop (31 * frames) payload) → IsPackedUpTo payload (line ++ octet ∷ piece) (frames + 1)
packed_more payload line piece frames word octet part sends is enough cut =
    let next : List ℕ = drop (31 * frames) payload in
    let whole : length piece ≡ 31 = ap length cut ∙ omega (arith, length-take 31 next, length-drop (31 * frames) payload) in
    let long : length line ≡ 32 * frames = part.long in
    let here : FramePacked (line ++ octet ∷ piece) frames = packed-new line piece frames word octet long sends is in
    let far : 31 * (frames + 1) ≡ 31 * frames + 31 = omega arith in
    record {
      long = omega (arith, length-append line (octet ∷ piece));
      idle = λ frame below. elim (cases_lt frame frames) [
        | inl less ↦ packed-append line (octet ∷ piece) frame (omega arith) (part.idle frame less)
        | inr least ↦ let same : frames ≡ frame = omega arith in subst (λ (n : ℕ). FramePacked (line ++ octet ∷ piece) n) same here
      ];
      carries =
          payload_more (line ++ octet ∷ piece) frames
          ∙ ap (λ (p : List ℕ). p ++ frame_payload (line ++ octet ∷ piece) frames) (payload-append line (octet ∷ piece) frames (omega arith) ∙ part.carries)
          ∙ ap (λ (p : List ℕ). take (31 * frames) payload ++ p) (payload-new line piece frames octet long whole ∙ cut)
          ∙ sym (take-add (31 * frames) 31 payload)
          ∙ sym (ap (λ (n : ℕ). take n payload) far);
    }

-- one more frame is packed by its octet and then its payload
pub packed_step : (payload line pushed new : List ℕ) (number place word octet : ℕ) → IsPackedUpTo payload line (8 * number + place) → word ≡ sent_word line number → octet ≡ packed_octet ((8 * number + place) % 16) word → 248 * number + 248 ≤ length payload → place < 8 → pushed ≡ line ++ octet ∷ [] → new ≡ pushed ++ slice_range payload (31 * (8 * number + place)) (31 * (8 * number + place) + 31) → IsPackedUpTo payload new (8 * number + (place + 1)) × (word ≡ sent_word new number)
packed_step payload line pushed new number place word octet part sends is enough within push extend =
    let frame : ℕ = 8 * number + place in
    let piece : List ℕ = slice_range payload (31 * frame) (31 * frame + 31) in
    let count : 31 * frame + 31 - 31 * frame ≡ 31 = omega arith in
    let cut : piece ≡ take 31 (drop (31 * frame) payload) = ap (λ (n : ℕ). take n (drop (31 * frame) payload)) count in
    let here : number ≡ (8 * number + place) / 8 = omega arith in
    let items : new ≡ line ++ octet ∷ piece = extend ∙ ap (λ (l : List ℕ). l ++ piece) push ∙ append_assoc line (octet ∷ []) piece in
    let more : IsPackedUpTo payload (line ++ octet ∷ piece) (8 * number + place + 1) =
    packed_more payload line piece (8 * number + place) word octet part (sends ∙ ap (sent_word line) here) is (omega arith) cut in
    let next : 8 * number + place + 1 ≡ 8 * number + (place + 1) = omega arith in
    let long : length line ≡ 32 * (8 * number + place) = part.long in (
      subst (λ (n : ℕ). IsPackedUpTo payload new n) next (subst (λ (l : List ℕ). IsPackedUpTo payload l (8 * number + place + 1)) (sym items) more),
      sends ∙ sym (sent_word-append line (octet ∷ piece) number (omega arith)) ∙ ap (λ (l : List ℕ). sent_word l number) (sym items),
    )

-- a packed frame is right
right-packed : (line : List ℕ) (frame : ℕ) → FramePacked line frame → frame_right line frame ≡ true
unfolding FramePacked frame_right
right-packed line frame packed =
    let word : ℕ = sent_word line (frame / 8) in
    ap (octet_right (frame % 16) word) packed ∙ packed_right (frame % 16) word (omega arith) (sent_word_lt line (frame / 8))

-- all frames of a payload are packed
pub packed_all : (payload line : List ℕ) → length payload % 496 ≡ 0 → IsPackedUpTo payload line (8 * (length payload / 248)) → IsPacked payload line
packed_all payload line whole part =
    let frames : ℕ = 8 * (length payload / 248) in
    let long : length line ≡ 32 * frames = part.long in
    let same : frames_of line ≡ frames = omega arith in
    record {
      framed = record {
        whole = omega arith;
        right = λ frame below. right-packed line frame (part.idle frame (omega arith));
      };
      carries = ap (frames_payload line) same ∙ part.carries ∙ take_all (31 * frames) payload (omega arith);
      idle = λ frame below. part.idle frame (omega arith);
    }

-- whether a frame is right, by its word and its first octet
right_is : (line : List ℕ) (frame number word : ℕ) (right : Bool) → frame / 8 ≡ number → word ≡ sent_word line number → right ≡ octet_right (frame % 16) word (get_or line (32 * frame) 0) → frame_right line frame ≡ right
unfolding frame_right
right_is line frame number word right within sends is =
    let octet : ℕ = get_or line (32 * frame) 0 in
    ap (λ (n : ℕ). octet_right (frame % 16) (sent_word line n) octet) within
    ∙ ap (λ (w : ℕ). octet_right (frame % 16) w octet) (sym sends)
    ∙ sym is

-- one more frame is right
pub right_more : (line : List ℕ) (frame number word : ℕ) (right : Bool) → RightUpTo line frame → frame / 8 ≡ number → word ≡ sent_word line number → right ≡ octet_right (frame % 16) word (get_or line (32 * frame) 0) → right ≡ true → RightUpTo line (frame + 1)
right_more line frame number word right before within sends is holds = are_right-push (frame_right line) frame before (right_is line frame number word right within sends is ∙ holds)

-- or it is the first wrong one
pub first_wrong_is : (line : List ℕ) (frame number word : ℕ) (right : Bool) → RightUpTo line frame → 32 * frame + 32 ≤ length line → frame / 8 ≡ number → word ≡ sent_word line number → right ≡ octet_right (frame % 16) word (get_or line (32 * frame) 0) → right ≡ false → IsFirstWrong line frame
first_wrong_is line frame number word right before room within sends is fails = record {
  within = omega arith;
  wrong = right_is line frame number word right within sends is ∙ fails;
  before = before;
}

-- multiframes have no fault but want of memory
only_memory : (line : List ℕ) (fault : UnpackFault) → IsMultiframes line → IsNotUnpacked line fault → fault ≡ unpack_faults.Memory
only_memory line (unpack_faults.NotWhole len) framed why = absurd (why.1 framed.whole)
only_memory line (unpack_faults.Wrong frame) framed why = absurd (none_wrong (frame_right line) (frames_of line) frame framed.right why.1)
only_memory line unpack_faults.Memory framed why = refl

-- what was packed is unpacked to the same payload
pub given_back : PackedIsGivenBack
given_back payload line packed = record {
  same = λ unpacked out. out.carried ∙ packed.carries;
  no_fault = λ fault why. only_memory line fault packed.framed why;
}
