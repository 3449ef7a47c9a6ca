-- What each step of a packer gives.
use Rattle.std.proofs.Common.{◌≡◌, ℕ, ◌+◌, ◌-◌, ◌*◌, ◌/◌, ◌%◌, ◌<◌, ◌≤◌, Bool, true, List, [], ◌∷◌, ◌++◌, length, take, drop, append_assoc, refl, sym, ap, ◌∙◌, subst, arith, length-append, length-drop}
use Rattle.std.specs.List.{slice_range}
use Rattle.std.specs.Prelude.{min, replicate}
use Rattle.std.proofs.lemmas.Nat.{div-mul-add, le-div}
use Rattle.std.proofs.Math.Nat.{mul-div-le}
use Rattle.std.proofs.lemmas.List.{append-nil, nil_from_length, take_all, length-replicate, drop-append-le, take_at, drop_at, take-append-drop, length-take-le}
use Rattle.pdh_bits.specs.BitOut.{BoundedBits}
use Rattle.pdh_bits.specs.Bits.{bits_of, bytes_of}
use Rattle.pdh_bits.proofs.BitsLemmas.{length-bits_of, length-bytes_of, bits_of-append, bits_of-bytes_of}
use Rattle.pdh_edge.specs.Ports.{IsPrefix}
use Rattle.pdh_shape.specs.declared.role.Role.{Role}
use Rattle.pdh_ds1.specs.declared.form.Frame1.{Frame1}
use Rattle.pdh_ds1.specs.declared.form.Frame1.TheVariants.{Super, Extended}
use Rattle.pdh_ds1.specs.declared.plan.SuperframePlan.{SuperframePlan}
use Rattle.pdh_ds1.specs.Superframe.{f_bit_at, IsSuperframePlan}
use Rattle.pdh_ds1.specs.Packing.{with_ones, word_of, sent_word, packed_bit, frame_bits, packed_frames, packed_superframes, superframe_of}
use Rattle.pdh_ds1.specs.Crc6.{crc6}
use Rattle.pdh_ds1.specs.Plans.{sf_f_bits, esf_f_bits}
use Rattle.pdh_ds1.specs.Codec.{packed_line}
use Rattle.pdh_ds1.specs.Machine.{Frames}
use Rattle.pdh_ds1.specs.View.{packed_of}
use Rattle.pdh_ds1.proofs.WordLaws.{with_ones-new, word_of-is, sent_word-first}
use Rattle.pdh_ds1.proofs.PackingLaws.{bits_at, bits_long, frames_none, frames-append, frames_begin, superframe_none, superframe_more, superframe_long, superframe_pushed}

-- ---- the frames of a superframe

split_bits : (n : ℕ) (octets : List ℕ) → bits_of octets ≡ bits_of (take n octets) ++ bits_of (drop n octets)
split_bits n octets = ap bits_of (sym (take-append-drop n octets)) ∙ bits_of-append (take n octets) (drop n octets)

front_long : (n : ℕ) (octets : List ℕ) → n ≤ length octets → length (bits_of (take n octets)) ≡ 8 * n
front_long n octets within = omega (arith, length-bits_of (take n octets), length-take-le n octets within)

-- the bits of octets from one on
pub bits_from : (n : ℕ) (octets : List ℕ) → n ≤ length octets → bits_of (drop n octets) ≡ drop (8 * n) (bits_of octets)
bits_from n octets within = sym (ap (drop (8 * n)) (split_bits n octets) ∙ drop_at (bits_of (take n octets)) (bits_of (drop n octets)) (8 * n) (front_long n octets within))

-- the bits of a frame's octets
pub octets_at : (octets : List ℕ) (k : ℕ) → 24 * k + 24 ≤ length octets → bits_of (slice_range octets (24 * k) (24 * k + 24)) ≡ frame_bits (bits_of octets) k
octets_at octets k within =
    let count : 24 * k + 24 - 24 * k ≡ 24 = omega arith in
    let rest : List ℕ = drop (24 * k) octets in
    let at : 8 * (24 * k) ≡ 192 * k = omega arith in
    let enough : 24 ≤ length rest = omega (arith, length-drop (24 * k) octets) in
    ap (λ (n : ℕ). bits_of (take n rest)) count
    ∙ sym (ap (take 192) (split_bits 24 rest) ∙ take_at (bits_of (take 24 rest)) (bits_of (drop 24 rest)) 192 (front_long 24 rest enough))
    ∙ ap (take 192) (bits_from (24 * k) octets (omega arith) ∙ ap (λ (n : ℕ). drop n (bits_of octets)) at)
    ∙ sym (bits_at (bits_of octets) k)

-- the buffer for the octets of a superframe
abbrev pub buffer : List ℕ
buffer = replicate 576 0

buffer_long : length buffer ≡ 576
buffer_long = let octet : ℕ = 0 in length-replicate 576 octet

-- so many whole octets of bits, written to the first of it
pub octets_written : (bits : List Bool) (new : List ℕ) (n count : ℕ) → length bits ≡ 8 * n → n ≤ 576 → count ≡ min ((length bits - 0) / 8) (length (take n buffer)) → new ≡ take count (bytes_of (drop 0 bits)) ++ drop count (take n buffer) → bits_of new ≡ bits
octets_written bits new n count long within is written =
    let room : length (take n buffer) ≡ n = length-take-le n buffer (omega (arith, within, buffer_long)) in
    let all : count ≡ n = omega (arith, is, room, long) in
    let octets : List ℕ = bytes_of bits in
    let none : drop count (take n buffer) ≡ [] = nil_from_length (drop count (take n buffer)) (omega (arith, length-drop count (take n buffer), room, all)) in
    let whole : take count octets ≡ octets = take_all count octets (omega (arith, length-bytes_of bits, all, long)) in
    let same : new ≡ octets = written ∙ ap (λ (x : List ℕ). take count octets ++ x) none ∙ append-nil (take count octets) ∙ whole in
    ap bits_of same ∙ bits_of-bytes_of bits (omega (arith, long))

module _ (f_bits : List Role) (sent : ℕ) (payload : List Bool) where
  -- a list to which so many of them are appended
  abbrev with_frames : BoundedBits → ℕ → BoundedBits
  with_frames line frame = record line { bits = line.bits ++ superframe_of f_bits sent payload frame }

  pub none_appended : (line : BoundedBits) → line ≡ with_frames line 0
  none_appended line = sym (ap (λ (x : List Bool). record line { bits = line.bits ++ x }) (superframe_none f_bits sent payload) ∙ ap (λ (x : List Bool). record line { bits = x }) (append-nil line.bits))

  -- one more, by its F bit and then its bits
  pub frame_appended : (bits : List Bool) (initial line pushed new : BoundedBits) (frame : ℕ) (b : Bool) → line ≡ with_frames initial frame → b ≡ packed_bit sent frame (f_bit_at f_bits frame) → bits ≡ frame_bits payload frame
      → pushed ≡ record line { bits = line.bits ++ b ∷ [] } → new ≡ record pushed { bits = pushed.bits ++ bits } → new ≡ with_frames initial (frame + 1)
  frame_appended bits initial line pushed new frame b so is cut push extend =
      let part : List Bool = superframe_of f_bits sent payload frame in
      let at : Bool = packed_bit sent frame (f_bit_at f_bits frame) in
      extend
      ∙ ap (λ (p : BoundedBits). record p { bits = p.bits ++ bits }) push
      ∙ ap (λ (x : List Bool). record line { bits = x }) (append_assoc line.bits (b ∷ []) bits)
      ∙ ap (λ (x : Bool). record line { bits = line.bits ++ x ∷ bits }) is
      ∙ ap (λ (x : List Bool). record line { bits = line.bits ++ at ∷ x }) cut
      ∙ ap (λ (p : BoundedBits). record p { bits = p.bits ++ at ∷ frame_bits payload frame }) so
      ∙ ap (λ (x : List Bool). record initial { bits = x }) (append_assoc initial.bits part (at ∷ frame_bits payload frame))
      ∙ sym (ap (λ (x : List Bool). record initial { bits = initial.bits ++ x }) (superframe_more f_bits sent payload frame))

  pub appended_long : (initial line : BoundedBits) (frame : ℕ) → line ≡ with_frames initial frame → 192 * frame ≤ length payload → (length line.bits ≡ length initial.bits + 193 * frame) × (line.capacity ≡ initial.capacity)
  appended_long initial line frame so within = (
    ap (λ (p : BoundedBits). length p.bits) so ∙ length-append initial.bits (superframe_of f_bits sent payload frame) ∙ ap (λ (n : ℕ). length initial.bits + n) (superframe_long f_bits sent payload frame within),
    ap (λ (p : BoundedBits). p.capacity) so,
  )

  -- all of them
  pub all_appended : (initial line : BoundedBits) (count frames : ℕ) → line ≡ with_frames initial count → count ≡ frames → line ≡ with_frames initial frames
  all_appended initial line count frames so all = so ∙ ap (with_frames initial) all

  -- the word of one more
  pub word_more : (bits : List Bool) (frame before word : ℕ) → before ≡ crc6 (with_ones (superframe_of f_bits sent payload frame) frame) → 192 * frame + 192 ≤ length payload → bits ≡ frame_bits payload frame
      → ((ones : List Bool) → before ≡ crc6 ones → word ≡ crc6 ((ones ++ true ∷ []) ++ bits)) → word ≡ crc6 (with_ones (superframe_of f_bits sent payload (frame + 1)) (frame + 1))
  word_more bits frame before word so within cut more =
      let part : List Bool = superframe_of f_bits sent payload frame in
      let at : Bool = packed_bit sent frame (f_bit_at f_bits frame) in
      let long : length part ≡ 193 * frame = superframe_long f_bits sent payload frame (omega arith) in
      more (with_ones part frame) so
      ∙ ap crc6 (append_assoc (with_ones part frame) (true ∷ []) bits)
      ∙ ap (λ (x : List Bool). crc6 (with_ones part frame ++ true ∷ x)) cut
      ∙ sym (ap crc6 (with_ones-new part (frame_bits payload frame) frame at long (bits_long payload frame within)))
      ∙ sym (ap (λ (x : List Bool). crc6 (with_ones x (frame + 1))) (superframe_more f_bits sent payload frame))

  -- the word of all
  pub word_all : (count frames word : ℕ) → word ≡ crc6 (with_ones (superframe_of f_bits sent payload count) count) → count ≡ frames → word ≡ word_of frames (superframe_of f_bits sent payload frames)
  word_all count frames word so all =
      so ∙ ap (λ (n : ℕ). crc6 (with_ones (superframe_of f_bits sent payload n) n)) all ∙ sym (word_of-is frames (superframe_of f_bits sent payload frames))

-- ---- the superframes that a payload fills

module _ (f_bits : List Role) (frames : ℕ) where
  -- by their number
  pub filled_is : (payload : List Bool) (count rest : ℕ) → length payload ≡ 192 * (frames * count) + rest → rest < 192 * frames → packed_superframes f_bits frames payload ≡ packed_frames f_bits frames payload (frames * count)
  unfolding packed_superframes
  filled_is payload count rest long few =
      let e : length payload ≡ count * (192 * frames) + rest = omega (arith, long) in
      let number : length payload / (192 * frames) ≡ count = ap (λ (n : ℕ). n / (192 * frames)) e ∙ div-mul-add count (192 * frames) rest few in
      ap (λ (n : ℕ). packed_frames f_bits frames payload (frames * n)) number

  -- they stay as more of the payload follows
  pub packed_grows : (payload more : List Bool) → 0 < frames → IsPrefix (packed_superframes f_bits frames payload) (packed_superframes f_bits frames (payload ++ more))
  unfolding packed_superframes
  packed_grows payload more some =
      let n : ℕ = length payload / (192 * frames) in
      let all : ℕ = length (payload ++ more) / (192 * frames) in
      let within : 192 * frames * n ≤ length payload = mul-div-le (length payload) (192 * frames) in
      let least : n ≤ all = le-div n (length (payload ++ more)) (192 * frames) (omega (arith, some)) (omega (arith, within, length-append payload more)) in
      let rest : ℕ = all - n in
      let both : n + rest ≡ all = omega (arith, least) in
      let number : frames * n + frames * rest ≡ frames * all = omega arith ∙ ap (λ (x : ℕ). frames * x) both in
      let begins = frames_begin f_bits frames (payload ++ more) (frames * n) (frames * rest) in
      subst (λ (x : List Bool). IsPrefix x (packed_frames f_bits frames (payload ++ more) (frames * all))) (frames-append f_bits frames payload more (frames * n) (omega (arith, within)))
      (subst (λ (x : ℕ). IsPrefix (packed_frames f_bits frames (payload ++ more) (frames * n)) (packed_frames f_bits frames (payload ++ more) x)) number begins)

  -- no bits fill none
  pub packed_none : 0 < frames → packed_superframes f_bits frames [] ≡ []
  packed_none some =
      let nothing : frames * 0 ≡ 0 = omega arith in
      filled_is [] 0 0 (omega arith) (omega (arith, some)) ∙ ap (packed_frames f_bits frames []) nothing ∙ frames_none f_bits frames []

-- a payload that fills whole superframes is packed so
pub line_is : (form : Frame1) (payload : List ℕ) → length payload % 576 ≡ 0 → packed_line form payload ≡ bytes_of (packed_of form (bits_of payload))
unfolding packed_line packed_superframes
line_is Super payload whole =
    let count : length payload / 24 ≡ 12 * (length (bits_of payload) / 2304) = omega (arith, whole, length-bits_of payload) in
    ap (λ (n : ℕ). bytes_of (packed_frames sf_f_bits 12 (bits_of payload) n)) count
line_is Extended payload whole =
    let count : length payload / 24 ≡ 24 * (length (bits_of payload) / 4608) = omega (arith, whole, length-bits_of payload) in
    ap (λ (n : ℕ). bytes_of (packed_frames esf_f_bits 24 (bits_of payload) n)) count

-- ---- the packer

module _ (f_bits : List Role) (plan : SuperframePlan) (is_plan : IsSuperframePlan plan) where
  abbrev far : List Bool → List Bool
  far = packed_superframes f_bits plan.frames

  pub opened : (waiting superframe : BoundedBits) → waiting ≡ record { capacity = 192 * plan.frames; bits = [] } → superframe.capacity ≡ plan.len → Frames f_bits plan waiting superframe 0 []
  opened waiting superframe empty room = record {
    count = 0;
    long = omega (arith, ap (λ (p : BoundedBits). length p.bits) empty);
    waits = ap (λ (p : BoundedBits). p.bits) empty ∙ sym (let none : List Bool = [] in nil_from_length (drop (192 * (plan.frames * 0)) none) (omega (arith, length-drop (192 * (plan.frames * 0)) none)));
    few = omega (arith, ap (λ (p : BoundedBits). length p.bits) empty, is_plan.some);
    sends = sym (sent_word-first plan.frames (packed_frames f_bits plan.frames [] (plan.frames * 0)));
    waiting_room = ap (λ (p : BoundedBits). p.capacity) empty;
    superframe_room = room;
  }

  module _ (waiting superframe : BoundedBits) (sent : ℕ) (payload bits : List Bool) (stands : Frames f_bits plan waiting superframe sent payload) where
    -- how many bits of it are in superframes
    abbrev done : ℕ
    done = 192 * (plan.frames * stands.count)

    within : done ≤ length payload
    within = omega (arith, stands.long)

    rest_is : waiting.bits ++ bits ≡ drop done (payload ++ bits)
    rest_is = ap (λ (x : List Bool). x ++ bits) stands.waits ∙ sym (drop-append-le done payload bits within)

    before : packed_frames f_bits plan.frames (payload ++ bits) (plan.frames * stands.count) ≡ packed_frames f_bits plan.frames payload (plan.frames * stands.count)
    before = frames-append f_bits plan.frames payload bits (plan.frames * stands.count) within

    was : far payload ≡ packed_frames f_bits plan.frames payload (plan.frames * stands.count)
    was = filled_is f_bits plan.frames payload stands.count (length waiting.bits) stands.long stands.few

    -- more bits wait
    module _ (now : BoundedBits) (is : now ≡ record waiting { bits = waiting.bits ++ bits }) where
      more_long : length now.bits ≡ length waiting.bits + length bits
      more_long = ap (λ (p : BoundedBits). length p.bits) is ∙ length-append waiting.bits bits

      pub waits_stands : length now.bits < 192 * plan.frames → Frames f_bits plan now superframe sent (payload ++ bits)
      waits_stands few = record {
        count = stands.count;
        long = omega (arith, stands.long, more_long, length-append payload bits);
        waits = ap (λ (p : BoundedBits). p.bits) is ∙ rest_is;
        few = few;
        sends = stands.sends ∙ ap (λ (x : List Bool). sent_word plan.frames x stands.count) (sym before);
        waiting_room = ap (λ (p : BoundedBits). p.capacity) is ∙ stands.waiting_room;
        superframe_room = stands.superframe_room;
      }

      pub waits_same : length now.bits < 192 * plan.frames → far (payload ++ bits) ≡ far payload
      waits_same few = filled_is f_bits plan.frames (payload ++ bits) stands.count (length now.bits) (omega (arith, stands.long, more_long, length-append payload bits)) few ∙ before ∙ sym was

      -- or they fill a superframe
      module _ (full : length now.bits ≡ 192 * plan.frames) where
        abbrev one : List Bool
        one = superframe_of f_bits sent now.bits plan.frames

        all_long : length (payload ++ bits) ≡ done + 192 * plan.frames
        all_long = omega (arith, stands.long, more_long, full, length-append payload bits)

        now_is : now.bits ≡ drop done (payload ++ bits)
        now_is = ap (λ (p : BoundedBits). p.bits) is ∙ rest_is

        -- the number of frames before it
        abbrev first : ℕ
        first = plan.frames * stands.count

        number : first / plan.frames ≡ stands.count
        number =
            let e : first ≡ stands.count * plan.frames + 0 = omega arith in
            ap (λ (n : ℕ). n / plan.frames) e ∙ div-mul-add stands.count plan.frames 0 is_plan.some

        next : (first + plan.frames) / plan.frames ≡ stands.count + 1
        next =
            let e : first + plan.frames ≡ (stands.count + 1) * plan.frames + 0 = omega arith in
            ap (λ (n : ℕ). n / plan.frames) e ∙ div-mul-add (stands.count + 1) plan.frames 0 is_plan.some

        more : first + plan.frames ≡ plan.frames * (stands.count + 1)
        more = omega arith

        carried : superframe_of f_bits sent (drop done (payload ++ bits)) plan.frames ≡ one
        carried = ap (λ (x : List Bool). superframe_of f_bits sent x plan.frames) (sym now_is)

        pushed : (word : ℕ) → word ≡ word_of plan.frames one → (packed_frames f_bits plan.frames (payload ++ bits) first ++ one ≡ packed_frames f_bits plan.frames (payload ++ bits) (first + plan.frames))
            × (word ≡ sent_word plan.frames (packed_frames f_bits plan.frames (payload ++ bits) first ++ one) ((first + plan.frames) / plan.frames))
        pushed word word_is =
            let line : List Bool = packed_frames f_bits plan.frames (payload ++ bits) first in
            let whole : plan.frames * (first / plan.frames) ≡ first = ap (λ (n : ℕ). plan.frames * n) number in
            let sends : sent ≡ sent_word plan.frames line (first / plan.frames) =
            stands.sends ∙ ap (λ (x : List Bool). sent_word plan.frames x stands.count) (sym before) ∙ sym (ap (sent_word plan.frames line) number) in
            let both = superframe_pushed f_bits plan.frames (payload ++ bits) line first sent word is_plan.some whole (omega (arith, all_long)) refl sends (word_is ∙ ap (word_of plan.frames) (sym carried)) in (
              ap (λ (x : List Bool). line ++ x) (sym carried) ∙ both.0,
              both.1 ∙ ap (λ (x : List Bool). sent_word plan.frames (line ++ x) ((first + plan.frames) / plan.frames)) carried,
            )

        pub full_stands : (empty made : BoundedBits) (word : ℕ) → empty ≡ record now { bits = [] } → made.capacity ≡ plan.len → word ≡ word_of plan.frames one → Frames f_bits plan empty made word (payload ++ bits)
        full_stands empty made word cleared room word_is =
            let two = pushed word word_is in
            record {
              count = stands.count + 1;
              long = omega (arith, all_long, ap (λ (p : BoundedBits). length p.bits) cleared);
              waits = ap (λ (p : BoundedBits). p.bits) cleared ∙ sym (nil_from_length (drop (192 * (plan.frames * (stands.count + 1))) (payload ++ bits)) (omega (arith, all_long, length-drop (192 * (plan.frames * (stands.count + 1))) (payload ++ bits))));
              few = omega (arith, is_plan.some, ap (λ (p : BoundedBits). length p.bits) cleared);
              sends = two.1 ∙ ap (λ (x : List Bool). sent_word plan.frames x ((first + plan.frames) / plan.frames)) (two.0 ∙ ap (packed_frames f_bits plan.frames (payload ++ bits)) more)
                  ∙ ap (sent_word plan.frames (packed_frames f_bits plan.frames (payload ++ bits) (plan.frames * (stands.count + 1)))) next;
              waiting_room = ap (λ (p : BoundedBits). p.capacity) cleared ∙ ap (λ (p : BoundedBits). p.capacity) is ∙ stands.waiting_room;
              superframe_room = room;
            }

        pub full_gained : (word : ℕ) → word ≡ word_of plan.frames one → far (payload ++ bits) ≡ far payload ++ one
        full_gained word word_is =
            filled_is f_bits plan.frames (payload ++ bits) (stands.count + 1) 0 (omega (arith, all_long)) (omega (arith, is_plan.some))
            ∙ ap (packed_frames f_bits plan.frames (payload ++ bits)) (sym more)
            ∙ sym (pushed word word_is).0
            ∙ ap (λ (x : List Bool). x ++ one) (before ∙ sym was)
