-- Which multiframes one more bit delivers, as bits of the line.
use Rattle.std.proofs.Common.{◌≡◌, ℕ, suc, ◌+◌, ◌-◌, ◌*◌, ◌/◌, ◌%◌, ◌<◌, ◌≤◌, Bool, true, false, List, [], ◌∷◌, ◌++◌, length, take, drop, refl, sym, ap, ◌∙◌, subst, inl, inr, arith, append_assoc, length-append, length-drop}
use Rattle.std.specs.Prelude.{◌==◌, nat_lt, if◌then◌else◌, flat_map}
use Rattle.std.proofs.lemmas.List.{length_push, length-take-le}
use Rattle.std.proofs.lemmas.Bool.{cases_Bool, eqb-true, false≢true}
use Rattle.pdh_bits.specs.Bits.{bit_value}
use Rattle.pdh_g706.specs.Frames.{frames_of, is_confirmed}
use Rattle.pdh_g706.specs.Alignment.{loses, earlier, reaches}
use Rattle.pdh_g706.specs.Tracking.{Share}
use Rattle.pdh_g706.specs.Machine.{Phase, Turn, Fits, nothing, loss_after, last_bits, still, frames_from, payload_from, search_turn, framing, framing_turn, aligned_turn, lost_turn, block_turn, framed_turn, unless_lost, aligned_bits, framed_bits, turn}
use Rattle.pdh_g706.specs.Machine.Phase.{Searching, Aligned, Framed}
use Rattle.pdh_g706.proofs.FrameLists.{length_frames}
use Rattle.pdh_g706.proofs.AlignmentLaws.{second_of}
use Rattle.pdh_g706.proofs.TurnLaws.{framing_turn_is}
use Rattle.pdh_e1_judging.specs.Judging.{is_framed, more_bits}
use Rattle.pdh_e1_judging.proofs.WindowLaws.{window, behind, gives}

-- a multiframe that a bit delivers: it stands in the line, so many bits of it and of a later one that isn't whole before the end
pub record StandsIn (now : List Bool) (more count : ℕ) (frames : List (List Bool)) (m : ℕ) : Type 0 where
  pub within : more + 4096 * count ≤ length now
  pub is : take 16 (drop (16 * m) frames) ≡ frames_of (take 4096 (drop (length now - more - 4096 * (count - m)) now))

-- those that a turn delivers with the last bit of a line
pub record Delivers (t : Turn) (now : List Bool) (more : ℕ) : Type 0 where
  pub sized : length t.gained.signs.frames ≡ 16 * t.gained.multiframes
  pub pays : t.gained.multiframes ≤ length t.gained.payload
  pub stand : (m : ℕ) → m < t.gained.multiframes → StandsIn now more t.gained.multiframes t.gained.signs.frames m

-- none
delivers_none : (t : Turn) (now : List Bool) (more : ℕ) → t.gained.multiframes ≡ 0 → t.gained.signs.frames ≡ [] → Delivers t now more
delivers_none t now more none empty = record {
  sized = omega (arith, ap length empty, none);
  pays = omega (arith, none);
  stand = λ m lt. absurd (omega (arith, lt, none));
}

-- some, of frames of what is held
delivers_frames : (t : Turn) (front bits : List Bool) (k count more : ℕ) → t.gained.multiframes ≡ count → t.gained.signs.frames ≡ frames_from (frames_of bits) k (16 * count)
    → t.gained.payload ≡ payload_from (frames_of bits) k (16 * count) → 0 < count → count ≤ 3 → length bits ≡ 256 * (k + 16 * count) + more → Delivers t (front ++ bits) more
delivers_frames t front bits k count more count_is frames_are payload_is some few long =
    let F : List (List Bool) = frames_of bits in
    let all : length (front ++ bits) ≡ length front + length bits = length-append front bits in
    let size : length (frames_from F k (16 * count)) ≡ 16 * count =
    length-take-le (16 * count) (drop k F) (omega (arith, length-drop k F, length_frames bits)) in
    record {
      sized = ap length frames_are ∙ size ∙ ap (λ n. 16 * n) (sym count_is);
      pays = omega (arith, count_is, ap length payload_is, gives bits k (16 * count) (omega arith) (omega arith));
      stand = λ m lt. record {
        within = omega (arith, all, long, count_is);
        is = ap (λ (x : List (List Bool)). take 16 (drop (16 * m) x)) frames_are ∙ window bits k (16 * count) m (omega arith) (omega (arith, lt, count_is))
            ∙ ap (λ (x : List Bool). frames_of (take 4096 x))
            (behind front bits (256 * (k + 16 * m)) (length (front ++ bits) - more - 4096 * (t.gained.multiframes - m)) (omega (arith, all, long, count_is, lt)));
      };
    }

-- ---- the ways of a bit

search_gains : (bits : List Bool) → (search_turn bits).gained ≡ nothing
unfolding search_turn
search_gains bits = elim (cases_Bool (nat_lt (length bits) 768)) [
  | inl short ↦ rw short refl
  | inr long ↦ elim (cases_Bool (is_confirmed bits)) [
    | inl right ↦ rw (long, right) refl
    | inr wrong ↦ rw (long, wrong) refl
  ]
]

-- where the multiframes are found
delivers_framing : (front bits : List Bool) → length bits % 256 ≡ 0 → reaches (frames_of bits) ≡ true → Delivers (framing_turn bits (earlier (frames_of bits) (length (frames_of bits) - 12))) (front ++ bits) 3072
delivers_framing front bits whole right =
    let F : List (List Bool) = frames_of bits in
    let k : ℕ = earlier F (length F - 12) in
    let second = second_of F right in
    let count : length F ≡ length bits / 256 = length_frames bits in
    let n : ℕ = (length F - k) / 16 in
    let apart : length F ≡ k + 16 * n + 12 = omega (arith, second.least, second.before, second.multiple) in
    let some : 0 < n = omega (arith, second.before, second.multiple, second.least) in
    let few : n ≤ 3 = omega (arith, second.most) in
    let T : Turn → Type 0 = λ t. Delivers t (front ++ bits) 3072 in
    subst T (sym (framing_turn_is bits F k refl)) (delivers_frames (framing bits F k) front bits k n 3072 refl refl refl some few (omega arith))

delivers_aligned : (front bits : List Bool) → length bits % 256 ≡ 0 → Delivers (aligned_turn bits) (front ++ bits) 3072
unfolding aligned_turn
delivers_aligned front bits whole = elim (cases_Bool (reaches (frames_of bits))) [
  | inl right ↦ rw right (delivers_framing front bits whole right)
  | inr wrong ↦ elim (cases_Bool (length (frames_of bits) == 64)) [
    | inl last ↦ rw (wrong, last) (delivers_none (still (Searching (last_bits 255 bits))) (front ++ bits) 3072 refl refl)
    | inr early ↦ rw (wrong, early) (delivers_none (still (Aligned bits)) (front ++ bits) 3072 refl refl)
  ]
]

delivers_in_alignment : (front bits : List Bool) → Delivers (aligned_bits bits) (front ++ bits) 3072
delivers_in_alignment front bits = elim (cases_Bool (length bits % 256 == 0)) [
  | inr part ↦ rw part (delivers_none (still (Aligned bits)) (front ++ bits) 3072 refl refl)
  | inl whole ↦ elim (cases_Bool (loses (frames_of bits))) [
    | inl lost ↦ rw (whole, lost) (delivers_none (lost_turn false bits) (front ++ bits) 3072 refl refl)
    | inr fine ↦ rw (whole, fine) (delivers_aligned front bits (eqb-true _ _ whole))
  ]
]

-- at the end of a block
delivers_block : (front bits : List Bool) (group wrong : ℕ) → length bits % 256 ≡ 0 → 4096 < length bits → length bits ≤ 8192 → Delivers (block_turn bits group wrong) (front ++ bits) 0
unfolding block_turn
delivers_block front bits group wrong whole some most =
    let count : length (frames_of bits) ≡ length bits / 256 = length_frames bits in
    elim (cases_Bool (length (frames_of bits) == 32)) [
      | inl last ↦
          let all : length (frames_of bits) ≡ 32 = eqb-true _ _ last in
          rw last (delivers_frames _ front bits 16 1 0 refl refl refl (omega arith) (omega arith) (omega arith))
      | inr early ↦ rw early (delivers_none _ (front ++ bits) 0 refl refl)
    ]

delivers_framed : (front bits : List Bool) (group wrong : ℕ) → length bits % 256 ≡ 0 → 4096 < length bits → length bits ≤ 8192 → Delivers (framed_turn bits group wrong) (front ++ bits) 0
unfolding framed_turn
delivers_framed front bits group wrong whole some most = elim (cases_Bool (length (frames_of bits) % 8 == 0)) [
  | inl block ↦ rw block (delivers_block front bits group wrong whole some most)
  | inr part ↦ rw part (delivers_none (still (Framed bits group wrong)) (front ++ bits) 0 refl refl)
]

delivers_in_multiframes : (front bits : List Bool) (group wrong : ℕ) → 4096 < length bits → length bits ≤ 8192 → Delivers (framed_bits bits group wrong) (front ++ bits) 0
delivers_in_multiframes front bits group wrong some most = elim (cases_Bool (length bits % 256 == 0)) [
  | inr part ↦ rw part (delivers_none (still (Framed bits group wrong)) (front ++ bits) 0 refl refl)
  | inl whole ↦ elim (cases_Bool (loses (frames_of bits))) [
    | inl lost ↦ rw (whole, lost) (delivers_none (lost_turn true bits) (front ++ bits) 0 refl refl)
    | inr fine ↦ rw (whole, fine) (delivers_framed front bits group wrong (eqb-true _ _ whole) some most)
  ]
]

-- ---- a bit

-- what is held where alignment holds
abbrev pub held_in : Phase → List Bool
held_in (Searching held) = []
held_in (Aligned held) = held
held_in (Framed held group wrong) = held

pub delivers : (phase : Phase) (front line : List Bool) (bit : Bool) → Fits phase → line ≡ front ++ held_in phase → Delivers (turn phase bit) (line ++ bit ∷ []) (more_bits phase)
unfolding turn
delivers (Searching held) front line bit fits is =
    let none = search_gains (held ++ bit ∷ []) in
    delivers_none (search_turn (held ++ bit ∷ [])) (line ++ bit ∷ []) 3072 (ap (λ (s : Share). s.multiframes) none) (ap (λ (s : Share). s.signs.frames) none)
delivers (Aligned held) front line bit fits is =
    let same : front ++ (held ++ bit ∷ []) ≡ line ++ bit ∷ [] = sym (append_assoc front held (bit ∷ [])) ∙ ap (λ (x : List Bool). x ++ bit ∷ []) (sym is) in
    subst (λ (x : List Bool). Delivers (aligned_bits (held ++ bit ∷ [])) x 3072) same (delivers_in_alignment front (held ++ bit ∷ []))
delivers (Framed held group wrong) front line bit fits is =
    let same : front ++ (held ++ bit ∷ []) ≡ line ++ bit ∷ [] = sym (append_assoc front held (bit ∷ [])) ∙ ap (λ (x : List Bool). x ++ bit ∷ []) (sym is) in
    let long : length (held ++ bit ∷ []) ≡ length held + 1 = length_push held bit in
    subst (λ (x : List Bool). Delivers (framed_bits (held ++ bit ∷ []) group wrong) x 0) same
    (delivers_in_multiframes front (held ++ bit ∷ []) group wrong (omega (arith, long, fits.0)) (omega (arith, long, fits.1)))

-- ---- a bit that gains nothing begins no multiframes

search_unframed : (bits : List Bool) → is_framed (search_turn bits).phase ≡ false
unfolding search_turn
search_unframed bits = elim (cases_Bool (nat_lt (length bits) 768)) [
  | inl short ↦ rw short refl
  | inr long ↦ elim (cases_Bool (is_confirmed bits)) [
    | inl right ↦ rw (long, right) refl
    | inr wrong ↦ rw (long, wrong) refl
  ]
]

aligned_unframed : (bits : List Bool) → (aligned_turn bits).gained ≡ nothing → is_framed (aligned_turn bits).phase ≡ false
unfolding aligned_turn framing_turn
aligned_unframed bits = elim (cases_Bool (reaches (frames_of bits))) [
  | inl right ↦ rw right (λ none. absurd (omega (arith, ap (λ (s : Share). s.signs.alignments) none)))
  | inr wrong ↦ elim (cases_Bool (length (frames_of bits) == 64)) [
    | inl last ↦ rw (wrong, last) (λ none. refl)
    | inr early ↦ rw (wrong, early) (λ none. refl)
  ]
]

alignment_unframed : (bits : List Bool) → (aligned_bits bits).gained ≡ nothing → is_framed (aligned_bits bits).phase ≡ false
alignment_unframed bits = elim (cases_Bool (length bits % 256 == 0)) [
  | inr part ↦ rw part (λ none. refl)
  | inl whole ↦ elim (cases_Bool (loses (frames_of bits))) [
    | inl lost ↦ rw (whole, lost) (λ none. refl)
    | inr fine ↦ rw (whole, fine) (aligned_unframed bits)
  ]
]

pub framed_stays : (phase : Phase) (bit : Bool) → (turn phase bit).gained ≡ nothing → is_framed (turn phase bit).phase ≡ true → is_framed phase ≡ true
unfolding turn
framed_stays (Searching held) bit none framed = absurd (false≢true (sym (search_unframed (held ++ bit ∷ [])) ∙ framed))
framed_stays (Aligned held) bit none framed = absurd (false≢true (sym (alignment_unframed (held ++ bit ∷ []) none) ∙ framed))
framed_stays (Framed held group wrong) bit none framed = refl
