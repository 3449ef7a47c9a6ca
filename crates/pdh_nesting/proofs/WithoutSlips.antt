-- Where no store meets an event in plain mode none slips, and the line of the other mode is the same.
use Rattle.std.proofs.Common.{◌≡◌, ℕ, zero, suc, ◌+◌, ◌*◌, ◌/◌, ◌%◌, ◌<◌, ◌≤◌, Bool, true, false, not, cond, eqb, List, [], ◌∷◌, ◌++◌, map, refl, ap, ◌∙◌, inl, inr, arith}
use Rattle.std.specs.Prelude.{flat_map}
use Rattle.std.specs.List.{range_with_len}
use Rattle.std.proofs.lemmas.Bool.{eqb-true, cases_Bool}
use Rattle.std.proofs.lemmas.Nat.{mod_below, div-add-mod'}
use Rattle.pdh_shape.specs.declared.role.Service.{Service as Say}
use Rattle.pdh_shape.specs.declared.role.Role.{Role}
use Rattle.pdh_shape.specs.declared.role.Role.TheVariants.{Align, Service, Control, Just, Info}
use Rattle.pdh_shape.specs.Frame.{FrameShape, IsFrame, idle}
use Rattle.pdh_shape.specs.Tributary.{HasTributaries, turned, reads_from, reads_below}
use Rattle.pdh_shape.specs.OwnNumbers.{lead}
use Rattle.pdh_line.specs.Edits.{edited}
use Rattle.pdh_line.specs.Sending.Mode.{Plain, Slipping}
use Rattle.pdh_line.specs.Sending.{HasStores, Mode, Slip, Source, arrives_at, came_before, sent, sends_more, carries_at, start_of, slips_in, edits_to, input_bit, payload_bit, odd_before, slot_bit, line_bit, begun, given}
use Rattle.pdh_line.specs.Events.{Event, Kind, overflows, underflows, overflow_at, underflow_at}
use Rattle.pdh_line.specs.Events.Kind.{Overflow, Underflow}
use Rattle.pdh_line.specs.Nodes.{child, Counts}
use Rattle.pdh_line.proofs.Ranges.{count-range_same}
use Rattle.pdh_line.proofs.WithinTolerance.{no_overflow, no_underflow}
use Rattle.pdh_nesting.specs.Chains.{width, AreFrames, ReadEvenly}
use Rattle.pdh_nesting.specs.Sending.{chain_line, AllWithin}
use Rattle.pdh_nesting.specs.Events.{events_with_stores, events_without_stores, events_in, events_below}
use Rattle.pdh_nesting.proofs.Nodes.{frame_begun, lead_given, arrival_given, read_given}
use Rattle.pdh_nesting.proofs.EventParts.{none_of_range}
use Rattle.pdh_nesting.proofs.FrameSlips.{in_slot}
use Rattle.pdh_nesting.proofs.QuietSlips.{IsUnslipped, plain_start, carries-plain, start-plain, edits-unslipped, unslipped-locked, unslipped-quiet}
use Rattle.pdh_nesting.proofs.Unchanged.{line_bit-same_given}

-- ---- no event of a chain

-- no store of the node at a path, or of a node below it, meets an event of plain mode in making the first x bits of the node's line
abbrev pub NoneMeets : List FrameShape → Counts → List ℕ → ℕ → Type 0
NoneMeets [] counts path x = Unit {0}
NoneMeets (s ∷ below) counts path x =
    (j : ℕ) → j < s.tribs
    → (HasStores s → (n t : ℕ) → t < s.len → n * s.len + t < x → (overflows s j (counts path j) n t ≡ false) × (underflows s j (counts path j) n t ≡ false))
    × NoneMeets below counts (child path j) (given s j (counts path j) x)

-- it is so within the tolerance
pub none_meets-within : (chain : List FrameShape) (counts : Counts) (path : List ℕ) (x : ℕ) → AreFrames chain → ReadEvenly chain → AllWithin chain counts path x → NoneMeets chain counts path x
unfolding AllWithin
none_meets-within [] counts path x are even within = tt
none_meets-within (s ∷ below) counts path x are even within =
    λ j known. (
      λ stores n t inside lt. (
        no_overflow s j (counts path j) (begun s x) n t are.0 are.1 stores (even.0 stores) known ((within j known).0 stores) (frame_begun s x n t are.0 inside lt) inside,
        no_underflow s j (counts path j) (begun s x) n t are.0 are.1 stores (even.0 stores) known ((within j known).0 stores) (frame_begun s x n t are.0 inside lt) inside,
      ),
      none_meets-within below counts (child path j) (given s j (counts path j) x) are.2 even.1 (within j known).1,
    )

-- a tributary of such a node has no slip
unslipped-met : (s : FrameShape) (j : ℕ) (counts : ℕ → ℕ) (x n t : ℕ) → (HasStores s → (m u : ℕ) → u < s.len → m * s.len + u < x → (overflows s j counts m u ≡ false) × (underflows s j counts m u ≡ false))
    → n * s.len + t ≤ x → IsUnslipped s j counts n t
unslipped-met s j counts x n t none upto =
    elim (cases_Bool (eqb s.copies 0)) [
      | inl locked ↦ unslipped-locked s j counts locked n t
      | inr stores ↦
          unslipped-quiet s j counts stores n t
          (record { fits = λ m u l h. (none stores m u l (omega arith)).0; lasts = λ m u l h. (none stores m u l (omega arith)).1 })
    ]

-- ---- no slip

none_if : {X : Type 0} (test : Bool) (xs : List X) → (test ≡ true → xs ≡ []) → cond test xs [] ≡ []
none_if true xs h = h refl
none_if false xs h = refl

-- the events of a slot in which no slip stands
slot_none : (s : FrameShape) (path : List ℕ) (j : ℕ) (counts : ℕ → ℕ) (n t : ℕ) → t < s.len → IsUnslipped s j counts n (suc t)
    → (overflow_at Slipping s path j counts n t ≡ []) × (underflow_at Slipping s path j counts n t ≡ [])
slot_none s path j counts n t inside quiet =
    let none : slips_in s j counts n (suc t) ≡ [] = quiet.none n t inside (omega arith) in (
      ap (λ slips. map (λ (slip : Slip). event Overflow) (in_slot (λ over. over) t slips)) none,
      ap (λ slips. map (λ (slip : Slip). event Underflow) (in_slot not t slips)) none,
    )
  where
    event : Kind → Event
    event kind = record { kind = kind; path = path; trib = j; frame = n; slot = t }

-- Where no store meets an event of plain mode in making the first x bits of a node's line, none slips in making one of them.
pub no_slips : (chain : List FrameShape) (counts : Counts) (path : List ℕ) (x y : ℕ) → AreFrames chain → NoneMeets chain counts path x → y < x → events_in Slipping chain counts path y ≡ []
unfolding events_in
no_slips [] counts path x y are none h = refl
no_slips (s ∷ below) counts path x y are none h =
    let whole : n * s.len + t ≡ y = div-add-mod' y s.len in
    let made : (j k : ℕ) → j < s.tribs → k < given s j (counts path j) x → events_in Slipping below counts (child path j) k ≡ [] =
    λ j k known lt. no_slips below counts (child path j) (given s j (counts path j) x) k are.2 (none j known).1 lt in
    elim (cases_Bool (eqb s.copies 0)) [
      | inl locked ↦
          ap (λ b. cond b (events_without_stores s bits y) (events_with_stores Slipping s counts path bits y)) locked
          ∙ none_of_range (λ j. cond (reads_from j false (s.role t)) (bits j (n * s.low + reads_below s j false t)) []) 0 s.tribs
          (λ j l known. none_if (reads_from j false (s.role t)) _ (λ reads. made j (n * s.low + reads_below s j false t) (omega arith) (read_given s j (counts path j) are.0 are.1 (omega arith) locked x y h reads)))
      | inr stores ↦
          let leads = none_if (eqb y 0) _ (λ first. none_of_range (λ j. flat_map (bits j) (range_with_len 0 lead)) 0 s.tribs
          (λ j l known. none_of_range (bits j) 0 lead (λ k l' few. made j k (omega arith) (lead_given s j (counts path j) x k are.0 stores (omega (arith, h, eqb-true y 0 first)) (omega arith))))) in
          let slots : (j : ℕ) → j < s.tribs → (overflow_at Slipping s path j (counts path j) n t ≡ []) × (underflow_at Slipping s path j (counts path j) n t ≡ []) =
          λ j known. slot_none s path j (counts path j) n t inside (unslipped-met s j (counts path j) x n (suc t) (none j known).0 (omega (arith, whole, h))) in
          let arrivals =
          none_of_range (λ j. cond (arrives_at s (counts path j n) t) (bits j (came_before s (counts path j) n t)) [] ++ overflow_at Slipping s path j (counts path j) n t) 0 s.tribs
          (λ j l known. ap (λ es. es ++ overflow_at Slipping s path j (counts path j) n t)
          (none_if (arrives_at s (counts path j n) t) _ (λ arrives. made j (came_before s (counts path j) n t) (omega arith) (arrival_given s j (counts path j) x y are.0 stores h arrives)))
          ∙ (slots j (omega arith)).0) in
          let reads = none_of_range (λ j. underflow_at Slipping s path j (counts path j) n t) 0 s.tribs (λ j l known. (slots j (omega arith)).1) in
          ap (λ b. cond b (events_without_stores s bits y) (events_with_stores Slipping s counts path bits y)) stores
          ∙ ap (λ es. (es ++ flat_map (λ j. cond (arrives_at s (counts path j n) t) (bits j (came_before s (counts path j) n t)) [] ++ overflow_at Slipping s path j (counts path j) n t) (range_with_len 0 s.tribs))
          ++ flat_map (λ j. underflow_at Slipping s path j (counts path j) n t) (range_with_len 0 s.tribs)) leads
          ∙ ap (λ es. es ++ flat_map (λ j. underflow_at Slipping s path j (counts path j) n t) (range_with_len 0 s.tribs)) arrivals ∙ reads
    ]
  where
    n : ℕ
    n = y / s.len

    t : ℕ
    t = y % s.len

    inside : t < s.len
    inside = mod_below y s.len are.0.some_slots

    bits : ℕ → ℕ → List Event
    bits j k = events_in Slipping below counts (child path j) k

pub slips_below-none : (chain : List FrameShape) (counts : Counts) (x : ℕ) → AreFrames chain → NoneMeets chain counts [] x → events_below Slipping chain counts x ≡ []
unfolding events_below
slips_below-none chain counts x are none = none_of_range (events_in Slipping chain counts []) 0 x (λ y l h. no_slips chain counts [] x y are none (omega arith))

-- ---- one line in both modes

module _ (s : FrameShape) (counts : ℕ → ℕ → ℕ) (p : ℕ → ℕ → Bool) (says : ℕ → Say) (x : ℕ) (frame : IsFrame s) (has : HasTributaries s)
    (quiet : (j n t : ℕ) → j < s.tribs → n * s.len + t ≤ x → IsUnslipped s j (counts j) n t) where
  abbrev source : Mode → Source
  source mode = record { mode = mode; counts = counts; inputs = p; says = says }

  start-same : (j n : ℕ) → j < s.tribs → n * s.len ≤ x → start_of s j (counts j) n ≡ plain_start s (counts j) n
  start-same j n known upto = start-plain s j (counts j) frame n 0 (quiet j n 0 known (omega arith))

  more-same : (j n : ℕ) → j < s.tribs → n * s.len ≤ x → carries_at s (counts j) n (start_of s j (counts j) n) ≡ sends_more s (counts j) n
  more-same j n known upto = ap (carries_at s (counts j) n) (start-same j n known upto) ∙ carries-plain s (counts j) n

  input_bit-modes : (n t j : ℕ) → j < s.tribs → t < s.len → n * s.len + t < x → input_bit s (source Slipping) n t j ≡ input_bit s (source Plain) n t j
  input_bit-modes n t j known inside made =
      let none : edits_to s j (counts j) n (suc t) ≡ [] = edits-unslipped s j (counts j) frame n (suc t) (omega arith) (quiet j n (suc t) known (omega arith)) in
      let more : Bool = carries_at s (counts j) n (start_of s j (counts j) n) in
      ap (λ edits. turned (s.inverted j) (edited edits (p j) ((start_of s j (counts j) n).sent + reads_below s j more t))) none
      ∙ ap (λ at. turned (s.inverted j) (p j (at.sent + reads_below s j more t))) (start-same j n known (omega arith))
      ∙ ap (λ more. turned (s.inverted j) (p j (sent s (counts j) n + reads_below s j more t))) (more-same j n known (omega arith))

  payload_bit-modes : (n t : ℕ) (r : Role) → t < s.len → n * s.len + t < x → s.role t ≡ r → payload_bit s (source Slipping) n t r ≡ payload_bit s (source Plain) n t r
  payload_bit-modes n t (Info j) inside made e = input_bit-modes n t j (has.info_known t j inside e) inside made
  payload_bit-modes n t (Just j) inside made e =
      let known : j < s.tribs = has.just_known t j inside e in
      ap (λ more. cond more (input_bit s (source Slipping) n t j) true) (more-same j n known (omega arith))
      ∙ ap (λ bit. cond (sends_more s (counts j) n) bit true) (input_bit-modes n t j known inside made)
  payload_bit-modes n t (Align signal) inside made e = refl
  payload_bit-modes n t (Service number) inside made e = refl
  payload_bit-modes n t (Control j copy) inside made e = refl

  odd_before-modes : (n : ℕ) → n * s.len < x → odd_before s (source Slipping) n ≡ odd_before s (source Plain) n
  unfolding odd_before
  odd_before-modes zero made = refl
  odd_before-modes (suc n) made = ap (λ ones. eqb (ones % 2) 1) (count-range_same _ _ 0 s.len (λ t l h. payload_bit-modes n t (s.role t) (omega arith) (omega arith) refl))

  slot_bit-modes : (n t : ℕ) (r : Role) → t < s.len → n * s.len + t < x → s.role t ≡ r → slot_bit s (source Slipping) n t r ≡ slot_bit s (source Plain) n t r
  slot_bit-modes n t (Align signal) inside made e = refl
  slot_bit-modes n t (Service number) inside made e = ap (s.service number (says n)) (odd_before-modes n (omega arith))
  slot_bit-modes n t (Control j copy) inside made e = ap not (more-same j n (has.control_known t j copy inside e).0 (omega arith))
  slot_bit-modes n t (Just j) inside made e = payload_bit-modes n t (Just j) inside made e
  slot_bit-modes n t (Info j) inside made e = payload_bit-modes n t (Info j) inside made e

  line_bit-modes : (y : ℕ) → y < x → line_bit s (source Slipping) y ≡ line_bit s (source Plain) y
  unfolding line_bit
  line_bit-modes y made =
      let whole : y / s.len * s.len + y % s.len ≡ y = div-add-mod' y s.len in
      slot_bit-modes (y / s.len) (y % s.len) (s.role (y % s.len)) (mod_below y s.len frame.some_slots) (omega arith) refl

-- Then each of these bits is the same in both modes.
pub line-modes : (chain : List FrameShape) (counts : Counts) (bits : ℕ → ℕ → Bool) (says : ℕ → Say) (path : List ℕ) (first x y : ℕ) → AreFrames chain → NoneMeets chain counts path x → y < x
    → chain_line Slipping chain counts bits says path first y ≡ chain_line Plain chain counts bits says path first y
unfolding chain_line
line-modes [] counts bits says path first x y are none h = refl
line-modes (s ∷ below) counts bits says path first x y are none h =
    let line : Mode → ℕ → ℕ → Bool = λ mode j. chain_line mode below counts bits (λ n. idle) (child path j) (first + j * width below) in
    line_bit-modes s (counts path) (line Slipping) says x are.0 are.1 (λ j n t known upto. unslipped-met s j (counts path j) x n t (none j known).0 upto) y h
    ∙ line_bit-same_given s (counts path) (line Slipping) (line Plain) says says x y are.0 are.1 (λ j known stores n t inside lt. ((none j known).0 stores n t inside lt).1)
    (λ j i known lt. line-modes below counts bits (λ n. idle) (child path j) (first + j * width below) (given s j (counts path j) x) i are.2 (none j known).1 lt) (λ n begins. refl) h
