-- The events with their lists are the events.
use Rattle.std.proofs.Common.{◌≡◌, ℕ, suc, ◌+◌, ◌*◌, ◌/◌, ◌%◌, Bool, true, false, cond, eqb, List, [], ◌∷◌, ◌++◌, map, refl, ap, ◌∙◌}
use Rattle.std.specs.Prelude.{flat_map}
use Rattle.std.specs.List.{range_with_len}
use Rattle.std.proofs.lemmas.List.{map-append}
use Rattle.pdh_shape.specs.Frame.{FrameShape}
use Rattle.pdh_shape.specs.Tributary.{reads_from, reads_below}
use Rattle.pdh_shape.specs.OwnNumbers.{lead}
use Rattle.pdh_line.specs.Sending.{Mode, arrives_at, came_before}
use Rattle.pdh_line.specs.Nodes.{child, Counts}
use Rattle.pdh_line.specs.Events.{Event, overflow_at, underflow_at}
use Rattle.pdh_nesting.specs.Events.{events_with_stores, events_without_stores, events_in, events_below}
use Rattle.pdh_nesting.specs.StepOrder.{Keyed, at_key, below_key, keyed_with_stores, keyed_in, keyed_below}

-- the events alone
abbrev pub events_of : List Keyed → List Event
events_of keyed = map (λ event. event.1) keyed

-- ---- the parts of a bit's events

-- those in making bit k of tributary j, after this mark
abbrev pub keyed_made : Mode → List FrameShape → Counts → List ℕ → ℕ → ℕ → ℕ → List Keyed
keyed_made mode below counts path mark j k = below_key (mark ∷ suc j ∷ k ∷ []) (keyed_in mode below counts (child path j) k)

-- those in taking the lead of tributary j,
abbrev pub keyed_lead : Mode → List FrameShape → Counts → List ℕ → ℕ → List Keyed
keyed_lead mode below counts path j = flat_map (keyed_made mode below counts path 0 j) (range_with_len 0 lead)

-- in making the bit of tributary j that arrives in a slot, and its overflow,
abbrev pub keyed_arrival : Mode → FrameShape → List FrameShape → Counts → List ℕ → ℕ → ℕ → ℕ → List Keyed
keyed_arrival mode s below counts path n t j =
    cond (arrives_at s (counts path j n) t) (keyed_made mode below counts path 1 j (came_before s (counts path j) n t)) []
    ++ at_key (1 ∷ suc j ∷ []) (overflow_at mode s path j (counts path j) n t)

-- and the underflow of tributary j
abbrev pub keyed_read : Mode → FrameShape → Counts → List ℕ → ℕ → ℕ → ℕ → List Keyed
keyed_read mode s counts path n t j = at_key (1 ∷ suc s.tribs ∷ []) (underflow_at mode s path j (counts path j) n t)

-- in a node without stores, those in making the bit of tributary j that a slot reads
abbrev pub keyed_bit_read : Mode → FrameShape → List FrameShape → Counts → List ℕ → ℕ → ℕ → ℕ → List Keyed
keyed_bit_read mode s below counts path n t j =
    cond (reads_from j false (s.role t)) (keyed_made mode below counts path 1 j (n * s.low + reads_below s j false t)) []

-- ---- the events of each part

of_at_key : (key : List ℕ) (events : List Event) → events_of (at_key key events) ≡ events
of_at_key key [] = refl
of_at_key key (event ∷ events) = ap (λ rest. event ∷ rest) (of_at_key key events)

of_below_key : (numbers : List ℕ) (keyed : List Keyed) → events_of (below_key numbers keyed) ≡ events_of keyed
of_below_key numbers [] = refl
of_below_key numbers (event ∷ keyed) = ap (λ rest. event.1 ∷ rest) (of_below_key numbers keyed)

of_append : (a b : List Keyed) → events_of (a ++ b) ≡ events_of a ++ events_of b
of_append a b = map-append (λ event. event.1) a b

of_flat : (f : ℕ → List Keyed) (g : ℕ → List Event) (xs : List ℕ) → ((k : ℕ) → events_of (f k) ≡ g k) → events_of (flat_map f xs) ≡ flat_map g xs
of_flat f g [] same = refl
of_flat f g (x ∷ xs) same = of_append (f x) (flat_map f xs) ∙ ap (λ es. es ++ events_of (flat_map f xs)) (same x) ∙ ap (λ es. g x ++ es) (of_flat f g xs same)

of_cond : (test : Bool) (a : List Keyed) (b : List Event) → events_of a ≡ b → events_of (cond test a []) ≡ cond test b []
of_cond true a b same = same
of_cond false a b same = refl

of_three : (a b c : List Keyed) (a' b' c' : List Event) → events_of a ≡ a' → events_of b ≡ b' → events_of c ≡ c' → events_of (a ++ b ++ c) ≡ a' ++ b' ++ c'
of_three a b c a' b' c' ea eb ec =
    of_append (a ++ b) c ∙ ap (λ es. es ++ events_of c) (of_append a b ∙ ap (λ es. es ++ events_of b) ea ∙ ap (λ es. a' ++ es) eb) ∙ ap (λ es. (a' ++ b') ++ es) ec

-- ---- of a bit, and of a run

of_either : (test : Bool) (a b : List Keyed) (a' b' : List Event) → events_of a ≡ a' → events_of b ≡ b' → events_of (cond test a b) ≡ cond test a' b'
of_either true a b a' b' ea eb = ea
of_either false a b a' b' ea eb = eb

module _ (mode : Mode) (s : FrameShape) (below : List FrameShape) (counts : Counts) (path : List ℕ) (x : ℕ)
    (inner : (j k : ℕ) → events_of (keyed_in mode below counts (child path j) k) ≡ events_in mode below counts (child path j) k) where
  abbrev frame : ℕ
  frame = x / s.len

  abbrev slot : ℕ
  slot = x % s.len

  abbrev made : ℕ → ℕ → List Event
  made j k = events_in mode below counts (child path j) k

  made-events : (mark j k : ℕ) → events_of (keyed_made mode below counts path mark j k) ≡ made j k
  made-events mark j k = of_below_key (mark ∷ suc j ∷ k ∷ []) (keyed_in mode below counts (child path j) k) ∙ inner j k

  lead-events : (j : ℕ) → events_of (keyed_lead mode below counts path j) ≡ flat_map (made j) (range_with_len 0 lead)
  lead-events j = of_flat (keyed_made mode below counts path 0 j) (made j) (range_with_len 0 lead) (made-events 0 j)

  arrival-events : (j : ℕ) → events_of (keyed_arrival mode s below counts path frame slot j)
      ≡ cond (arrives_at s (counts path j frame) slot) (made j (came_before s (counts path j) frame slot)) [] ++ overflow_at mode s path j (counts path j) frame slot
  arrival-events j =
      let bit : ℕ = came_before s (counts path j) frame slot in
      let over : List Keyed = at_key (1 ∷ suc j ∷ []) (overflow_at mode s path j (counts path j) frame slot) in
      of_append (cond (arrives_at s (counts path j frame) slot) (keyed_made mode below counts path 1 j bit) []) over
      ∙ ap (λ es. es ++ events_of over) (of_cond (arrives_at s (counts path j frame) slot) _ _ (made-events 1 j bit))
      ∙ ap (λ es. cond (arrives_at s (counts path j frame) slot) (made j bit) [] ++ es) (of_at_key (1 ∷ suc j ∷ []) (overflow_at mode s path j (counts path j) frame slot))

  with_stores-events : events_of (keyed_with_stores mode s counts path (keyed_made mode below counts path) x) ≡ events_with_stores mode s counts path made x
  with_stores-events =
      of_three _ _ (flat_map (keyed_read mode s counts path frame slot) (range_with_len 0 s.tribs)) _ _ _
      (of_cond (eqb x 0) _ _ (of_flat (keyed_lead mode below counts path) _ (range_with_len 0 s.tribs) lead-events))
      (of_flat (keyed_arrival mode s below counts path frame slot) _ (range_with_len 0 s.tribs) arrival-events)
      (of_flat (keyed_read mode s counts path frame slot) _ (range_with_len 0 s.tribs) (λ j. of_at_key (1 ∷ suc s.tribs ∷ []) (underflow_at mode s path j (counts path j) frame slot)))

  without_stores-events : events_of (events_without_stores s (keyed_made mode below counts path 1) x) ≡ events_without_stores s made x
  without_stores-events =
      of_flat (keyed_bit_read mode s below counts path frame slot) _ (range_with_len 0 s.tribs)
      (λ j. of_cond (reads_from j false (s.role slot)) _ _ (made-events 1 j (frame * s.low + reads_below s j false slot)))

pub keyed_in-events : (mode : Mode) (chain : List FrameShape) (counts : Counts) (path : List ℕ) (x : ℕ) → events_of (keyed_in mode chain counts path x) ≡ events_in mode chain counts path x
unfolding keyed_in events_in
keyed_in-events mode [] counts path x = refl
keyed_in-events mode (s ∷ below) counts path x =
    let inner : (j k : ℕ) → events_of (keyed_in mode below counts (child path j) k) ≡ events_in mode below counts (child path j) k = λ j k. keyed_in-events mode below counts (child path j) k in
    of_either (eqb s.copies 0) _ _ _ _ (without_stores-events mode s below counts path x inner) (with_stores-events mode s below counts path x inner)

pub keyed_below-events : (mode : Mode) (chain : List FrameShape) (counts : Counts) (x : ℕ) → events_of (keyed_below mode chain counts x) ≡ events_below mode chain counts x
unfolding keyed_below events_below
keyed_below-events mode chain counts x =
    of_flat (λ bit. below_key (bit ∷ []) (keyed_in mode chain counts [] bit)) (events_in mode chain counts []) (range_with_len 0 x)
    (λ bit. of_below_key (bit ∷ []) (keyed_in mode chain counts [] bit) ∙ keyed_in-events mode chain counts [] bit)
