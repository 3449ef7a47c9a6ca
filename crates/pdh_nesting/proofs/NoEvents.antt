-- Within the tolerance no bit of a chain has an event.
use Rattle.std.proofs.Common.{◌≡◌, ℕ, ◌+◌, ◌*◌, ◌/◌, ◌%◌, ◌<◌, List, [], ◌∷◌, None, false, eqb, refl, ap, inl, inr, arith}
use Rattle.std.specs.Prelude.{slice_get}
use Rattle.std.proofs.lemmas.Bool.{cases_Bool}
use Rattle.std.proofs.lemmas.Nat.{mod_below}
use Rattle.pdh_shape.specs.Frame.{FrameShape}
use Rattle.pdh_shape.specs.Tributary.{reads_below}
use Rattle.pdh_line.specs.Sending.Mode.{Plain}
use Rattle.pdh_line.specs.Sending.{came_before, begun, given}
use Rattle.pdh_line.proofs.WithinTolerance.{no_overflow, no_underflow, within-fewer}
use Rattle.pdh_line.specs.Nodes.{child, Counts}
use Rattle.pdh_nesting.specs.Chains.{top_len, AreFrames, ReadEvenly}
use Rattle.pdh_nesting.specs.Sending.{AllWithin, AllScheduled, AllTolerated}
use Rattle.pdh_nesting.specs.Events.{events_in, first_event, NoneEmpty}
use Rattle.pdh_nesting.proofs.Nodes.{begun_more, frame_begun, lead_given, arrival_given, read_given}
use Rattle.pdh_nesting.proofs.Scheduled.{scheduled-top, scheduled-below}
use Rattle.pdh_nesting.proofs.EventParts.{events_in-none, events_in-none_read, events_below-none}

-- Where each tributary at and below a node is within the tolerance, no bit before the node's bit x has an event.
pub no_events : (chain : List FrameShape) (counts : Counts) (path : List ℕ) (x y : ℕ) → AreFrames chain → ReadEvenly chain → AllWithin chain counts path x → y < x
    → events_in Plain chain counts path y ≡ []
unfolding AllWithin events_in
no_events [] counts path x y are even within h = refl
no_events (s ∷ below) counts path x y are even within h =
    let n : ℕ = y / s.len in
    let t : ℕ = y % s.len in
    let inside : t < s.len = mod_below y s.len are.0.some_slots in
    let scheduled : n < begun s x = begun_more s x y are.0 h in
    let none_below : (j k : ℕ) → j < s.tribs → k < given s j (counts path j) x → events_in Plain below counts (child path j) k ≡ [] =
    λ j k known lt. no_events below counts (child path j) (given s j (counts path j) x) k are.2 even.1 (within j known).1 lt in
    elim (cases_Bool (eqb s.copies 0)) [
      | inl locked ↦
          events_in-none_read s below counts path locked y
          (λ j known reads. none_below j (n * s.low + reads_below s j false t) known (read_given s j (counts path j) are.0 are.1 known locked x y h reads))
      | inr stores ↦
          events_in-none s below counts path stores y
          (λ j k first known few. none_below j k known (lead_given s j (counts path j) x k are.0 stores (omega arith) few))
          (λ j known arrives. none_below j (came_before s (counts path j) n t) known (arrival_given s j (counts path j) x y are.0 stores h arrives))
          (λ j known. no_overflow s j (counts path j) (begun s x) n t are.0 are.1 stores (even.0 stores) known ((within j known).0 stores) scheduled inside)
          (λ j known. no_underflow s j (counts path j) (begun s x) n t are.0 are.1 stores (even.0 stores) known ((within j known).0 stores) scheduled inside)
    ]

-- nor does any store underflow
pub none_empty-within : (chain : List FrameShape) (counts : Counts) (path : List ℕ) (x : ℕ) → AreFrames chain → ReadEvenly chain → AllWithin chain counts path x → NoneEmpty chain counts path x
unfolding AllWithin NoneEmpty
none_empty-within [] counts path x are even within = tt
none_empty-within (s ∷ below) counts path x are even within =
    λ j known. (
      λ stores n t inside lt. no_underflow s j (counts path j) (begun s x) n t are.0 are.1 stores (even.0 stores) known ((within j known).0 stores) (frame_begun s x n t are.0 inside lt) inside,
      none_empty-within below counts (child path j) (given s j (counts path j) x) are.2 even.1 (within j known).1,
    )

-- so a chain that is within the tolerance over so many frames of its top has no first event
pub first_event-none : (chain : List FrameShape) (counts : Counts) (frames : ℕ) → AreFrames chain → ReadEvenly chain → AllWithin chain counts [] (frames * top_len chain)
    → first_event chain counts frames ≡ None
first_event-none chain counts frames are even within =
    ap (λ es. slice_get es 0) (events_below-none chain counts (frames * top_len chain) (λ y h. no_events chain counts [] (frames * top_len chain) y are even within h))

-- ---- a schedule

-- Each node has a schedule of frames. Where it has all that it begins, and its tributaries are within the tolerance over
-- the whole schedule, they are so over what it begins.
pub scheduled-within : (chain : List FrameShape) (counts : Counts) (frames : List ℕ → ℕ) (path : List ℕ) (x : ℕ)
    → AllScheduled chain counts frames path x → AllTolerated chain counts frames path → AllWithin chain counts path x
unfolding AllTolerated AllWithin
scheduled-within [] counts frames path x scheduled tolerated = tt
scheduled-within (s ∷ below) counts frames path x scheduled tolerated =
    λ j known. (
      λ stores. within-fewer s (counts path j) (begun s x) (frames path) (scheduled-top s below counts frames path x scheduled) ((tolerated j known).0 stores),
      scheduled-within below counts frames (child path j) (given s j (counts path j) x) (scheduled-below s below counts frames path x j known scheduled) (tolerated j known).1,
    )
