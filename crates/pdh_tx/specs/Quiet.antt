-- How far the state of a multiplexer with stores tells that nothing stands in its way.
use Rattle.std.specs.Prelude.{◌≡◌, ℕ, ◌+◌, ◌*◌, ◌<◌, ◌≤◌, nat_le, []}
use Rattle.pdh_shape.specs.declared.place.Path.{Path}
use Rattle.pdh_edge.specs.Ports.{Inputs}
use Rattle.pdh_shape.specs.Frame.{FrameShape}
use Rattle.pdh_shape.specs.OwnNumbers.{lead, threshold}
use Rattle.pdh_line.specs.Paths.{steps_of}
use Rattle.pdh_line.specs.Progress.{arrived}
use Rattle.pdh_line.specs.Sending.{Mode, carriage, taken}
use Rattle.pdh_line.specs.Events.{overflow_at, underflow_at}
use Rattle.pdh_clock.specs.Contents.{Contents}
use Rattle.pdh_tx.specs.declared.quiet.NextBits.{NextBits}
use Rattle.pdh_tx.specs.declared.tx.Tx.{Ghosts}
use Rattle.pdh_tx.specs.declared.tributary.Tributary.{Tributary}
use Rattle.pdh_tx.specs.Meaning.{Plan, plan_of, IsNodeOf}
use Rattle.pdh_tx.specs.Making.{IsUneventful}
use Rattle.pdh_tx.specs.Held.{gone_with, put_with}
use Rattle.pdh_tx.specs.Tributary.{placed_in, meaning_in}
use Rattle.pdh_tx.specs.Node.{node_frame, IsShare, taken_to}
use Rattle.pdh_tx.specs.Slipping.{read_to}

-- these are bits of a multiplexer with such frames, from a slot on, and the schedule has the frames that they are of
pub record AreNext (s : FrameShape) (schedule : Contents) (next : NextBits) : Type 0 where
  pub node : IsNodeOf schedule.levels (node_frame s next.path)
  pub inside : next.slot < s.len
  pub first : next.frame * s.len + next.slot ≡ next.made
  pub longer : next.made ≤ next.end
  pub last : next.end ≤ next.end_frame * s.len
  pub scheduled : next.end_frame ≤ (plan_of schedule).frames next.path

-- tributary j stands before them
pub record StandsNext {C : Type 0} (tx : Ghosts C) (s : FrameShape) (w : Tributary C) (j : ℕ) (plan : Plan) (next : NextBits) : Type 0 where
  pub placed : placed_in tx w plan (taken_to s next.path plan next.frame next.slot j) (read_to s next.path plan next.frame next.slot j)
  -- inside a frame its decision is made
  pub decided : 0 < next.slot → IsShare plan.mode s j (plan.counts next.path j) next.frame w.share

-- Before slot t of frame n the store of tributary j is as one that held so many bits at the frame's start and hasn't slipped in the
-- frame, by which the frame's decision is right.
pub record HoldsFrom (mode : Mode) (s : FrameShape) (j : ℕ) (counts : ℕ → ℕ) (n t fill : ℕ) : Type 0 where
  pub held : (let c = carriage mode s j counts in gone_with (c.edits n t) (c.sent n) + fill ≡ put_with (c.edits n t) (lead + arrived counts n))
  pub more : nat_le threshold fill ≡ (carriage mode s j counts).more n

-- tributary j has no event in slot u of frame m, which would end the line or be a slip
abbrev pub HasNoEvent : FrameShape → Path → Plan → ℕ → ℕ → ℕ → Type 0
HasNoEvent s path plan j m u =
    (overflow_at plan.mode s (steps_of path) j (plan.counts path j) m u ≡ []) × (underflow_at plan.mode s (steps_of path) j (plan.counts path j) m u ≡ [])

-- they meet nothing of it: no event of its store, and nothing that stands in the way of the bits of its child that they bring, nor a
-- slip in these
pub record MeetsNothing {C : Type 0} (tx : Ghosts C) (s : FrameShape) (w : Tributary C) (j : ℕ) (plan : Plan) (next : NextBits) (inputs : Inputs) : Type 0 where
  pub events : (m u : ℕ) → u < s.len → next.made ≤ m * s.len + u → m * s.len + u < next.end → HasNoEvent s next.path plan j m u
  pub free : IsUneventful (meaning_in tx w) plan (taken_to s next.path plan next.frame next.slot j) (taken s (plan.counts next.path j) next.end) inputs
