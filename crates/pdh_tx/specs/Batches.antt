-- Many frames of a multiplexer at once: its tributaries take all bits that the frames bring before the frames are made.
use Rattle.std.specs.Prelude.{◌≡◌, ℕ, suc, ◌+◌, ◌*◌, ◌%◌, ◌<◌, ◌≤◌, ◌^◌, ◌==◌, Bool, true, false, List, [], length, None}
use Rattle.pdh_edge.specs.Ports.{Inputs, Takes}
use Rattle.pdh_shape.specs.declared.place.Path.{Path}
use Rattle.pdh_shape.specs.declared.role.Service.{Service}
use Rattle.pdh_shape.specs.Frame.{FrameShape}
use Rattle.pdh_shape.specs.Payload.{payload_ones}
use Rattle.pdh_line.specs.Sending.{odd_before}
use Rattle.pdh_tx.specs.declared.tx.TxStop.TheVariants.{Failed}
use Rattle.pdh_tx.specs.declared.pieces.Piece.{Piece}
use Rattle.pdh_tx.specs.Meaning.{Plan, Supply, Meaning, Agrees}
use Rattle.pdh_tx.specs.Held.{first_some}
use Rattle.pdh_tx.specs.Node.{source_of, any_leaf, given_by, AllFit, Stays}
use Rattle.pdh_tx.specs.Body.{Kind}
use Rattle.pdh_tx.specs.Passing.{HoldsLine}

-- of how many frames bits are made at once, at most
abbrev pub batch : ℕ
batch = 16

-- so many are some, and at most so many
pub record AreSomeUpTo (most count : ℕ) : Type 0 where
  pub some : 0 < count
  pub few : count ≤ most

-- ---- what the calls want

-- slot u of frame m is one of those from slot t of frame n on that are made before bit `end` of the line
pub record IsBefore (s : FrameShape) (n t end m u : ℕ) : Type 0 where
  pub inside : u < s.len
  pub from : n * s.len + t ≤ m * s.len + u
  pub to : m * s.len + u < end

-- nothing stands in the way of these slots, where the leaves' lists hold so many bits in all, and they bring no slip
pub record MeetNothing (kind : Kind) (s : FrameShape) (ms : List Meaning) (path : Path) (plan : Plan) (size : ℕ → ℕ) (n t end : ℕ) : Type 0 where
  pub clear : (m u : ℕ) → IsBefore s n t end m u → first_some (kind.steps path plan ms size m u) ≡ None
  pub no_slip : (m u : ℕ) → IsBefore s n t end m u → kind.slips path plan ms m u ≡ []

-- and the lists hold so many
pub record AreSlotsClear (kind : Kind) (s : FrameShape) (ms : List Meaning) (path : Path) (plan : Plan) (n t end : ℕ) (inputs : Inputs) : Type 0 where
  pub size : ℕ → ℕ
  pub fits : AllFit ms plan (kind.taken path plan n t) inputs size
  pub slots : MeetNothing kind s ms path plan size n t end

-- the bits of a piece are gathered, and more
abbrev pub IsGatheredFor : FrameShape → (Path → Plan → ℕ → ℕ → ℕ → Type 0) → Plan → Piece → Type 0
IsGatheredFor s gathered plan at = (end : ℕ) × (gathered at.path plan at.frame at.slot end) × (at.frame * s.len + at.slot + at.len ≤ end)

-- all that was gathered is made
abbrev pub IsAllGathered : FrameShape → (Path → Plan → ℕ → ℕ → ℕ → Type 0) → Type 0
IsAllGathered s gathered = (path : Path) × (plan : Plan) × (n : ℕ) × (t : ℕ) × (t < s.len) × (gathered path plan n t (n * s.len + t))

-- ---- what they give

-- the leaves gave what the slots from slot t of frame n on up to bit `end` of the line take
pub record GathersSlots {B : Type 0} (kind : Kind) (meanings : B → List Meaning) (gathered : B → Path → Plan → ℕ → ℕ → ℕ → Type 0) (holds : B → Path → Plan → Supply → ℕ → ℕ → Type 0)
    (holds_gathered : B → Path → Plan → Supply → ℕ → ℕ → ℕ → Type 0) (old new : B) (path : Path) (plan : Plan) (n t end : ℕ) (before after : Inputs) : Type 0 where
  pub given : ℕ → List Bool
  pub takes : Takes given before after
  pub others : (k : ℕ) → any_leaf (meanings old) k ≡ false → given k ≡ []
  pub exact : (k : ℕ) → any_leaf (meanings old) k ≡ true → given_by (meanings old) plan (kind.taken path plan n t) k + length (given k) ≡ given_by (meanings old) plan (λ j. kind.by path plan j end) k
  pub place : gathered new path plan n t end
  pub onward : (supply : Supply) → supply.plan ≡ plan → holds old path plan supply n t → Agrees (any_leaf (meanings old)) supply.lists (given_by (meanings old) plan (kind.taken path plan n t)) given
      → holds_gathered new path plan supply n t end

-- a call failed on the way
abbrev pub HaltsGathering : Kind → List Meaning → Path → Plan → ℕ → ℕ → ℕ → Inputs → Inputs → Type 0
HaltsGathering kind ms path plan n t end = Stays ms plan (kind.taken path plan n t) (λ j. kind.by path plan j end) Failed

-- The bits of a piece, of what was gathered up to bit `end` of the line, where the frame says `say` and `odd` is whether the
-- information and justifiable slots of the frame before hold an odd number of ones; and whether those of the piece do.
pub record GivesGathered {B : Type 0} (meanings : B → List Meaning) (gathered : B → Path → Plan → ℕ → ℕ → ℕ → Type 0) (holds : B → Path → Plan → Supply → ℕ → ℕ → ℕ → Type 0)
    (s : FrameShape) (old new : B) (plan : Plan) (at : Piece) (end : ℕ) (say : Service) (odd is_odd : Bool) (bits : List Bool) : Type 0 where
  pub place : gathered new at.path plan at.frame (at.slot + at.len) end
  pub bounded : suc at.frame < 2 ^ 64
  pub onward : (supply : Supply) → supply.plan ≡ plan → holds old at.path plan supply at.frame at.slot end → supply.says at.frame ≡ say → odd ≡ odd_before s (source_of at.path (meanings old) supply) at.frame
      → HoldsLine s (source_of at.path (meanings old) supply) at.frame at.slot bits × holds new at.path plan supply at.frame (at.slot + at.len) end
  pub odd_is : is_odd ≡ (payload_ones s at.slot bits % 2 == 1)
