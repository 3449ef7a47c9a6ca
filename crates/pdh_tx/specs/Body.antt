-- What a multiplexer has below its own frame: its tributaries, with stores or without. And the multiplexer above them.
use Rattle.std.specs.Prelude.{◌≡◌, ℕ, suc, ◌+◌, ◌*◌, ◌/◌, ◌%◌, ◌<◌, ◌^◌, ◌==◌, ◌≤◌, Bool, true, false, List, [], ◌∷◌, length, Option, None, Result}
use Rattle.pdh_edge.specs.Ports.{Inputs, Takes}
use Rattle.pdh_shape.specs.declared.place.Path.{Path}
use Rattle.pdh_shape.specs.declared.role.Service.{Service}
use Rattle.pdh_shape.specs.Frame.{FrameShape}
use Rattle.pdh_shape.specs.Payload.{payload_ones}
use Rattle.pdh_line.specs.Sending.{odd_before}
use Rattle.pdh_clock.specs.Contents.{Contents}
use Rattle.pdh_slips.specs.declared.log.SlipLog as log
use Rattle.pdh_slips.specs.declared.slip.Slip.{Slip}
use Rattle.pdh_tx.specs.declared.tx.TxStop.{TxStop}
use Rattle.pdh_tx.specs.declared.tx.TxStop.TheVariants.{Failed}
use Rattle.pdh_tx.specs.declared.pieces.Piece.{Piece}
use Rattle.pdh_tx.specs.declared.position.Position.{Position}
use Rattle.pdh_tx.specs.Meaning.{Plan, Supply, Meaning, Agrees, IsNodeOf, HoldsAll}
use Rattle.pdh_tx.specs.Held.{first_some}
use Rattle.pdh_tx.specs.Node.{source_of, any_leaf, given_by, node_frame, meaning_with, EachInChain, AllFit, Stays, Blocked}
use Rattle.pdh_tx.specs.NodeState.{HasParity}
use Rattle.pdh_tx.specs.Passing.{HoldsLine}
use Rattle.pdh_tx.specs.Follows.{Follows}
use Rattle.pdh_tx.specs.Telling.{Tells}

-- ---- kinds of multiplexers

-- how the multiplexers of a kind, of one shape, take the bits of their tributaries
pub record Kind : Type 0 where
  -- how many of tributary j, by a node at a path that has made all bits before slot t of frame n
  pub taken : Path → Plan → ℕ → ℕ → ℕ → ℕ
  -- how many, where the slots of frame n below slot t are made
  pub came : Path → Plan → ℕ → ℕ → ℕ → ℕ
  -- how many of tributary j, where x bits of the line are made
  pub by : Path → Plan → ℕ → ℕ → ℕ
  -- what may stand in the way of slot t of frame n, in order
  pub steps : Path → Plan → List Meaning → (ℕ → ℕ) → ℕ → ℕ → List (Option TxStop)
  -- the slips in making its bit, in order
  pub slips : Path → Plan → List Meaning → ℕ → ℕ → List Slip

-- these are the same numbers, by bits and by slots
pub record IsKind (s : FrameShape) (kind : Kind) : Type 0 where
  pub taken_is : (path : Path) (plan : Plan) (n t x j : ℕ) → n * s.len + t ≡ x → t < s.len → kind.by path plan j x ≡ kind.taken path plan n t j
  pub taken_next : (path : Path) (plan : Plan) (n t n' t' j : ℕ) → Follows s n t n' t' → j < s.tribs → kind.came path plan n (suc t) j ≡ kind.taken path plan n' t' j

-- what a multiplexer of this kind at a path makes, takes and meets
abbrev pub sender_meaning : FrameShape → Kind → Path → List Meaning → Meaning
sender_meaning s kind path ms =
    meaning_with s path ms (kind.by path) (λ plan size x. first_some (kind.steps path plan ms size (x / s.len) (x % s.len))) (λ plan x. kind.slips path plan ms (x / s.len) (x % s.len))

-- ---- what its calls want

-- each leaf has a list, and the node and those below it are nodes of this schedule's chain
pub record AreFedBelow (s : FrameShape) (path : Path) (ms : List Meaning) (schedule : Contents) (inputs : Inputs) : Type 0 where
  pub lists : HoldsAll (any_leaf ms) inputs
  pub node : IsNodeOf schedule.levels (node_frame s path)
  pub nodes : EachInChain schedule.levels ms

-- nothing stands in the way of so many slots, from slot t on, before which the tributaries have made so many bits, and they bring no slip
pub record SlotsClear (steps : (ℕ → ℕ) → ℕ → List (Option TxStop)) (slips : ℕ → List Slip) (ms : List Meaning) (plan : Plan) (made : ℕ → ℕ) (t len : ℕ) (inputs : Inputs) : Type 0 where
  -- how many bits the leaves' lists hold in all
  pub size : ℕ → ℕ
  pub fits : AllFit ms plan made inputs size
  pub clear : (v : ℕ) → v < len → first_some (steps size (t + v)) ≡ None
  pub no_slip : (v : ℕ) → v < len → slips (t + v) ≡ []

-- slot u of frame m is one of so many from slot t of frame n on, over the ends of frames
pub record IsOneOf (s : FrameShape) (n t count m u : ℕ) : Type 0 where
  pub inside : u < s.len
  pub from : n * s.len + t ≤ m * s.len + u
  pub to : m * s.len + u < n * s.len + t + count

-- nothing stands in the way of so many slots from slot t of frame n on, whatever the lists hold behind the bits that they have, and
-- they bring no slip
pub record AreSlotsFree (kind : Kind) (s : FrameShape) (ms : List Meaning) (path : Path) (plan : Plan) (n t count : ℕ) (inputs : Inputs) : Type 0 where
  pub free : (size : ℕ → ℕ) → AllFit ms plan (kind.taken path plan n t) inputs size → (m u : ℕ) → IsOneOf s n t count m u → first_some (kind.steps path plan ms size m u) ≡ None
  pub no_slip : (m u : ℕ) → IsOneOf s n t count m u → kind.slips path plan ms m u ≡ []

-- ---- what they give

-- The tributaries gave what slots t to u of frame n take, and these are the slots' bits, where the frame says `say` and `odd`
-- is whether the information and justifiable slots of the frame before hold an odd number of ones. `stood` tells that the new
-- state has made them, `old` and `new` which supplies the states hold bits of.
pub record GivesSlots (stood : Type 0) (old new : Supply → Type 0) (ms : List Meaning) (s : FrameShape) (path : Path) (plan : Plan) (made more : ℕ → ℕ) (n t : ℕ) (say : Service) (odd : Bool) (bits : List Bool) (before after : Inputs) : Type 0 where
  pub given : ℕ → List Bool
  pub takes : Takes given before after
  pub others : (k : ℕ) → any_leaf ms k ≡ false → given k ≡ []
  pub exact : (k : ℕ) → any_leaf ms k ≡ true → given_by ms plan made k + length (given k) ≡ given_by ms plan more k
  pub place : stood
  pub bounded : suc n < 2 ^ 64
  pub onward : (supply : Supply) → supply.plan ≡ plan → old supply → supply.says n ≡ say → odd ≡ odd_before s (source_of path ms supply) n → Agrees (any_leaf ms) supply.lists (given_by ms plan made) given
      → HoldsLine s (source_of path ms supply) n t bits × new supply

-- nothing stood in the way of slot t
abbrev pub SlotFree : ((ℕ → ℕ) → ℕ → List (Option TxStop)) → List Meaning → Plan → (ℕ → ℕ) → ℕ → Inputs → Type 0
SlotFree steps ms plan made t inputs = (size : ℕ → ℕ) → AllFit ms plan made inputs size → first_some (steps size t) ≡ None

-- ---- what its calls leave, by the plan that they go by

-- the bit of slot t of frame n, in whose way nothing stood
pub record GivesBit {B : Type 0} (kind : Kind) (meanings : B → List Meaning) (stood : B → Path → Plan → ℕ → ℕ → Type 0) (holds held : B → Path → Plan → Supply → ℕ → ℕ → Type 0) (s : FrameShape) (old new : B) (path : Path) (plan : Plan) (n t : ℕ) (say : Service) (odd bit : Bool)
    (before after : Inputs) : Type 0 where
  pub gives : GivesSlots (stood new path plan n (suc t)) (λ supply. holds old path plan supply n t) (λ supply. held new path plan supply n (suc t))
      (meanings old) s path plan (kind.taken path plan n t) (kind.came path plan n (suc t)) n t say odd (bit ∷ []) before after
  pub free : SlotFree (λ size. kind.steps path plan (meanings old) size n) (meanings old) plan (kind.taken path plan n t) t before

-- they stopped at the first step of the slot in whose way something stood
abbrev pub StopsAtSlot : Kind → List Meaning → Path → Plan → ℕ → ℕ → TxStop → Inputs → Inputs → ℕ → ℕ → Type 0
StopsAtSlot kind ms path plan n t = Blocked ms plan (kind.taken path plan n t) (kind.came path plan n (suc t)) (λ size. kind.steps path plan ms size n t)

-- and told a log of the slot's slips
abbrev pub TellsSlot : {G T : Type 0} → Kind → List Meaning → Path → Plan → ℕ → ℕ → log.Ghosts G → G → G → Result T TxStop → Type 0
TellsSlot kind ms path plan n t logs old new = Tells logs old new (kind.slips path plan ms n t)

-- nothing stands in the way of a piece, and it brings no slip
abbrev pub IsPieceClear : Kind → List Meaning → Plan → Piece → Inputs → Type 0
IsPieceClear kind ms plan at =
    SlotsClear (λ size. kind.steps at.path plan ms size at.frame) (kind.slips at.path plan ms at.frame) ms plan (kind.taken at.path plan at.frame at.slot) at.slot at.len

-- the bits of a piece, whose information and justifiable slots hold an odd number of ones or not
pub record GivesPiece {B : Type 0} (kind : Kind) (meanings : B → List Meaning) (stood : B → Path → Plan → ℕ → ℕ → Type 0) (holds held : B → Path → Plan → Supply → ℕ → ℕ → Type 0) (s : FrameShape) (old new : B) (plan : Plan) (at : Piece) (say : Service) (odd is_odd : Bool)
    (bits : List Bool) (before after : Inputs) : Type 0 where
  pub gives : GivesSlots (stood new at.path plan at.frame (at.slot + at.len)) (λ supply. holds old at.path plan supply at.frame at.slot) (λ supply. held new at.path plan supply at.frame (at.slot + at.len))
      (meanings old) s at.path plan (kind.taken at.path plan at.frame at.slot) (kind.came at.path plan at.frame (at.slot + at.len)) at.frame at.slot say odd bits before after
  pub odd_is : is_odd ≡ (payload_ones s at.slot bits % 2 == 1)

-- a call failed on the way through a piece
abbrev pub HaltsInPiece : Kind → List Meaning → Plan → Piece → Inputs → Inputs → Type 0
HaltsInPiece kind ms plan at =
    Stays ms plan (kind.taken at.path plan at.frame at.slot) (kind.came at.path plan at.frame (at.slot + at.len)) Failed

-- ---- the multiplexer

-- it has made x bits, where `stands` tells before which slot its tributaries stand
pub record SenderAt (s : FrameShape) (stands : ℕ → ℕ → Type 0) (at : Position) (x : ℕ) : Type 0 where
  pub inside : at.slot < s.len
  pub place : at.frame * s.len + at.slot ≡ x
  pub each : stands at.frame at.slot

-- what it holds is what this supply gives, where `holds` tells it of its tributaries before a slot
pub record SenderFor (s : FrameShape) (holds : ℕ → ℕ → Type 0) (path : Path) (ms : List Meaning) (at : Position) (say : Service) (supply : Supply) : Type 0 where
  pub each : holds at.frame at.slot
  -- inside a frame its service bits are kept
  pub said : 0 < at.slot → supply.says at.frame ≡ say
  pub parity : HasParity s (source_of path ms supply) at
