-- What a tributary gets after its node has come back to its sent line, down to the leaves of a chain.
use Rattle.std.specs.Prelude.{◌≡◌, ◌≤◌, ℕ, ◌+◌, ◌-◌, ◌*◌, ◌/◌, ◌%◌, Bool, List, [], ◌∷◌, ◌++◌, length, map, flat_map}
use Rattle.pdh_shape.specs.declared.role.Service.{Service}
use Rattle.pdh_shape.specs.Frame.{FrameShape, idle}
use Rattle.pdh_line.specs.Tracking.{Piece, track}
use Rattle.pdh_line.specs.Tracking.Piece.{Delivered}
use Rattle.pdh_line.specs.Receiving.{piece_bits, received}
use Rattle.pdh_line.specs.Sending.Mode.{Plain}
use Rattle.pdh_line.specs.Sending.{sent}
use Rattle.pdh_line.specs.Nodes.{child, Counts}
use Rattle.pdh_nesting.specs.Chains.{width}
use Rattle.pdh_nesting.specs.Sending.{Content, chain_line, line_with, content_of, given_below}
use Rattle.pdh_nesting.specs.Events.{NoneEmpty}
use Rattle.pdh_nesting.specs.Receiving.{far}
use Rattle.pdh_align.specs.OpenGap.{covered}
use Rattle.pdh_recovery.specs.Losing.{KeepsRight}
use Rattle.pdh_recovery.specs.Recovering.{EndsInFrames, IsQuietFrom, Rejoins, RejoinsList, RecoversAfter}

-- Where tributary j of a node that has come back to its line at (e, u) rejoins its own: at (e', u'), which is what it got
-- before the first of the open frames that begin at bit e or later, and what the frames before that one carried of it.
pub record ChildPlace (s : FrameShape) (counts : ℕ → ℕ) (line : List Bool) (e u j e' u' : ℕ) : Type 0 where
  -- the open frames begin at a place
  pub place : ℕ
  pub stands : EndsInFrames s line place
  -- the first of them at bit e or later comes so many frames on, behind these pieces
  pub steps : ℕ
  pub from_e : e ≤ place + steps * s.len
  pub first : (i : ℕ) → e ≤ place + i * s.len → steps ≤ i
  pub before : List Piece
  pub frames : List (List Bool)
  pub pieces : track s line ≡ before ++ map Delivered frames
  pub at : covered s before ≡ place + steps * s.len
  -- it is the sent line's frame of this number
  pub number : ℕ
  pub sent_before : covered s before + u ≡ e + number * s.len
  pub got : e' ≡ length (flat_map (piece_bits s j) before)
  pub carried : u' ≡ sent s counts number

-- The node at a path of a chain, and each node on the way from it down to leaf k below it, is quiet from its own rejoining place
-- on, each with its own number of frames, and has the bits that coming back needs.
unfoldable pub IsQuietDown : List FrameShape → Counts → List ℕ → List Bool → ℕ → ℕ → ℕ → List ℕ → Type 0
IsQuietDown [] counts path line e u k ms = Unit {0}
IsQuietDown (s ∷ below) counts path line e u k [] = ⊥
IsQuietDown (s ∷ below) counts path line e u k (m ∷ ms) =
    let j = k / width below in
    IsQuietFrom s line e u m × (e + (m + 3) * s.len ≤ length line)
    × ((e' u' : ℕ) → ChildPlace s (counts path j) line e u j e' u' → IsQuietDown below counts (child path j) (received s j line) e' u' (k % width below) ms)

-- Each of these nodes comes back to its line, and the leaf's bits rejoin its own, which are told, at (e', u') of the last.
unfoldable pub ComesBack : List FrameShape → Counts → (ℕ → ℕ → Bool) → List ℕ → ℕ → List Bool → ℕ → ℕ → ℕ → List ℕ → ℕ → ℕ → Type 0
ComesBack [] counts bits path first line e u k ms e' u' = (e' ≡ e) × (u' ≡ u) × Rejoins line (bits first) e' u'
ComesBack (s ∷ below) counts bits path first line e u k [] e' u' = ⊥
ComesBack (s ∷ below) counts bits path first line e u k (m ∷ ms) e' u' =
    let j = k / width below in
    let at = child path j in
    (e1 u1 : ℕ) × RecoversAfter s line e u m × ChildPlace s (counts path j) line e u j e1 u1
    × Rejoins (received s j line) (chain_line Plain below counts bits (λ n. idle) at (first + j * width below)) e1 u1
    × ComesBack below counts bits at (first + j * width below) (received s j line) e1 u1 (k % width below) ms e' u'

-- no right frame alone loses an alignment, at any level
abbrev pub KeepRight : List FrameShape → Type 0
KeepRight [] = Unit {0}
KeepRight (s ∷ below) = KeepsRight s × KeepRight below

-- each node on the way to a leaf comes back to its line, and what the leaf gets rejoins its own bits
abbrev pub PathComesBack : List FrameShape → Counts → Content → List Bool → ℕ → ℕ → ℕ → List ℕ → Type 0
PathComesBack chain counts content line e u leaf quiet =
    (e' : ℕ) × (u' : ℕ) × ComesBack chain counts content.bits [] 0 line e u leaf quiet e' u' × Rejoins (far chain line leaf) (content.bits leaf) e' u'

-- ---- what a chain sends from lists

-- Whatever the chain sent in so many bits, in which no store underflowed, from a list that holds what these bits take of the leaf:
-- where this line rejoins what it sent, at bit e and bit u, and each node on the way to the leaf is quiet from its own rejoining
-- place on, each of these nodes comes back to its line, and what the leaf got rejoins the list from which it sent.
abbrev pub LeafComesBack : List FrameShape → List Bool → ℕ → List Bool → Type 0
LeafComesBack shapes line leaf got =
    (counts : Counts) (lists : ℕ → List Bool) (says : ℕ → Service) (bits e u : ℕ) (quiet : List ℕ)
    → NoneEmpty shapes counts [] bits → given_below shapes counts [] bits leaf ≤ length (lists leaf) → u + (length line - e) ≤ bits
    → Rejoins line (line_with shapes counts (content_of lists says)) e u → IsQuietDown shapes counts [] line e u leaf quiet
    → (e' : ℕ) × (u' : ℕ) × ComesBack shapes counts (content_of lists says).bits [] 0 line e u leaf quiet e' u' × RejoinsList got (lists leaf) e' u'
