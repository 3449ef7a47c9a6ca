-- What a demultiplexer's lists have got where the line that it took comes back, after its last error, to a line that its chain sends.
use Rattle.std.specs.Prelude.{◌≡◌, ℕ, ◌+◌, ◌*◌, ◌<◌, ◌≤◌, Bool, List, [], ◌∷◌, ◌++◌, length, take, Some}
use Rattle.pdh_edge.specs.Ports.{Inputs, Outputs}
use Rattle.pdh_shape.specs.declared.role.Service.{Service}
use Rattle.pdh_shape.specs.Frame.{FrameShape, idle}
use Rattle.pdh_line.specs.Receiving.{received}
use Rattle.pdh_line.specs.Sending.Mode.{Plain}
use Rattle.pdh_line.specs.Sending.{front}
use Rattle.pdh_line.specs.Nodes.{child, Counts}
use Rattle.pdh_nesting.specs.Chains.{width}
use Rattle.pdh_nesting.specs.Sending.{Content, chain_line, line_with, content_of}
use Rattle.pdh_recovery.specs.Recovering.{Rejoins, IsQuietFrom, RecoversAfter}
use Rattle.pdh_recovery.specs.Flipped.{IsOneAlignment, AreFewWrong, ReadsTheSame}
use Rattle.pdh_recovery.specs.Downwards.{ChildPlace, LeafComesBack}

-- these bits were put to a leaf's list, where it is told
abbrev pub IsPut : List Bool → ℕ → Outputs → Outputs → Type 0
IsPut bits leaf outputs outputs_now = (before : List Bool) → outputs.told leaf ≡ Some before → outputs_now.told leaf ≡ Some (before ++ bits)

-- this holds of what was put to each leaf's list
abbrev pub LeavesComeBack : List FrameShape → List Bool → Outputs → Outputs → Type 0
LeavesComeBack shapes line outputs outputs_now =
    (leaf : ℕ) → leaf < width shapes → (got : List Bool) × IsPut got leaf outputs outputs_now × LeafComesBack shapes line leaf got

-- the line of a tributary of the top, or its leaf's bits
abbrev pub line_of_tributary : List FrameShape → Counts → Content → ℕ → ℕ → Bool
line_of_tributary below counts content trib = chain_line Plain below counts content.bits (λ n. idle) (child [] trib) (trib * width below)

-- Whatever the chain sent: where this line rejoins it, at bit e and bit u, and is quiet from there with m frames, the tracking of the
-- top comes back to it, and each of the top's tributaries rejoins its own line.
abbrev pub TopComesBack : List FrameShape → List Bool → Type 0
TopComesBack [] line = Unit {0}
TopComesBack (s ∷ below) line =
    (counts : Counts) (lists : ℕ → List Bool) (says : ℕ → Service) (e u m : ℕ)
    → Rejoins line (line_with (s ∷ below) counts (content_of lists says)) e u → IsQuietFrom s line e u m → e + (m + 3) * s.len ≤ length line
    → RecoversAfter s line e u m
    × ((trib : ℕ) → trib < s.tribs → (e' : ℕ) × (u' : ℕ) × ChildPlace s (counts [] trib) line e u trib e' u' × Rejoins (received s trib line) (line_of_tributary below counts (content_of lists says) trib) e' u')

-- Whatever the chain sent: where this line differs from it in flipped bits alone, and these leave it one alignment from its first
-- bit on and the majority of a tributary's control copies in each frame of the top, the tributary gets as many bits of it, each
-- from its own place.
abbrev pub ErrorsAreContained : List FrameShape → List Bool → Type 0
ErrorsAreContained [] line = Unit {0}
ErrorsAreContained (s ∷ below) line =
    (counts : Counts) (lists : ℕ → List Bool) (says : ℕ → Service) (trib : ℕ) → trib < s.tribs → IsOneAlignment s line
    → AreFewWrong s trib line (front (line_with (s ∷ below) counts (content_of lists says)) (length line))
    → ReadsTheSame s trib line (front (line_with (s ∷ below) counts (content_of lists says)) (length line))

-- all of this holds of the first so many bits of list 0, where it is told
abbrev pub ComesBackFrom : List FrameShape → ℕ → Inputs → Outputs → Outputs → Type 0
ComesBackFrom shapes bits inputs outputs outputs_now =
    (list : List Bool) → inputs.told 0 ≡ Some list
    → LeavesComeBack shapes (take bits list) outputs outputs_now × TopComesBack shapes (take bits list) × ErrorsAreContained shapes (take bits list)
