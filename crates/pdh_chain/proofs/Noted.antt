-- What a receiver of a whole chain notes is what the definition of the chain's events says.
use Rattle.std.proofs.Common.{◌≡◌, ℕ, ◌+◌, ◌*◌, Bool, List, [], ◌∷◌, ◌++◌, length, refl, ap, ◌∙◌, arith}
use Rattle.std.specs.List.{range_with_len}
use Rattle.std.proofs.lemmas.List.{length-map}
use Rattle.std.proofs.lemmas.List.FromFn.{length-range_with_len}
use Rattle.pdh_shape.specs.declared.place.Path.{Path}
use Rattle.pdh_shape.specs.Frame.{FrameShape}
use Rattle.pdh_watch.specs.declared.event.Event.{Event}
use Rattle.pdh_line.specs.Paths.{top}
use Rattle.pdh_nesting.specs.Chains.{width, AreFrames}
use Rattle.pdh_events.specs.Chain.{child_path, bit_events, bits_events, chain_events}
use Rattle.pdh_rx.specs.Meaning.{Meaning}
use Rattle.pdh_rx.specs.laws.NodeLaws.{node_notes}
use Rattle.pdh_chain.specs.Trees.{receiver_of}
use Rattle.pdh_chain.proofs.Numbered.{found_at}
use Rattle.pdh_chain.proofs.Receivers.{receivers_below}

-- what one more bit brings
pub notes_are : (shapes : List FrameShape) (path : Path) (first : ℕ) → AreFrames shapes → (line : List Bool) (bit : Bool) → (receiver_of shapes path first).notes line bit ≡ bit_events shapes path line bit
unfolding receiver_of bit_events
notes_are [] path first are line bit = refl
notes_are (s ∷ below) path first are line bit =
    let child : ℕ → Meaning = λ j. receiver_of below (child_path path j) (first + j * width below) in
    let count : length (receivers_below below path first s.tribs) ≡ s.tribs = length-map (range_with_len 0 s.tribs) child ∙ length-range_with_len 0 s.tribs in
    node_notes s below path (receivers_below below path first s.tribs) are.1 count
    (λ j m at own bit.
    let is : m ≡ child (0 + j) = (found_at child 0 s.tribs j m at).1 in
    ap (λ (m : Meaning). m.notes own bit) is ∙ notes_are below (child_path path (0 + j)) (first + (0 + j) * width below) are.2 own bit ∙ ap (λ i. bit_events below (child_path path i) own bit) (omega arith))
    line bit

bits_same : (f g : List Bool → Bool → List Event) → ((line : List Bool) (bit : Bool) → f line bit ≡ g line bit) → (line bits : List Bool) → bits_events f line bits ≡ bits_events g line bits
bits_same f g same line [] = refl
bits_same f g same line (bit ∷ bits) = ap (λ v. v ++ bits_events f (line ++ bit ∷ []) bits) (same line bit) ∙ ap (λ v. g line bit ++ v) (bits_same f g same (line ++ bit ∷ []) bits)

-- what a line brings
pub noted_is : (shapes : List FrameShape) (m : Meaning) (line : List Bool) → m ≡ receiver_of shapes top 0 → AreFrames shapes → bits_events m.notes [] line ≡ chain_events shapes line
unfolding chain_events
noted_is shapes m line same are =
    ap (λ (m : Meaning). bits_events m.notes [] line) same ∙ bits_same (receiver_of shapes top 0).notes (bit_events shapes top) (notes_are shapes top 0 are) [] line
