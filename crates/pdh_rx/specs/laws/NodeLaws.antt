-- Laws of a demultiplexer: more received bits only add to what leaves get below it, and the
-- events of a chain are those that its nodes note.
use Rattle.std.specs.Prelude.{◌≡◌, ℕ, zero, suc, ◌<◌, ◌≤◌, Bool, true, false, ◌||◌, List, [], ◌∷◌, length, map, cond, slice_get, Some, refl}
use Rattle.std.proofs.Common.{sym, ◌∙◌, ap, subst, arith}
use Rattle.pdh_shape.specs.declared.place.Path.{Path}
use Rattle.pdh_shape.specs.Frame.{FrameShape, IsFrame}
use Rattle.pdh_shape.specs.Tributary.{HasTributaries}
use Rattle.pdh_watch.specs.declared.event.Event.{Event}
use Rattle.pdh_edge.specs.Ports.{IsPrefix}
use Rattle.pdh_rx.specs.Meaning.{Meaning, IsSound}
use Rattle.pdh_events.specs.Acts.{bit_acts}
use Rattle.pdh_events.specs.Chain.{child_path, bit_events}
use Rattle.pdh_events.specs.laws.ActsLaws.{gives_bit, acts_events_alike}
use Rattle.pdh_rx.specs.Node.{child_notes, node_meaning, got_by, any_leaf, received_lines}
use Rattle.pdh_rx.specs.laws.Growth.{received_grows}

prefix_cond : (b : Bool) (x y x' y' : List Bool) → IsPrefix x x' → IsPrefix y y' → IsPrefix (cond b x y) (cond b x' y')
prefix_cond true x y x' y' p q = p
prefix_cond false x y x' y' p q = q

-- each of these meanings is sound
abbrev pub AllSound : List Meaning → Type 0
AllSound [] = Unit {0}
AllSound (m ∷ ms) = IsSound m × AllSound ms

pub all_sound : {C : Type 0} (meaning : C → Meaning) (sound : (c : C) → IsSound (meaning c)) (cs : List C) → AllSound (map meaning cs)
all_sound meaning sound [] = tt
all_sound meaning sound (c ∷ cs) = (sound c, all_sound meaning sound cs)

-- lines that are alike give alike
pub got_by_same : (ms : List Meaning) (lines lines' : ℕ → List Bool) → ((j : ℕ) → lines j ≡ lines' j) → (k : ℕ) → got_by ms lines k ≡ got_by ms lines' k
got_by_same [] lines lines' h k = refl
got_by_same (m ∷ ms) lines lines' h k =
    ap (λ v. cond (m.leaves k) (m.got v k) (got_by ms (λ j. lines (suc j)) k)) (h 0)
    ∙ ap (λ v. cond (m.leaves k) (m.got (lines' 0) k) v) (got_by_same ms (λ j. lines (suc j)) (λ j. lines' (suc j)) (λ j. h (suc j)) k)

-- longer lines give more
pub got_by_grows : (ms : List Meaning) → AllSound ms → (lines lines' : ℕ → List Bool) → ((j : ℕ) → IsPrefix (lines j) (lines' j)) → (k : ℕ) → IsPrefix (got_by ms lines k) (got_by ms lines' k)
got_by_grows [] s lines lines' h k = ([], refl)
got_by_grows (m ∷ ms) s lines lines' h k =
    let P : List Bool → Type 0 = λ v. IsPrefix (m.got (lines 0) k) (m.got v k) in
    prefix_cond (m.leaves k) _ _ _ _
    (subst P (sym (h 0).1) (s.0.grows (lines 0) (h 0).0 k))
    (got_by_grows ms s.1 (λ j. lines (suc j)) (λ j. lines' (suc j)) (λ j. h (suc j)) k)

pub got_elsewhere : (ms : List Meaning) (lines : ℕ → List Bool) (k : ℕ) → any_leaf ms k ≡ false → got_by ms lines k ≡ []
got_elsewhere [] lines k e = refl
got_elsewhere (m ∷ ms) lines k e = go (m.leaves k) e (got_elsewhere ms (λ j. lines (suc j)) k)
  where
    go : (b : Bool) → (b || any_leaf ms k) ≡ false → (any_leaf ms k ≡ false → got_by ms (λ j. lines (suc j)) k ≡ []) → cond b (m.got (lines 0) k) (got_by ms (λ j. lines (suc j)) k) ≡ []
    go true e h = cc
    go false e h = h e

pub node_sound : {C : Type 0} (meaning : C → Meaning) (sound : (c : C) → IsSound (meaning c)) (s : FrameShape) → IsFrame s → (path : Path) (children : List C) → IsSound (node_meaning s path (map meaning children))
node_sound meaning sound s shape path children = record {
  grows = λ line more k. got_by_grows (map meaning children) (all_sound meaning sound children) _ _ (λ j. received_grows s j line more shape) k;
  elsewhere = λ line k e. got_elsewhere (map meaning children) (received_lines s line) k e;
}

-- fewer bits than none are none
pub fewer_than_none : (n n' : ℕ) → n' ≤ n → n ≡ 0 → n' ≡ 0
fewer_than_none n n' few none = omega (arith, few, none)

-- ---- the events

child_alike : (ms : List Meaning) (g : ℕ → List Bool → Bool → List Event) → ((j : ℕ) (m : Meaning) → slice_get ms j ≡ Some m → (line : List Bool) (bit : Bool) → m.notes line bit ≡ g j line bit)
    → (j : ℕ) (line : List Bool) (bit : Bool) → j < length ms → child_notes ms j line bit ≡ g j line bit
child_alike [] g h j line bit lt = absurd (omega (arith, lt))
child_alike (m ∷ ms) g h zero line bit lt = h 0 m refl line bit
child_alike (m ∷ ms) g h (suc j) line bit lt = child_alike ms (λ i. g (suc i)) (λ i m' e. h (suc i) m' e) j line bit (omega arith)

-- where each child notes the events of the chain below it, the demultiplexer notes those of the chain from it down
pub node_notes : (s : FrameShape) (below : List FrameShape) (path : Path) (ms : List Meaning) → HasTributaries s → length ms ≡ s.tribs
    → ((j : ℕ) (m : Meaning) → slice_get ms j ≡ Some m → (line : List Bool) (bit : Bool) → m.notes line bit ≡ bit_events below (child_path path j) line bit)
    → (line : List Bool) (bit : Bool) → (node_meaning s path ms).notes line bit ≡ bit_events (s ∷ below) path line bit
unfolding bit_events
node_notes s below path ms has count each line bit =
    acts_events_alike s.tribs (child_notes ms) (λ j. bit_events below (child_path path j))
    (λ j line bit lt. child_alike ms (λ j. bit_events below (child_path path j)) each j line bit (omega (arith, lt, count)))
    (bit_acts s path line bit) (received_lines s line) (gives_bit s path line bit has)
