-- What a whole chain of receivers gives its leaves.
use Rattle.std.proofs.Common.{◌≡◌, ℕ, zero, suc, ◌+◌, ◌*◌, ◌/◌, ◌%◌, ◌<◌, ◌≤◌, Bool, false, cond, List, [], ◌∷◌, ◌++◌, length, map, refl, sym, ap, ◌∙◌, subst, arith, Some, None}
use Rattle.std.specs.List.{range_with_len}
use Rattle.std.proofs.lemmas.Bool.{eq-eqb}
use Rattle.pdh_shape.specs.declared.place.Path.{Path}
use Rattle.pdh_shape.specs.Frame.{FrameShape, IsFrame}
use Rattle.pdh_line.specs.Receiving.{received}
use Rattle.pdh_line.proofs.RightLines.{received-short}
use Rattle.pdh_nesting.specs.Chains.{width, AreFrames}
use Rattle.pdh_nesting.specs.Receiving.{far}
use Rattle.pdh_line.proofs.LeafNumbers.{leaf-tributary, leaf-below, leaf-number}
use Rattle.pdh_rx.specs.Meaning.{Meaning}
use Rattle.pdh_rx.specs.Tail.{tail_meaning}
use Rattle.pdh_rx.specs.Node.{EachStands, ArePlaced, any_leaf, got_by, received_lines, node_meaning}
use Rattle.pdh_line.specs.Paths.{steps_of}
use Rattle.pdh_rx.specs.laws.NodeLaws.{got_elsewhere}
use Rattle.pdh_events.specs.Chain.{child_path}
use Rattle.pdh_chain.specs.Trees.{receiver_of}
use Rattle.pdh_chain.proofs.Numbered.{found_at, child_steps}
use Rattle.pdh_chain.proofs.TreeLeaves.{Meanings, tributary, told_below}

-- ---- a node's tributaries

abbrev pub receivers_below : List FrameShape → Path → ℕ → ℕ → List Meaning
receivers_below below path first n = map (λ j. receiver_of below (child_path path j) (first + j * width below)) (range_with_len 0 n)

pub leaf-is : (path : Path) (first : ℕ) → receiver_of [] path first ≡ tail_meaning first
unfolding receiver_of
leaf-is path first = refl

pub node-is : (s : FrameShape) (below : List FrameShape) (path : Path) (first : ℕ) → receiver_of (s ∷ below) path first ≡ node_meaning s path (receivers_below below path first s.tribs)
unfolding receiver_of
node-is s below path first = refl

-- what chains of receivers mean
abbrev pub receivers : Meanings Meaning
receivers = record {
  leaves = λ m. m.leaves;
  any = any_leaf;
  of = receiver_of;
  none = λ k. refl;
  more = λ m ms k. refl;
  leaf = λ path first k. ap (λ (m : Meaning). m.leaves k) (leaf-is path first);
  node = λ s below path first k. ap (λ (m : Meaning). m.leaves k) (node-is s below path first);
}

-- one more that has taken no bit
pub each_more : {C : Type 0} (stands : C → List Bool → Type 0) (cs : List C) (c : C) → EachStands stands cs (λ j. []) → stands c [] → EachStands stands (cs ++ c ∷ []) (λ j. [])
each_more stands [] c each here zero d at = let same : c ≡ d = cc in subst (λ d. stands d []) same here
each_more stands [] c each here (suc j) d at = absurd (cc)
each_more stands (x ∷ cs) c each here zero d at = each zero d at
each_more stands (x ∷ cs) c each here (suc j) d at = each_more stands cs c (λ j. each (suc j)) here j d at

-- each tributary that is a node stands below its node
pub placed : (below : List FrameShape) (path : Path) (first n : ℕ) → path.depth + suc (length below) ≤ 3 → ArePlaced path (receivers_below below path first n)
unfolding receiver_of
placed below path first n few j m node at is = go below (found_at (tributary receivers below path first) 0 n j m at).1 few
  where
    go : (below : List FrameShape) → m ≡ tributary receivers below path first (0 + j) → path.depth + suc (length below) ≤ 3 → steps_of node ≡ steps_of path ++ (j + 1) ∷ []
    go [] same few = absurd (let none : None ≡ Some node = sym (ap (λ (m : Meaning). m.path) same) ∙ is in cc)
    go (s ∷ below) same few =
        let there : Some (child_path path (0 + j)) ≡ Some node = sym (ap (λ (m : Meaning). m.path) same) ∙ is in
        let here : child_path path (0 + j) ≡ node = cc in
        ap steps_of (sym here) ∙ ap (λ i. steps_of (child_path path i)) (omega arith) ∙ child_steps path j (omega (arith, few))

-- ---- what the leaves get

-- what leaf k of a chain gets is what comes of its top's line
pub got_far : (shapes : List FrameShape) (path : Path) (first : ℕ) (line : List Bool) (k : ℕ) → k < width shapes → (receiver_of shapes path first).got line (first + k) ≡ far shapes line k
unfolding receiver_of far
got_far [] path first line k h = ap (λ b. cond b line []) (eq-eqb (first + k) first (omega arith))
got_far (s ∷ below) path first line k h =
    let w : ℕ = width below in
    let j : ℕ = k / w in
    let number : first + j * w + k % w ≡ first + k = leaf-number first w k in
    let low : k % w < w = leaf-below s.tribs w k h in
    told_below receivers (first + k) (λ m l. m.got l (first + k)) (λ ms lines. got_by ms lines (first + k)) (λ m ms lines. refl) s.tribs below path first j (k % w) (received_lines s line) (leaf-tributary s.tribs w k h) low number
    ∙ ap (λ i. (tributary receivers below path first j).got (received s j line) i) (sym number)
    ∙ got_far below (child_path path j) (first + j * w) (received s j line) (k % w) low

-- no other leaf gets a bit
pub got_else : (shapes : List FrameShape) (path : Path) (first : ℕ) (line : List Bool) (k : ℕ) → (receiver_of shapes path first).leaves k ≡ false → (receiver_of shapes path first).got line k ≡ []
unfolding receiver_of
got_else [] path first line k none = ap (λ b. cond b line []) none
got_else (s ∷ below) path first line k none = got_elsewhere (receivers_below below path first s.tribs) (received_lines s line) k none

-- before the first bit no leaf has got one
pub far_none : (shapes : List FrameShape) (k : ℕ) → AreFrames shapes → far shapes [] k ≡ []
unfolding far
far_none [] k are = refl
far_none (s ∷ below) k are =
    ap (λ line. far below line (k % width below)) (received-short s (k / width below) [] are.0 (short s are.0)) ∙ far_none below (k % width below) are.2
  where
    short : (s : FrameShape) → IsFrame s → length {A = Bool} [] < 3 * s.len
    short s frame = omega (arith, frame.some_slots)
