-- What a whole chain's receiver counts is what each of its nodes counts.
use Rattle.std.proofs.Common.{◌≡◌, ℕ, zero, suc, ◌+◌, ◌*◌, Bool, List, [], ◌∷◌, ◌++◌, map, refl, ap, ◌∙◌, arith}
use Rattle.std.specs.Prelude.{flat_map}
use Rattle.std.specs.List.{range_with_len}
use Rattle.pdh_shape.specs.declared.place.Path.{Path}
use Rattle.pdh_shape.specs.Frame.{FrameShape}
use Rattle.pdh_line.specs.Receiving.{received}
use Rattle.pdh_events.specs.Chain.{child_path}
use Rattle.pdh_nesting.specs.Chains.{width}
use Rattle.pdh_rx.specs.declared.counts.NodeCounts.{NodeCounts}
use Rattle.pdh_rx.specs.Meaning.{Meaning}
use Rattle.pdh_rx.specs.Node.{counts_of, counted_by, received_lines}
use Rattle.pdh_chain.specs.Trees.{receiver_of}
use Rattle.pdh_chain.specs.Counts.{node_counts}

-- what children that are told by their numbers count, from one number on
counted_from : (child : ℕ → Meaning) (all lines : ℕ → List Bool) (from n : ℕ) → ((j : ℕ) → lines j ≡ all (from + j))
    → counted_by (map child (range_with_len from n)) lines ≡ flat_map (λ j. (child j).counted (all j)) (range_with_len from n)
counted_from child all lines from zero are = refl
counted_from child all lines from (suc n) are =
    let first : lines 0 ≡ all from = are 0 ∙ ap all (let e : from + 0 ≡ from = omega arith in e) in
    let rest : (j : ℕ) → lines (suc j) ≡ all (from + 1 + j) = λ j. are (suc j) ∙ ap all (let e : from + suc j ≡ from + 1 + j = omega arith in e) in
    ap (λ line. (child from).counted line ++ counted_by (map child (range_with_len (from + 1) n)) (λ j. lines (suc j))) first
    ∙ ap (λ v. (child from).counted (all from) ++ v) (counted_from child all (λ j. lines (suc j)) (from + 1) n rest)

pub counts_are : (shapes : List FrameShape) (path : Path) (leaf : ℕ) (line : List Bool) → (receiver_of shapes path leaf).counted line ≡ node_counts shapes path line
unfolding receiver_of node_counts
counts_are [] path leaf line = refl
counts_are (s ∷ below) path leaf line =
    let child : ℕ → Meaning = λ j. receiver_of below (child_path path j) (leaf + j * width below) in
    let lines : ℕ → List Bool = received_lines s line in
    let numbers : List ℕ = range_with_len 0 s.tribs in
    let below_are : flat_map (λ j. (child j).counted (lines j)) numbers ≡ flat_map (λ j. node_counts below (child_path path j) (received s j line)) numbers =
    λ i. flat_map (λ j. counts_are below (child_path path j) (leaf + j * width below) (received s j line) i) numbers in
    ap (λ (v : List NodeCounts). counts_of s path line ∷ v)
    (counted_from child lines lines 0 s.tribs (λ j. ap lines (let e : j ≡ 0 + j = omega arith in e)) ∙ below_are)
