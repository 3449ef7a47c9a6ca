-- A walk over what the nodes of a chain counted tallies those that stand, level by level.
use Rattle.std.proofs.Common.{◌≡◌, ℕ, ◌≤◌, Bool, true, false, List, [], ◌∷◌, ◌++◌, length, map, refl, ap, sym, ◌∙◌, arith, cond, append-nil}
use Rattle.std.specs.Prelude.{fold, flat_map}
use Rattle.std.specs.List.{range_with_len}
use Rattle.std.proofs.lemmas.List.Sums.{fold-append}
use Rattle.pdh_shape.specs.declared.place.Path.{Path}
use Rattle.pdh_shape.specs.Frame.{FrameShape}
use Rattle.pdh_line.specs.Paths.{top}
use Rattle.pdh_line.specs.Receiving.{received}
use Rattle.pdh_judging.specs.Judged.{judged_in, stands_below}
use Rattle.pdh_events.specs.Chain.{child_path}
use Rattle.pdh_rx.specs.declared.counts.NodeCounts.{NodeCounts}
use Rattle.pdh_rx.specs.Node.{counts_of}
use Rattle.pdh_chain.specs.Counts.{node_counts}
use Rattle.pdh_standing.specs.declared.tally.Tally.{Tally}
use Rattle.pdh_standing.specs.declared.tally.Lower.{Lower}
use Rattle.pdh_standing.specs.declared.tally.Walk.{Walk}
use Rattle.pdh_standing.specs.Standing.{tributaries, standing, tally_of, no_node, lower_of}
use Rattle.pdh_standing.specs.Counting.{with_standing, walked, lower_counted}
use Rattle.pdh_standing.proofs.Tallies.{with_line, with_if_standing, standing_one_by_one, tallied}

abbrev lower_at : Tally → Tally → Lower
lower_at first second = record { first = first; second = second }

abbrev walk_at : Bool → Tally → Tally → Walk
walk_at parent first second = record { parent = parent; lower = lower_at first second }

-- ---- what nodes count that have leaves below them alone

no_leaves : (leaves : List ℕ) → flat_map (λ (j : ℕ). let none : List NodeCounts = [] in none) leaves ≡ []
no_leaves [] = refl
no_leaves (leaf ∷ leaves) = no_leaves leaves

one_node : (s : FrameShape) (path : Path) (line : List Bool) → node_counts (s ∷ []) path line ≡ counts_of s path line ∷ []
unfolding node_counts
one_node s path line = ap (λ (below : List NodeCounts). counts_of s path line ∷ below) (no_leaves (range_with_len 0 s.tribs))

-- ---- nodes two steps below the top, whose parent stands or doesn't

module _ (u : FrameShape) (j : ℕ) (lines : ℕ → List Bool) where
  -- what they count
  abbrev grandchildren : List ℕ → List NodeCounts
  grandchildren ks = flat_map (λ k. node_counts (u ∷ []) (child_path (child_path top j) k) (lines k)) ks

  next_grandchild : (k : ℕ) (ks : List ℕ) → grandchildren (k ∷ ks) ≡ counts_of u (child_path (child_path top j) k) (lines k) ∷ grandchildren ks
  next_grandchild k ks = ap (λ (these : List NodeCounts). these ++ grandchildren ks) (one_node u (child_path (child_path top j) k) (lines k))

  below_standing : (first second : Tally) (ks : List ℕ) → fold walked (walk_at true first second) (grandchildren ks) ≡ walk_at true first (fold (with_if_standing u) second (map lines ks))
  below_standing first second [] = refl
  below_standing first second (k ∷ ks) =
      ap (fold walked (walk_at true first second)) (next_grandchild k ks) ∙ below_standing first (with_if_standing u second (lines k)) ks

  below_fallen : (first second : Tally) (ks : List ℕ) → fold walked (walk_at false first second) (grandchildren ks) ≡ walk_at false first second
  below_fallen first second [] = refl
  below_fallen first second (k ∷ ks) = ap (fold walked (walk_at false first second)) (next_grandchild k ks) ∙ below_fallen first second ks

-- ---- nodes one step below the top, without nodes below them

module _ (t : FrameShape) (lines : ℕ → List Bool) where
  abbrev children : List ℕ → List NodeCounts
  children js = flat_map (λ j. node_counts (t ∷ []) (child_path top j) (lines j)) js

  walk_children : (parent : Bool) (first second : Tally) (js : List ℕ)
      → (fold walked (walk_at parent first second) (children js)).lower ≡ lower_at (fold (with_if_standing t) first (map lines js)) second
  walk_children parent first second [] = refl
  walk_children parent first second (j ∷ js) =
      ap (λ (these : List NodeCounts). (fold walked (walk_at parent first second) (these ++ children js)).lower) (one_node t (child_path top j) (lines j))
      ∙ walk_children (stands_below (judged_in t (lines j))) (with_if_standing t first (lines j)) second js

-- ---- nodes one step below the top, with nodes below them

module _ (t u : FrameShape) (lines : ℕ → List Bool) where
  abbrev numbers : List ℕ
  numbers = range_with_len 0 t.tribs

  abbrev below_child : ℕ → List NodeCounts
  below_child j = grandchildren u j (λ k. received t k (lines j)) numbers

  abbrev families : List ℕ → List NodeCounts
  families js = flat_map (λ j. node_counts (t ∷ u ∷ []) (child_path top j) (lines j)) js

  next_family : (j : ℕ) (js : List ℕ) → families (j ∷ js) ≡ counts_of t (child_path top j) (lines j) ∷ (below_child j ++ families js)
  unfolding node_counts
  next_family j js = refl

  -- the lines of the grandchildren whose parents stand
  abbrev grand_lines : List ℕ → List (List Bool)
  grand_lines js = tributaries t (standing t (map lines js))

  walk_families : (parent : Bool) (first second : Tally) (js : List ℕ)
      → (fold walked (walk_at parent first second) (families js)).lower
      ≡ lower_at (fold (with_if_standing t) first (map lines js)) (fold (with_if_standing u) second (grand_lines js))
  walk_families parent first second [] = refl
  walk_families parent first second (j ∷ js) =
      let line : List Bool = lines j in
      let rest : List (List Bool) = standing t (map lines js) in
      ap (λ (these : List NodeCounts). (fold walked (walk_at parent first second) these).lower) (next_family j js)
      ∙ elim (stands_below (judged_in t line)) as (λ b. (fold walked (walk_at b (with_standing b first (judged_in t line)) second) (below_child j ++ families js)).lower
      ≡ lower_at (fold (with_if_standing t) (with_standing b first (judged_in t line)) (map lines js))
      (fold (with_if_standing u) second (tributaries t (cond b (line ∷ rest) rest)))) [
        | true ↦
            ap (λ (walk : Walk). walk.lower) (fold-append walked (walk_at true (with_line t first line) second) (below_child j) (families js))
            ∙ ap (λ (walk : Walk). (fold walked walk (families js)).lower) (below_standing u j (λ k. received t k line) (with_line t first line) second numbers)
            ∙ walk_families true (with_line t first line) (fold (with_if_standing u) second (map (λ k. received t k line) numbers)) js
            ∙ ap (lower_at (fold (with_if_standing t) (with_line t first line) (map lines js)))
            (sym (fold-append (with_if_standing u) second (map (λ k. received t k line) numbers) (tributaries t rest)))
        | false ↦
            ap (λ (walk : Walk). walk.lower) (fold-append walked (walk_at false first second) (below_child j) (families js))
            ∙ ap (λ (walk : Walk). (fold walked walk (families js)).lower) (below_fallen u j (λ k. received t k line) first second numbers)
            ∙ walk_families false first second js
      ]

-- ---- whole chains

-- those of these nodes that stand, at once
tally_standing : (s : FrameShape) (lines : List (List Bool)) → fold (with_if_standing s) (no_node) lines ≡ tally_of s (standing s lines)
tally_standing s lines = standing_one_by_one s (no_node) lines ∙ tallied s (standing s lines)

-- the tributaries of the top
of_top : (s : FrameShape) (line : List Bool) → map (λ j. received s j line) (range_with_len 0 s.tribs) ≡ tributaries s (line ∷ [])
of_top s line = sym (append-nil (map (λ j. received s j line) (range_with_len 0 s.tribs)))

pub lower_is : (shapes : List FrameShape) (line : List Bool) → length shapes ≤ 3 → lower_counted (node_counts shapes top line) ≡ lower_of shapes line
unfolding node_counts lower_counted
lower_is [] line few = refl
lower_is (s ∷ []) line few = ap (λ (nodes : List NodeCounts). lower_counted nodes) (one_node s (top) line)
lower_is (s ∷ t ∷ []) line few =
    walk_children t (λ j. received s j line) false (no_node) (no_node) (range_with_len 0 s.tribs)
    ∙ ap (λ (lines : List (List Bool)). lower_at (fold (with_if_standing t) (no_node) lines) (no_node)) (of_top s line)
    ∙ ap (λ (tally : Tally). lower_at tally (no_node)) (tally_standing t (tributaries s (line ∷ [])))
lower_is (s ∷ t ∷ u ∷ []) line few =
    let nodes : List (List Bool) = tributaries s (line ∷ []) in
    walk_families t u (λ j. received s j line) false (no_node) (no_node) (range_with_len 0 s.tribs)
    ∙ ap (λ (lines : List (List Bool)). lower_at (fold (with_if_standing t) (no_node) lines) (fold (with_if_standing u) (no_node) (tributaries t (standing t lines)))) (of_top s line)
    ∙ ap (λ (tally : Tally). lower_at tally (fold (with_if_standing u) (no_node) (tributaries t (standing t nodes)))) (tally_standing t nodes)
    ∙ ap (lower_at (tally_of t (standing t nodes))) (tally_standing u (tributaries t (standing t nodes)))
lower_is (s ∷ t ∷ u ∷ v ∷ below) line few = absurd (omega (arith, few))
