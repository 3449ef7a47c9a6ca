-- The place of a leaf, level by level.
use Rattle.std.proofs.Common.{◌≡◌, ℕ, suc, ◌+◌, ◌-◌, ◌*◌, ◌/◌, ◌%◌, ◌<◌, ◌≤◌, List, [], ◌∷◌, length, drop, take, All, refl, ap, sym, ◌∙◌, subst, arith}
use Rattle.std.proofs.lemmas.List.Elements.{All-head, All-tail, All-drop}
use Rattle.pdh_shape.specs.declared.place.Level.{Level}
use Rattle.pdh_shape.specs.declared.place.Path.{Path}
use Rattle.pdh_line.specs.Paths.{steps_of, path_of, top}
use Rattle.pdh_line.specs.Nodes.{width, leaf_node, leaf_trib}
use Rattle.pdh_line.proofs.LeafNumbers.{leaf-tributary, leaf-below}
use Rattle.pdh_levels.specs.Levels.{IsLevel, IsElastic, AreLevels, numbers_of}
use Rattle.pdh_levels.proofs.LevelLaws.{below_top}

-- ---- one level

-- a leaf of a chain of one level is one of a few, whose node is the top
pub leaf_few : (levels : List Level) (leaf : ℕ) → length levels < 2 → AreLevels levels → leaf < width (numbers_of levels) → leaf ≤ 7
leaf_few [] leaf one are known = absurd (let some = are.some in omega arith)
leaf_few (level ∷ []) leaf one are known = let most = (All-head IsLevel level [] are.each).most in omega arith
leaf_few (level ∷ next ∷ below) leaf one are known = absurd (omega arith)

pub leaf_of_top : (levels : List Level) (leaf : ℕ) → length levels < 2 → top ≡ path_of (leaf_node (numbers_of levels) leaf)
leaf_of_top [] leaf one = refl
leaf_of_top (level ∷ []) leaf one = refl
leaf_of_top (level ∷ next ∷ below) leaf one = absurd (omega arith)

pub trib_of_top : (levels : List Level) (leaf : ℕ) → length levels < 2 → leaf ≡ leaf_trib (numbers_of levels) leaf
trib_of_top [] leaf one = refl
trib_of_top (level ∷ []) leaf one = refl
trib_of_top (level ∷ next ∷ below) leaf one = absurd (omega arith)

-- the steps to the node are those of its path, as there are few levels
pub leaf_steps : (levels : List Level) (leaf : ℕ) → length levels ≤ 3 → steps_of (path_of (leaf_node (numbers_of levels) leaf)) ≡ leaf_node (numbers_of levels) leaf
leaf_steps [] leaf few = refl
leaf_steps (level ∷ []) leaf few = refl
leaf_steps (level ∷ next ∷ []) leaf few = refl
leaf_steps (level ∷ next ∷ last ∷ []) leaf few = refl
leaf_steps (level ∷ next ∷ last ∷ more ∷ below) leaf few = absurd (omega arith)

-- ---- several levels

-- the levels below the top
pub are_below : (levels : List Level) → 2 ≤ length levels → AreLevels levels → AreLevels (take (length levels - 1) (drop 1 levels))
are_below levels more are = subst AreLevels (sym (below_top levels)) (rest levels more are)
  where
    rest : (levels : List Level) → 2 ≤ length levels → AreLevels levels → AreLevels (drop 1 levels)
    rest [] more are = absurd (omega arith)
    rest (level ∷ below) more are = record { some = omega arith; few = (let few = are.few in omega arith); each = All-tail IsLevel level below are.each; stores_below = All-drop IsElastic 1 below are.stores_below }

pub each_below : (levels : List Level) → All IsLevel levels → All IsLevel (take (length levels - 1) (drop 1 levels))
each_below levels each = subst (All IsLevel) (sym (below_top levels)) (All-drop IsLevel 1 levels each)

-- a leaf stands below one of the top's few tributaries, as a leaf of the levels below
pub record IsBelow (levels : List Level) (w leaf : ℕ) : Type 0 where
  pub few : leaf / w + 1 ≤ 7
  pub known : leaf % w < width (numbers_of (take (length levels - 1) (drop 1 levels)))

pub leaf_below : (levels : List Level) (w leaf : ℕ) → 2 ≤ length levels → AreLevels levels → leaf < width (numbers_of levels)
    → w ≡ width (numbers_of (take (length levels - 1) (drop 1 levels))) → IsBelow levels w leaf
leaf_below [] w leaf more are known wide = absurd (omega arith)
leaf_below (level ∷ below) w leaf more are known wide =
    let wide' : w ≡ width (numbers_of below) = wide ∙ ap (λ ls. width (numbers_of ls)) (below_top (level ∷ below)) in
    let inside : leaf < level.tribs * w = subst (λ n. leaf < level.tribs * n) (sym wide') known in
    let most = (All-head IsLevel level below are.each).most in
    record {
      few = omega (arith, leaf-tributary level.tribs w leaf inside);
      known = subst (λ n. leaf % w < n) wide (leaf-below level.tribs w leaf inside);
    }

-- the path of its node has one step more
node_by : (levels : List Level) (leaf : ℕ) → 2 ≤ length levels → length levels ≤ 3
    → (node : Path) → node ≡ path_of (leaf_node (numbers_of (drop 1 levels)) (leaf % width (numbers_of (drop 1 levels))))
    → record { depth = node.depth + 1; first = suc (leaf / width (numbers_of (drop 1 levels))); second = node.first } ≡ path_of (leaf_node (numbers_of levels) leaf)
node_by [] leaf more few node is = absurd (omega arith)
node_by (level ∷ []) leaf more few node is = absurd (omega arith)
node_by (level ∷ next ∷ []) leaf more few node is =
    ap (λ (n : Path). record { depth = n.depth + 1; first = suc (leaf / width (numbers_of (next ∷ []))); second = n.first }) is
node_by (level ∷ next ∷ last ∷ []) leaf more few node is =
    ap (λ (n : Path). record { depth = n.depth + 1; first = suc (leaf / width (numbers_of (next ∷ last ∷ []))); second = n.first }) is
node_by (level ∷ next ∷ last ∷ further ∷ below) leaf more few node is = absurd (omega arith)

pub leaf_node_is : (levels : List Level) (w leaf : ℕ) (node : Path) → 2 ≤ length levels → length levels ≤ 3
    → w ≡ width (numbers_of (take (length levels - 1) (drop 1 levels))) → node ≡ path_of (leaf_node (numbers_of (take (length levels - 1) (drop 1 levels))) (leaf % w))
    → record { depth = node.depth + 1; first = leaf / w + 1; second = node.first } ≡ path_of (leaf_node (numbers_of levels) leaf)
leaf_node_is levels w leaf node more few wide is =
    let below : take (length levels - 1) (drop 1 levels) ≡ drop 1 levels = below_top levels in
    let wide' : w ≡ width (numbers_of (drop 1 levels)) = wide ∙ ap (λ ls. width (numbers_of ls)) below in
    let next : leaf / w + 1 ≡ suc (leaf / w) = omega arith in
    ap (λ n. record { depth = node.depth + 1; first = n; second = node.first }) (next ∙ ap (λ v. suc (leaf / v)) wide')
    ∙ node_by levels leaf more few node (is ∙ ap (λ ls. path_of (leaf_node (numbers_of ls) (leaf % w))) below ∙ ap (λ v. path_of (leaf_node (numbers_of (drop 1 levels)) (leaf % v))) wide')
