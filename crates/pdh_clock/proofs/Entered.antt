-- What a leaf enters: the bits of the frames that its node begins.
use Rattle.std.proofs.Common.{◌≡◌, ◌==◌, ℕ, zero, suc, ◌+◌, ◌-◌, ◌/◌, ◌%◌, ◌<◌, ◌≤◌, cond, true, ◌*◌, List, [], ◌∷◌, ◌++◌, length, Some, refl, ap, sym, ◌∙◌, subst, arith, append-nil, append_assoc}
use Rattle.std.proofs.Math.Dec.{eqb-suc-zero}
use Rattle.pdh_shape.specs.OwnNumbers.{lead}
use Rattle.pdh_shape.specs.declared.place.Level.{Level}
use Rattle.pdh_shape.specs.declared.place.Path.{Path}
use Rattle.pdh_line.specs.Paths.{steps_of, path_of}
use Rattle.pdh_line.specs.Progress.{arrived, begun_by, taken_by, entered_by, by_stores}
use Rattle.pdh_line.specs.Progress.Stores.{Elastic, Locked}
use Rattle.pdh_line.specs.Nodes.{width, child, Counts, begun_at, entered_at, leaf_node, leaf_trib}
use Rattle.pdh_line.proofs.LeafNumbers.{leaf-tributary, leaf-below}
use Rattle.pdh_clock.specs.Row.{Row}
use Rattle.pdh_clock.specs.Contents.{counts}
use Rattle.pdh_levels.specs.Levels.{IsElastic, AreLevels, level_numbers, numbers_of, level_at, stores_at}
use Rattle.pdh_levels.proofs.LevelLaws.{stores_is, step_is}
use Rattle.pdh_levels.proofs.LeafLaws.{leaf_steps}
use Rattle.pdh_clock.proofs.Begins.{level_below}

-- ---- the node of a leaf

-- the level of that node, of which the leaf is a tributary
pub record HasLeaf (levels : List Level) (leaf : ℕ) : Type 0 where
  pub level : Level
  pub at : level_at levels (leaf_node (numbers_of levels) leaf) ≡ Some level
  pub tributary : leaf_trib (numbers_of levels) leaf < level.tribs

pub has_leaf : (levels : List Level) (leaf : ℕ) → 1 ≤ length levels → leaf < width (numbers_of levels) → HasLeaf levels leaf
has_leaf [] leaf some h = absurd (omega arith)
has_leaf (level ∷ []) leaf some h = record { level = level; at = refl; tributary = omega arith }
has_leaf (level ∷ next ∷ below) leaf some h =
    let w : ℕ = width (numbers_of (next ∷ below)) in
    let rest = has_leaf (next ∷ below) (leaf % w) (omega arith) (leaf-below level.tribs w leaf h) in
    record {
      level = rest.level;
      at = step_is level (next ∷ below) (leaf / w) (leaf_node (numbers_of (next ∷ below)) (leaf % w)) (leaf-tributary level.tribs w leaf h) ∙ rest.at;
      tributary = rest.tributary;
    }

-- the place of a leaf, as it was found
pub record IsFound (levels : List Level) (leaf : ℕ) (node : Path) (trib : ℕ) : Type 0 where
  pub steps : steps_of node ≡ leaf_node (numbers_of levels) leaf
  pub trib_is : trib ≡ leaf_trib (numbers_of levels) leaf
  pub level : Level
  pub at : level_at levels (steps_of node) ≡ Some level
  pub tributary : trib < level.tribs

pub is_found : (levels read : List Level) (leaf : ℕ) (node : Path) (trib : ℕ) → AreLevels levels → leaf < width (numbers_of levels) → read ≡ levels
    → node ≡ path_of (leaf_node (numbers_of read) leaf) → trib ≡ leaf_trib (numbers_of read) leaf → IsFound levels leaf node trib
is_found levels read leaf node trib are known same is at =
    let steps : steps_of node ≡ leaf_node (numbers_of levels) leaf =
    ap steps_of is ∙ ap (λ ls. steps_of (path_of (leaf_node (numbers_of ls) leaf))) same ∙ leaf_steps levels leaf are.few in
    let has = has_leaf levels leaf are.some known in
    let trib_is : trib ≡ leaf_trib (numbers_of levels) leaf = at ∙ ap (λ ls. leaf_trib (numbers_of ls) leaf) same in
    record {
      steps = steps;
      trib_is = trib_is;
      level = has.level;
      at = ap (level_at levels) steps ∙ has.at;
      tributary = subst (λ t. t < has.level.tribs) (sym trib_is) has.tributary;
    }

-- a leaf has a store where its node has stores
pub found_store : (levels : List Level) (leaf : ℕ) (node : Path) (trib : ℕ) (level : Level) → IsFound levels leaf node trib → level_at levels (steps_of node) ≡ Some level
    → IsElastic level → trib < stores_at levels (steps_of node)
found_store levels leaf node trib level found at elastic =
    let same : found.level ≡ level = same_some found.level level (sym found.at ∙ at) in
    let tributary : trib < level.tribs = subst (λ (l : Level). trib < l.tribs) same found.tributary in
    omega (arith, stores_is levels (steps_of node) level elastic at)
  where
    same_some : (a b : Level) → Some a ≡ Some b → a ≡ b
    same_some a b h = cc

-- ---- its bits

-- the bits of the frames that its node begins
pub entered_node : (levels : List Level) (counts : Counts) (path : List ℕ) (x leaf : ℕ) (level : Level) → level_at levels (leaf_node (numbers_of levels) leaf) ≡ Some level
    → entered_at (numbers_of levels) counts path x leaf
    ≡ entered_by (level_numbers level) (counts (path ++ leaf_node (numbers_of levels) leaf) (leaf_trib (numbers_of levels) leaf))
    (begun_at (numbers_of levels) counts path x (leaf_node (numbers_of levels) leaf))
unfolding entered_at
entered_node [] counts path x leaf level at = cc
entered_node (first ∷ []) counts path x leaf level at =
    let same : first ≡ level = cc in
    ap (λ (l : Level). entered_by (level_numbers l) (counts path leaf) (begun_by first.len x)) same
    ∙ ap (λ p. entered_by (level_numbers level) (counts p leaf) (begun_by first.len x)) (sym (append-nil path))
entered_node (first ∷ next ∷ below) counts path x leaf level at =
    let w : ℕ = width (numbers_of (next ∷ below)) in
    let j : ℕ = leaf / w in
    let node : List ℕ = leaf_node (numbers_of (next ∷ below)) (leaf % w) in
    let trib : ℕ = leaf_trib (numbers_of (next ∷ below)) (leaf % w) in
    let made : ℕ → ℕ = λ i. taken_by (level_numbers first) i (counts path i) x in
    let index : j ≡ suc j - 1 = omega arith in
    entered_node (next ∷ below) counts (child path j) (made j) (leaf % w) level (level_below first (next ∷ below) (suc j) node level at)
    ∙ ap (λ p. entered_by (level_numbers level) (counts p trib) (begun_at (numbers_of (next ∷ below)) counts (child path j) (made j) node)) (append_assoc path (suc j ∷ []) node)
    ∙ ap (λ i. entered_by (level_numbers level) (counts (path ++ suc j ∷ node) trib) (begun_at (numbers_of (next ∷ below)) counts (child path j) (made i) node)) index

-- without stores so many of each frame
pub enter_locked : (level : Level) (counts : ℕ → ℕ) (n : ℕ) → level.locked ≡ true → n * level.low ≡ entered_by (level_numbers level) counts n
enter_locked level counts n locked =
    sym (ap (λ b. by_stores (cond b (Locked (λ j t. 0)) Elastic) (cond (n == 0) 0 (lead + arrived counts n)) (λ reads. n * level.low)) locked)

enter_elastic : (level : Level) (counts : ℕ → ℕ) (n : ℕ) → IsElastic level → entered_by (level_numbers level) counts n ≡ cond (n == 0) 0 (lead + arrived counts n)
enter_elastic level counts n elastic =
    ap (λ b. by_stores (cond b (Locked (λ j t. 0)) Elastic) (cond (n == 0) 0 (lead + arrived counts n)) (λ reads. n * level.low)) elastic

-- through a store none where the node begins no frame, else the lead and what arrives
pub enter_none : (level : Level) (counts : ℕ → ℕ) (n : ℕ) → IsElastic level → n ≡ 0 → 0 ≡ entered_by (level_numbers level) counts n
enter_none level counts n elastic none = ap (λ k. cond (k == 0) 0 (lead + arrived counts k)) (sym none) ∙ sym (enter_elastic level counts n elastic)

pub enter_some : (level : Level) (counts : ℕ → ℕ) (n total : ℕ) → IsElastic level → (n ≡ 0 → ⊥) → total ≡ arrived counts n → lead + total ≡ entered_by (level_numbers level) counts n
enter_some level counts zero total elastic other sum = absurd (other refl)
enter_some level counts (suc n) total elastic other sum =
    ap (λ k. lead + k) sum ∙ sym (ap (λ b. cond b 0 (lead + arrived counts (suc n))) (eqb-suc-zero n)) ∙ sym (enter_elastic level counts (suc n) elastic)

-- so the sum of a leaf is what it enters
pub entered_is : (levels : List Level) (rows : List Row) (x leaf begun n : ℕ) (node : Path) (trib : ℕ) (level : Level) → IsFound levels leaf node trib
    → level_at levels (steps_of node) ≡ Some level
    → begun ≡ begun_at (numbers_of levels) (counts rows) [] x (steps_of node) → n ≡ entered_by (level_numbers level) (counts rows (steps_of node) trib) begun
    → n ≡ entered_at (numbers_of levels) (counts rows) [] x leaf
entered_is levels rows x leaf begun n node trib level found at begins sum =
    sum ∙ ap (entered_by (level_numbers level) (counts rows (steps_of node) trib)) (begins ∙ ap (begun_at (numbers_of levels) (counts rows) [] x) found.steps)
    ∙ ap (λ p. entered_by (level_numbers level) (counts rows p trib) (begun_at (numbers_of levels) (counts rows) [] x (leaf_node (numbers_of levels) leaf))) found.steps
    ∙ ap (λ t. entered_by (level_numbers level) (counts rows (leaf_node (numbers_of levels) leaf) t) (begun_at (numbers_of levels) (counts rows) [] x (leaf_node (numbers_of levels) leaf))) found.trib_is
    ∙ sym (entered_node levels (counts rows) [] x leaf level (ap (level_at levels) (sym found.steps) ∙ at))
