-- What a whole chain of senders is made of.
use Rattle.std.proofs.Common.{◌≡◌, ℕ, zero, suc, ◌+◌, ◌*◌, ◌/◌, ◌%◌, ◌<◌, ◌≤◌, Bool, true, false, ◌&&◌, cond, eqb, leb, le-leb, List, [], ◌∷◌, ◌++◌, All, length, map, refl, sym, ap, ◌∙◌, subst, arith, append_assoc, Option, Some, None, slice_get, inl, inr}
use Rattle.std.specs.Prelude.{flat_map}
use Rattle.std.specs.List.{range_with_len}
use Rattle.std.proofs.lemmas.Bool.{cases_Bool}
use Rattle.std.proofs.lemmas.List.{append-nil}
use Rattle.std.proofs.lemmas.List.Elements.{All-append}
use Rattle.pdh_shape.specs.declared.place.Level.{Level}
use Rattle.pdh_shape.specs.declared.place.Path.{Path}
use Rattle.pdh_shape.specs.declared.role.Service.{Service}
use Rattle.pdh_shape.specs.Frame.{FrameShape, idle}
use Rattle.pdh_line.specs.Sending.{Mode, HasStores, given, line_bit}
use Rattle.pdh_nesting.proofs.SameInputs.{line_bit-same_inputs}
use Rattle.pdh_nesting.specs.Chains.{width, AreFrames}
use Rattle.pdh_line.specs.Nodes.{child, Counts, given_at}
use Rattle.pdh_nesting.specs.Sending.{chain_line, given_below}
use Rattle.pdh_line.specs.Paths.{steps_of}
use Rattle.pdh_line.proofs.LeafNumbers.{leaf-tributary, leaf-below, leaf-number}
use Rattle.pdh_levels.specs.Levels.{level_at}
use Rattle.pdh_tx.specs.Meaning.{Plan, Supply, Meaning, NodeFrame, IsNodeOf}
use Rattle.pdh_slips.specs.declared.slip.Slip.{Slip}
use Rattle.pdh_tx.specs.declared.tx.TxStop.{TxStop}
use Rattle.pdh_tx.specs.Leaf.{leaf_meaning}
use Rattle.pdh_tx.specs.Node.{any_leaf, given_by, line_of, source_of, node_frame, meaning_with, node_obstacle, node_slips, node_meaning}
use Rattle.pdh_tx.specs.Locked.{locked_obstacle, locked_slips, locked_meaning, multiplexer_of}
use Rattle.pdh_tx.specs.NodeState.{ArePlaced}
use Rattle.pdh_events.specs.Chain.{child_path}
use Rattle.pdh_chain.specs.Trees.{sender_of, senders_below, AreLevelsOf}
use Rattle.pdh_chain.specs.Muxes.{plan_with}
use Rattle.pdh_chain.proofs.TreeLeaves.{Meanings, tributary, told_below}
use Rattle.pdh_chain.proofs.LevelNumbers.{EachLevelOf, each_level}
use Rattle.pdh_chain.proofs.Numbered.{found_at, stands_at, child_steps, IsAt, child_at}

-- ---- a node's tributaries

pub leaf-is : (path : Path) (first : ℕ) → sender_of [] path first ≡ leaf_meaning first
unfolding sender_of
leaf-is path first = refl

pub node-is : (s : FrameShape) (below : List FrameShape) (path : Path) (first : ℕ) → sender_of (s ∷ below) path first ≡ multiplexer_of s path (senders_below below path first s.tribs)
unfolding sender_of
node-is s below path first = refl

-- by its kind
pub node-locked : (s : FrameShape) (below : List FrameShape) (path : Path) (first : ℕ) → eqb s.copies 0 ≡ true → sender_of (s ∷ below) path first ≡ locked_meaning s path (senders_below below path first s.tribs)
node-locked s below path first locked =
    let ms : List Meaning = senders_below below path first s.tribs in
    node-is s below path first ∙ ap (λ b. cond b (locked_meaning s path ms) (node_meaning s path ms)) locked

pub node-stores : (s : FrameShape) (below : List FrameShape) (path : Path) (first : ℕ) → HasStores s → sender_of (s ∷ below) path first ≡ node_meaning s path (senders_below below path first s.tribs)
node-stores s below path first stores =
    let ms : List Meaning = senders_below below path first s.tribs in
    node-is s below path first ∙ ap (λ b. cond b (locked_meaning s path ms) (node_meaning s path ms)) stores

-- what stands in the way of a bit of either kind
abbrev obstacle_in : FrameShape → Path → List Meaning → Plan → (ℕ → ℕ) → ℕ → Option TxStop
obstacle_in s path ms = cond (eqb s.copies 0) (locked_obstacle s path ms) (node_obstacle s path ms)

-- the slips in making it
abbrev slips_in : FrameShape → Path → List Meaning → Plan → ℕ → List Slip
slips_in s path ms = cond (eqb s.copies 0) (locked_slips s ms) (node_slips s path ms)

-- and what it means otherwise
multiplexer-is : (s : FrameShape) (path : Path) (ms : List Meaning) → multiplexer_of s path ms ≡ meaning_with s path ms (λ plan j x. given s j (plan.counts path j) x) (obstacle_in s path ms) (slips_in s path ms)
multiplexer-is s path ms = elim (cases_Bool (eqb s.copies 0)) [
  | inl locked ↦ rw locked refl
  | inr stores ↦ rw stores refl
]

pub node-means : (s : FrameShape) (below : List FrameShape) (path : Path) (first : ℕ)
    → sender_of (s ∷ below) path first ≡ meaning_with s path (senders_below below path first s.tribs) (λ plan j x. given s j (plan.counts path j) x) (obstacle_in s path (senders_below below path first s.tribs)) (slips_in s path (senders_below below path first s.tribs))
node-means s below path first = node-is s below path first ∙ multiplexer-is s path (senders_below below path first s.tribs)

-- what chains of senders mean
abbrev pub senders : Meanings Meaning
senders = record {
  leaves = λ m. m.leaves;
  any = any_leaf;
  of = sender_of;
  none = λ k. refl;
  more = λ m ms k. refl;
  leaf = λ path first k. ap (λ (m : Meaning). m.leaves k) (leaf-is path first);
  node = λ s below path first k. ap (λ (m : Meaning). m.leaves k) (node-means s below path first);
}

-- each tributary that is a node stands below its node
pub placed : (below : List FrameShape) (path : Path) (first n : ℕ) → path.depth + suc (length below) ≤ 3 → ArePlaced path (senders_below below path first n)
unfolding sender_of
placed below path first n few j m node at is = go below (found_at (tributary senders below path first) 0 n j m at).1 few
  where
    go : (below : List FrameShape) → m ≡ tributary senders below path first (0 + j) → path.depth + suc (length below) ≤ 3 → steps_of node.path ≡ steps_of path ++ (j + 1) ∷ []
    go [] same few = absurd (let none : None ≡ Some node = sym (ap (λ (m : Meaning). slice_get m.nodes 0) same) ∙ is in cc)
    go (s ∷ below) same few =
        let there : Some (node_frame s (child_path path (0 + j))) ≡ Some node = sym (ap (λ (m : Meaning). slice_get m.nodes 0) (same ∙ node-means s below (child_path path (0 + j)) (first + (0 + j) * width (s ∷ below)))) ∙ is in
        let here : node_frame s (child_path path (0 + j)) ≡ node = cc in
        ap (λ (n : NodeFrame). steps_of n.path) (sym here) ∙ ap (λ i. steps_of (child_path path i)) (omega arith) ∙ child_steps path j (omega (arith, few))

-- ---- the line

module _ (mode : Mode) (scheduled : List ℕ → ℕ) (counts : Counts) (lists : ℕ → ℕ → Bool) where
  -- whatever its own service bits say
  pub line_is : (shapes : List FrameShape) (path : Path) (steps : List ℕ) (first : ℕ) (says : ℕ → Service) (x : ℕ) → AreFrames shapes → IsAt shapes path steps
      → (sender_of shapes path first).line (record { plan = plan_with mode scheduled counts; lists = lists; says = says }) x ≡ chain_line mode shapes counts lists says steps first x
  unfolding sender_of chain_line
  line_is [] path steps first says x are at = refl
  line_is (s ∷ below) path steps first says x are at =
      let w : ℕ = width below in
      let supply : Supply = record { plan = plan_with mode scheduled counts; lists = lists; says = says } in
      let idles : Supply = record { plan = plan_with mode scheduled counts; lists = lists; says = λ n. idle } in
      ap (λ (m : Meaning). m.line supply x) (node-means s below path first)
      ∙ ap (λ (c : ℕ → ℕ → ℕ). line_bit s (record { mode = mode; counts = c; inputs = (source_of path (senders_below below path first s.tribs) supply).inputs; says = says }) x) (ap counts at.0)
      ∙ line_bit-same_inputs s mode (counts steps) (source_of path (senders_below below path first s.tribs) supply).inputs (λ j. chain_line mode below counts lists (λ n. idle) (child steps j) (first + j * w)) says are.0 are.1
      (λ j i known.
      let here : 0 + j ≡ j = omega arith in
      ap (λ o. line_of o idles i) (stands_at (tributary senders below path first) 0 s.tribs j known ∙ ap (λ i. Some (tributary senders below path first i)) here)
      ∙ line_is below (child_path path j) (child steps j) (first + j * w) (λ n. idle) i are.2 (child_at s below path steps j at))
      x

-- ---- what the leaves give

-- how many bits leaf k has given by the time when x bits of the line are made
pub given_is : (mode : Mode) (scheduled : List ℕ → ℕ) (counts : Counts) (shapes : List FrameShape) (path : Path) (steps : List ℕ) (first x k : ℕ) → IsAt shapes path steps → k < width shapes
    → (sender_of shapes path first).given (plan_with mode scheduled counts) x (first + k) ≡ given_below shapes counts steps x k
unfolding sender_of given_at
given_is mode scheduled counts [] path steps first x k at h = refl
given_is mode scheduled counts (s ∷ below) path steps first x k at h =
    let w : ℕ = width below in
    let j : ℕ = k / w in
    let plan : Plan = plan_with mode scheduled counts in
    let number : first + j * w + k % w ≡ first + k = leaf-number first w k in
    let low : k % w < w = leaf-below s.tribs w k h in
    let made : ℕ → ℕ = λ i. given s i (counts (steps_of path) i) x in
    ap (λ (m : Meaning). m.given plan x (first + k)) (node-means s below path first)
    ∙ told_below senders (first + k) (λ m n. m.given plan n (first + k)) (λ ms made. given_by ms plan made (first + k)) (λ m ms made. refl) s.tribs below path first j (k % w) made (leaf-tributary s.tribs w k h) low number
    ∙ ap (λ i. (tributary senders below path first j).given plan (made j) i) (sym number)
    ∙ given_is mode scheduled counts below (child_path path j) (child steps j) (first + j * w) (made j) (k % w) (child_at s below path steps j at) low
    ∙ ap (λ (st : List ℕ). given_below below counts (child steps j) (given s j (counts st j) x) (k % w)) at.0

-- ---- the levels of its nodes

all_flat : {X Y : Type 0} (P : Y → Type 0) (g : X → List Y) (f : ℕ → X) (a n : ℕ) → ((j : ℕ) → a ≤ j → j < a + n → All P (g (f j))) → All P (flat_map g (map f (range_with_len a n)))
all_flat P g f a zero each = λ k d h. absurd (omega arith)
all_flat P g f a (suc n) each =
    All-append P (g (f a)) (flat_map g (map f (range_with_len (a + 1) n))) (each a (omega arith) (omega arith)) (all_flat P g f (a + 1) n (λ j l h. each j (omega arith) (omega arith)))

all_more : {X : Type 0} (P : X → Type 0) (x : X) (xs : List X) → P x → All P xs → All P (x ∷ xs)
all_more P x xs here rest zero d h = here
all_more P x xs here rest (suc k) d h = rest k d (omega arith)

-- the levels from a node's on are these
abbrev pub Reaches : List Level → List ℕ → List Level → Type 0
Reaches levels steps rest = (more : List ℕ) → level_at levels (steps ++ more) ≡ level_at rest more

child_reaches : (levels : List Level) (steps : List ℕ) (level : Level) (rest : List Level) (j : ℕ) → j < level.tribs → Reaches levels steps (level ∷ rest) → Reaches levels (child steps j) rest
child_reaches levels steps level rest j known reaches more =
    ap (level_at levels) (append_assoc steps (suc j ∷ []) more) ∙ reaches (suc j ∷ more)
    ∙ ap (λ b. cond b (level_at rest more) None) (both (leb 1 (suc j)) (leb (suc j) level.tribs) (le-leb 1 (suc j) (omega arith)) (le-leb (suc j) level.tribs (omega arith)))
  where
    both : (a b : Bool) → a ≡ true → b ≡ true → (a && b) ≡ true
    both true true p q = refl
    both true false p q = cc
    both false b p q = cc

-- where each level has the numbers of its frame, each node of a chain is one of a chain with these levels
nodes_each : (levels rest : List Level) (shapes : List FrameShape) (path : Path) (steps : List ℕ) (first : ℕ) → IsAt shapes path steps → EachLevelOf shapes rest → Reaches levels steps rest
    → All (IsNodeOf levels) (sender_of shapes path first).nodes
unfolding sender_of
nodes_each levels rest [] path steps first at are reaches = λ k d h. absurd (omega arith)
nodes_each levels [] (s ∷ below) path steps first at are reaches = absurd are
nodes_each levels (level ∷ rest) (s ∷ below) path steps first at are reaches =
    let tribs : level.tribs ≡ s.tribs = are.0.tribs in
    subst (λ (m : Meaning). All (IsNodeOf levels) m.nodes) (sym (node-means s below path first))
    (all_more (IsNodeOf levels) (node_frame s path) (flat_map (λ (m : Meaning). m.nodes) (senders_below below path first s.tribs))
    (record {
      level = level;
      at = ap (level_at levels) (at.0 ∙ sym (append-nil steps)) ∙ reaches [];
      numbers = are.0;
    })
    (all_flat (IsNodeOf levels) (λ (m : Meaning). m.nodes) (tributary senders below path first) 0 s.tribs
    (λ j l h. nodes_each levels rest below (child_path path j) (child steps j) (first + j * width below) (child_at s below path steps j at) are.1
    (child_reaches levels steps level rest j (omega (arith, h, tribs)) reaches))))

pub nodes_in : (levels rest : List Level) (shapes : List FrameShape) (path : Path) (steps : List ℕ) (first : ℕ) → IsAt shapes path steps → AreLevelsOf shapes rest → Reaches levels steps rest
    → All (IsNodeOf levels) (sender_of shapes path first).nodes
nodes_in levels rest shapes path steps first at are reaches = nodes_each levels rest shapes path steps first at (each_level shapes rest are) reaches
