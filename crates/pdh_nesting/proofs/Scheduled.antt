-- Nodes that have the frames that they begin: what holds of all nodes of a chain holds of the top, and of all nodes below each
-- of its tributaries.
use Rattle.std.proofs.Common.{slice_index_or, ◌≡◌, ℕ, zero, suc, ◌+◌, ◌-◌, ◌<◌, ◌≤◌, List, [], ◌∷◌, ◌++◌, map, All, sym, subst, inl, inr, arith, append-nil, append_assoc}
use Rattle.std.specs.List.{flat_map, range_with_len}
use Rattle.std.proofs.lemmas.Bool.{cases_eq}
use Rattle.std.proofs.lemmas.List.{get_or-map, length-map}
use Rattle.pdh_shape.specs.Frame.{FrameShape}
use Rattle.pdh_line.proofs.Parts.{all_left, all_right}
use Rattle.pdh_line.specs.Progress.{FrameNumbers}
use Rattle.pdh_line.specs.Nodes.{nodes_of, child, Counts, begun_at}
use Rattle.pdh_line.specs.Sending.{shape_numbers, begun, given}
use Rattle.pdh_nesting.specs.Chains.{numbers_of}
use Rattle.pdh_nesting.specs.Sending.{AllScheduled}

-- ---- parts of a list

all_of_map : {X Y : Type 0} (P : Y → Type 0) (f : X → Y) (xs : List X) → All P (map f xs) → All (λ x. P (f x)) xs
all_of_map P f xs all k d h = subst P (get_or-map f xs k d (f d) h) (all k (f d) (omega (arith, length-map xs f)))

all_of_range : {X : Type 0} (P : X → Type 0) (f : ℕ → List X) (a n i : ℕ) → a ≤ i → i < a + n → All P (flat_map f (range_with_len a n)) → All P (f i)
all_of_range P f a zero i low high all = absurd (omega arith)
all_of_range P f a (suc n) i low high all = elim (cases_eq i a) [
  | inl same ↦ subst (λ k. All P (f k)) (sym same) (all_left P (f a) (flat_map f (range_with_len (a + 1) n)) all)
  | inr other ↦ all_of_range P f (a + 1) n i (omega arith) (omega arith) (all_right P (f a) (flat_map f (range_with_len (a + 1) n)) all)
]

-- ---- the nodes of a chain

nodes_below : (P : List ℕ → Type 0) (frame : FrameNumbers) (below : List FrameNumbers) (j : ℕ) → j < frame.tribs → All P (nodes_of (frame ∷ below)) → All (λ steps. P (suc j ∷ steps)) (nodes_of below)
nodes_below P frame below j known all =
    all_of_map P (λ steps. suc j ∷ steps) (nodes_of below)
    (all_of_range P (λ step. map (λ path. step ∷ path) (nodes_of below)) 1 frame.tribs (suc j) (omega arith) (omega arith)
    (all_right P ([] ∷ []) (flat_map (λ step. map (λ path. step ∷ path) (nodes_of below)) (range_with_len 1 frame.tribs)) all))

-- ---- schedules

-- the node itself has the frames that it begins,
pub scheduled-top : (s : FrameShape) (below : List FrameShape) (counts : Counts) (frames : List ℕ → ℕ) (path : List ℕ) (x : ℕ) → AllScheduled (s ∷ below) counts frames path x → begun s x ≤ frames path
scheduled-top s below counts frames path x all =
    subst (λ p. begun s x ≤ frames p) (append-nil path) (all 0 [] (omega arith))

-- and so has each below one of its tributaries
pub scheduled-below : (s : FrameShape) (below : List FrameShape) (counts : Counts) (frames : List ℕ → ℕ) (path : List ℕ) (x j : ℕ) → j < s.tribs → AllScheduled (s ∷ below) counts frames path x
    → AllScheduled below counts frames (child path j) (given s j (counts path j) x)
scheduled-below s below counts frames path x j known all k d h =
    let index : suc j - 1 ≡ j = omega arith in
    let steps : List ℕ = slice_index_or (nodes_of (numbers_of below)) k d in
    let here = nodes_below (λ steps. begun_at (numbers_of (s ∷ below)) counts path x steps ≤ frames (path ++ steps)) (shape_numbers s) (numbers_of below) j known all k d h in
    subst (λ p. begun_at (numbers_of below) counts (child path j) (given s j (counts path j) x) steps ≤ frames p) (sym (append_assoc path (suc j ∷ []) steps))
    (subst (λ i. begun_at (numbers_of below) counts (child path j) (given s i (counts path i) x) steps ≤ frames (path ++ suc j ∷ steps)) index here)
