-- What a multiplexer's nodes are, it and those below it.
use Rattle.std.proofs.Common.{◌≡◌, ℕ, zero, suc, List, [], ◌∷◌, subst, arith, Some, slice_get}
use Rattle.std.specs.Prelude.{All, flat_map}
use Rattle.pdh_edge.specs.Ports.{Inputs}
use Rattle.pdh_shape.specs.declared.place.Path.{Path}
use Rattle.pdh_shape.specs.Frame.{FrameShape}
use Rattle.pdh_line.proofs.Parts.{all_left, all_right}
use Rattle.pdh_clock.specs.Contents.{Contents}
use Rattle.pdh_tx.specs.Body.{AreFedBelow}
use Rattle.pdh_tx.specs.Meaning.{IsNodeOf, HoldsAll, Meaning}
use Rattle.pdh_tx.specs.Node.{any_leaf, node_frame}

-- ---- what holds of all nodes of a tree

pub all_first : {X : Type 0} (P : X → Type 0) (x : X) (xs : List X) → All P (x ∷ xs) → P x
all_first P x xs all = all 0 x (omega arith)

all_rest : {X : Type 0} (P : X → Type 0) (x : X) (xs : List X) → All P (x ∷ xs) → All P xs
all_rest P x xs all k d h = all (suc k) d (omega arith)

all_at : {X Y : Type 0} (P : Y → Type 0) (f : X → List Y) (xs : List X) → All P (flat_map f xs) → (j : ℕ) (x : X) → slice_get xs j ≡ Some x → All P (f x)
all_at {X = X} P f [] all j x e = absurd (none e)
  where
    none : slice_get {X = X} [] j ≡ Some x → ⊥
    none h = cc
all_at {Y = Y} P f (y ∷ xs) all zero x e = subst (λ v. All P (f v)) (same e) (all_left P (f y) (flat_map f xs) all)
  where
    same : {Z : Type 0} {a b : Z} → Some a ≡ Some b → a ≡ b
    same h = cc
all_at P f (y ∷ xs) all (suc j) x e = all_at P f xs (all_right P (f y) (flat_map f xs) all) j x e

pub all_below : {X Y : Type 0} (P : Y → Type 0) (f : X → List Y) (own : Y) (xs : List X) → All P (own ∷ flat_map f xs) → (j : ℕ) (x : X) → slice_get xs j ≡ Some x → All P (f x)
all_below P f own xs all = all_at P f xs (all_rest P own (flat_map f xs) all)

-- what a multiplexer's contracts require
pub fed_below : (s : FrameShape) (path : Path) (ms : List Meaning) (schedule : Contents) (inputs : Inputs) → HoldsAll (any_leaf ms) inputs → All (IsNodeOf schedule.levels) (node_frame s path ∷ flat_map (λ (m : Meaning). m.nodes) ms) → AreFedBelow s path ms schedule inputs
fed_below s path ms schedule inputs lists nodes = record {
  lists = lists;
  node = all_first (IsNodeOf schedule.levels) (node_frame s path) (flat_map (λ (m : Meaning). m.nodes) ms) nodes;
  nodes = all_below (IsNodeOf schedule.levels) (λ (m : Meaning). m.nodes) (node_frame s path) ms nodes;
}
