-- An event is shown to one node after another.
use Rattle.std.proofs.Common.{◌≡◌, ℕ, zero, suc, ◌+◌, ◌≤◌, List, [], ◌∷◌, ◌++◌, length, Some, sym, subst, arith, add-one, slice_get, slice_set}
use Rattle.pdh_placed.specs.declared.placed.Placed.{Placed}
use Rattle.pdh_health.specs.declared.plan.NodePlan.{NodePlan}
use Rattle.pdh_health.specs.declared.node.Node.{Node}
use Rattle.pdh_health.specs.Nodes.{StandsFor}
use Rattle.pdh_health.specs.Lines.{own_events, AreInOrder, NodesStandFor}

-- a node was shown an event
abbrev pub Noted : Placed → Node → Node → Type 0
Noted placed old new =
    (rate : ℕ) (plan : NodePlan) (events : List Placed) → StandsFor old rate plan (own_events plan events) → AreInOrder (events ++ placed ∷ [])
    → StandsFor new rate plan (own_events plan (events ++ placed ∷ []))

-- ---- elements of a list, one after another

module _ {X : Type 0} (Step : X → X → Type 0) where
  -- the first n of some elements went a step, and the others are as before
  abbrev pub SteppedFirst : ℕ → List X → List X → Type 0
  SteppedFirst zero olds news = news ≡ olds
  SteppedFirst (suc n) [] [] = Unit {0}
  SteppedFirst (suc n) (old ∷ olds) (new ∷ news) = Step old new × SteppedFirst n olds news
  SteppedFirst (suc n) _ _ = ⊥

  -- the next one
  one_more : (n : ℕ) (olds news : List X) (s s' : X) → SteppedFirst n olds news → slice_get news n ≡ Some s → Step s s' → SteppedFirst (suc n) olds (slice_set news n s')
  one_more zero [] [] s s' f e g = absurd (no e)
    where
      no : slice_get {X = X} [] zero ≡ Some s → ⊥
      no h = cc
  one_more zero [] (x ∷ xs) s s' f e g = cc
  one_more zero (o ∷ os) [] s s' f e g = cc
  one_more zero (o ∷ os) (x ∷ xs) s s' f e g =
      let here : s ≡ o = cc in
      let others : xs ≡ os = cc in
      let P : X → Type 0 = λ v. Step v s' in
      (subst P here g, others)
  one_more (suc n) [] [] s s' f e g = tt
  one_more (suc n) [] (x ∷ xs) s s' f e g = absurd f
  one_more (suc n) (o ∷ os) [] s s' f e g = absurd f
  one_more (suc n) (o ∷ os) (x ∷ xs) s s' f e g = (f.0, one_more n os xs s s' f.1 e g)

-- ---- nodes

-- the first n of some nodes were, and the others are as before
abbrev pub NotedFirst : ℕ → List Node → Placed → List Node → Type 0
NotedFirst n olds placed news = SteppedFirst (Noted placed) n olds news

pub one_more_noted : (i : ℕ) (olds news : List Node) (placed : Placed) (s s' : Node) → NotedFirst i olds placed news → slice_get news i ≡ Some s → Noted placed s s' → NotedFirst (i + 1) olds placed (slice_set news i s')
one_more_noted i olds news placed s s' f e g = subst (λ n. NotedFirst n olds placed (slice_set news i s')) (sym (add-one i)) (one_more (Noted placed) i olds news s s' f e g)

-- all of them
pub all_noted : (n : ℕ) (olds news : List Node) (placed : Placed) → NotedFirst n olds placed news → length olds ≤ n → (rate : ℕ) (plans : List NodePlan) (events : List Placed)
    → NodesStandFor olds rate plans events → AreInOrder (events ++ placed ∷ []) → NodesStandFor news rate plans (events ++ placed ∷ [])
all_noted zero [] [] placed f h rate [] events stand order = tt
all_noted zero [] [] placed f h rate (plan ∷ plans) events stand order = absurd stand
all_noted zero [] (x ∷ xs) placed f h rate plans events stand order = cc
all_noted zero (o ∷ os) news placed f h rate plans events stand order = absurd (omega arith)
all_noted (suc n) [] [] placed f h rate [] events stand order = tt
all_noted (suc n) [] [] placed f h rate (plan ∷ plans) events stand order = absurd stand
all_noted (suc n) [] (x ∷ xs) placed f h rate plans events stand order = absurd f
all_noted (suc n) (o ∷ os) [] placed f h rate plans events stand order = absurd f
all_noted (suc n) (o ∷ os) (x ∷ xs) placed f h rate [] events stand order = absurd stand
all_noted (suc n) (o ∷ os) (x ∷ xs) placed f h rate (plan ∷ plans) events stand order =
    (f.0 rate plan events stand.0 order, all_noted n os xs placed f.1 (omega arith) rate plans events stand.1 order)
