-- What more bits give a leaf, and that they bring no event.
use Rattle.std.specs.Prelude.{◌≡◌, ℕ, Bool, true, false, List, [], ◌∷◌, ◌++◌, ◌==◌, cond, refl}
use Rattle.std.proofs.lemmas.Bool.{eq-eqb}
use Rattle.std.proofs.Common.{sym, ◌∙◌}
use Rattle.pdh_edge.specs.Ports.{only, for_leaf}
use Rattle.pdh_events.specs.laws.QuietLaws.{IsQuiet}
use Rattle.pdh_rx.specs.Tail.{tail_meaning}

-- with one more bit the leaf has got one more
pub tail_only : (leaf : ℕ) (line : List Bool) (bit : Bool) (k : ℕ) → (tail_meaning leaf).got (line ++ bit ∷ []) k ≡ (tail_meaning leaf).got line k ++ only leaf bit k
tail_only leaf line bit k = go (k == leaf)
  where
    go : (here : Bool) → cond here (line ++ bit ∷ []) [] ≡ cond here line [] ++ cond here (bit ∷ []) []
    go true = refl
    go false = refl

-- with more bits the leaf has got them
pub tail_for_leaf : (leaf : ℕ) (line bits : List Bool) (k : ℕ) → (tail_meaning leaf).got (line ++ bits) k ≡ (tail_meaning leaf).got line k ++ for_leaf leaf bits k
tail_for_leaf leaf line bits k = go (k == leaf)
  where
    go : (here : Bool) → cond here (line ++ bits) [] ≡ cond here line [] ++ cond here bits []
    go true = refl
    go false = refl

-- they bring no event
pub tail_quiet : (leaf : ℕ) (line bits : List Bool) → IsQuiet (tail_meaning leaf).notes line bits
tail_quiet leaf line [] = tt
tail_quiet leaf line (bit ∷ bits) = (refl, tail_quiet leaf (line ++ bit ∷ []) bits)

-- a leaf that isn't its own is another
pub tail_elsewhere : (leaf k : ℕ) → (tail_meaning leaf).leaves k ≡ false → k ≡ leaf → ⊥
tail_elsewhere leaf k elsewhere e = no (sym (eq-eqb k leaf e) ∙ elsewhere)
  where
    no : true ≡ false → ⊥
    no h = cc
