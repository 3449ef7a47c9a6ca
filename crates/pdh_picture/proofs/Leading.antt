-- Cells beside each other of one class.
use Rattle.std.proofs.Common.{◌≡◌, ◌<◌, ◌-◌, ℕ, suc, List, take, ◌∷◌, length, drop, get_or, arith}
use Rattle.std.proofs.Math.Seq.{drop-cons}
use Rattle.std.proofs.lemmas.Grind.{common_steps}
use Rattle.pdh_picture.specs.Runs.{leading}

-- a list that begins with a cell of a class
starts : (class : ℕ) (rest : List ℕ) → 0 < leading class (class ∷ rest)
starts class rest = grind (arith, common_steps)

-- the cells from one on begin with one of its class
pub some_leading : (classes : List ℕ) (start : ℕ) → start < length classes
    → 0 < leading (get_or classes start 0) (take (length classes - start) (drop start classes))
some_leading classes start some =
    let whole : take (length classes - start) (drop start classes) ≡ drop start classes = grind (arith, common_steps) in
    rw (whole, drop-cons classes start 0 some) (starts (get_or classes start 0) (drop (suc start) classes))
