-- Cells beside each other of one class.
use Rattle.std.specs.Prelude.{◌≡◌, ℕ, ◌+◌, ◌==◌, List, drop, get_or}
use Rattle.std.specs.List.{prefix_len}
use Rattle.pdh_picture.specs.declared.runs.Run.{Run}

-- how many cells are of a class before the first of another
abbrev pub leading : ℕ → List ℕ → ℕ
leading class classes = prefix_len (λ own. own == class) classes

-- where the first cell from one on is whose class isn't 0
abbrev pub first_drawn : List ℕ → ℕ → ℕ
first_drawn classes from = from + leading 0 (drop from classes)

-- these are the first cells from one on whose class isn't 0, up to the first of another class
pub record IsRun (classes : List ℕ) (from : ℕ) (run : Run) : Type 0 where
  pub start : run.start ≡ first_drawn classes from
  pub end : run.end ≡ run.start + leading (get_or classes run.start 0) (drop run.start classes)
