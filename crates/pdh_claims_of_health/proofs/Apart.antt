-- How far apart codes are drawn.
use Rattle.std.proofs.Common.{◌≡◌, ℕ, suc, ◌+◌, ◌≤◌, Bool, true, false, Option, Some, None, List, [], ◌∷◌, get_or, slice_get, IfSome, refl, sym, subst, arith, lit≤}
use Rattle.std.specs.Prelude.{nat_le, if◌then◌else◌}
use Rattle.std.proofs.lemmas.Bool.{leb-true}
use Rattle.pdh_cells.specs.declared.cell.Cell.{Cell}
use Rattle.pdh_cells.specs.declared.cell.Code.{Code}
use Rattle.pdh_cells.specs.declared.rows.DrawnCode.{DrawnCode}
use Rattle.pdh_cells.specs.Contents.{blank}
use Rattle.pdh_cells.specs.Rows.{drawn_by, codes_drawn}

-- each of them is in this cell or behind it
abbrev AreFrom : ℕ → List DrawnCode → Type 0
AreFrom low [] = Unit {0}
AreFrom low (one ∷ others) = (low ≤ one.cell) × AreFrom low others

one_more : (low at free : ℕ) (code : Option Code) (others behind : List DrawnCode) → low ≤ free → AreFrom low others → (low ≤ at + 5 → AreFrom low behind)
    → AreFrom low (drawn_by at free code others behind)
one_more low at free None others behind le a b = a
one_more low at free (Some code) others behind le a b = by_test (nat_le free at) (leb-true free at)
  where
    by_test : (test : Bool) → (test ≡ true → free ≤ at) → AreFrom low (if test then record { cell = at; code = code } ∷ behind else others)
    by_test true is = (omega (arith, le, is refl), b (omega (arith, le, is refl)))
    by_test false is = a

-- no code is drawn in a cell that is taken
free_from : (low at free : ℕ) (cells : List Cell) → low ≤ free → AreFrom low (codes_drawn at free cells)
free_from low at free [] le = tt
free_from low at free (cell ∷ cells) le =
    one_more low at free cell.code _ _ le (free_from low (suc at) free cells le) (λ more. free_from low (suc at) (at + 5) cells more)

second : (one : DrawnCode) (others : List DrawnCode) → AreFrom 5 others → IfSome (slice_get (one ∷ others) 1) (λ drawn. 5 ≤ drawn.cell)
second one [] from = tt
second one (other ∷ others) from = from.0

pub behind_first : (cells : List Cell) (code : Code) → (get_or cells 0 blank).code ≡ Some code
    → IfSome (slice_get (codes_drawn 0 0 cells) 1) (λ drawn. 5 ≤ drawn.cell)
behind_first [] code is = tt
behind_first (cell ∷ cells) code is =
    subst (λ (own : Option Code). IfSome (slice_get (drawn_by 0 0 own (codes_drawn 1 0 cells) (codes_drawn 1 5 cells)) 1) (λ drawn. 5 ≤ drawn.cell)) (sym is)
    (second (record { cell = 0; code = code }) _ (free_from 5 1 5 cells (lit≤ tt)))
