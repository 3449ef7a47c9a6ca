-- What is kept of a line's cells.
use Rattle.std.proofs.Common.{◌≡◌, ℕ, suc, ◌+◌, ◌*◌, ◌^◌, ◌≤◌, ◌&&◌, List, [], ◌∷◌, ◌++◌, get_or, replicate, inl, inr, refl, sym, ap, ◌∙◌, subst, arith, add-one}
use Rattle.std.specs.Prelude.{nat_le, if◌then◌else◌}
use Rattle.std.proofs.lemmas.Bool.{cases_lt}
use Rattle.std.proofs.lemmas.List.{get_or-replicate, length-replicate, get_or_past}
use Rattle.pdh_spans.specs.Times.{Span}
use Rattle.pdh_timeline.specs.declared.state.State.{State}
use Rattle.pdh_timeline.specs.declared.state.State.TheVariants.{Out, Ais, Alarm}
use Rattle.pdh_cells.specs.declared.cell.Cell.{Cell}
use Rattle.pdh_cells.specs.declared.cell.Code.{Code}
use Rattle.pdh_cells.specs.declared.cells.Cells.{Cells}
use Rattle.pdh_cells.specs.Lanes.{Lanes, no_marks, with_time, with_block, with_far, with_code}
use Rattle.pdh_cells.specs.Contents.{last_bit, contents, blank, joined, cell_of_state, cell_of_block, cell_of_far, cell_of_code}
use Rattle.pdh_cells.specs.Standing.{AreFrom, AreInOrder, StandsFor, Puts}
use Rattle.pdh_cells.proofs.Halves.{contents_half}
use Rattle.pdh_cells.proofs.Adding.{time_added, block_added, far_added, code_added}

-- ---- nothing has come

pub get_blank : (count cell : ℕ) → get_or (replicate count blank) cell blank ≡ blank
get_blank count cell =
    elim (cases_lt cell count) [
      | inl inside ↦ get_or-replicate count cell blank blank inside
      | inr past ↦ get_or_past (replicate count blank) cell blank (subst (λ n. n ≤ cell) (sym (length-replicate count blank)) past)
    ]

pub new_stands : (kept : Cells) → kept.shift ≡ 0 → kept.cells.items ≡ replicate 4096 blank → StandsFor kept no_marks 0
new_stands kept shift is = record {
  each = λ cell. ap (λ (l : List Cell). get_or l cell blank) is ∙ get_blank 4096 cell;
  narrow = λ other enough. omega (arith, shift);
  in_order = tt;
}

-- ---- codes

order_raised : (end more : ℕ) (codes : List Code) → end ≤ more → AreInOrder end codes → AreInOrder more codes
order_raised end more [] le order = tt
order_raised end more (code ∷ codes) le order = (omega (arith, order.0, le), order.1, order_raised end more codes le order.2)

from_push : (place : ℕ) (codes : List Code) (code : Code) → place ≤ code.place → AreFrom place codes → AreFrom place (codes ++ code ∷ [])
from_push place [] code le from = (le, tt)
from_push place (first ∷ codes) code le from = (from.0, from_push place codes code le from.1)

order_push : (end : ℕ) (codes : List Code) (code : Code) → end ≤ suc code.place → AreInOrder end codes → AreInOrder (suc code.place) (codes ++ code ∷ [])
order_push end [] code le order = (omega arith, tt, tt)
order_push end (first ∷ codes) code le order =
    (omega (arith, order.0, le), from_push first.place codes code (omega (arith, order.0, le)) order.1, order_push end codes code le order.2)

-- ---- later bits

pub raised : (kept : Cells) (lanes : Lanes) (end more : ℕ) → end ≤ more → StandsFor kept lanes end → StandsFor kept lanes more
raised kept lanes end more le stands = record {
  each = stands.each;
  narrow = λ other enough. stands.narrow other (omega (arith, le, enough));
  in_order = order_raised end more lanes.codes le stands.in_order;
}

-- ---- wider fine cells

pub widened : (kept wide : Cells) (lanes : Lanes) (end : ℕ) → StandsFor kept lanes end → wide.shift ≡ kept.shift + 1
    → ((cell : ℕ) → get_or wide.cells.items cell blank ≡ joined (get_or kept.cells.items (2 * cell) blank) (get_or kept.cells.items (2 * cell + 1) blank))
    → ((other : ℕ) → end ≤ 4096 * 2 ^ other → kept.shift + 1 ≤ other) → StandsFor wide lanes end
widened kept wide lanes end stands shift pairs needed = record {
  each = λ cell.
      pairs cell ∙ ap (λ (c : Cell). joined c (get_or kept.cells.items (2 * cell + 1) blank)) (stands.each (2 * cell))
      ∙ ap (λ (c : Cell). joined (contents kept.shift lanes (2 * cell)) c) (stands.each (2 * cell + 1))
      ∙ sym (contents_half kept.shift cell end lanes stands.in_order) ∙ ap (λ s. contents s lanes cell) (sym shift);
  narrow = λ other enough. omega (arith, shift, needed other enough);
  in_order = stands.in_order;
}

-- ---- one thing more, in the fine cells from one to another

added : (kept new : Cells) (lanes more : Lanes) (end now : ℕ) (cell : Cell) (first last : ℕ) → StandsFor kept lanes end → end ≤ now → new.shift ≡ kept.shift
    → ((c : ℕ) → get_or new.cells.items c blank ≡ (if nat_le first c && nat_le c last then joined (get_or kept.cells.items c blank) cell else get_or kept.cells.items c blank))
    → ((c : ℕ) → contents kept.shift more c ≡ (if nat_le first c && nat_le c last then joined (contents kept.shift lanes c) cell else contents kept.shift lanes c))
    → AreInOrder now more.codes → StandsFor new more now
added kept new lanes more end now cell first last stands le shift put is order = record {
  each = λ c.
      put c ∙ ap (λ (old : Cell). if nat_le first c && nat_le c last then joined old cell else old) (stands.each c)
      ∙ sym (is c) ∙ ap (λ s. contents s more c) (sym shift);
  narrow = λ other enough. omega (arith, shift, stands.narrow other (omega (arith, le, enough)));
  in_order = order;
}

same_codes : (state : State) (span : Span) (lanes : Lanes) → lanes.codes ≡ (with_time state span lanes).codes
same_codes Out span lanes = refl
same_codes Ais span lanes = refl
same_codes Alarm span lanes = refl

pub time_stands : (kept new : Cells) (lanes : Lanes) (end now : ℕ) (state : State) (span : Span) (last : ℕ) (cell : Cell) → StandsFor kept lanes end → end ≤ now → new.shift ≡ kept.shift
    → last ≡ last_bit span → cell ≡ cell_of_state state → Puts kept new span.from last cell → StandsFor new (with_time state span lanes) now
time_stands kept new lanes end now state span last cell stands le shift last_is cell_is put =
    let own : Puts kept new span.from (last_bit span) (cell_of_state state) =
    subst (λ (c : Cell). Puts kept new span.from (last_bit span) c) cell_is (subst (λ (n : ℕ). Puts kept new span.from n cell) last_is put) in
    added kept new lanes (with_time state span lanes) end now (cell_of_state state) _ _ stands le shift own (λ c. time_added state kept.shift c span lanes)
    (subst (AreInOrder now) (same_codes state span lanes) (order_raised end now lanes.codes le stands.in_order))

pub block_stands : (kept new : Cells) (lanes : Lanes) (end place : ℕ) (cell : Cell) → StandsFor kept lanes end → end ≤ place + 1 → new.shift ≡ kept.shift
    → cell ≡ cell_of_block → Puts kept new place place cell → StandsFor new (with_block place lanes) (place + 1)
block_stands kept new lanes end place cell stands le shift cell_is put =
    added kept new lanes (with_block place lanes) end (place + 1) cell_of_block _ _ stands le shift (subst (λ (c : Cell). Puts kept new place place c) cell_is put)
    (λ c. block_added kept.shift c place lanes) (order_raised end (place + 1) lanes.codes le stands.in_order)

pub far_stands : (kept new : Cells) (lanes : Lanes) (end place : ℕ) (cell : Cell) → StandsFor kept lanes end → end ≤ place + 1 → new.shift ≡ kept.shift
    → cell ≡ cell_of_far → Puts kept new place place cell → StandsFor new (with_far place lanes) (place + 1)
far_stands kept new lanes end place cell stands le shift cell_is put =
    added kept new lanes (with_far place lanes) end (place + 1) cell_of_far _ _ stands le shift (subst (λ (c : Cell). Puts kept new place place c) cell_is put)
    (λ c. far_added kept.shift c place lanes) (order_raised end (place + 1) lanes.codes le stands.in_order)

pub code_stands : (kept new : Cells) (lanes : Lanes) (end : ℕ) (code : Code) (cell : Cell) → StandsFor kept lanes end → end ≤ code.place + 1 → new.shift ≡ kept.shift
    → cell ≡ cell_of_code code → Puts kept new code.place code.place cell → StandsFor new (with_code code lanes) (code.place + 1)
code_stands kept new lanes end code cell stands le shift cell_is put =
    added kept new lanes (with_code code lanes) end (code.place + 1) (cell_of_code code) _ _ stands le shift (subst (λ (c : Cell). Puts kept new code.place code.place c) cell_is put)
    (λ c. code_added kept.shift c code lanes)
    (subst (λ n. AreInOrder n (lanes.codes ++ code ∷ [])) (sym (add-one code.place)) (order_push end lanes.codes code (omega (arith, le)) stands.in_order))
