-- What one thing more makes of what a fine cell holds.
use Rattle.std.proofs.Common.{◌≡◌, ℕ, ◌+◌, Bool, true, false, cond, ◌&&◌, ◌||◌, Option, Some, None, List, [], ◌∷◌, ◌++◌, inl, inr, refl, sym, ap, ◌∙◌, arith}
use Rattle.std.specs.Prelude.{min, nat_le, ◌==◌, count_by, if◌then◌else◌}
use Rattle.std.specs.List.{list_any, find}
use Rattle.std.specs.Option.{option_or}
use Rattle.std.proofs.lemmas.Bool.{le-leb, lt-leb, eq-eqb, ne_eqb, cases_lt}
use Rattle.std.proofs.lemmas.List.Folds.{list_any-append, find-append}
use Rattle.std.proofs.lemmas.List.Sums.{sum_by_push}
use Rattle.pdh_spans.specs.Times.{Span}
use Rattle.pdh_timeline.specs.declared.state.State.{State}
use Rattle.pdh_timeline.specs.declared.state.State.TheVariants.{Out, Ais, Alarm}
use Rattle.pdh_cells.specs.declared.cell.Cell.{Cell}
use Rattle.pdh_cells.specs.declared.cell.Code.{Code}
use Rattle.pdh_cells.specs.Lanes.{Lanes, with_time, with_block, with_far, with_code}
use Rattle.pdh_cells.specs.Contents.{most, fine_cell, is_at, shows, last_bit, contents, joined, cell_of_state, cell_of_block, cell_of_far, cell_of_code}
use Rattle.pdh_cells.proofs.Halves.{one_if}

-- ---- lanes to which nothing comes

pub same_flag : (b : Bool) → b ≡ (b || false)
same_flag true = refl
same_flag false = refl

same_count : (n : ℕ) → min n most ≡ min (min n most + 0) most
same_count n = omega arith

pub same_code : (code : Option Code) → code ≡ option_or code None
same_code None = refl
same_code (Some code) = refl

-- ---- and one to which something comes, in this cell or in another

flag_push : (shift cell : ℕ) (spans : List Span) (span : Span) (here : Bool) → shows shift cell span ≡ here
    → list_any (shows shift cell) (spans ++ span ∷ []) ≡ (list_any (shows shift cell) spans || here)
flag_push shift cell spans span here is =
    list_any-append (shows shift cell) spans (span ∷ []) ∙ ap (λ b. list_any (shows shift cell) spans || b) (sym (same_flag (shows shift cell span)) ∙ is)

count_push : (shift cell : ℕ) (places : List ℕ) (place : ℕ) (here : Bool) → is_at shift cell place ≡ here
    → min (count_by (is_at shift cell) (places ++ place ∷ [])) most ≡ min (min (count_by (is_at shift cell) places) most + one_if here) most
count_push shift cell places place here is =
    let all : count_by (is_at shift cell) (places ++ place ∷ []) ≡ count_by (is_at shift cell) places + one_if (is_at shift cell place) =
    sum_by_push (λ p. one_if (is_at shift cell p)) places place in
    let own : ◌≡◌ {A = ℕ} (one_if (is_at shift cell place)) (one_if here) = ap one_if is in
    omega (arith, all, own)

code_push : (shift cell : ℕ) (codes : List Code) (code : Code) (here : Bool) → is_at shift cell code.place ≡ here
    → find (λ c. is_at shift cell c.place) (codes ++ code ∷ []) ≡ option_or (find (λ c. is_at shift cell c.place) codes) (cond here (Some code) None)
code_push shift cell codes code here is =
    find-append (λ c. is_at shift cell c.place) codes (code ∷ []) ∙ ap (λ b. option_or (find (λ c. is_at shift cell c.place) codes) (cond b (Some code) None)) is

-- ---- all lanes

abbrev joined_if : Bool → Cell → Cell → Cell
joined_if here cell more = (if here then joined cell more else cell)

time_push : (state : State) (shift cell : ℕ) (span : Span) (lanes : Lanes) (here : Bool) → shows shift cell span ≡ here
    → contents shift (with_time state span lanes) cell ≡ joined_if here (contents shift lanes cell) (cell_of_state state)
time_push Out shift cell span lanes true is = λ i. record {
  out = flag_push shift cell lanes.out span true is i;
  ais = same_flag (list_any (shows shift cell) lanes.ais) i;
  alarm = same_flag (list_any (shows shift cell) lanes.alarm) i;
  near = same_count (count_by (is_at shift cell) lanes.near) i;
  far = same_count (count_by (is_at shift cell) lanes.far) i;
  code = same_code (find (λ c. is_at shift cell c.place) lanes.codes) i;
}
time_push Out shift cell span lanes false is =
    ap (λ b. let all : Cell = contents shift lanes cell in record all { out = b })
    (flag_push shift cell lanes.out span false is ∙ sym (same_flag (list_any (shows shift cell) lanes.out)))
time_push Ais shift cell span lanes true is = λ i. record {
  out = same_flag (list_any (shows shift cell) lanes.out) i;
  ais = flag_push shift cell lanes.ais span true is i;
  alarm = same_flag (list_any (shows shift cell) lanes.alarm) i;
  near = same_count (count_by (is_at shift cell) lanes.near) i;
  far = same_count (count_by (is_at shift cell) lanes.far) i;
  code = same_code (find (λ c. is_at shift cell c.place) lanes.codes) i;
}
time_push Ais shift cell span lanes false is =
    ap (λ b. let all : Cell = contents shift lanes cell in record all { ais = b })
    (flag_push shift cell lanes.ais span false is ∙ sym (same_flag (list_any (shows shift cell) lanes.ais)))
time_push Alarm shift cell span lanes true is = λ i. record {
  out = same_flag (list_any (shows shift cell) lanes.out) i;
  ais = same_flag (list_any (shows shift cell) lanes.ais) i;
  alarm = flag_push shift cell lanes.alarm span true is i;
  near = same_count (count_by (is_at shift cell) lanes.near) i;
  far = same_count (count_by (is_at shift cell) lanes.far) i;
  code = same_code (find (λ c. is_at shift cell c.place) lanes.codes) i;
}
time_push Alarm shift cell span lanes false is =
    ap (λ b. let all : Cell = contents shift lanes cell in record all { alarm = b })
    (flag_push shift cell lanes.alarm span false is ∙ sym (same_flag (list_any (shows shift cell) lanes.alarm)))

-- a bit is in a cell
at_is : (q c : ℕ) → (nat_le q c && nat_le c q) ≡ (q == c)
at_is q c =
    elim (cases_lt c q) [
      | inl later ↦ ap (λ b. b && nat_le c q) (lt-leb q c later) ∙ sym (ne_eqb q c (λ e. absurd (omega (arith, e, later))))
      | inr not_later ↦ elim (cases_lt q c) [
        | inl early ↦ ap (λ b. b && nat_le c q) (le-leb q c not_later) ∙ lt-leb c q early ∙ sym (ne_eqb q c (λ e. absurd (omega (arith, e, early))))
        | inr not_early ↦ ap (λ b. b && nat_le c q) (le-leb q c not_later) ∙ le-leb c q not_early ∙ sym (eq-eqb q c (omega arith))
      ]
    ]

block_push : (shift cell place : ℕ) (lanes : Lanes) (here : Bool) → is_at shift cell place ≡ here
    → contents shift (with_block place lanes) cell ≡ joined_if here (contents shift lanes cell) cell_of_block
block_push shift cell place lanes true is = λ i. record {
  out = same_flag (list_any (shows shift cell) lanes.out) i;
  ais = same_flag (list_any (shows shift cell) lanes.ais) i;
  alarm = same_flag (list_any (shows shift cell) lanes.alarm) i;
  near = count_push shift cell lanes.near place true is i;
  far = same_count (count_by (is_at shift cell) lanes.far) i;
  code = same_code (find (λ c. is_at shift cell c.place) lanes.codes) i;
}
block_push shift cell place lanes false is =
    ap (λ n. let all : Cell = contents shift lanes cell in record all { near = n })
    (count_push shift cell lanes.near place false is ∙ sym (same_count (count_by (is_at shift cell) lanes.near)))

far_push : (shift cell place : ℕ) (lanes : Lanes) (here : Bool) → is_at shift cell place ≡ here
    → contents shift (with_far place lanes) cell ≡ joined_if here (contents shift lanes cell) cell_of_far
far_push shift cell place lanes true is = λ i. record {
  out = same_flag (list_any (shows shift cell) lanes.out) i;
  ais = same_flag (list_any (shows shift cell) lanes.ais) i;
  alarm = same_flag (list_any (shows shift cell) lanes.alarm) i;
  near = same_count (count_by (is_at shift cell) lanes.near) i;
  far = count_push shift cell lanes.far place true is i;
  code = same_code (find (λ c. is_at shift cell c.place) lanes.codes) i;
}
far_push shift cell place lanes false is =
    ap (λ n. let all : Cell = contents shift lanes cell in record all { far = n })
    (count_push shift cell lanes.far place false is ∙ sym (same_count (count_by (is_at shift cell) lanes.far)))

codes_push : (shift cell : ℕ) (code : Code) (lanes : Lanes) (here : Bool) → is_at shift cell code.place ≡ here
    → contents shift (with_code code lanes) cell ≡ joined_if here (contents shift lanes cell) (cell_of_code code)
codes_push shift cell code lanes true is = λ i. record {
  out = same_flag (list_any (shows shift cell) lanes.out) i;
  ais = same_flag (list_any (shows shift cell) lanes.ais) i;
  alarm = same_flag (list_any (shows shift cell) lanes.alarm) i;
  near = same_count (count_by (is_at shift cell) lanes.near) i;
  far = same_count (count_by (is_at shift cell) lanes.far) i;
  code = code_push shift cell lanes.codes code true is i;
}
codes_push shift cell code lanes false is =
    ap (λ o. let all : Cell = contents shift lanes cell in record all { code = o })
    (code_push shift cell lanes.codes code false is ∙ sym (same_code (find (λ c. is_at shift cell c.place) lanes.codes)))

-- ---- as the cells from one fine cell to another get it

pub time_added : (state : State) (shift cell : ℕ) (span : Span) (lanes : Lanes)
    → contents shift (with_time state span lanes) cell
    ≡ joined_if (nat_le (fine_cell shift span.from) cell && nat_le cell (fine_cell shift (last_bit span))) (contents shift lanes cell) (cell_of_state state)
time_added state shift cell span lanes = time_push state shift cell span lanes (shows shift cell span) refl

pub block_added : (shift cell place : ℕ) (lanes : Lanes)
    → contents shift (with_block place lanes) cell ≡ joined_if (nat_le (fine_cell shift place) cell && nat_le cell (fine_cell shift place)) (contents shift lanes cell) cell_of_block
block_added shift cell place lanes =
    block_push shift cell place lanes (nat_le (fine_cell shift place) cell && nat_le cell (fine_cell shift place)) (sym (at_is (fine_cell shift place) cell))

pub far_added : (shift cell place : ℕ) (lanes : Lanes)
    → contents shift (with_far place lanes) cell ≡ joined_if (nat_le (fine_cell shift place) cell && nat_le cell (fine_cell shift place)) (contents shift lanes cell) cell_of_far
far_added shift cell place lanes =
    far_push shift cell place lanes (nat_le (fine_cell shift place) cell && nat_le cell (fine_cell shift place)) (sym (at_is (fine_cell shift place) cell))

pub code_added : (shift cell : ℕ) (code : Code) (lanes : Lanes)
    → contents shift (with_code code lanes) cell
    ≡ joined_if (nat_le (fine_cell shift code.place) cell && nat_le cell (fine_cell shift code.place)) (contents shift lanes cell) (cell_of_code code)
code_added shift cell code lanes =
    codes_push shift cell code lanes (nat_le (fine_cell shift code.place) cell && nat_le cell (fine_cell shift code.place)) (sym (at_is (fine_cell shift code.place) cell))
