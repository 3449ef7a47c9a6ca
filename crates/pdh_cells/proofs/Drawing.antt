-- The cells of a picture, one fine cell after another.
use Rattle.std.proofs.Common.{◌≡◌, ℕ, zero, suc, ◌+◌, ◌-◌, ◌*◌, ◌<◌, ◌≤◌, Bool, true, false, cond, List, [], ◌∷◌, ◌++◌, map, get_or, set, length, inl, inr, refl, sym, ap, ◌∙◌, subst, arith}
use Rattle.std.specs.Prelude.{fold, filter, min, ◌==◌}
use Rattle.std.specs.List.{range_with_len}
use Rattle.std.proofs.lemmas.Nat.{div_below}
use Rattle.std.proofs.lemmas.Bool.{eq-eqb, ne_eqb, cases_eq, cases_lt}
use Rattle.std.proofs.lemmas.List.{map_push, append-nil, get_or-set_same, get_or-set_other}
use Rattle.std.proofs.lemmas.List.Elements.{filter-append}
use Rattle.std.proofs.lemmas.List.Sums.{fold_push}
use Rattle.pdh_cells.specs.declared.cell.Cell.{Cell}
use Rattle.pdh_cells.specs.Contents.{most, blank, joined}
use Rattle.pdh_cells.specs.Pictures.{drawn_in}
use Rattle.pdh_cells.proofs.Adding.{same_flag, same_code}

-- what the fine cells before one make of a cell of the picture
abbrev pub drawn_so_far : List Cell → ℕ → ℕ → ℕ → Cell
drawn_so_far items count fine cell = fold joined blank (map (λ f. get_or items f blank) (filter (λ f. drawn_in count f == cell) (range_with_len 0 fine)))

range_push : (a n : ℕ) → range_with_len a (suc n) ≡ range_with_len a n ++ (a + n) ∷ []
range_push a zero = ap (λ x. x ∷ []) (omega arith)
range_push a (suc n) =
    let rest : range_with_len (a + 1) (suc n) ≡ range_with_len (a + 1) n ++ (a + 1 + n) ∷ [] = range_push (a + 1) n in
    let e : a + 1 + n ≡ a + suc n = omega arith in
    ap (λ x. a ∷ x) (rest ∙ ap (λ k. range_with_len (a + 1) n ++ k ∷ []) e)

-- the cells that one more fine cell is drawn in, and the others
cells_push : (count fine cell : ℕ) → filter (λ f. drawn_in count f == cell) (range_with_len 0 (fine + 1))
    ≡ filter (λ f. drawn_in count f == cell) (range_with_len 0 fine) ++ cond (drawn_in count fine == cell) (fine ∷ []) []
cells_push count fine cell =
    let more : fine + 1 ≡ suc fine = omega arith in
    let from_zero : 0 + fine ≡ fine = omega arith in
    let next : range_with_len 0 (fine + 1) ≡ range_with_len 0 fine ++ fine ∷ [] =
    ap (range_with_len 0) more ∙ range_push 0 fine ∙ ap (λ k. range_with_len 0 fine ++ k ∷ []) from_zero in
    ap (filter (λ f. drawn_in count f == cell)) next ∙ filter-append (λ f. drawn_in count f == cell) (range_with_len 0 fine) (fine ∷ [])

drawn_push : (items : List Cell) (count fine cell : ℕ) (own : Bool) → (drawn_in count fine == cell) ≡ own
    → drawn_so_far items count (fine + 1) cell ≡ cond own (joined (drawn_so_far items count fine cell) (get_or items fine blank)) (drawn_so_far items count fine cell)
drawn_push items count fine cell own is =
    ap (λ l. fold joined blank (map (λ f. get_or items f blank) l)) (cells_push count fine cell ∙ ap (λ b. filter (λ f. drawn_in count f == cell) (range_with_len 0 fine) ++ cond b (fine ∷ []) []) is)
    ∙ by_test own
  where
    by_test : (b : Bool) → fold joined blank (map (λ f. get_or items f blank) (filter (λ f. drawn_in count f == cell) (range_with_len 0 fine) ++ cond b (fine ∷ []) []))
        ≡ cond b (joined (drawn_so_far items count fine cell) (get_or items fine blank)) (drawn_so_far items count fine cell)
    by_test true =
        ap (fold joined blank) (map_push (λ f. get_or items f blank) (filter (λ f. drawn_in count f == cell) (range_with_len 0 fine)) fine)
        ∙ fold_push joined blank (map (λ f. get_or items f blank) (filter (λ f. drawn_in count f == cell) (range_with_len 0 fine))) (get_or items fine blank)
    by_test false = ap (λ l. fold joined blank (map (λ f. get_or items f blank) l)) (append-nil (filter (λ f. drawn_in count f == cell) (range_with_len 0 fine)))

-- the picture so far
abbrev pub AreDrawn : List Cell → ℕ → ℕ → List Cell → Type 0
AreDrawn items count fine cells = (cell : ℕ) → cell < 430 → get_or cells cell blank ≡ drawn_so_far items count fine cell

-- one fine cell more
one_more : (items cells : List Cell) (count fine at : ℕ) (now : Cell) → length cells ≡ 430 → at ≡ drawn_in count fine → at < 430 → AreDrawn items count fine cells
    → now ≡ joined (get_or cells at blank) (get_or items fine blank) → AreDrawn items count (fine + 1) (set cells at now)
one_more items cells count fine at now len at_is inside drawn is = λ cell small. elim (cases_eq at cell) [
  | inl same ↦
      ap (λ c. get_or (set cells at now) c blank) (sym same) ∙ get_or-set_same cells at now blank (omega (arith, len, inside)) ∙ is
      ∙ ap (λ (c : Cell). joined c (get_or items fine blank)) (drawn at inside) ∙ ap (λ c. joined (drawn_so_far items count fine c) (get_or items fine blank)) same
      ∙ sym (drawn_push items count fine cell true (eq-eqb (drawn_in count fine) cell (sym at_is ∙ same)))
  | inr other ↦
      get_or-set_other cells at cell now blank (λ e. other (sym e)) ∙ drawn cell small
      ∙ sym (drawn_push items count fine cell false (ne_eqb (drawn_in count fine) cell (λ e. other (at_is ∙ e))))
]

-- what is read doesn't hang on what is read past the end
same_read : (cells : List Cell) (i : ℕ) (d e : Cell) → i < length cells → get_or cells i d ≡ get_or cells i e
same_read [] i d e inside = absurd (omega (arith, inside))
same_read (cell ∷ cells) zero d e inside = refl
same_read (cell ∷ cells) (suc i) d e inside = same_read cells i d e (omega (arith, inside))

pub one_more_drawn : (items cells : List Cell) (count fine at : ℕ) (now next d : Cell) → length cells ≡ 430 → fine < length items → at ≡ drawn_in count fine → at < 430 → AreDrawn items count fine cells
    → next ≡ get_or items fine next → now ≡ joined (get_or cells at d) next → AreDrawn items count (fine + 1) (set cells at now)
one_more_drawn items cells count fine at now next d len within at_is inside drawn read is =
    one_more items cells count fine at now len at_is inside drawn
    (is ∙ ap (λ (c : Cell). joined c next) (same_read cells at d blank (omega (arith, len, inside)))
    ∙ ap (λ (c : Cell). joined (get_or cells at blank) c) (read ∙ same_read items fine next blank within))

-- a fine cell is drawn in a cell of the picture
pub is_inside : (count fine : ℕ) → fine < count → drawn_in count fine < 430
is_inside count fine within = div_below (fine * 430) count 430 (omega (arith, within)) (omega (arith, within))

-- ---- fine cells in which nothing came

-- the counts of a cell fit
record HasCounts (cell : Cell) : Type 0 where
  near : cell.near ≤ most
  far : cell.far ≤ most

counts_joined : (a b : Cell) → HasCounts (joined a b)
counts_joined a b = record { near = omega arith; far = omega arith }

counts_by : (b : Bool) (x y : Cell) → HasCounts x → HasCounts y → HasCounts (cond b x y)
counts_by true x y f g = f
counts_by false x y f g = g

drawn_counts : (items : List Cell) (count fine cell : ℕ) → HasCounts (drawn_so_far items count fine cell)
drawn_counts items count zero cell = record { near = omega arith; far = omega arith }
drawn_counts items count (suc fine) cell =
    let own : Bool = drawn_in count fine == cell in
    let before : Cell = drawn_so_far items count fine cell in
    let more : Cell = get_or items fine blank in
    let next : fine + 1 ≡ suc fine = omega arith in
    subst (λ f. HasCounts (drawn_so_far items count f cell)) next
    (subst HasCounts (sym (drawn_push items count fine cell own refl)) (counts_by own (joined before more) before (counts_joined before more) (drawn_counts items count fine cell)))

-- nothing is added
same_near : (n : ℕ) → n ≤ most → min (n + 0) most ≡ n
same_near n few = omega (arith, few)

joined_blank : (x : Cell) → HasCounts x → joined x blank ≡ x
joined_blank x few = λ i. record {
  out = sym (same_flag x.out) i;
  ais = sym (same_flag x.ais) i;
  alarm = sym (same_flag x.alarm) i;
  near = same_near x.near few.near i;
  far = same_near x.far few.far i;
  code = sym (same_code x.code) i;
}

joined_by : (b : Bool) (x : Cell) → HasCounts x → cond b (joined x blank) x ≡ x
joined_by true x few = joined_blank x few
joined_by false x few = refl

-- from a fine cell on nothing came, so more of them draw nothing
nothing_drawn : (items : List Cell) (count used more cell : ℕ) → ((k : ℕ) → used ≤ k → get_or items k blank ≡ blank) → drawn_so_far items count (used + more) cell ≡ drawn_so_far items count used cell
nothing_drawn items count used zero cell unused = let e : used + 0 ≡ used = omega arith in ap (λ f. drawn_so_far items count f cell) e
nothing_drawn items count used (suc more) cell unused =
    let fine : ℕ = used + more in
    let own : Bool = drawn_in count fine == cell in
    let before : Cell = drawn_so_far items count fine cell in
    let next : used + suc more ≡ fine + 1 = omega arith in
    ap (λ f. drawn_so_far items count f cell) next ∙ drawn_push items count fine cell own refl ∙ ap (λ c. cond own (joined before c) before) (unused fine (omega arith))
    ∙ joined_by own before (drawn_counts items count fine cell) ∙ nothing_drawn items count used more cell unused

-- those in use draw the picture
pub used_drawn : (items : List Cell) (count used fine cell : ℕ) → fine ≡ min count used → ((k : ℕ) → used ≤ k → get_or items k blank ≡ blank) → drawn_so_far items count fine cell ≡ drawn_so_far items count count cell
used_drawn items count used fine cell is unused =
    elim (cases_lt used count) [
      | inl less ↦
          let at : fine ≡ used = omega (arith, is, less) in
          let all : count ≡ used + (count - used) = omega (arith, less) in
          ap (λ f. drawn_so_far items count f cell) at ∙ sym (ap (λ f. drawn_so_far items count f cell) all ∙ nothing_drawn items count used (count - used) cell unused)
      | inr all ↦ let at : fine ≡ count = omega (arith, is, all) in ap (λ f. drawn_so_far items count f cell) at
    ]
