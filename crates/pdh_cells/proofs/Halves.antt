-- What a fine cell of twice the bits holds is what its two halves hold.
use Rattle.std.proofs.Common.{◌≡◌, ℕ, ◌+◌, ◌*◌, ◌/◌, ◌<◌, ◌≤◌, Bool, true, false, cond, ◌&&◌, ◌||◌, ◌⊎◌, Option, Some, None, List, [], ◌∷◌, inl, inr, refl, sym, ap, ◌∙◌, arith}
use Rattle.std.specs.Prelude.{min, nat_le, ◌==◌, count_by}
use Rattle.std.specs.List.{list_any, find}
use Rattle.std.specs.Option.{option_or}
use Rattle.std.proofs.lemmas.Bool.{le-leb, lt-leb, eq-eqb, ne_eqb, cases_lt}
use Rattle.std.proofs.lemmas.List.Sums.{sum_by-cons}
use Rattle.std.proofs.Math.Pow.{shr_mono}
use Rattle.pdh_spans.specs.Times.{Span}
use Rattle.pdh_cells.specs.declared.cell.Code.{Code}
use Rattle.pdh_cells.specs.Lanes.{Lanes}
use Rattle.pdh_cells.specs.Contents.{most, fine_cell, is_at, last_bit, shows, contents, joined}
use Rattle.pdh_cells.specs.Standing.{AreFrom, AreInOrder}
use Rattle.pdh_cells.proofs.Fine.{halved}

-- 1 for true
abbrev pub one_if : Bool → ℕ
one_if b = cond b 1 0

-- ---- a time

-- the tests of two cells and of their halves
by_tests : (p p' q q' r r' s s' t t' u u' : Bool) → p ≡ p' → q ≡ q' → r ≡ r' → s ≡ s' → t ≡ t' → u ≡ u'
    → (p' && q') ≡ ((r' && s') || (t' && u')) → (p && q) ≡ ((r && s) || (t && u))
by_tests p p' q q' r r' s s' t t' u u' e1 e2 e3 e4 e5 e6 same =
    ap (λ b. b && q) e1 ∙ ap (λ b. p' && b) e2 ∙ same
    ∙ sym (ap (λ b. (b && s) || (t && u)) e3 ∙ ap (λ b. (r' && b) || (t && u)) e4 ∙ ap (λ b. (r' && s') || (b && u)) e5 ∙ ap (λ b. (r' && s') || (t' && b)) e6)

-- what reaches from the fine cell a to the fine cell b
reaches_half : (a b c : ℕ) → a ≤ b → (nat_le (a / 2) c && nat_le c (b / 2)) ≡ ((nat_le a (2 * c) && nat_le (2 * c) b) || (nat_le a (2 * c + 1) && nat_le (2 * c + 1) b))
reaches_half a b c order =
    elim (cases_lt (2 * c + 1) a) [
      | inl behind ↦
          by_tests _ false _ true _ false _ true _ false _ true (lt-leb (a / 2) c (omega arith)) (le-leb c (b / 2) (omega arith))
          (lt-leb a (2 * c) (omega arith)) (le-leb (2 * c) b (omega arith)) (lt-leb a (2 * c + 1) (omega arith)) (le-leb (2 * c + 1) b (omega arith)) refl
      | inr begun ↦ elim (cases_lt b (2 * c)) [
        | inl over ↦
            by_tests _ true _ false _ true _ false _ true _ false (le-leb (a / 2) c (omega arith)) (lt-leb c (b / 2) (omega arith))
            (le-leb a (2 * c) (omega arith)) (lt-leb (2 * c) b (omega arith)) (le-leb a (2 * c + 1) (omega arith)) (lt-leb (2 * c + 1) b (omega arith)) refl
        | inr goes ↦ elim (cases_lt (2 * c) a) [
          | inl second ↦
              by_tests _ true _ true _ false _ true _ true _ true (le-leb (a / 2) c (omega arith)) (le-leb c (b / 2) (omega arith))
              (lt-leb a (2 * c) (omega arith)) (le-leb (2 * c) b (omega arith)) (le-leb a (2 * c + 1) (omega arith)) (le-leb (2 * c + 1) b (omega arith)) refl
          | inr first ↦
              by_tests _ true _ true _ true _ true _ true _ _ (le-leb (a / 2) c (omega arith)) (le-leb c (b / 2) (omega arith))
              (le-leb a (2 * c) (omega arith)) (le-leb (2 * c) b (omega arith)) (le-leb a (2 * c + 1) (omega arith)) refl refl
        ]
      ]
    ]

shows_half : (shift cell : ℕ) (span : Span) → shows (shift + 1) cell span ≡ (shows shift (2 * cell) span || shows shift (2 * cell + 1) span)
shows_half shift cell span =
    let order : span.from ≤ last_bit span = omega arith in
    ap (λ n. nat_le n cell && nat_le cell (fine_cell (shift + 1) (last_bit span))) (halved shift span.from)
    ∙ ap (λ n. nat_le (fine_cell shift span.from / 2) cell && nat_le cell n) (halved shift (last_bit span))
    ∙ reaches_half (fine_cell shift span.from) (fine_cell shift (last_bit span)) cell (shr_mono shift order)

or_four : (a b c d : Bool) → ((a || b) || (c || d)) ≡ ((a || c) || (b || d))
or_four true b c d = refl
or_four false true true d = refl
or_four false true false d = refl
or_four false false c d = refl

any_half : (shift cell : ℕ) (spans : List Span) → list_any (shows (shift + 1) cell) spans ≡ (list_any (shows shift (2 * cell)) spans || list_any (shows shift (2 * cell + 1)) spans)
any_half shift cell [] = refl
any_half shift cell (span ∷ spans) =
    ap (λ b. b || list_any (shows (shift + 1) cell) spans) (shows_half shift cell span)
    ∙ ap (λ b. (shows shift (2 * cell) span || shows shift (2 * cell + 1) span) || b) (any_half shift cell spans)
    ∙ or_four (shows shift (2 * cell) span) (shows shift (2 * cell + 1) span) (list_any (shows shift (2 * cell)) spans) (list_any (shows shift (2 * cell + 1)) spans)

-- ---- a bit

-- what the tests of a fine cell and of its halves say of the fine cell q
pub record Tests (q c : ℕ) (whole first second : Bool) : Type 0 where
  pub whole_is : (q / 2 == c) ≡ whole
  pub first_is : (q == 2 * c) ≡ first
  pub second_is : (q == 2 * c + 1) ≡ second

halves : (q c : ℕ) → ((q ≡ 2 * c) × Tests q c true true false) ⊎ (((q ≡ 2 * c + 1) × Tests q c true false true) ⊎ Tests q c false false false)
halves q c =
    elim (cases_lt q (2 * c)) [
      | inl early ↦ inr (inr (record {
        whole_is = ne_eqb (q / 2) c (λ e. absurd (omega (arith, e, early)));
        first_is = ne_eqb q (2 * c) (λ e. absurd (omega (arith, e, early)));
        second_is = ne_eqb q (2 * c + 1) (λ e. absurd (omega (arith, e, early)));
      }))
      | inr not_early ↦ elim (cases_lt (2 * c + 1) q) [
        | inl late ↦ inr (inr (record {
          whole_is = ne_eqb (q / 2) c (λ e. absurd (omega (arith, e, late)));
          first_is = ne_eqb q (2 * c) (λ e. absurd (omega (arith, e, late)));
          second_is = ne_eqb q (2 * c + 1) (λ e. absurd (omega (arith, e, late)));
        }))
        | inr not_late ↦ elim (cases_lt (2 * c) q) [
          | inl second ↦ inr (inl (
            omega arith,
            record {
              whole_is = eq-eqb (q / 2) c (omega arith);
              first_is = ne_eqb q (2 * c) (λ e. absurd (omega (arith, e, second)));
              second_is = eq-eqb q (2 * c + 1) (omega arith);
            },
          ))
          | inr first ↦ inl (
            omega arith,
            record {
              whole_is = eq-eqb (q / 2) c (omega arith);
              first_is = eq-eqb q (2 * c) (omega arith);
              second_is = ne_eqb q (2 * c + 1) (λ e. absurd (omega (arith, e, first)));
            },
          )
        ]
      ]
    ]

at_half : (q c : ℕ) → ◌≡◌ {A = ℕ} (one_if (q / 2 == c)) (one_if (q == 2 * c) + one_if (q == 2 * c + 1))
at_half q c =
    elim (halves q c) [
      | inl first ↦ by_sum true true false first.1 refl
      | inr other ↦ elim other [
        | inl second ↦ by_sum true false true second.1 refl
        | inr none ↦ by_sum false false false none refl
      ]
    ]
  where
    by_sum : (whole first second : Bool) → Tests q c whole first second → ◌≡◌ {A = ℕ} (one_if whole) (one_if first + one_if second)
        → ◌≡◌ {A = ℕ} (one_if (q / 2 == c)) (one_if (q == 2 * c) + one_if (q == 2 * c + 1))
    by_sum whole first second tests sum =
        ap one_if tests.whole_is ∙ sum ∙ sym (ap (λ b. one_if b + one_if (q == 2 * c + 1)) tests.first_is ∙ ap (λ b. one_if first + one_if b) tests.second_is)

count_half : (shift cell : ℕ) (places : List ℕ) → count_by (is_at (shift + 1) cell) places ≡ count_by (is_at shift (2 * cell)) places + count_by (is_at shift (2 * cell + 1)) places
count_half shift cell [] = refl
count_half shift cell (place ∷ places) =
    let here : ◌≡◌ {A = ℕ} (one_if (is_at (shift + 1) cell place)) (one_if (is_at shift (2 * cell) place) + one_if (is_at shift (2 * cell + 1) place)) =
    ap (λ n. one_if (n == cell)) (halved shift place) ∙ at_half (fine_cell shift place) cell in
    let all : count_by (is_at (shift + 1) cell) (place ∷ places) ≡ one_if (is_at (shift + 1) cell place) + count_by (is_at (shift + 1) cell) places =
    sum_by-cons (λ p. one_if (is_at (shift + 1) cell p)) place places in
    let first : count_by (is_at shift (2 * cell)) (place ∷ places) ≡ one_if (is_at shift (2 * cell) place) + count_by (is_at shift (2 * cell)) places =
    sum_by-cons (λ p. one_if (is_at shift (2 * cell) p)) place places in
    let second : count_by (is_at shift (2 * cell + 1)) (place ∷ places) ≡ one_if (is_at shift (2 * cell + 1) place) + count_by (is_at shift (2 * cell + 1)) places =
    sum_by-cons (λ p. one_if (is_at shift (2 * cell + 1) p)) place places in
    let rest : count_by (is_at (shift + 1) cell) places ≡ count_by (is_at shift (2 * cell)) places + count_by (is_at shift (2 * cell + 1)) places = count_half shift cell places in
    omega (arith, here, all, first, second, rest)

-- sums of counts that stand
min_sum : (n a b : ℕ) → n ≡ a + b → min n most ≡ min (min a most + min b most) most
min_sum n a b is = omega (arith, is)

-- ---- codes

abbrev code_at : ℕ → ℕ → List Code → Option Code
code_at shift cell codes = find (λ code. is_at shift cell code.place) codes

-- none of those that come later is in an earlier cell
none_before : (shift cell place : ℕ) (codes : List Code) → AreFrom place codes → cell < fine_cell shift place → code_at shift cell codes ≡ None
none_before shift cell place [] from before = refl
none_before shift cell place (code ∷ codes) from before =
    let later : fine_cell shift place ≤ fine_cell shift code.place = shr_mono shift from.0 in
    ap (λ b. cond b (Some code) (code_at shift cell codes)) (ne_eqb (fine_cell shift code.place) cell (λ e. absurd (omega (arith, e, later, before))))
    ∙ none_before shift cell place codes from.1 before

code_half : (shift cell end : ℕ) (codes : List Code) → AreInOrder end codes → code_at (shift + 1) cell codes ≡ option_or (code_at shift (2 * cell) codes) (code_at shift (2 * cell + 1) codes)
code_half shift cell end [] order = refl
code_half shift cell end (code ∷ later) order =
    let q : ℕ = fine_cell shift code.place in
    let rest = code_half shift cell end later order.2 in
    ap (λ n. cond (n == cell) (Some code) (code_at (shift + 1) cell later)) (halved shift code.place)
    ∙ (elim (halves q cell) [
      | inl first ↦ by_tests_of true true false first.1 refl
      | inr other ↦ elim other [
        | inl second ↦
            by_tests_of true false true second.1
            (sym (ap (λ o. option_or o (Some code)) (none_before shift (2 * cell) code.place later order.1 (omega (arith, second.0)))))
        | inr none ↦ by_tests_of false false false none rest
      ]
    ])
  where
    by_tests_of : (whole first second : Bool) → Tests (fine_cell shift code.place) cell whole first second
        → cond whole (Some code) (code_at (shift + 1) cell later) ≡ option_or (cond first (Some code) (code_at shift (2 * cell) later)) (cond second (Some code) (code_at shift (2 * cell + 1) later))
        → cond (fine_cell shift code.place / 2 == cell) (Some code) (code_at (shift + 1) cell later)
        ≡ option_or (code_at shift (2 * cell) (code ∷ later)) (code_at shift (2 * cell + 1) (code ∷ later))
    by_tests_of whole first second tests same =
        ap (λ b. cond b (Some code) (code_at (shift + 1) cell later)) tests.whole_is ∙ same
        ∙ sym (ap (λ b. option_or (cond b (Some code) (code_at shift (2 * cell) later)) (code_at shift (2 * cell + 1) (code ∷ later))) tests.first_is
        ∙ ap (λ b. option_or (cond first (Some code) (code_at shift (2 * cell) later)) (cond b (Some code) (code_at shift (2 * cell + 1) later))) tests.second_is)

-- ---- all lanes

pub contents_half : (shift cell end : ℕ) (lanes : Lanes) → AreInOrder end lanes.codes → contents (shift + 1) lanes cell ≡ joined (contents shift lanes (2 * cell)) (contents shift lanes (2 * cell + 1))
contents_half shift cell end lanes order = λ i. record {
  out = any_half shift cell lanes.out i;
  ais = any_half shift cell lanes.ais i;
  alarm = any_half shift cell lanes.alarm i;
  near = min_sum _ _ _ (count_half shift cell lanes.near) i;
  far = min_sum _ _ _ (count_half shift cell lanes.far) i;
  code = code_half shift cell end lanes.codes order i;
}
