-- A line that is disturbed row by row.
use Rattle.std.proofs.Common.{◌-◌, ◌≡◌, ℕ, ◌+◌, ◌<◌, ◌≤◌, Bool, List, [], ◌∷◌, ◌++◌, length, take, drop, get_or, refl, sym, ap, subst, ◌∙◌, arith, append_assoc, slice_range, Result, Ok}
use Rattle.std.proofs.lemmas.List.{append-nil, length-append, length-drop, take_all, take-append-le, drop_at, drop_all, drop-append-le, drop_more, take_rest}
use Rattle.pdh_script.specs.declared.step.Edit.TheVariants.{Alter}
use Rattle.pdh_script.specs.declared.step.Effect.TheVariants.{Flip}
use Rattle.pdh_edge.specs.Ports.{Inputs, Outputs, IsPrefix}
use Rattle.pdh_edge.specs.declared.port.Feed as feed
use Rattle.pdh_edge.specs.declared.port.Drain as drain
use Rattle.pdh_edge.proofs.Progress.{goes_on}
use Rattle.pdh_script.specs.Applying.{PassesSo, PassesBy, Applies, IsApplyStop}
use Rattle.pdh_script.specs.Scripts.{Row, FitFrom, FitIn, altered, bits_changed, end_of, disturbed, disturbed_from}
use Rattle.pdh_script.specs.Stored.{change_in, count_added, row_in, rows_in, steps_add}
use Rattle.pdh_script.specs.declared.step.Step.{Step}
use Rattle.pdh_script.specs.declared.stop.ApplyStop.{ApplyStop}
use Rattle.pdh_script.proofs.Parts.{passes_none, passes_then, stop_then, no_less, prefix_after, prefix_of_taken}

-- ---- parts of a line

slice_front : (xs ys : List Bool) (a b : ℕ) → a ≤ b → b ≤ length xs → slice_range (xs ++ ys) a b ≡ slice_range xs a b
slice_front xs ys a b ordered within =
    ap (take (b - a)) (drop-append-le a xs ys (omega (arith, ordered, within))) ∙ take-append-le (b - a) (drop a xs) ys (omega (arith, length-drop a xs, within))

slice_back : (xs ys : List Bool) (a b : ℕ) → length xs ≡ a → a + length ys ≡ b → slice_range (xs ++ ys) a b ≡ ys
slice_back xs ys a b at lens = ap (take (b - a)) (drop_at xs ys a at) ∙ take_all (b - a) ys (omega (arith, lens))

-- ---- rows in order

pub fit_longer : (rows : List Row) (a b c : ℕ) → b ≤ c → FitFrom a b rows → FitFrom a c rows
fit_longer [] a b c h fits = tt
fit_longer (row ∷ rows) a b c h fits = (fits.0, omega (arith, fits.1, h), fit_longer rows (end_of row) b c h fits.2)

pub fit_push : (rows : List Row) (row : Row) (a b : ℕ) → a ≤ b → b ≤ row.at → FitFrom a b rows → FitFrom a (end_of row) (rows ++ row ∷ [])
fit_push [] row a b ordered before fits = (omega (arith, ordered, before), omega arith, tt)
fit_push (first ∷ rows) row a b ordered before fits =
    (fits.0, omega (arith, fits.1, before), fit_push rows row (end_of first) b fits.1 before fits.2)

-- ---- the disturbed line

-- bits behind all rows stay
bits_behind : (rows : List Row) (a : ℕ) (xs ys : List Bool) → a ≤ length xs → FitFrom a (length xs) rows → disturbed_from a xs rows ++ ys ≡ disturbed_from a (xs ++ ys) rows
bits_behind [] a xs ys l fits = sym (drop-append-le a xs ys l)
bits_behind (row ∷ rows) a xs ys l fits =
    let e = end_of row in
    let kept = slice_range xs a row.at in
    let part = slice_range xs row.at e in
    let kept_is : slice_range (xs ++ ys) a row.at ≡ kept = slice_front xs ys a row.at fits.0 (omega (arith, fits.1)) in
    let part_is : slice_range (xs ++ ys) row.at e ≡ part = slice_front xs ys row.at e (omega arith) fits.1 in
    append_assoc (kept ++ altered row.change part) (disturbed_from e xs rows) ys
    ∙ ap (λ v. kept ++ altered row.change part ++ v) (bits_behind rows e xs ys fits.1 fits.2)
    ∙ ap (λ v. kept ++ altered row.change v ++ disturbed_from e (xs ++ ys) rows) (sym part_is)
    ∙ ap (λ v. v ++ altered row.change (slice_range (xs ++ ys) row.at e) ++ disturbed_from e (xs ++ ys) rows) (sym kept_is)

-- one more row, whose bits end the line
row_behind : (rows : List Row) (row : Row) (a : ℕ) (xs ys : List Bool) → a ≤ length xs → FitFrom a (length xs) rows → length xs ≡ row.at → length ys ≡ bits_changed row.change
    → disturbed_from a xs rows ++ altered row.change ys ≡ disturbed_from a (xs ++ ys) (rows ++ row ∷ [])
row_behind [] row a xs ys l fits at lens =
    let e = end_of row in
    let kept_is : slice_range (xs ++ ys) a row.at ≡ drop a xs =
    slice_front xs ys a row.at (omega (arith, l, at)) (omega (arith, at)) ∙ take_all (row.at - a) (drop a xs) (omega (arith, length-drop a xs, at)) in
    let part_is : slice_range (xs ++ ys) row.at e ≡ ys = slice_back xs ys row.at e at (omega (arith, lens)) in
    let none : drop e (xs ++ ys) ≡ [] = drop_all e (xs ++ ys) (omega (arith, length-append xs ys, at, lens)) in
    sym (append-nil (drop a xs ++ altered row.change ys))
    ∙ ap (λ v. drop a xs ++ altered row.change ys ++ v) (sym none)
    ∙ ap (λ v. drop a xs ++ altered row.change v ++ drop e (xs ++ ys)) (sym part_is)
    ∙ ap (λ v. v ++ altered row.change (slice_range (xs ++ ys) row.at e) ++ drop e (xs ++ ys)) (sym kept_is)
row_behind (first ∷ rows) row a xs ys l fits at lens =
    let e = end_of first in
    let kept = slice_range xs a first.at in
    let part = slice_range xs first.at e in
    let rest = disturbed_from e (xs ++ ys) (rows ++ row ∷ []) in
    let kept_is : slice_range (xs ++ ys) a first.at ≡ kept = slice_front xs ys a first.at fits.0 (omega (arith, fits.1)) in
    let part_is : slice_range (xs ++ ys) first.at e ≡ part = slice_front xs ys first.at e (omega arith) fits.1 in
    append_assoc (kept ++ altered first.change part) (disturbed_from e xs rows) (altered row.change ys)
    ∙ ap (λ v. kept ++ altered first.change part ++ v) (row_behind rows row e xs ys fits.1 fits.2 at lens)
    ∙ ap (λ v. kept ++ altered first.change v ++ rest) (sym part_is)
    ∙ ap (λ v. v ++ altered first.change (slice_range (xs ++ ys) first.at e) ++ rest) (sym kept_is)

prefix_more : (xs ys zs : List Bool) → IsPrefix xs ys → IsPrefix xs (ys ++ zs)
prefix_more xs ys zs h = (h.0 ++ zs, ap (λ v. v ++ zs) h.1 ∙ append_assoc xs h.0 zs)

-- what becomes of the first bits by the rows that end there begins what becomes of the line
front_begins : (seen later : List Row) (a bits : ℕ) (xs rest : List Bool) → a ≤ length xs → FitFrom a (length xs) seen → FitFrom (length xs) bits later
    → IsPrefix (disturbed_from a xs seen) (disturbed_from a (xs ++ rest) (seen ++ later))
front_begins [] [] a bits xs rest l fits after = (rest, drop-append-le a xs rest l)
front_begins [] (row ∷ later) a bits xs rest l fits after =
    let e = end_of row in
    let cut : IsPrefix (drop a xs) (take (row.at - a) (drop a xs ++ rest)) = prefix_of_taken (drop a xs) rest (row.at - a) (omega (arith, length-drop a xs, after.0, l)) in
    let here : IsPrefix (drop a xs) (slice_range (xs ++ rest) a row.at) = subst (λ v. IsPrefix (drop a xs) (take (row.at - a) v)) (sym (drop-append-le a xs rest l)) cut in
    let part = altered row.change (slice_range (xs ++ rest) row.at e) in
    prefix_more (drop a xs) (slice_range (xs ++ rest) a row.at ++ part) (disturbed_from e (xs ++ rest) later) (prefix_more (drop a xs) (slice_range (xs ++ rest) a row.at) part here)
front_begins (row ∷ seen) later a bits xs rest l fits after =
    let e = end_of row in
    let kept = slice_range xs a row.at in
    let part = slice_range xs row.at e in
    let all = disturbed_from e (xs ++ rest) (seen ++ later) in
    let kept_is : slice_range (xs ++ rest) a row.at ≡ kept = slice_front xs rest a row.at fits.0 (omega (arith, fits.1)) in
    let part_is : slice_range (xs ++ rest) row.at e ≡ part = slice_front xs rest row.at e (omega arith) fits.1 in
    let begins : IsPrefix (kept ++ altered row.change part ++ disturbed_from e xs seen) (kept ++ altered row.change part ++ all) =
    prefix_after (kept ++ altered row.change part) (disturbed_from e xs seen) all (front_begins seen later e bits xs rest fits.1 fits.2 after) in
    subst (λ v. IsPrefix (kept ++ altered row.change part ++ disturbed_from e xs seen) v)
    (ap (λ v. kept ++ altered row.change v ++ all) (sym part_is) ∙ ap (λ v. v ++ altered row.change (slice_range (xs ++ rest) row.at e) ++ all) (sym kept_is)) begins

-- ---- the disturbance so far

-- the rows seen so far, which end before a place, were applied to the bits before it
pub record Disturbing (rows : List Row) (bits place : ℕ) (left : List Step) (added : List ℕ) (x y : Inputs) (o p : Outputs) : Type 0 where
  pub seen : List Row
  pub split : rows ≡ seen ++ rows_in left added
  pub fits : FitIn place seen
  pub later : FitFrom place bits (rows_in left added)
  pub within : place ≤ bits
  pub enough : steps_add left ≤ length added
  pub applied : Applies seen place x y o p

-- calls of a port did that, or this is why its line isn't disturbed to its end
abbrev pub Disturbs : {P : Type 0} → feed.Ghosts P → drain.Ghosts P → (P → P → Type 0) → List Row → ℕ → ℕ → List Step → List ℕ → P → P → Result (Unit {0}) ApplyStop → Type 0
Disturbs feeds drains keeps rows bits place left added = PassesSo feeds drains keeps (Disturbing rows bits place left added) (λ line. disturbed line rows) bits

pub disturbing_begins : (bits : ℕ) (steps : List Step) (added : List ℕ) (x : Inputs) (o : Outputs) → FitIn bits (rows_in steps added) → steps_add steps ≤ length added
    → Disturbing (rows_in steps added) bits 0 steps added x x o o
disturbing_begins bits steps added x o fits enough = record {
  seen = [];
  split = refl;
  fits = tt;
  later = fits;
  within = omega arith;
  enough = enough;
  applied = passes_none (λ line. disturbed line []) x o refl;
}

-- bits that no row changes
kept_joined : (seen : List Row) (place n : ℕ) (xs ys : List Bool) → FitIn place seen → length xs ≡ place → length ys ≡ n → disturbed xs seen ++ ys ≡ disturbed (xs ++ ys) seen
kept_joined seen place n xs ys fits lens more = bits_behind seen 0 xs ys (omega arith) (subst (λ k. FitFrom 0 k seen) (sym lens) fits)

kept_begins : (seen later : List Row) (bits place n : ℕ) (xs ys rest : List Bool) → FitIn place seen → FitFrom (place + n) bits later → length xs ≡ place → length ys ≡ n
    → IsPrefix (disturbed xs seen ++ ys) (disturbed ((xs ++ ys) ++ rest) (seen ++ later))
kept_begins seen later bits place n xs ys rest fits after lens more =
    let whole : length (xs ++ ys) ≡ place + n = omega (arith, length-append xs ys, lens, more) in
    subst (λ v. IsPrefix v (disturbed ((xs ++ ys) ++ rest) (seen ++ later))) (sym (kept_joined seen place n xs ys fits lens more))
    (front_begins seen later 0 bits (xs ++ ys) rest (omega arith) (subst (λ k. FitFrom 0 k seen) (sym whole) (fit_longer seen 0 place (place + n) (omega arith) fits)) (subst (λ k. FitFrom k bits later) (sym whole) after))

-- the row after bits that no row changes
row_joined : (seen : List Row) (row : Row) (xs ys : List Bool) → FitIn row.at seen → length xs ≡ row.at → length ys ≡ bits_changed row.change
    → disturbed xs seen ++ altered row.change ys ≡ disturbed (xs ++ ys) (seen ++ row ∷ [])
row_joined seen row xs ys fits lens more = row_behind seen row 0 xs ys (omega arith) (subst (λ k. FitFrom 0 k seen) (sym lens) fits) lens more

-- the step that comes next
abbrev pub no_step : Step
no_step = record { at = 0; edit = Alter Flip 0 }

-- ---- a port whose line is disturbed

module _ {P : Type 0} (feeds : feed.Ghosts P) (drains : drain.Ghosts P) (keeps : P → P → Type 0) (rows : List Row) (bits place : ℕ) (left : List Step) (added : List ℕ) (a b c : P) (result : Result (Unit {0}) ApplyStop) (join : keeps a b → keeps b c → keeps a c) where
  -- bits up to a place pass, which no row changes, or don't
  kept_so : (at : ℕ) (Whole : Inputs → Inputs → Outputs → Outputs → Type 0) → (FitFrom place bits (rows_in left added) → place ≤ bits → (place ≤ at) × (at ≤ bits) × FitFrom at bits (rows_in left added))
      → ((x z : Inputs) (o q : Outputs) → Disturbing rows bits at left added x z o q → Whole x z o q) → Disturbs feeds drains keeps rows bits place left added a b (Ok tt)
      → PassesBy feeds drains keeps (λ line. line) (at - place) b c result → PassesSo feeds drains keeps Whole (λ line. disturbed line rows) bits a c result
  kept_so at Whole fit so first next =
      goes_on result first next join
      (λ d passes.
      let f = fit d.later d.within in
      so _ _ _ _ (record {
        seen = d.seen;
        split = d.split;
        fits = fit_longer d.seen 0 place at f.0 d.fits;
        later = f.2;
        within = f.1;
        enough = d.enough;
        applied = passes_then (λ line. disturbed line d.seen) (λ line. line) (λ line. disturbed line d.seen) place (at - place) at _ _ _ _ _ _ (omega (arith, f.0)) (λ xs ys lens more. kept_joined d.seen place (at - place) xs ys d.fits lens more) d.applied passes;
      }))
      (λ stop same d stops.
      let f = fit d.later d.within in
      let since = no_less _ _ same in
      let there : at ≡ place + (at - place) = omega (arith, f.0) in
      subst (λ rows. IsApplyStop rows bits (feeds.inputs a) (feeds.inputs c) (drains.outputs a) (drains.outputs c) (feeds.feed_faults a) (feeds.feed_faults c) (drains.drain_faults a) (drains.drain_faults c) stop) (sym d.split)
      (stop_then (λ line. disturbed line d.seen) (λ line. line) (λ line. disturbed line (d.seen ++ rows_in left added)) place (at - place) bits _ _ (feeds.inputs c) _ _ (drains.outputs c) _ _ (feeds.feed_faults c) _ _ (drains.drain_faults c) stop (omega (arith, f.0, f.1))
      (λ xs ys rest lens more all. kept_begins d.seen (rows_in left added) bits place (at - place) xs ys rest d.fits (subst (λ k. FitFrom k bits (rows_in left added)) there f.2) lens more) since.0 since.1 d.applied stops))

  -- the bits behind the last row
  pub end_goes_on : left ≡ [] → Disturbs feeds drains keeps rows bits place left added a b (Ok tt) → PassesBy feeds drains keeps (λ line. line) (bits - place) b c result
      → PassesBy feeds drains keeps (λ line. disturbed line rows) bits a c result
  end_goes_on none =
      let last : FitFrom bits bits (rows_in left added) = subst (λ (left : List Step). FitFrom bits bits (rows_in left added)) (sym none) tt in
      kept_so bits (Applies rows bits) (λ later within. (within, omega arith, last))
      (λ x z o q d. subst (λ rows. Applies rows bits x z o q) (sym (d.split ∙ ap (λ (left : List Step). d.seen ++ rows_in left added) none ∙ append-nil d.seen)) d.applied)

module _ {P : Type 0} (feeds : feed.Ghosts P) (drains : drain.Ghosts P) (keeps : P → P → Type 0) (rows : List Row) (bits place : ℕ) (steps : List Step) (i : ℕ) (added : List ℕ) (a b c : P) (result : Result (Unit {0}) ApplyStop) (join : keeps a b → keeps b c → keeps a c) (within : i < length steps) where
  -- the bits before the next row
  pub kept_goes_on : (at : ℕ) → at ≡ (get_or steps i no_step).at → Disturbs feeds drains keeps rows bits place (drop i steps) added a b (Ok tt) → PassesBy feeds drains keeps (λ line. line) (at - place) b c result
      → Disturbs feeds drains keeps rows bits at (get_or steps i no_step ∷ drop (i + 1) steps) added a c result
  kept_goes_on at same first =
      let left = get_or steps i no_step ∷ drop (i + 1) steps in
      kept_so feeds drains keeps rows bits place left added a b c result join at (Disturbing rows bits at left added)
      (λ later fit. (omega (arith, later.0, same), omega (arith, later.1, same), (omega (arith, same), later.1, later.2))) (λ x z o q d. d)
      (subst (λ (left : List Step). Disturbs feeds drains keeps rows bits place left added a b (Ok tt)) (drop_more steps i no_step within) first)

module _ {P : Type 0} (feeds : feed.Ghosts P) (drains : drain.Ghosts P) (keeps : P → P → Type 0) (rows : List Row) (bits at : ℕ) (step : Step) (left : List Step) (added : List ℕ) (a b c : P) (result : Result (Unit {0}) ApplyStop) (join : keeps a b → keeps b c → keeps a c) (same : at ≡ step.at) where
  -- the next row
  pub change_goes_on : (end n : ℕ) → end ≡ end_of (row_in step added) → n ≡ count_added step.edit → Disturbs feeds drains keeps rows bits at (step ∷ left) added a b (Ok tt)
      → (let change = change_in step.edit added in PassesBy feeds drains keeps (altered change) (bits_changed change) b c result)
      → Disturbs feeds drains keeps rows bits end left (take (length added - n) (drop n added)) a c result
  change_goes_on end n ends count first next =
      let row = row_in step added in
      let behind = drop (count_added step.edit) added in
      let later = rows_in left behind in
      let gone : behind ≡ take (length added - n) (drop n added) = ap (λ k. drop k added) (sym count) ∙ sym (take_rest added n) in
      let wide : at + bits_changed row.change ≡ end_of row = omega (arith, same) in
      subst (λ e. Disturbs feeds drains keeps rows bits e left (take (length added - n) (drop n added)) a c result) (sym ends)
      (subst (λ (bytes : List ℕ). Disturbs feeds drains keeps rows bits (end_of row) left bytes a c result) gone
      (goes_on result first next join
      (λ d passes. record {
        seen = d.seen ++ row ∷ [];
        split = d.split ∙ sym (append_assoc d.seen (row ∷ []) later);
        fits = fit_push d.seen row 0 at (omega arith) (omega (arith, same)) d.fits;
        later = d.later.2;
        within = d.later.1;
        enough = omega (arith, d.enough, length-drop (count_added step.edit) added);
        applied = passes_then (λ line. disturbed line d.seen) (altered row.change) (λ line. disturbed line (d.seen ++ row ∷ [])) at (bits_changed row.change) (end_of row) _ _ _ _ _ _ wide
            (λ xs ys lens more. row_joined d.seen row xs ys (subst (λ k. FitIn k d.seen) same d.fits) (lens ∙ same) more) d.applied passes;
      })
      (λ stop unfailed d stops.
      let since = no_less _ _ unfailed in
      let push : FitIn (end_of row) (d.seen ++ row ∷ []) = fit_push d.seen row 0 at (omega arith) (omega (arith, same)) d.fits in
      subst (λ rows. IsApplyStop rows bits (feeds.inputs a) (feeds.inputs c) (drains.outputs a) (drains.outputs c) (feeds.feed_faults a) (feeds.feed_faults c) (drains.drain_faults a) (drains.drain_faults c) stop) (sym (d.split ∙ sym (append_assoc d.seen (row ∷ []) later)))
      (stop_then (λ line. disturbed line d.seen) (altered row.change) (λ line. disturbed line ((d.seen ++ row ∷ []) ++ later)) at (bits_changed row.change) bits _ _ (feeds.inputs c) _ _ (drains.outputs c) _ _ (feeds.feed_faults c) _ _ (drains.drain_faults c) stop (omega (arith, d.later.1, same))
      (λ xs ys rest lens more all.
      let whole : length (xs ++ ys) ≡ end_of row = omega (arith, length-append xs ys, lens, more, same) in
      subst (λ v. IsPrefix v (disturbed ((xs ++ ys) ++ rest) ((d.seen ++ row ∷ []) ++ later))) (sym (row_joined d.seen row xs ys (subst (λ k. FitIn k d.seen) same d.fits) (lens ∙ same) more))
      (front_begins (d.seen ++ row ∷ []) later 0 bits (xs ++ ys) rest (omega arith) (subst (λ k. FitFrom 0 k (d.seen ++ row ∷ [])) (sym whole) push) (subst (λ k. FitFrom k bits later) (sym whole) d.later.2)))
      since.0 since.1 d.applied stops))))
