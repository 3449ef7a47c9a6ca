-- What the bits of a line bring, one after another: the disturbed line.
use Rattle.std.proofs.Common.{◌-◌, ◌≡◌, ℕ, zero, suc, ◌+◌, ◌<◌, ◌≤◌, ◌==◌, nat_le, nat_lt, Bool, true, false, not, cond, List, [], ◌∷◌, ◌++◌, length, map, take, drop, refl, sym, ap, subst, ◌∙◌, arith, append_assoc, slice_range}
use Rattle.std.proofs.lemmas.List.{append-nil, length-append, length-take-le, length-drop, take-append-drop, drop_at, take_all, take-append-le}
use Rattle.std.proofs.lemmas.Bool.{le-ltb, lt-ltb, le-leb, lt-leb, eq-eqb, ne_eqb, and_left, and_right, and_from}
use Rattle.pdh_bits.specs.Bits.{bits_of}
use Rattle.pdh_script.specs.Scripts.{Row, Change, Flip, Ones, Zeros, Drop, Add, FitFrom, FitIn, altered, bits_changed, bytes_of, end_of, disturbed, disturbed_from}
use Rattle.pdh_script.specs.Bending.{added_at, covers, becomes_at, brought, all_brought}
use Rattle.pdh_script.specs.RowsLeft.{InOrder, Remain, IsAhead, SameFrom}

-- ---- one row at one place

when_same : {X : Type 0} (b : Bool) (x : X) → cond b x x ≡ x
when_same true x = refl
when_same false x = refl

-- what a row adds before a bit stands at its place alone
added_elsewhere : (change : Change) (at p : ℕ) → at + bits_changed change < p → cond (at == p) (bits_of (bytes_of change)) [] ≡ []
added_elsewhere change at p h = ap (λ b. cond b (bits_of (bytes_of change)) []) (ne_eqb at p (λ e. omega (arith, h, e)))

added_before : (change : Change) (at p : ℕ) → p < at → cond (at == p) (bits_of (bytes_of change)) [] ≡ []
added_before change at p h = ap (λ b. cond b (bits_of (bytes_of change)) []) (ne_eqb at p (λ e. omega (arith, h, e)))

-- a row that changes bits adds none
added_none : (change : Change) (b : Bool) → 0 < bits_changed change → cond b (bits_of (bytes_of change)) [] ≡ []
added_none (Flip n) b h = when_same b []
added_none (Ones n) b h = when_same b []
added_none (Zeros n) b h = when_same b []
added_none (Drop n) b h = when_same b []
added_none (Add bytes) b h = absurd (let P : ⊥ = omega (arith, h) in P)

-- at the place where a row ends it adds what it adds at all
added_here : (change : Change) (at p : ℕ) → at + bits_changed change ≡ p → cond (at == p) (bits_of (bytes_of change)) [] ≡ bits_of (bytes_of change)
added_here (Flip n) at p h = when_same (at == p) []
added_here (Ones n) at p h = when_same (at == p) []
added_here (Zeros n) at p h = when_same (at == p) []
added_here (Drop n) at p h = when_same (at == p) []
added_here (Add bytes) at p h = ap (λ b. cond b (bits_of bytes) []) (eq-eqb at p (omega (arith, h)))

-- a row changes no bit behind its end, and none before its place
not_behind : (row : Row) (p : ℕ) → end_of row ≤ p → covers p row ≡ false
not_behind row p h = and_right (nat_le row.at p) (nat_lt p (end_of row)) (le-ltb p (end_of row) h)

not_before : (row : Row) (p : ℕ) → p < row.at → covers p row ≡ false
not_before row p h = and_left (nat_le row.at p) (nat_lt p (end_of row)) (lt-leb row.at p h)

pub within : (row : Row) (p : ℕ) → row.at ≤ p → p < end_of row → covers p row ≡ true
within row p h k = and_from (nat_le row.at p) (nat_lt p (end_of row)) (le-leb row.at p h) (lt-ltb p (end_of row) k)

uncovered : (row : Row) (rows : List Row) (p : ℕ) (bits : List Bool) → covers p row ≡ false → becomes_at p (row ∷ rows) bits ≡ becomes_at p rows bits
uncovered row rows p bits h = ap (λ b. cond b (altered row.change bits) (becomes_at p rows bits)) h

pub covered : (row : Row) (rows : List Row) (p : ℕ) (bits : List Bool) → covers p row ≡ true → becomes_at p (row ∷ rows) bits ≡ altered row.change bits
covered row rows p bits h = ap (λ b. cond b (altered row.change bits) (becomes_at p rows bits)) h

-- ---- rows that stand behind a place

none_added : (rows : List Row) (a p : ℕ) → InOrder a rows → p < a → added_at p rows ≡ []
none_added [] a p order h = refl
none_added (row ∷ rows) a p order h =
    ap (λ v. v ++ added_at p rows) (added_before row.change row.at p (omega (arith, order.0, h))) ∙ none_added rows (end_of row) p order.1 (omega (arith, order.0, h))

pub none_changed : (rows : List Row) (a p : ℕ) (bits : List Bool) → InOrder a rows → p < a → becomes_at p rows bits ≡ bits
none_changed [] a p bits order h = refl
none_changed (row ∷ rows) a p bits order h =
    uncovered row rows p bits (not_before row p (omega (arith, order.0, h))) ∙ none_changed rows (end_of row) p bits order.1 (omega (arith, order.0, h))

-- ---- a row that is passed

-- behind the end of a row it does nothing
pub passed : (row : Row) (rows : List Row) (place : ℕ) → end_of row < place → SameFrom place rows (row ∷ rows)
passed row rows place h p from = (
  sym (ap (λ v. v ++ added_at p rows) (added_elsewhere row.change row.at p (omega (arith, h, from)))),
  λ bits. sym (uncovered row rows p bits (not_behind row p (omega (arith, h, from)))),
)

passed_adds : (row : Row) (rows : List Row) (place : ℕ) → end_of row ≡ place → added_at place (row ∷ rows) ≡ bits_of (bytes_of row.change) ++ added_at place rows
passed_adds row rows place h = ap (λ v. v ++ added_at place rows) (added_here row.change row.at place h)

passed_here : (row : Row) (rows : List Row) (place : ℕ) (bits : List Bool) → end_of row ≡ place → becomes_at place rows bits ≡ becomes_at place (row ∷ rows) bits
passed_here row rows place bits h = sym (uncovered row rows place bits (not_behind row place (omega (arith, h))))

pub same_join : (place : ℕ) (a b c : List Row) → SameFrom place a b → SameFrom place b c → SameFrom place a c
same_join place a b c f g p from = ((f p from).0 ∙ (g p from).0, λ bits. (f p from).1 bits ∙ (g p from).1 bits)

pub same_same : (place : ℕ) (a : List Row) → SameFrom place a a
same_same place a p from = (refl, λ bits. refl)

-- where all rows that are left end behind a place none adds before it
pub ahead_adds_none : (rows : List Row) (place : ℕ) → Remain place rows → IsAhead place rows → added_at place rows ≡ []
ahead_adds_none [] place remain ahead = refl
ahead_adds_none (row ∷ rows) place remain ahead =
    ap (λ v. v ++ added_at place rows) (here row.change row.at ahead) ∙ none_added rows (end_of row) place remain.1 ahead
  where
    here : (change : Change) (at : ℕ) → place < at + bits_changed change → cond (at == place) (bits_of (bytes_of change)) [] ≡ []
    here (Flip n) at h = when_same (at == place) []
    here (Ones n) at h = when_same (at == place) []
    here (Zeros n) at h = when_same (at == place) []
    here (Drop n) at h = when_same (at == place) []
    here (Add bytes) at h = ap (λ b. cond b (bits_of bytes) []) (ne_eqb at place (λ e. omega (arith, h, e)))

-- ---- bits that come one after another

pub brought_then : (place : ℕ) (rows : List Row) (xs ys : List Bool) → all_brought place rows (xs ++ ys) ≡ all_brought place rows xs ++ all_brought (place + length xs) rows ys
brought_then place rows [] ys = ap (λ p. all_brought p rows ys) (let e : place ≡ place + 0 = omega arith in e)
brought_then place rows (x ∷ xs) ys =
    ap (λ v. brought place rows x ++ v) (brought_then (suc place) rows xs ys)
    ∙ sym (append_assoc (brought place rows x) (all_brought (suc place) rows xs) (all_brought (suc place + length xs) rows ys))
    ∙ ap (λ p. (brought place rows x ++ all_brought (suc place) rows xs) ++ all_brought p rows ys) (let e : suc place + length xs ≡ place + suc (length xs) = omega arith in e)

-- those before all rows
pub brought_before : (place a : ℕ) (rows : List Row) (xs : List Bool) → InOrder a rows → place + length xs ≤ a → all_brought place rows xs ≡ xs
brought_before place a rows [] order h = refl
brought_before place a rows (x ∷ xs) order h =
    let here : brought place rows x ≡ x ∷ [] =
    ap (λ v. v ++ becomes_at place rows (x ∷ [])) (none_added rows a place order (omega (arith, h))) ∙ none_changed rows a place (x ∷ []) order (omega (arith, h)) in
    ap (λ v. v ++ all_brought (suc place) rows xs) here ∙ ap (λ v. x ∷ v) (brought_before (suc place) a rows xs order (omega (arith, h)))

-- those behind a row
brought_behind : (place : ℕ) (row : Row) (rows : List Row) (xs : List Bool) → end_of row < place → all_brought place (row ∷ rows) xs ≡ all_brought place rows xs
brought_behind place row rows [] h = refl
brought_behind place row rows (x ∷ xs) h =
    let same = passed row rows place h place (omega arith) in
    ap (λ v. (v ++ becomes_at place (row ∷ rows) (x ∷ [])) ++ all_brought (suc place) (row ∷ rows) xs) (sym same.0)
    ∙ ap (λ v. (added_at place rows ++ v) ++ all_brought (suc place) (row ∷ rows) xs) (sym (same.1 (x ∷ [])))
    ∙ ap (λ v. brought place rows x ++ v) (brought_behind (suc place) row rows xs (omega (arith, h)))

-- what becomes of a row's bits one by one
altered_bit : (change : Change) (x : Bool) (xs : List Bool) → 0 < bits_changed change → altered change (x ∷ []) ++ altered change xs ≡ altered change (x ∷ xs)
altered_bit (Flip n) x xs h = refl
altered_bit (Ones n) x xs h = refl
altered_bit (Zeros n) x xs h = refl
altered_bit (Drop n) x xs h = refl
altered_bit (Add bytes) x xs h = absurd (let P : ⊥ = omega (arith, h) in P)

altered_nothing : (change : Change) → 0 < bits_changed change → altered change [] ≡ []
altered_nothing (Flip n) h = refl
altered_nothing (Ones n) h = refl
altered_nothing (Zeros n) h = refl
altered_nothing (Drop n) h = refl
altered_nothing (Add bytes) h = absurd (let P : ⊥ = omega (arith, h) in P)

pub brought_within : (place : ℕ) (row : Row) (rows : List Row) (xs : List Bool) → InOrder (end_of row) rows → 0 < bits_changed row.change → row.at ≤ place → place + length xs ≤ end_of row
    → all_brought place (row ∷ rows) xs ≡ altered row.change xs
brought_within place row rows [] order some from to = sym (altered_nothing row.change some)
brought_within place row rows (x ∷ xs) order some from to =
    let here : brought place (row ∷ rows) x ≡ altered row.change (x ∷ []) =
    ap (λ v. (v ++ added_at place rows) ++ becomes_at place (row ∷ rows) (x ∷ [])) (added_none row.change (row.at == place) some)
    ∙ ap (λ v. v ++ becomes_at place (row ∷ rows) (x ∷ [])) (none_added rows (end_of row) place order (omega (arith, to)))
    ∙ covered row rows place (x ∷ []) (within row place from (omega (arith, to))) in
    ap (λ v. v ++ all_brought (suc place) (row ∷ rows) xs) here
    ∙ ap (λ v. altered row.change (x ∷ []) ++ v) (brought_within (suc place) row rows xs order some (omega (arith, from)) (omega (arith, to)))
    ∙ altered_bit row.change x xs some

-- bits from the end of a row on, and what is added behind them
brought_after : (row : Row) (rows : List Row) (zs : List Bool)
    → all_brought (end_of row) (row ∷ rows) zs ++ added_at (end_of row + length zs) (row ∷ rows) ≡ bits_of (bytes_of row.change) ++ (all_brought (end_of row) rows zs ++ added_at (end_of row + length zs) rows)
brought_after row rows [] =
    passed_adds row rows (end_of row + 0) (omega arith)
brought_after row rows (z ∷ zs) =
    let e = end_of row in
    let last = e + suc (length zs) in
    let added = bits_of (bytes_of row.change) in
    let here : brought e (row ∷ rows) z ≡ added ++ brought e rows z =
    ap (λ v. v ++ becomes_at e (row ∷ rows) (z ∷ [])) (passed_adds row rows e refl) ∙ ap (λ v. (added ++ added_at e rows) ++ v) (sym (passed_here row rows e (z ∷ []) refl))
    ∙ append_assoc added (added_at e rows) (becomes_at e rows (z ∷ [])) in
    let later : all_brought (suc e) (row ∷ rows) zs ≡ all_brought (suc e) rows zs = brought_behind (suc e) row rows zs (omega arith) in
    let end : added_at last (row ∷ rows) ≡ added_at last rows = sym (passed row rows last (omega arith) last (omega arith)).0 in
    ap (λ v. (brought e (row ∷ rows) z ++ all_brought (suc e) (row ∷ rows) zs) ++ v) end
    ∙ ap (λ v. (brought e (row ∷ rows) z ++ v) ++ added_at last rows) later
    ∙ ap (λ v. (v ++ all_brought (suc e) rows zs) ++ added_at last rows) here
    ∙ ap (λ v. v ++ added_at last rows) (append_assoc added (brought e rows z) (all_brought (suc e) rows zs))
    ∙ append_assoc added (all_brought e rows (z ∷ zs)) (added_at last rows)

-- ---- the whole line

pub in_order : (rows : List Row) (a bits : ℕ) → FitFrom a bits rows → InOrder a rows
in_order [] a bits fits = tt
in_order (row ∷ rows) a bits fits = (fits.0, in_order rows (end_of row) bits fits.2)

pub remain : (rows : List Row) (a : ℕ) → InOrder a rows → Remain a rows
remain [] a order = tt
remain (row ∷ rows) a order = (omega (arith, order.0), order.1)

-- a row's own bits, and what is behind them
row_bits : (row : Row) (rows : List Row) (ys zs : List Bool) → InOrder (end_of row) rows → length ys ≡ bits_changed row.change
    → all_brought row.at (row ∷ rows) (ys ++ zs) ++ added_at (end_of row + length zs) (row ∷ rows) ≡ altered row.change ys ++ (all_brought (end_of row) rows zs ++ added_at (end_of row + length zs) rows)
row_bits row rows ys zs order lens =
    let e = end_of row in
    let last = e + length zs in
    let place : row.at + length ys ≡ e = omega (arith, lens) in
    let split : all_brought row.at (row ∷ rows) (ys ++ zs) ≡ all_brought row.at (row ∷ rows) ys ++ all_brought e (row ∷ rows) zs =
    brought_then row.at (row ∷ rows) ys zs ∙ ap (λ p. all_brought row.at (row ∷ rows) ys ++ all_brought p (row ∷ rows) zs) place in
    ap (λ v. v ++ added_at last (row ∷ rows)) split
    ∙ append_assoc (all_brought row.at (row ∷ rows) ys) (all_brought e (row ∷ rows) zs) (added_at last (row ∷ rows))
    ∙ ap (λ v. all_brought row.at (row ∷ rows) ys ++ v) (brought_after row rows zs)
    ∙ sym (append_assoc (all_brought row.at (row ∷ rows) ys) (bits_of (bytes_of row.change)) (all_brought e rows zs ++ added_at last rows))
    ∙ ap (λ v. v ++ (all_brought e rows zs ++ added_at last rows)) (own row.change ys lens refl)
  where
    changed : (ys : List Bool) → length ys ≡ bits_changed row.change → (some : ℕ) → bits_changed row.change ≡ suc some → all_brought row.at (row ∷ rows) ys ++ [] ≡ altered row.change ys
    changed ys lens some h = append-nil (all_brought row.at (row ∷ rows) ys) ∙ brought_within row.at row rows ys order (omega (arith, h)) (omega arith) (omega (arith, lens))

    none : (change : Change) (ys : List Bool) → length ys ≡ 0 → all_brought row.at (row ∷ rows) ys ≡ []
    none change [] h = refl
    none change (y ∷ ys) h = absurd (let P : ⊥ = omega (arith, h) in P)

    nothing : (ys : List Bool) → length ys ≡ 0 → ys ≡ []
    nothing [] h = refl
    nothing (y ∷ ys) h = absurd (let P : ⊥ = omega (arith, h) in P)

    own : (change : Change) (ys : List Bool) → length ys ≡ bits_changed change → change ≡ row.change → all_brought row.at (row ∷ rows) ys ++ bits_of (bytes_of change) ≡ altered change ys
    own (Add bytes) ys h is = ap (λ v. v ++ bits_of bytes) (none (Add bytes) ys h)
    own (Flip zero) ys h is = ap (λ v. v ++ []) (none (Flip 0) ys h) ∙ ap (map not) (sym (nothing ys h))
    own (Ones zero) ys h is = ap (λ v. v ++ []) (none (Ones 0) ys h) ∙ ap (map (λ bit. true)) (sym (nothing ys h))
    own (Zeros zero) ys h is = ap (λ v. v ++ []) (none (Zeros 0) ys h) ∙ ap (map (λ bit. false)) (sym (nothing ys h))
    own (Drop zero) ys h is = ap (λ v. v ++ []) (none (Drop 0) ys h)
    own (Flip (suc n)) ys h is = changed ys (h ∙ ap bits_changed is) n (sym (ap bits_changed is)) ∙ ap (λ c. altered c ys) (sym is)
    own (Ones (suc n)) ys h is = changed ys (h ∙ ap bits_changed is) n (sym (ap bits_changed is)) ∙ ap (λ c. altered c ys) (sym is)
    own (Zeros (suc n)) ys h is = changed ys (h ∙ ap bits_changed is) n (sym (ap bits_changed is)) ∙ ap (λ c. altered c ys) (sym is)
    own (Drop (suc n)) ys h is = changed ys (h ∙ ap bits_changed is) n (sym (ap bits_changed is)) ∙ ap (λ c. altered c ys) (sym is)

-- the disturbed line from a place on is what the bits from there on bring, and what is added behind them
from_place : (rows : List Row) (place : ℕ) (front line : List Bool) → length front ≡ place → FitFrom place (place + length line) rows
    → disturbed_from place (front ++ line) rows ≡ all_brought place rows line ++ added_at (place + length line) rows
from_place [] place front line at fits = drop_at front line place at ∙ sym (append-nil (all_brought place [] line) ∙ brought_before place (place + length line) [] line tt (omega arith))
from_place (row ∷ rows) place front line at fits =
    let e = end_of row in
    let n = row.at - place in
    let m = bits_changed row.change in
    let xs = take n line in
    let rest = drop n line in
    let ys = take m rest in
    let zs = drop m rest in
    let total = place + length line in
    let long : n + m ≤ length line = omega (arith, fits.0, fits.1) in
    let xs_long : length xs ≡ n = length-take-le n line (omega (arith, long)) in
    let rest_long : length rest ≡ length line - n = length-drop n line in
    let ys_long : length ys ≡ m = length-take-le m rest (omega (arith, long, rest_long)) in
    let zs_long : length zs ≡ length rest - m = length-drop m rest in
    let order : InOrder e rows = in_order rows e total fits.2 in
    let line_is : xs ++ (ys ++ zs) ≡ line = ap (λ v. xs ++ v) (take-append-drop m rest) ∙ take-append-drop n line in
    let last : e + length zs ≡ total = omega (arith, zs_long, rest_long, long, fits.0) in
    let at_xs : length (front ++ xs) ≡ row.at = omega (arith, length-append front xs, at, xs_long, fits.0) in
    let front2 = (front ++ xs) ++ ys in
    let at_ys : length front2 ≡ e = omega (arith, length-append (front ++ xs) ys, at_xs, ys_long) in
    let whole : front ++ line ≡ front2 ++ zs = ap (λ v. front ++ v) (sym line_is) ∙ sym (append_assoc front xs (ys ++ zs)) ∙ sym (append_assoc (front ++ xs) ys zs) in
    let kept : slice_range (front ++ line) place row.at ≡ xs = ap (take n) (drop_at front line place at) in
    let part : slice_range (front ++ line) row.at e ≡ ys =
    ap (λ v. slice_range (front ++ v) row.at e) (sym line_is) ∙ ap (λ v. slice_range v row.at e) (sym (append_assoc front xs (ys ++ zs)))
    ∙ ap (take (e - row.at)) (drop_at (front ++ xs) (ys ++ zs) row.at at_xs) ∙ ap (λ k. take k (ys ++ zs)) (let q : e - row.at ≡ length ys = omega (arith, ys_long) in q)
    ∙ take-append-le (length ys) ys zs (omega arith) ∙ take_all (length ys) ys (omega arith) in
    let later : disturbed_from e (front ++ line) rows ≡ all_brought e rows zs ++ added_at total rows =
    ap (λ v. disturbed_from e v rows) whole ∙ from_place rows e front2 zs at_ys (subst (λ k. FitFrom e k rows) (sym last) fits.2) ∙ ap (λ k. all_brought e rows zs ++ added_at k rows) last in
    let before : all_brought place (row ∷ rows) line ≡ xs ++ all_brought row.at (row ∷ rows) (ys ++ zs) =
    ap (all_brought place (row ∷ rows)) (sym line_is) ∙ brought_then place (row ∷ rows) xs (ys ++ zs)
    ∙ ap (λ v. v ++ all_brought (place + length xs) (row ∷ rows) (ys ++ zs)) (brought_before place row.at (row ∷ rows) xs (omega arith, order) (omega (arith, xs_long, fits.0)))
    ∙ ap (λ p. xs ++ all_brought p (row ∷ rows) (ys ++ zs)) (let q : place + length xs ≡ row.at = omega (arith, xs_long, fits.0) in q) in
    let own : all_brought row.at (row ∷ rows) (ys ++ zs) ++ added_at total (row ∷ rows) ≡ altered row.change ys ++ (all_brought e rows zs ++ added_at total rows) =
    subst (λ k. all_brought row.at (row ∷ rows) (ys ++ zs) ++ added_at k (row ∷ rows) ≡ altered row.change ys ++ (all_brought e rows zs ++ added_at k rows)) last (row_bits row rows ys zs order ys_long) in
    ap (λ v. v ++ altered row.change (slice_range (front ++ line) row.at e) ++ disturbed_from e (front ++ line) rows) kept
    ∙ ap (λ v. xs ++ altered row.change v ++ disturbed_from e (front ++ line) rows) part
    ∙ ap (λ v. xs ++ altered row.change ys ++ v) later
    ∙ append_assoc xs (altered row.change ys) (all_brought e rows zs ++ added_at total rows)
    ∙ ap (λ v. xs ++ v) (sym own)
    ∙ sym (append_assoc xs (all_brought row.at (row ∷ rows) (ys ++ zs)) (added_at total (row ∷ rows)))
    ∙ ap (λ v. v ++ added_at total (row ∷ rows)) (sym before)

pub at_once : (rows : List Row) (line : List Bool) → FitIn (length line) rows → disturbed line rows ≡ all_brought 0 rows line ++ added_at (length line) rows
at_once rows line fits =
    let e : length line ≡ 0 + length line = omega arith in
    from_place rows 0 [] line refl (subst (λ k. FitFrom 0 k rows) e fits) ∙ ap (λ k. all_brought 0 rows line ++ added_at k rows) (sym e)
