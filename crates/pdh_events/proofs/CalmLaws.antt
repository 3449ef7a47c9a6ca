-- Many bits of a line at once, and the run of ones that it ends with.
use Rattle.std.proofs.Common.{◌≡◌, ℕ, zero, suc, ◌+◌, ◌-◌, ◌<◌, ◌≤◌, Bool, true, false, not, cond, List, [], ◌∷◌, ◌++◌, length, map, take, drop, get_or, refl, sym, ap, ◌∙◌, subst, arith, append_assoc, length-drop}
use Rattle.std.specs.List.{prefix_len}
use Rattle.std.proofs.lemmas.List.{append-nil, take-take, drop-drop, take-append-drop, length-take, length-map}
use Rattle.std.proofs.lemmas.List.Sums.{prefix_len-le-length}
use Rattle.std.proofs.lemmas.Bool.{ne_eqb, lt-leb, le-leb}
use Rattle.std.proofs.Math.Seq.{take-add, drop-cons}
use Rattle.pdh_watch.specs.declared.kind.TheConstants.Kind.{AIS_ON, AIS_OFF}
use Rattle.pdh_events.specs.Telling.{ones_at_end, ais_kinds}
use Rattle.pdh_events.specs.laws.QuietLaws.{IsCalm, AreOnes}
use Rattle.pdh_events.proofs.Runs.{ones_with_one, ones_with_zero}

ones_join : (a b : List Bool) → AreOnes a → AreOnes b → AreOnes (a ++ b)
ones_join [] b h h' = h'
ones_join (bit ∷ a) b h h' = (h.0, ones_join a b h.1 h')

-- ---- what a line ends with

pub ones_after_ones : (line bits : List Bool) → AreOnes bits → ones_at_end (line ++ bits) ≡ ones_at_end line + length bits
ones_after_ones line [] h = ap ones_at_end (append-nil line) ∙ omega arith
ones_after_ones line (bit ∷ bits) h =
    let one : ones_at_end (line ++ bit ∷ []) ≡ suc (ones_at_end line) = ones_with_one line bit h.0 in
    let rest = ones_after_ones (line ++ bit ∷ []) bits h.1 in
    ap ones_at_end (sym (append_assoc line (bit ∷ []) bits)) ∙ rest ∙ omega (arith, one)

pub ones_after_zero : (line a b : List Bool) (bit : Bool) → bit ≡ false → AreOnes b → ones_at_end (line ++ (a ++ bit ∷ b)) ≡ length b
ones_after_zero line a b bit is h =
    let none : ones_at_end ((line ++ a) ++ bit ∷ []) ≡ 0 = ones_with_zero (line ++ a) bit is in
    let rest = ones_after_ones ((line ++ a) ++ bit ∷ []) b h in
    ap ones_at_end (sym (append_assoc line a (bit ∷ b)) ∙ sym (append_assoc (line ++ a) (bit ∷ []) b)) ∙ rest ∙ omega (arith, none)

-- ---- bits that show nothing

kinds_one : (long : ℕ) (line : List Bool) → (suc (ones_at_end line) ≡ long → ⊥) → ais_kinds long line true ≡ []
kinds_one long line ne = ap (λ b. cond b (AIS_ON ∷ []) []) (ne_eqb (suc (ones_at_end line)) long ne)

kinds_zero : (long : ℕ) (line : List Bool) → ones_at_end line < long → ais_kinds long line false ≡ []
kinds_zero long line lt = ap (λ b. cond b (AIS_OFF ∷ []) []) (lt-leb long (ones_at_end line) lt)

-- too few to make a run long
pub calm_few : (long : ℕ) (line bits : List Bool) → ones_at_end line + length bits < long → IsCalm long line bits
calm_few long line [] h = tt
calm_few long line (true ∷ bits) h =
    let one : ones_at_end (line ++ true ∷ []) ≡ suc (ones_at_end line) = ones_with_one line true refl in
    (kinds_one long line (λ e. omega (arith, e, h)), calm_few long (line ++ true ∷ []) bits (omega (arith, one, h)))
calm_few long line (false ∷ bits) h =
    let none : ones_at_end (line ++ false ∷ []) ≡ 0 = ones_with_zero line false refl in
    (kinds_zero long line (omega (arith, h)), calm_few long (line ++ false ∷ []) bits (omega (arith, none, h)))

zero_one : false ≡ true → ⊥
zero_one e = cc

-- ones in AIS
pub calm_ones : (long : ℕ) (line bits : List Bool) → long ≤ ones_at_end line → AreOnes bits → IsCalm long line bits
calm_ones long line [] le h = tt
calm_ones long line (true ∷ bits) le h =
    let one : ones_at_end (line ++ true ∷ []) ≡ suc (ones_at_end line) = ones_with_one line true refl in
    (kinds_one long line (λ e. omega (arith, e, le)), calm_ones long (line ++ true ∷ []) bits (omega (arith, one, le)) h.1)
calm_ones long line (false ∷ bits) le h = absurd (zero_one h.0)

-- AIS goes on
pub calm_stays : (long : ℕ) (line bits : List Bool) → long ≤ ones_at_end line → IsCalm long line bits → long ≤ ones_at_end (line ++ bits)
calm_stays long line [] le calm = let same : ones_at_end (line ++ []) ≡ ones_at_end line = ap ones_at_end (append-nil line) in omega (arith, same, le)
calm_stays long line (true ∷ bits) le calm =
    let one : ones_at_end (line ++ true ∷ []) ≡ suc (ones_at_end line) = ones_with_one line true refl in
    let rest : long ≤ ones_at_end ((line ++ true ∷ []) ++ bits) = calm_stays long (line ++ true ∷ []) bits (omega (arith, one, le)) calm.1 in
    let same : ones_at_end ((line ++ true ∷ []) ++ bits) ≡ ones_at_end (line ++ true ∷ bits) = ap ones_at_end (append_assoc line (true ∷ []) bits) in
    omega (arith, rest, same)
calm_stays long line (false ∷ bits) le calm =
    let shown : ais_kinds long line false ≡ AIS_OFF ∷ [] = ap (λ b. cond b (AIS_OFF ∷ []) []) (le-leb long (ones_at_end line) le) in
    absurd (some (sym shown ∙ calm.0))
  where
    some : AIS_OFF ∷ [] ≡ [] → ⊥
    some e = cc

-- ---- ones from a place on

lead_ones : (xs : List Bool) (k : ℕ) → k ≡ prefix_len not (map not xs) → AreOnes (take k xs)
lead_ones xs zero e = tt
lead_ones [] (suc k) e = absurd (omega (arith, e))
lead_ones (true ∷ xs) (suc k) e = let rest : k ≡ prefix_len not (map not xs) = omega (arith, e) in (refl, lead_ones xs k rest)
lead_ones (false ∷ xs) (suc k) e = absurd (omega (arith, e))

pub lead_few : (xs : List Bool) (some k : ℕ) → k ≡ prefix_len not (map not (take some xs)) → k ≤ some
lead_few xs some k is =
    let short : length (map not (take some xs)) ≡ length (take some xs) = length-map (take some xs) not in
    omega (arith, is, prefix_len-le-length not (map not (take some xs)), short, length-take some xs)

-- so many ones, and those at the start of a word behind them
pub ones_more : (bits : List Bool) (from done some k : ℕ) → AreOnes (take done (drop from bits)) → k ≤ some → k ≡ prefix_len not (map not (take some (drop (from + done) bits))) → AreOnes (take (done + k) (drop from bits))
ones_more bits from done some k h few is =
    let behind : AreOnes (take k (drop (from + done) bits)) = subst AreOnes (take-take k some (drop (from + done) bits) few) (lead_ones (take some (drop (from + done) bits)) k is) in
    let there : take k (drop done (drop from bits)) ≡ take k (drop (from + done) bits) = ap (take k) (drop-drop done from bits) in
    subst AreOnes (sym (take-add done k (drop from bits))) (ones_join (take done (drop from bits)) (take k (drop done (drop from bits))) h (subst AreOnes (sym there) behind))

-- where all of them are ones
pub all_ones : (line piece : List Bool) (count : ℕ) → length piece ≡ count → AreOnes (drop (count - count) piece) → ones_at_end (line ++ piece) ≡ ones_at_end line + count
all_ones line piece count whole h =
    let none : count - count ≡ 0 = omega arith in
    let P : ℕ → Type 0 = λ n. AreOnes (drop n piece) in
    ones_after_ones line piece (subst P none h) ∙ ap (λ n. ones_at_end line + n) whole

-- and where one isn't
pub some_ones : (line piece : List Bool) (count ones : ℕ) → length piece ≡ count → ones < count → AreOnes (drop (count - ones) piece) → get_or piece (count - 1 - ones) false ≡ false → ones_at_end (line ++ piece) ≡ ones
some_ones line piece count ones whole lt h stop =
    let i : ℕ = count - 1 - ones in
    let next : count - ones ≡ suc i = omega (arith, lt) in
    let inside : i < length piece = omega (arith, whole, lt) in
    let parts : take i piece ++ (get_or piece i false ∷ drop (suc i) piece) ≡ piece = ap (λ x. take i piece ++ x) (sym (drop-cons piece i false inside)) ∙ take-append-drop i piece in
    let P : ℕ → Type 0 = λ n. AreOnes (drop n piece) in
    ap (λ x. ones_at_end (line ++ x)) (sym parts) ∙ ones_after_zero line (take i piece) (drop (suc i) piece) (get_or piece i false) stop (subst P next h) ∙ (length-drop (suc i) piece ∙ omega (arith, whole, lt))
