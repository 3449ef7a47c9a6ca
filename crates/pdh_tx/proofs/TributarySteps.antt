-- One more bit of a line, and what a call met.
use Rattle.std.proofs.Common.{◌≡◌, ℕ, suc, ◌+◌, Bool, true, List, [], ◌∷◌, ◌++◌, length, map, refl, sym, ap, ◌∙◌, arith, Some, Option, length-append}
use Rattle.std.specs.List.{range_with_len}
use Rattle.std.proofs.lemmas.List.{map-append}
use Rattle.pdh_line.proofs.Ranges.{range_push}
use Rattle.pdh_edge.specs.Counts.{one_more}
use Rattle.pdh_tx.specs.declared.tx.TxStop.{TxStop}
use Rattle.pdh_tx.specs.declared.tx.TxStop.TheVariants.{Overflow, Underflow, NoFrame, Failed, Ended, LogFailed}
use Rattle.pdh_tx.specs.Meaning.{Met, is_failed, faults_met}
use Rattle.pdh_tx.specs.Held.{IsPart}

-- the line's next bit joins those held
pub part_push : (line : ℕ → Bool) (bits : List Bool) (from to : ℕ) (bit : Bool) → IsPart line bits from → from + length bits ≡ to → bit ≡ line to → IsPart line (bits ++ bit ∷ []) from
part_push line bits from to bit part count is =
    let long : length (bits ++ bit ∷ []) ≡ suc (length bits) = length-append bits (bit ∷ []) ∙ omega arith in
    ap (λ b. bits ++ b ∷ []) (is ∙ ap line (sym count)) ∙ ap (λ xs. xs ++ line (from + length bits) ∷ []) part
    ∙ sym (map-append line (range_with_len from (length bits)) ((from + length bits) ∷ []))
    ∙ ap (map line) (sym (range_push from (length bits))) ∙ ap (λ n. map line (range_with_len from n)) (sym long)

pub met_weaker : (fits fits' : (ℕ → ℕ) → Type 0) (first first' : (ℕ → ℕ) → Option TxStop) (stop : TxStop) (f g f' : ℕ) → f ≡ f'
    → ((size : ℕ → ℕ) → fits' size → fits size) → ((size : ℕ → ℕ) → fits' size → first size ≡ Some stop → first' size ≡ Some stop) → Met fits first stop f g → Met fits' first' stop f' g
met_weaker fits fits' first first' stop f g f' same narrower longer met = record {
  counted = met.counted ∙ ap (faults_met stop) same;
  is_first = λ h size fit. longer size fit (met.is_first h size (narrower size fit));
}

-- a failure of the feed is counted once
pub faults_failed : (stop : TxStop) (faults : ℕ) → (stop ≡ LogFailed → ⊥) → is_failed stop ≡ true → faults_met stop faults ≡ one_more faults
faults_failed (Overflow place) faults other h = cc
faults_failed (Underflow place) faults other h = cc
faults_failed (NoFrame node) faults other h = cc
faults_failed Failed faults other h = refl
faults_failed (Ended leaf) faults other h = cc
faults_failed LogFailed faults other h = absurd (other refl)
