-- Planes of bits that show runs.
use Rattle.std.proofs.Common.{◌≡◌, ℕ, suc, ◌+◌, ◌<◌, ◌≤◌, ◌⊎◌, min, Bool, true, false, ◌&&◌, List, length, take, drop, get_or, refl, sym, ◌∙◌, ap, inl, inr, arith, length-take, length-drop}
use Rattle.std.specs.Prelude.{nat_le}
use Rattle.std.proofs.lemmas.Bool.{cases_lt, le-leb, lt-leb}
use Rattle.std.proofs.lemmas.List.{get_or-take, get_or-drop}
use Rattle.pdh_packed.specs.Places.{both, overwritten}
use Rattle.pdh_packed.proofs.PlacesLaws.{length-both, get_or-both, overwritten-at, overwritten-before_at, overwritten-behind_at}
use Rattle.pdh_phases.specs.Keeping.{longer}

-- a run with one more position is so many at least where the signal stands there and the run was one fewer at least
same_test : (least run : ℕ) → least ≤ 2 → nat_le (suc least) (min 3 (suc run)) ≡ nat_le least run
same_test least run few =
    elim (cases_lt run least) [
      | inl below ↦ lt-leb (suc least) (min 3 (suc run)) (omega (arith, below)) ∙ sym (lt-leb least run below)
      | inr above ↦ le-leb (suc least) (min 3 (suc run)) (omega (arith, above, few)) ∙ sym (le-leb least run above)
    ]

pub longer-reaches : (least run : ℕ) (was stands : Bool) → least ≤ 2 → was ≡ nat_le least run → (was && stands) ≡ nat_le (suc least) (longer run stands)
longer-reaches least run was true few is = and_true was ∙ is ∙ sym (same_test least run few)
  where
    and_true : (b : Bool) → (b && true) ≡ b
    and_true true = refl
    and_true false = refl
longer-reaches least run was false few is = and_false was ∙ sym (lt-leb (suc least) 0 (omega arith))
  where
    and_false : (b : Bool) → (b && false) ≡ false
    and_false true = refl
    and_false false = refl

-- ---- one plane

-- what is written over a plane: where the plane before it was 1 and the signal stands
pub written-length : (was stands : List Bool) (phase : ℕ) → phase + length stands ≤ length was → length (both (take (length stands) (drop phase was)) stands) ≡ length stands
written-length was stands phase within =
    omega (arith, length-both (take (length stands) (drop phase was)) stands, length-take (length stands) (drop phase was), length-drop phase was, within)

pub written-at : (was plane after stands : List Bool) (phase i least run : ℕ) → phase + length stands ≤ length was → phase + length stands ≤ length plane → i < length stands → least ≤ 2
    → after ≡ overwritten phase (both (take (length stands) (drop phase was)) stands) plane → get_or was (phase + i) false ≡ nat_le least run
    → get_or after (phase + i) false ≡ nat_le (suc least) (longer run (get_or stands i false))
written-at was plane after stands phase i least run within room lt few is shows =
    let part : List Bool = both (take (length stands) (drop phase was)) stands in
    let long : length part ≡ length stands = written-length was stands phase within in
    let front : i < length (take (length stands) (drop phase was)) = omega (arith, length-take (length stands) (drop phase was), length-drop phase was, within, lt) in
    let read : get_or (take (length stands) (drop phase was)) i false ≡ nat_le least run = get_or-take (length stands) (drop phase was) i false lt ∙ get_or-drop phase was i false ∙ shows in
    ap (λ x. get_or x (phase + i) false) is ∙ overwritten-at phase part plane i (omega (arith, room)) (omega (arith, long, lt)) ∙ get_or-both (take (length stands) (drop phase was)) stands i front lt
    ∙ longer-reaches least run (get_or (take (length stands) (drop phase was)) i false) (get_or stands i false) few read

-- elsewhere the plane stays as it was
pub written-elsewhere : (part plane after : List Bool) (phase k m : ℕ) → length part ≡ m → phase + m ≤ length plane → (k < phase) ⊎ (phase + m ≤ k) → after ≡ overwritten phase part plane
    → get_or after k false ≡ get_or plane k false
written-elsewhere part plane after phase k m long room (inl before) is = ap (λ x. get_or x k false) is ∙ overwritten-before_at phase part plane k (omega (arith, room)) before
written-elsewhere part plane after phase k m long room (inr behind) is = ap (λ x. get_or x k false) is ∙ overwritten-behind_at phase part plane k (omega (arith, room)) (omega (arith, behind, long))
