-- What the frames of a line tell, one by one and at once.
use Rattle.std.proofs.Common.{◌≡◌, ℕ, ◌+◌, ◌-◌, ◌^◌, Bool, true, false, List, [], ◌∷◌, refl, ap, ◌∙◌, arith}
use Rattle.std.specs.Prelude.{min, fold, count_by, if◌then◌else◌, ◌&&◌}
use Rattle.std.specs.List.{list_all}
use Rattle.std.proofs.lemmas.List.Sums.{sum_by-cons}
use Rattle.pdh_delivered.specs.declared.c_bits.CBits.{CBits}
use Rattle.pdh_delivered.specs.Deliveries.{Delivery}
use Rattle.pdh_delivered.specs.CBits.{says_c_bit_parity, counted, one_more, with_frame}
use Rattle.pdh_delivered.specs.Alike.{is_alike, with_frame as with_alike}

-- one more of a count that may stand
one_more_told : (n : ℕ) → one_more (min n (2 ^ 64 - 1)) ≡ min (n + 1) (2 ^ 64 - 1)
one_more_told n = omega arith

-- so many frames, and so many that say C-bit parity
abbrev told : ℕ → ℕ → CBits
told frames saying = record { frames = min frames (2 ^ 64 - 1); saying = min saying (2 ^ 64 - 1) }

abbrev says : Delivery → Bool
says delivery = says_c_bit_parity delivery.frame

counted_more : (test : Delivery → Bool) (delivery : Delivery) (deliveries : List Delivery)
    → count_by test (delivery ∷ deliveries) ≡ (if test delivery then 1 else 0) + count_by test deliveries
counted_more test delivery deliveries = sum_by-cons (λ (d : Delivery). if test d then 1 else 0) delivery deliveries

abbrev any : Delivery → Bool
any delivery = true

told_same : (a b c d : ℕ) → a ≡ c → b ≡ d → told a b ≡ told c d
told_same a b c d frames saying = λ i. told (frames i) (saying i)

-- with one more that says so, or doesn't
one_told : (frames saying : ℕ) (says_so : Bool)
    → record { frames = one_more (min frames (2 ^ 64 - 1)); saying = (if says_so then one_more (min saying (2 ^ 64 - 1)) else min saying (2 ^ 64 - 1)) }
    ≡ told (frames + 1) (saying + (if says_so then 1 else 0))
one_told frames saying true = λ i. record { frames = one_more_told frames i; saying = one_more_told saying i }
one_told frames saying false =
    let none : saying ≡ saying + 0 = omega arith in
    λ i. record { frames = one_more_told frames i; saying = min (none i) (2 ^ 64 - 1) }

counted_from : (frames saying : ℕ) (deliveries : List Delivery)
    → fold with_frame (told frames saying) deliveries ≡ told (frames + count_by any deliveries) (saying + count_by says deliveries)
counted_from frames saying [] =
    let a : frames ≡ frames + 0 = omega arith in
    let b : saying ≡ saying + 0 = omega arith in
    told_same _ _ _ _ a b
counted_from frames saying (delivery ∷ deliveries) =
    let one : ℕ = (if says delivery then 1 else 0) in
    let a : frames + 1 + count_by any deliveries ≡ frames + count_by any (delivery ∷ deliveries) = omega (arith, counted_more any delivery deliveries) in
    let b : saying + one + count_by says deliveries ≡ saying + count_by says (delivery ∷ deliveries) = omega (arith, counted_more says delivery deliveries) in
    ap (λ (counts : CBits). fold with_frame counts deliveries) (one_told frames saying (says delivery))
    ∙ counted_from (frames + 1) (saying + one) deliveries ∙ told_same _ _ _ _ a b

-- the frames of a line
pub frames_counted : (deliveries : List Delivery)
    → fold with_frame (record { frames = 0; saying = 0 }) deliveries ≡ record { frames = counted (λ frame. true) deliveries; saying = counted says_c_bit_parity deliveries }
frames_counted deliveries =
    let a : 0 + count_by any deliveries ≡ count_by any deliveries = omega arith in
    let b : 0 + count_by says deliveries ≡ count_by says deliveries = omega arith in
    counted_from 0 0 deliveries ∙ told_same _ _ _ _ a b

-- ---- frames that are alike

pub alike_so_far : (so_far : Bool) (deliveries : List Delivery)
    → (fold with_alike (record { alike = so_far }) deliveries).alike ≡ so_far && list_all is_alike deliveries
alike_so_far true [] = refl
alike_so_far false [] = refl
alike_so_far true (delivery ∷ deliveries) = alike_so_far (is_alike delivery) deliveries
alike_so_far false (delivery ∷ deliveries) = alike_so_far false deliveries
