-- Arrivals whose clocks keep to their offsets are within the tolerance, and what an answer about the tolerance says.
use Rattle.std.proofs.Common.{◌≡◌, ℕ, suc, ◌+◌, ◌-◌, ◌*◌, ◌<◌, ◌≤◌, Option, Some, None, Result, Ok, Err, ap, sym, ◌∙◌, arith}
use Rattle.std.specs.Option.{option_map_or}
use Rattle.std.proofs.Math.Nat.{mul-le-mul_left, mul-pos, le_of_mul-le-mul_right}
use Rattle.pdh_shape.specs.Frame.{FrameShape}
use Rattle.pdh_shape.specs.declared.place.Level.{Level}
use Rattle.pdh_levels.specs.Levels.{IsElastic}
use Rattle.pdh_shape.specs.OwnNumbers.{allowance}
use Rattle.pdh_line.specs.Tolerance.{arrived_over, IsWithin}
use Rattle.pdh_rows.specs.declared.outside.Outside.{Outside}
use Rattle.pdh_row_text.specs.RateWords.{fast, slow}
use Rattle.pdh_clock.specs.Made.{IsRated}
use Rattle.pdh_clock.specs.Rates.{IsWithinRates}
use Rattle.pdh_rows.specs.Outside.{first_outside, run_in}
use Rattle.pdh_rows.proofs.FirstBreaks.{keeps_run, none_breaks}
use Rattle.pdh_rows.proofs.OutsideLaws.{none_outside, within-none_outside}

-- at least what the fastest line carries at least: its rate cancels
least_cancels : (low run len arriving line bits : ℕ) → low * line ≤ len * arriving → run * len * arriving ≤ (bits + allowance) * line → 0 < line
    → low * run ≤ bits + allowance
least_cancels low run len arriving line bits carried arrive some =
    let more : run * (low * line) ≤ run * (len * arriving) = mul-le-mul_left run carried in
    let product : low * run * line ≤ (bits + allowance) * line = omega (arith, more, arrive) in
    le_of_mul-le-mul_right product some

-- and at most what the slowest line carries at most
most_cancels : (low run len arriving line bits : ℕ) → len * arriving ≤ suc low * line → bits * line ≤ run * len * arriving + allowance * line → 0 < line
    → bits ≤ suc low * run + allowance
most_cancels low run len arriving line bits carried arrive some =
    let more : run * (len * arriving) ≤ run * (suc low * line) = mul-le-mul_left run carried in
    let product : bits * line ≤ (suc low * run + allowance) * line = omega (arith, more, arrive) in
    le_of_mul-le-mul_right product some

pub within_rates-none : (level : Level) (counts : ℕ → ℕ) (frames : ℕ) → IsRated level → IsElastic level → IsWithinRates level counts frames
    → first_outside level.low counts frames ≡ None
within_rates-none level counts frames rated elastic within = none_breaks level.low counts frames (λ m n h l.
    let inside : m + (n - m) ≤ frames = omega arith in
    let offset : level.ppm ≤ 1000 = rated.offset in
    keeps_run level.low counts m (n - m)
    (most_cancels level.low (n - m) level.len (level.trib_rate * level.per * fast level.trib_ppm) (level.rate * level.trib_per * slow level.ppm)
    (arrived_over counts m (n - m)) (rated.most elastic) (within.most m (n - m) inside) (mul-pos rated.some_rate (omega arith)))
    (least_cancels level.low (n - m) level.len (level.trib_rate * level.per * slow level.trib_ppm) (level.rate * level.trib_per * fast level.ppm)
    (arrived_over counts m (n - m)) (rated.least elastic) (within.least m (n - m) inside) (mul-pos rated.some_rate (omega arith))))

-- ---- an answer about the tolerance

-- it is Ok exactly where no run breaks the tolerance
pub ok_of_none : (answer : Result (Unit {0}) Outside) → run_in answer ≡ None → answer ≡ Ok tt
ok_of_none (Ok u) h = ap Ok cc
ok_of_none (Err outside) h = cc

pub none_of_ok : (answer : Result (Unit {0}) Outside) → answer ≡ Ok tt → run_in answer ≡ None
none_of_ok answer h = ap run_in h

pub ok_within : (s : FrameShape) (low : ℕ) (counts : ℕ → ℕ) (frames : ℕ) (answer : Result (Unit {0}) Outside)
    → run_in answer ≡ first_outside low counts frames → s.low ≡ low → answer ≡ Ok tt → IsWithin s counts frames
ok_within s low counts frames answer run same ok =
    none_outside s counts frames (ap (λ n. first_outside n counts frames) same ∙ sym run ∙ none_of_ok answer ok)

pub within_ok : (s : FrameShape) (low : ℕ) (counts : ℕ → ℕ) (frames : ℕ) (answer : Result (Unit {0}) Outside)
    → run_in answer ≡ first_outside low counts frames → s.low ≡ low → IsWithin s counts frames → answer ≡ Ok tt
within_ok s low counts frames answer run same within =
    ok_of_none answer (run ∙ ap (λ n. first_outside n counts frames) (sym same) ∙ within-none_outside s counts frames within)

pub within_rates-ok : (level : Level) (found : Option Level) (counts : ℕ → ℕ) (frames : ℕ) (answer : Result (Unit {0}) Outside)
    → run_in answer ≡ first_outside (option_map_or (λ (level : Level). level.low) found 0) counts frames → found ≡ Some level
    → IsRated level → IsElastic level → IsWithinRates level counts frames → answer ≡ Ok tt
within_rates-ok level found counts frames answer run is rated elastic within =
    ok_of_none answer (run ∙ ap (λ o. first_outside (option_map_or (λ (level : Level). level.low) o 0) counts frames) is
    ∙ within_rates-none level counts frames rated elastic within)
