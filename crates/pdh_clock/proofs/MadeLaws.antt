-- Bounds on made schedules.
use Rattle.std.proofs.Common.{◌≡◌, ℕ, suc, ◌+◌, ◌*◌, ◌/◌, ◌<◌, ◌≤◌, inl, inr, ap, ◌∙◌, subst, sym, arith}
use Rattle.std.proofs.Math.Nat.{mul-le-mul_left, mul-le-mul_right, suc-mul, add-mul, div-mul-le_self, lt-div-mul-add}
use Rattle.std.proofs.lemmas.Nat.{le-div}
use Rattle.std.proofs.lemmas.Bool.{cases_lt}
use Rattle.pdh_shape.specs.declared.place.Level.{Level}
use Rattle.pdh_clock.specs.declared.bias.Offset.{Offset}
use Rattle.pdh_clock.specs.declared.bias.Offset.TheVariants.{Exact, Ahead, Behind}
use Rattle.pdh_row_text.specs.RateWords.{fast, slow}
use Rattle.pdh_clock.specs.Made.{IsRated, scale_of, made_arrived}

pub scale-between : (offset : Offset) (ppm : ℕ) → (slow ppm ≤ scale_of offset ppm) × (scale_of offset ppm ≤ fast ppm)
scale-between Exact ppm = (omega arith, omega arith)
scale-between Ahead ppm = (omega arith, omega arith)
scale-between Behind ppm = (omega arith, omega arith)

pub scale-most : (offset : Offset) (ppm : ℕ) → ppm ≤ 1000 → scale_of offset ppm ≤ 1001000
scale-most offset ppm h = let most = (scale-between offset ppm).1 in omega arith

pub scale-least : (offset : Offset) (ppm : ℕ) → ppm ≤ 1000 → 999000 ≤ scale_of offset ppm
scale-least offset ppm h = let least = (scale-between offset ppm).0 in omega arith

-- what is divided grows by a part that is no more than so many times the divisor
pub div-grows : (x part line len : ℕ) → 0 < line → part ≤ len * line → (x + part) / line ≤ x / line + len
div-grows x part line len some h =
    let below : (x + part) / line * line ≤ x + part = div-mul-le_self (x + part) line in
    let above : x < x / line * line + line = lt-div-mul-add some in
    elim (cases_lt (x / line + len) ((x + part) / line)) [
      | inl past ↦
          let more : suc (x / line + len) * line ≤ (x + part) / line * line = mul-le-mul_right line past in
          absurd (omega (arith, more, below, above, add-mul (x / line) len line, suc-mul (x / line + len) line))
      | inr upto ↦ upto
    ]

-- the rates of the line and of a tributary, in the same unit
abbrev pub line_rate : Level → Offset → ℕ
line_rate level line = level.rate * level.trib_per * scale_of line level.ppm

abbrev pub trib_rate : Level → Offset → ℕ
trib_rate level trib = level.trib_rate * level.per * scale_of trib level.trib_ppm

-- a tributary's rate is no more than the line's, whatever the offsets
rate-most : (level : Level) (line trib : Offset) → IsRated level → trib_rate level trib ≤ line_rate level line
rate-most level line trib rated =
    let arriving = level.trib_rate * level.per in
    let whole = level.rate * level.trib_per in
    omega (arith, rated.half, mul-le-mul_left arriving (scale-most trib level.trib_ppm rated.trib_offset), mul-le-mul_left whole (scale-least line level.ppm rated.offset))

pub some_line : (level : Level) (line : Offset) → IsRated level → 0 < line_rate level line
some_line level line rated =
    let scale : 1 ≤ scale_of line level.ppm = omega (arith, scale-least line level.ppm rated.offset) in
    omega (arith, rated.some_rate, mul-le-mul_left (level.rate * level.trib_per) scale)

-- a frame brings no more bits than it has
pub made_arrived-most : (level : Level) (line trib : Offset) (n : ℕ) → IsRated level → made_arrived level line trib (suc n) ≤ made_arrived level line trib n + level.len
made_arrived-most level line trib n rated =
    let arriving = trib_rate level trib in
    let whole = line_rate level line in
    let part : level.len * arriving ≤ level.len * whole = mul-le-mul_left level.len (rate-most level line trib rated) in
    let next : suc n * level.len * arriving ≡ n * level.len * arriving + level.len * arriving = ap (λ k. k * arriving) (suc-mul n level.len) ∙ add-mul (n * level.len) level.len arriving in
    subst (λ k. k / whole ≤ n * level.len * arriving / whole + level.len) (sym next) (div-grows (n * level.len * arriving) (level.len * arriving) whole level.len (some_line level line rated) part)

pub made_arrived-grows : (level : Level) (line trib : Offset) (n : ℕ) → IsRated level → made_arrived level line trib n ≤ made_arrived level line trib (suc n)
made_arrived-grows level line trib n rated =
    let arriving = trib_rate level trib in
    let whole = line_rate level line in
    let more : n * level.len * arriving ≤ suc n * level.len * arriving = mul-le-mul_right arriving (mul-le-mul_right level.len (omega arith)) in
    le-div (n * level.len * arriving / whole) (suc n * level.len * arriving) whole (some_line level line rated) (omega (arith, div-mul-le_self (n * level.len * arriving) whole, more))
