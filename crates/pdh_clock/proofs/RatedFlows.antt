-- The flows of rate rows: they fit, no frame brings more than it has slots, and made schedules are such rows.
use Rattle.std.proofs.Common.{◌≡◌, ℕ, ◌*◌, ◌/◌, ◌<◌, ◌≤◌, ◌^◌, sym, ap, ◌∙◌, arith}
use Rattle.std.proofs.Math.Nat.{mul-le-mul_left, mul-le-mul_right, mul_assoc, mul_comm}
use Rattle.pdh_shape.specs.declared.place.Level.{Level}
use Rattle.pdh_levels.specs.Levels.{IsLevel, longest_frame}
use Rattle.pdh_rows.specs.declared.flow.Flow.{Flow}
use Rattle.pdh_rows.specs.declared.flow.Says.TheVariants.{Rates}
use Rattle.pdh_rows.specs.Flows.{flowed, flow_count, flow_in, FlowFits}
use Rattle.pdh_rows.proofs.FlowLaws.{flow-most}
use Rattle.pdh_clock.specs.declared.bias.Offset.{Offset}
use Rattle.pdh_clock.specs.Row.{ratio_of}
use Rattle.pdh_clock.specs.Made.{IsRated, made_arrived, scale_of}

-- the flow of a tributary at rates of the line and of the tributary in millionths of the nominal ones
abbrev pub rated : Level → ℕ → ℕ → Flow
rated level line trib = flow_in (ratio_of level) (Rates line) trib

-- offsets of at most 1000 parts per million
pub record AreRates (line trib : ℕ) : Type 0 where
  pub line_least : 999000 ≤ line
  pub line_most : line ≤ 1001000
  pub trib_most : trib ≤ 1001000

pub rated-some : (level : Level) (line trib : ℕ) → IsRated level → AreRates line trib → 0 < (rated level line trib).frames
rated-some level line trib h r =
    let some : 1 * line ≤ level.rate * level.trib_per * line = mul-le-mul_right line h.some_rate in
    omega (arith, some, r.line_least)

-- the bits that arrive in a frame's time are no more than its slots
pub rated-most : (level : Level) (line trib : ℕ) → IsRated level → AreRates line trib
    → (rated level line trib).bits ≤ level.len * (rated level line trib).frames
rated-most level line trib h r =
    let x : ℕ = level.trib_rate * level.per in
    let whole : ℕ = level.rate * level.trib_per in
    let slow : trib ≤ 2 * line = omega (arith, r.line_least, r.trib_most) in
    let left : 2 * x * trib ≤ whole * trib = mul-le-mul_right trib h.half in
    let right : whole * trib ≤ whole * (2 * line) = mul-le-mul_left whole slow in
    let two : 2 * x * trib ≡ 2 * (x * trib) = mul_assoc 2 x trib in
    let twice : whole * (2 * line) ≡ 2 * (whole * line) = sym (mul_assoc whole 2 line) ∙ ap (λ n. n * line) (mul_comm whole 2) ∙ mul_assoc 2 whole line in
    let fewer : x * trib ≤ whole * line = omega (arith, left, right, two, twice) in
    omega (arith, mul_assoc level.len x trib, mul-le-mul_left level.len fewer)

pub rated-fits : (level : Level) (line trib repeat : ℕ) → IsLevel level → IsRated level → AreRates line trib
    → repeat ≤ 2 ^ 20 → FlowFits repeat (rated level line trib)
rated-fits level line trib repeat is h r short =
    let whole : ℕ = level.rate * level.trib_per in
    let scaled : whole * line ≤ 2 ^ 55 * line = mul-le-mul_right line (let few = h.few in omega arith) in
    let small : whole * line ≤ 2 ^ 55 * 1001000 = omega (arith, scaled, r.line_most) in
    let all : repeat * (whole * line) ≤ 2 ^ 20 * (whole * line) = mul-le-mul_right (whole * line) short in
    let longest : level.len * (whole * line) ≤ longest_frame * (whole * line) = mul-le-mul_right (whole * line) is.longest in
    record {
      some = rated-some level line trib h r;
      few = omega (arith, small);
      all_few = omega (arith, all, small);
      most = omega (arith, rated-most level line trib h r, longest);
    }

-- no rate row has a count above a frame's bits
pub rated-counts : (level : Level) (line trib n : ℕ) → IsRated level → AreRates line trib → flow_count (rated level line trib) n ≤ level.len
rated-counts level line trib n h r = flow-most (rated level line trib) level.len n (rated-some level line trib h r) (rated-most level line trib h r)

-- a made schedule brings the bits of such a row
pub made-rated : (level : Level) (line trib : Offset) (n : ℕ)
    → made_arrived level line trib n ≡ flowed (rated level (scale_of line level.ppm) (scale_of trib level.trib_ppm)) n
made-rated level line trib n =
    let x : ℕ = level.trib_rate * level.per in
    let y : ℕ = scale_of trib level.trib_ppm in
    let same : n * level.len * (x * y) ≡ n * (level.len * x * y) = mul_assoc n level.len (x * y) ∙ ap (λ b. n * b) (sym (mul_assoc level.len x y)) in
    ap (λ b. b / (level.rate * level.trib_per * scale_of line level.ppm)) same
