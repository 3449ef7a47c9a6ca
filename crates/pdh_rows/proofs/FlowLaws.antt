-- The sums of a flow, and where it passes a line.
use Rattle.std.proofs.Common.{◌≡◌, ℕ, suc, ◌+◌, ◌-◌, ◌*◌, ◌/◌, ◌<◌, ◌≤◌, ◌^◌, sym, ap, ◌∙◌, inl, inr, arith}
use Rattle.std.proofs.lemmas.Bool.{cases_lt}
use Rattle.std.proofs.lemmas.Nat.{le-div}
use Rattle.std.proofs.Math.Nat.{mul-le-mul_left, mul-le-mul_right, mul_assoc, mul_comm, add-mul, mul-add, suc-mul, div-mul-le_self, lt-div-mul-add}
use Rattle.pdh_rows.specs.declared.flow.Flow.{Flow}
use Rattle.pdh_rows.specs.Flows.{flowed, flow_count, each, FlowFits, Ahead, IsCross, NeverCross}

-- what is divided grows with it
div-le : (a b d : ℕ) → 0 < d → a ≤ b → a / d ≤ b / d
div-le a b d some h = le-div (a / d) b d some (omega (arith, div-mul-le_self a d, h))

pub flowed-grows : (flow : Flow) (m n : ℕ) → 0 < flow.frames → m ≤ n → flowed flow m ≤ flowed flow n
flowed-grows flow m n some h = div-le (m * flow.bits) (n * flow.bits) flow.frames some (mul-le-mul_right flow.bits h)

pub flowed-none : (flow : Flow) → 0 < flow.frames → flowed flow 0 ≡ 0
flowed-none flow some =
    let none : 0 * flow.bits ≡ 0 = omega arith in
    let below : 0 * flow.bits / flow.frames * flow.frames ≤ 0 * flow.bits = div-mul-le_self (0 * flow.bits) flow.frames in
    elim (cases_lt 0 (flowed flow 0)) [
      | inl more ↦ absurd (omega (arith, none, below, mul-le-mul_right flow.frames more, some))
      | inr same ↦ omega arith
    ]

-- a row of equal counts is a flow
div-one : (n : ℕ) → n / 1 ≡ n
div-one n = let below : n / 1 * 1 ≤ n = div-mul-le_self n 1 in let above : n < n / 1 * 1 + 1 = lt-div-mul-add (omega arith) in omega arith

pub flowed-each : (count n : ℕ) → flowed (each count) n ≡ n * count
flowed-each count n = div-one (n * count)

-- a frame brings no more than it has slots, where the flow does
pub flow-most : (flow : Flow) (len n : ℕ) → 0 < flow.frames → flow.bits ≤ len * flow.frames → flow_count flow n ≤ len
flow-most flow len n some few =
    let d : ℕ = flow.frames in
    let x : ℕ = n * flow.bits in
    let next : suc n * flow.bits ≡ x + flow.bits = omega (arith, suc-mul n flow.bits) in
    let above : x < x / d * d + d = lt-div-mul-add some in
    let below : (x + flow.bits) / d * d ≤ x + flow.bits = div-mul-le_self (x + flow.bits) d in
    let now : suc n * flow.bits / d ≡ (x + flow.bits) / d = ap (λ k. k / d) next in
    elim (cases_lt (x / d + len) ((x + flow.bits) / d)) [
      | inl past ↦ absurd (omega (arith, mul-le-mul_right d past, below, above, few, add-mul (x / d) len d, suc-mul (x / d + len) d))
      | inr upto ↦ omega (arith, now, upto)
    ]

-- ---- a flow against a line of so many bits a frame

-- ahead by j and i: floor(i·b/d) - floor(j·b/d) is at least c·(i-j), where b is at least c·d
pub ahead-flow : (flow : Flow) (c : ℕ) → 0 < flow.frames → c * flow.frames ≤ flow.bits → Ahead (flowed flow) (λ n. n * c)
ahead-flow flow c some more j i h =
    let d : ℕ = flow.frames in
    let b : ℕ = flow.bits in
    let k : ℕ = i - j in
    let is : j + k ≡ i = omega arith in
    let split : i * b ≡ j * b + k * b = ap (λ n. n * b) (sym is) ∙ add-mul j k b in
    let line : i * c ≡ j * c + k * c = ap (λ n. n * c) (sym is) ∙ add-mul j k c in
    let part : k * c * d ≤ k * b = (let e = mul-le-mul_left k more in omega (arith, e, mul_assoc k c d)) in
    let low : j * b / d * d ≤ j * b = div-mul-le_self (j * b) d in
    let up : j * b / d + k * c ≤ i * b / d = le-div (j * b / d + k * c) (i * b) d some (omega (arith, add-mul (j * b / d) (k * c) d, low, part, split)) in
    omega (arith, line, up)

-- and at most, where b is at most c·d
pub behind-flow : (flow : Flow) (c : ℕ) → 0 < flow.frames → flow.bits ≤ c * flow.frames → Ahead (λ n. n * c) (flowed flow)
behind-flow flow c some less j i h =
    let d : ℕ = flow.frames in
    let b : ℕ = flow.bits in
    let k : ℕ = i - j in
    let is : j + k ≡ i = omega arith in
    let split : i * b ≡ j * b + k * b = ap (λ n. n * b) (sym is) ∙ add-mul j k b in
    let line : i * c ≡ j * c + k * c = ap (λ n. n * c) (sym is) ∙ add-mul j k c in
    let part : k * b ≤ k * c * d = (let e = mul-le-mul_left k less in omega (arith, e, mul_assoc k c d)) in
    let above : j * b < j * b / d * d + d = lt-div-mul-add some in
    let below : i * b / d * d ≤ i * b = div-mul-le_self (i * b) d in
    elim (cases_lt (j * b / d + k * c) (i * b / d)) [
      | inl past ↦ absurd (omega (arith, mul-le-mul_right d past, below, above, part, split, add-mul (j * b / d) (k * c) d, suc-mul (j * b / d + k * c) d))
      | inr upto ↦ omega (arith, line, upto)
    ]

-- ---- where they cross, by straight lines

-- a flow is above a number exactly where its bits are
pub above-flow : (flow : Flow) (n x : ℕ) → 0 < flow.frames → x * flow.frames ≤ n * flow.bits → x ≤ flowed flow n
above-flow flow n x some h = le-div x (n * flow.bits) flow.frames some h

pub flow-above : (flow : Flow) (n x : ℕ) → x ≤ flowed flow n → x * flow.frames ≤ n * flow.bits
flow-above flow n x h = omega (arith, mul-le-mul_right flow.frames h, div-mul-le_self (n * flow.bits) flow.frames)

-- lower + n·c < upper + floor(n·b/d) exactly where (lower+1)·d + n·(c·d) ≤ upper·d + n·b, for lower at least upper
pub rises-line : (flow : Flow) (gap c n : ℕ) → 0 < flow.frames → gap + n * c < flowed flow n → gap * flow.frames + flow.frames + n * (c * flow.frames) ≤ n * flow.bits
rises-line flow gap c n some h =
    let d : ℕ = flow.frames in
    let up : (gap + n * c + 1) * d ≤ n * flow.bits = flow-above flow n (gap + n * c + 1) (omega arith) in
    omega (arith, up, add-mul (gap + n * c) 1 d, add-mul gap (n * c) d, mul_assoc n c d)

pub line-rises : (flow : Flow) (gap c n : ℕ) → 0 < flow.frames → gap * flow.frames + flow.frames + n * (c * flow.frames) ≤ n * flow.bits → gap + n * c < flowed flow n
line-rises flow gap c n some h =
    let d : ℕ = flow.frames in
    let up : gap + n * c + 1 ≤ flowed flow n = above-flow flow n (gap + n * c + 1) some (omega (arith, h, add-mul (gap + n * c) 1 d, add-mul gap (n * c) d, mul_assoc n c d)) in
    omega (arith, up)

-- gap + floor(n·b/d) < n·c exactly where gap·d + n·b < n·(c·d)
pub falls-line : (flow : Flow) (gap c n : ℕ) → 0 < flow.frames → gap + flowed flow n < n * c → gap * flow.frames + n * flow.bits < n * (c * flow.frames)
falls-line flow gap c n some h =
    let d : ℕ = flow.frames in
    let x : ℕ = n * flow.bits in
    let above : x < x / d * d + d = lt-div-mul-add some in
    let room : (gap + x / d + 1) * d ≤ n * c * d = mul-le-mul_right d (omega arith) in
    omega (arith, above, room, add-mul (gap + x / d) 1 d, add-mul gap (x / d) d, mul_assoc n c d)

pub line-falls : (flow : Flow) (gap c n : ℕ) → 0 < flow.frames → gap * flow.frames + n * flow.bits < n * (c * flow.frames) → gap + flowed flow n < n * c
line-falls flow gap c n some h =
    let d : ℕ = flow.frames in
    let x : ℕ = n * flow.bits in
    let below : x / d * d ≤ x = div-mul-le_self x d in
    elim (cases_lt (gap + x / d) (n * c)) [
      | inl less ↦ less
      | inr past ↦ absurd (omega (arith, below, mul-le-mul_right d past, add-mul gap (x / d) d, mul_assoc n c d, h))
    ]

-- ---- so a division finds it

not_above : (lower lower_step upper_step k : ℕ) → lower_step < upper_step → k ≤ lower / (upper_step - lower_step)
    → k * upper_step ≤ lower + k * lower_step
not_above lower lower_step upper_step k faster few =
    let gain : ℕ = upper_step - lower_step in
    let split : k * upper_step ≡ k * lower_step + k * gain = ap (λ s. k * s) (let s : upper_step ≡ lower_step + gain = omega arith in s) ∙ mul-add k lower_step gain in
    let most : k * gain ≤ lower / gain * gain = mul-le-mul_right gain few in
    omega (arith, split, most, div-mul-le_self lower gain)

above_next : (lower lower_step upper_step : ℕ) → lower_step < upper_step
    → lower + suc (lower / (upper_step - lower_step)) * lower_step < suc (lower / (upper_step - lower_step)) * upper_step
above_next lower lower_step upper_step faster =
    let gain : ℕ = upper_step - lower_step in
    let k : ℕ = suc (lower / gain) in
    let split : k * upper_step ≡ k * lower_step + k * gain = ap (λ s. k * s) (let s : upper_step ≡ lower_step + gain = omega arith in s) ∙ mul-add k lower_step gain in
    let more : k * gain ≡ lower / gain * gain + gain = suc-mul (lower / gain) gain ∙ omega arith in
    let past : lower < lower / gain * gain + gain = lt-div-mul-add (omega arith) in
    omega (arith, split, more, past)

-- a flow that rises above a line is faster than it
pub faster-rises : (flow : Flow) (gap c most : ℕ) → 0 < flow.frames → gap + most * c < flowed flow most → c * flow.frames < flow.bits
faster-rises flow gap c most some h = elim (cases_lt (c * flow.frames) flow.bits) [
  | inl faster ↦ faster
  | inr slow ↦ absurd (omega (arith, rises-line flow gap c most some h, mul-le-mul_left most slow))
]

pub faster-falls : (flow : Flow) (gap c most : ℕ) → 0 < flow.frames → gap + flowed flow most < most * c → flow.bits < c * flow.frames
faster-falls flow gap c most some h = elim (cases_lt flow.bits (c * flow.frames)) [
  | inl faster ↦ faster
  | inr slow ↦ absurd (omega (arith, falls-line flow gap c most some h, mul-le-mul_left most slow))
]

pub cross-rises : (flow : Flow) (gap c most : ℕ) → 0 < flow.frames → gap + most * c < flowed flow most
    → IsCross gap (λ k. k * c) 0 (flowed flow) most (suc ((gap * flow.frames + (flow.frames - 1)) / (flow.bits - c * flow.frames)))
cross-rises flow gap c most some h =
    let lower : ℕ = gap * flow.frames + (flow.frames - 1) in
    let faster : c * flow.frames < flow.bits = faster-rises flow gap c most some h in
    let n : ℕ = suc (lower / (flow.bits - c * flow.frames)) in
    let least : (k : ℕ) → k < n → flowed flow k ≤ gap + k * c = λ k l. elim (cases_lt (gap + k * c) (flowed flow k)) [
      | inl past ↦ absurd (omega (arith, rises-line flow gap c k some past, not_above lower (c * flow.frames) flow.bits k faster (omega arith)))
      | inr kept ↦ omega arith
    ] in
    record {
      inside = elim (cases_lt most n) [
        | inl early ↦ absurd (omega (arith, least most early, h))
        | inr upto ↦ omega arith
      ];
      above = (let above = line-rises flow gap c n some (omega (arith, above_next lower (c * flow.frames) flow.bits faster)) in omega (arith, above));
      least = λ k l. omega (arith, least k l);
    }

pub cross-falls : (flow : Flow) (gap c most : ℕ) → 0 < flow.frames → gap + flowed flow most < most * c
    → IsCross gap (flowed flow) 0 (λ k. k * c) most (suc (gap * flow.frames / (c * flow.frames - flow.bits)))
cross-falls flow gap c most some h =
    let lower : ℕ = gap * flow.frames in
    let faster : flow.bits < c * flow.frames = faster-falls flow gap c most some h in
    let n : ℕ = suc (lower / (c * flow.frames - flow.bits)) in
    let least : (k : ℕ) → k < n → k * c ≤ gap + flowed flow k = λ k l. elim (cases_lt (gap + flowed flow k) (k * c)) [
      | inl past ↦ absurd (omega (arith, falls-line flow gap c k some past, not_above lower flow.bits (c * flow.frames) k faster (omega arith)))
      | inr kept ↦ omega arith
    ] in
    record {
      inside = elim (cases_lt most n) [
        | inl early ↦ absurd (omega (arith, least most early, h))
        | inr upto ↦ omega arith
      ];
      above = (let above = line-falls flow gap c n some (omega (arith, above_next lower flow.bits (c * flow.frames) faster)) in omega (arith, above));
      least = λ k l. omega (arith, least k l);
    }

-- two steady sums, where one isn't above the other with the gap at the end
pub never-inside : (g l : ℕ → ℕ) (gap most : ℕ) → Ahead g l → g most ≤ gap + l most → NeverCross gap l 0 g most
never-inside g l gap most ahead h k below = omega (arith, ahead k most below, h)

pub never-ahead : (g l : ℕ → ℕ) (gap most : ℕ) → Ahead l g → g 0 ≡ 0 → l 0 ≡ 0 → NeverCross gap l 0 g most
never-ahead g l gap most ahead none none' k below = omega (arith, ahead 0 k (omega arith), none, none')

pub never-rises : (flow : Flow) (gap c most : ℕ) → 0 < flow.frames → flowed flow most ≤ gap + most * c → NeverCross gap (λ k. k * c) 0 (flowed flow) most
never-rises flow gap c most some h = elim (cases_lt (c * flow.frames) flow.bits) [
  | inl faster ↦ never-inside (flowed flow) (λ k. k * c) gap most (ahead-flow flow c some (omega arith)) h
  | inr slow ↦ never-ahead (flowed flow) (λ k. k * c) gap most (behind-flow flow c some (omega arith)) (flowed-none flow some) (omega arith)
]

pub never-falls : (flow : Flow) (gap c most : ℕ) → 0 < flow.frames → most * c ≤ gap + flowed flow most → NeverCross gap (flowed flow) 0 (λ k. k * c) most
never-falls flow gap c most some h = elim (cases_lt (c * flow.frames) flow.bits) [
  | inl faster ↦ never-ahead (λ k. k * c) (flowed flow) gap most (ahead-flow flow c some (omega arith)) (omega arith) (flowed-none flow some)
  | inr slow ↦ never-inside (λ k. k * c) (flowed flow) gap most (behind-flow flow c some (omega arith)) h
]

-- ---- a flow that fits

-- the product that a number of frames is counted by
pub product-fits : (flow : Flow) (repeat n : ℕ) → FlowFits repeat flow → n ≤ repeat → n * flow.bits < 2 ^ 127
product-fits flow repeat n h few =
    let low : n * flow.bits ≤ repeat * flow.bits = mul-le-mul_right flow.bits few in
    let high : repeat * flow.bits ≤ repeat * (4294967295 * flow.frames) = mul-le-mul_left repeat h.most in
    let same : repeat * (4294967295 * flow.frames) ≡ 4294967295 * (repeat * flow.frames) =
    sym (mul_assoc repeat 4294967295 flow.frames) ∙ ap (λ x. x * flow.frames) (mul_comm repeat 4294967295) ∙ mul_assoc 4294967295 repeat flow.frames in
    omega (arith, low, high, same, h.all_few)

-- the same of a line that crosses it
pub line-fits : (flow : Flow) (repeat c : ℕ) → FlowFits repeat flow → c ≤ 2 ^ 32 → repeat * (c * flow.frames) < 2 ^ 127
line-fits flow repeat c h few =
    let same : repeat * (c * flow.frames) ≡ c * (repeat * flow.frames) =
    sym (mul_assoc repeat c flow.frames) ∙ ap (λ x. x * flow.frames) (mul_comm repeat c) ∙ mul_assoc c repeat flow.frames in
    let most : c * (repeat * flow.frames) ≤ 2 ^ 32 * (repeat * flow.frames) = mul-le-mul_right (repeat * flow.frames) few in
    omega (arith, same, most, h.all_few)

-- what a crossing divides fits too
pub rises-fits : (flow : Flow) (repeat gap c : ℕ) → FlowFits repeat flow → gap + repeat * c < flowed flow repeat
    → gap * flow.frames + flow.frames < 2 ^ 127
rises-fits flow repeat gap c h past = omega (arith, rises-line flow gap c repeat h.some past, product-fits flow repeat repeat h (omega arith))

pub falls-fits : (flow : Flow) (repeat gap c : ℕ) → FlowFits repeat flow → c ≤ 2 ^ 32 → gap + flowed flow repeat < repeat * c
    → gap * flow.frames < 2 ^ 127
falls-fits flow repeat gap c h few past = omega (arith, falls-line flow gap c repeat h.some past, line-fits flow repeat c h few)
