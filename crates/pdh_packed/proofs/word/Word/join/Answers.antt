use Rattle.std.proofs.Common.{◌≡◌, ℕ, ◌+◌, ◌*◌, ◌%◌, ◌^◌, ◌<◌, ◌≤◌, ◌++◌, Bool, List, length, ap, sym, ◌∙◌, arith}
use Rattle.pdh_packed.specs.Words.{low_bits}
use Rattle.pdh_packed.specs.WordLaws.{length-low_bits, low_bits-join, shifted, join_small, powers_ordered}
use Rattle.pdh_packed.proofs.word.Word.join.Goals as goal

-- the first number is moved by the length of the other, and loses nothing
moved : (k m a b : ℕ) (xs ys : List Bool) → low_bits k a ≡ xs → low_bits m b ≡ ys → length xs + length ys ≤ 64 → a < 2 ^ k → b < 2 ^ m
    → (k + m ≤ 64) × (a * 2 ^ m % 2 ^ 64 ≡ a * 2 ^ m) × (a * 2 ^ m + b < 2 ^ (k + m)) × (a * 2 ^ m + b < 2 ^ 64)
moved k m a b xs ys first second few small smaller =
    let within : k + m ≤ 64 = omega (arith, ap length (sym first) ∙ length-low_bits k a, ap length (sym second) ∙ length-low_bits m b) in
    let below : a * 2 ^ m + b < 2 ^ (k + m) = join_small k m a b small smaller in
    (within, shifted k m a small within, below, omega (arith, powers_ordered (k + m) 64 within))

pub overflow_add-result : goal.overflow_add-result
overflow_add-result c =
    let m = moved c.self.inside.count c.other.inside.count c.self.inside.number c.other.inside.number c.args.self.now c.args.other c.self.view_is c.other.view_is c.requires c.self.invariant.1 c.other.invariant.1 in
    omega (arith, m.1, m.3)

pub invariant_of-result-2 : goal.invariant_of-result-2
invariant_of-result-2 c =
    let m = moved c.self.inside.count c.other.inside.count c.self.inside.number c.other.inside.number c.args.self.now c.args.other c.self.view_is c.other.view_is c.requires c.self.invariant.1 c.other.invariant.1 in
    (m.0, omega (arith, m.1, m.2))

pub returns : goal.returns
returns c =
    let a = c.self.inside.number in
    let b = c.other.inside.number in
    let k = c.self.inside.count in
    let m = c.other.inside.count in
    let parts = moved k m a b c.args.self.now c.args.other c.self.view_is c.other.view_is c.requires c.self.invariant.1 c.other.invariant.1 in
    ap (λ (n : ℕ). low_bits (k + m) (n + b)) parts.1 ∙ low_bits-join k m a b c.other.invariant.1
    ∙ ap (λ (bits : List Bool). bits ++ low_bits m b) c.self.view_is ∙ ap (λ (bits : List Bool). c.args.self.now ++ bits) c.other.view_is
