use Rattle.std.proofs.Common.{◌≡◌, ℕ, ◌+◌, ◌*◌, ◌^◌, ◌<◌, ◌∷◌, [], ◌++◌, Bool, true, false, List, length, ap, sym, ◌∙◌, arith}
use Rattle.pdh_bits.specs.Bits.{bit_value}
use Rattle.pdh_packed.specs.Words.{low_bits}
use Rattle.pdh_packed.specs.WordLaws.{length-low_bits, low_bits-push, push_small}
use mir.Val.{bool_byte}
use Rattle.pdh_packed.proofs.word.Word.push.Goals as goal

from_bit : (b : Bool) (n : ℕ) → n ≡ bool_byte b → n ≡ bit_value b
from_bit true n e = e
from_bit false n e = e

-- the number of fewer than 64 bits has room for one more
has_room : (k n : ℕ) (bits : List Bool) (b : Bool) → low_bits k n ≡ bits → length bits < 64 → n < 2 ^ k → (k < 64) × (2 * n + bit_value b < 2 ^ (k + 1)) × (2 * n + bit_value b < 2 ^ 64)
has_room k n bits b is few small =
    let short : k < 64 = omega (arith, ap length (sym is) ∙ length-low_bits k n) in
    let below = push_small k n b small short in
    (short, below.0, below.1)

pub overflow_mul-self : goal.overflow_mul-self
overflow_mul-self c =
    let room = has_room c.self.inside.count c.self.inside.number c.args.self.now c.args.bit c.self.view_is c.requires c.self.invariant.1 in
    omega (arith, room.2)

pub overflow_add-self : goal.overflow_add-self
overflow_add-self c =
    let room = has_room c.self.inside.count c.self.inside.number c.args.self.now c.args.bit c.self.view_is c.requires c.self.invariant.1 in
    omega (arith, room.2, from_bit c.args.bit c.from.result c.from.ensures)

pub invariant_of-self : goal.invariant_of-self
invariant_of-self c =
    let room = has_room c.self.inside.count c.self.inside.number c.args.self.now c.args.bit c.self.view_is c.requires c.self.invariant.1 in
    let worth : c.from.result ≡ bit_value c.args.bit = from_bit c.args.bit c.from.result c.from.ensures in
    (omega (arith, room.0), omega (arith, room.1))

pub returns : goal.returns
returns c =
    let n = c.self.inside.number in
    let k = c.self.inside.count in
    let worth : c.from.result ≡ bit_value c.args.bit = from_bit c.args.bit c.from.result c.from.ensures in
    ap (λ (v : ℕ). low_bits (k + 1) (2 * n + v)) worth ∙ low_bits-push k n c.args.bit
    ∙ ap (λ (bits : List Bool). bits ++ c.args.bit ∷ []) c.self.view_is
