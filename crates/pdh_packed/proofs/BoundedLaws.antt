-- A list of bits in words, as a caller sees it.
use Rattle.std.proofs.Common.{◌≡◌, ℕ, ◌+◌, ◌-◌, ◌*◌, ◌≤◌, Bool, List, ◌++◌, length, take, drop, sym, ◌∙◌, ap, subst, arith, length-append}
use Rattle.pdh_bits.specs.BitOut.{BoundedBits}
use Rattle.pdh_packed.specs.Words.{bits_of_words, bounded}
use Rattle.pdh_packed.proofs.PackedLaws.{length-bits_of_words, taken_more}

-- what is done to the bits inside is done to those that are seen
pub bits_become : (f : List Bool → List Bool) (capacity : ℕ) (inside after : List Bool) (seen : BoundedBits) → bounded capacity inside ≡ seen → after ≡ f inside → bounded capacity after ≡ record seen { bits = f seen.bits }
bits_become f capacity inside after seen is done =
    ap (bounded capacity) done ∙ ap (λ (b : BoundedBits). bounded b.capacity (f b.bits)) is

pub bits_inside : (capacity : ℕ) (inside : List Bool) (seen : BoundedBits) → bounded capacity inside ≡ seen → inside ≡ seen.bits
bits_inside capacity inside seen is = ap (λ (b : BoundedBits). b.bits) is

-- how many bits a list of words has
pub length-packed : (capacity : ℕ) (words : List ℕ) (tail : List Bool) (seen : BoundedBits) → bounded capacity (bits_of_words words ++ tail) ≡ seen
    → (length seen.bits ≡ 64 * length words + length tail) × (seen.capacity ≡ capacity)
length-packed capacity words tail seen is =
    let bits : length (bits_of_words words ++ tail) ≡ length seen.bits = ap length (bits_inside capacity (bits_of_words words ++ tail) seen is) in
    let room : capacity ≡ seen.capacity = ap (λ (b : BoundedBits). b.capacity) is in
    (omega (arith, length-append (bits_of_words words) tail, length-bits_of_words words), sym room)

-- bits are appended to a list that has got some
pub bits_grow : (first now after : BoundedBits) (got word more : List Bool) → now ≡ bounded first.capacity got → after ≡ record now { bits = now.bits ++ word } → more ≡ got ++ word → after ≡ bounded first.capacity more
bits_grow first now after got word more was is grown =
    is ∙ ap (λ (b : BoundedBits). bounded b.capacity (b.bits ++ word)) was ∙ ap (bounded first.capacity) (sym grown)

-- they are the next of those that are taken from another list, of which so many are to come
pub taken_grow : (first now after : BoundedBits) (bits word : List Bool) (place done count all : ℕ) → done ≤ all → count ≤ all - done → now ≡ bounded first.capacity (first.bits ++ take done (drop place bits)) → after ≡ record now { bits = now.bits ++ word }
    → word ≡ take count (drop (place + done) bits) → (done + count ≤ all) × (after ≡ bounded first.capacity (first.bits ++ take (done + count) (drop place bits)))
taken_grow first now after bits word place done count all within more was is read = (
  omega arith,
  bits_grow first now after (first.bits ++ take done (drop place bits)) word (first.bits ++ take (done + count) (drop place bits)) was is (taken_more first.bits bits word place done count read),
)

-- or the last of them
pub taken_last : (first now after : BoundedBits) (bits word : List Bool) (place done all : ℕ) → done ≤ all → now ≡ bounded first.capacity (first.bits ++ take done (drop place bits)) → after ≡ record now { bits = now.bits ++ word }
    → word ≡ take (all - done) (drop (place + done) bits) → after ≡ bounded first.capacity (first.bits ++ take all (drop place bits))
taken_last first now after bits word place done all within was is read =
    let whole : done + (all - done) ≡ all = omega arith in
    subst (λ (n : ℕ). after ≡ bounded first.capacity (first.bits ++ take n (drop place bits))) whole (taken_grow first now after bits word place done (all - done) all within (omega arith) was is read).1

-- there is room for more bits where there was for all of them
pub room_left : (first now : BoundedBits) (got : List Bool) (more : ℕ) → now ≡ bounded first.capacity (first.bits ++ got) → length first.bits + length got + more ≤ first.capacity → length now.bits + more ≤ now.capacity
room_left first now got more was room =
    omega (arith, ap (λ (b : BoundedBits). length b.bits) was, ap (λ (b : BoundedBits). b.capacity) was, length-append first.bits got)
