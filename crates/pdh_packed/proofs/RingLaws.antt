-- A ring of bits, as a caller sees it.
use Rattle.std.proofs.Common.{◌≡◌, ℕ, ◌+◌, ◌-◌, ◌*◌, ◌/◌, ◌%◌, ◌≤◌, Bool, List, [], ◌∷◌, ◌++◌, length, take, drop, sym, ◌∙◌, ap, arith, length-append, length-drop}
use Rattle.std.proofs.lemmas.List.{drop-drop, drop-append-le, length_push}
use Rattle.circular_buffer.specs.Buffer.{Buffer, buffer}
use Rattle.pdh_bits.specs.BitOut.{BoundedBits}
use Rattle.pdh_packed.specs.Words.{bits_of_words, bounded}
use Rattle.pdh_packed.specs.declared.ring.BitRing.TheInside.{Inside}
use Rattle.pdh_packed.proofs.PackedLaws.{length-bits_of_words, read_within}

-- the bits inside, those that are no longer held too
abbrev pub bits_in : Inside → List Bool
bits_in ring = bits_of_words ring.words.items ++ ring.tail

-- those that are held, and how many may be
abbrev pub held_in : Inside → BoundedBits
held_in ring = bounded (64 * ring.words.capacity) (drop ring.dropped (bits_in ring))

pub length-inside : (ring : Inside) → length (bits_in ring) ≡ 64 * length ring.words.items + length ring.tail
length-inside ring = omega (arith, length-append (bits_of_words ring.words.items) ring.tail, length-bits_of_words ring.words.items)

-- how many bits a ring has
pub length-ring : (ring : Inside) (seen : BoundedBits) → held_in ring ≡ seen
    → (length seen.bits ≡ 64 * length ring.words.items + length ring.tail - ring.dropped) × (seen.capacity ≡ 64 * ring.words.capacity)
length-ring ring seen is =
    let bits : length (drop ring.dropped (bits_in ring)) ≡ length seen.bits = ap (λ (b : BoundedBits). length b.bits) is in
    let room : 64 * ring.words.capacity ≡ seen.capacity = ap (λ (b : BoundedBits). b.capacity) is in
    (omega (arith, length-drop ring.dropped (bits_in ring), length-inside ring), sym room)

-- bits that are held stand inside, behind those that are dropped
pub stands_inside : (ring : Inside) (seen : BoundedBits) (place count : ℕ) → held_in ring ≡ seen → ring.dropped ≤ 64 * length ring.words.items → place + count ≤ length seen.bits
    → ring.dropped + place + count ≤ 64 * length ring.words.items + length ring.tail
stands_inside ring seen place count is dropped within =
    let long = length-ring ring seen is in
    omega (arith, long.0)

-- bits inside that come after those that are dropped
pub ring_read : (ring : Inside) (seen : BoundedBits) (place count : ℕ) → held_in ring ≡ seen
    → take count (drop (ring.dropped + place) (bits_in ring)) ≡ take count (drop place seen.bits)
ring_read ring seen place count is =
    sym (ap (take count) (drop-drop place ring.dropped (bits_in ring))) ∙ ap (λ (b : BoundedBits). take count (drop place b.bits)) is

-- the word at a place and the next have as many bits as are read from there
pub ring_within : (ring : Inside) (seen : BoundedBits) (first next : List Bool) (place count : ℕ) → held_in ring ≡ seen → ring.dropped ≤ 64 * length ring.words.items
    → first ≡ take 64 (drop (64 * ((ring.dropped + place) / 64)) (bits_in ring)) → next ≡ take 64 (drop (64 * ((ring.dropped + place) / 64 + 1)) (bits_in ring))
    → count ≤ 64 → place + count ≤ length seen.bits
    → ((ring.dropped + place) % 64 ≤ length first) × ((ring.dropped + place) % 64 + count ≤ length first + length next)
ring_within ring seen first next place count is dropped is_first is_next few within =
    read_within (bits_in ring) first next (ring.dropped + place) count is_first is_next few (omega (arith, stands_inside ring seen place count is dropped within, length-inside ring))

-- a word more
pub word_pushed : (old new : Buffer ℕ) (word : ℕ) → new ≡ buffer (old.items ++ word ∷ []) old.capacity
    → (length new.items ≡ length old.items + 1) × (new.capacity ≡ old.capacity)
word_pushed old new word is = (ap (λ (b : Buffer ℕ). length b.items) is ∙ length_push old.items word, ap (λ (b : Buffer ℕ). b.capacity) is)

-- what is appended inside is appended to what is held
pub ring_grows : (ring : Inside) (seen : BoundedBits) (capacity : ℕ) (after word : List Bool) → held_in ring ≡ seen → ring.dropped ≤ 64 * length ring.words.items
    → capacity ≡ ring.words.capacity → after ≡ bits_in ring ++ word → bounded (64 * capacity) (drop ring.dropped after) ≡ record seen { bits = seen.bits ++ word }
ring_grows ring seen capacity after word is dropped room appended =
    let begun : ring.dropped ≤ length (bits_in ring) = omega (arith, length-inside ring) in
    ap (λ n. bounded (64 * n) (drop ring.dropped after)) room
    ∙ ap (bounded (64 * ring.words.capacity)) (ap (drop ring.dropped) appended ∙ drop-append-le ring.dropped (bits_in ring) word begun)
    ∙ ap (λ (b : BoundedBits). bounded b.capacity (b.bits ++ word)) is
