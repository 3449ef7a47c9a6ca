-- Bits that wait, and the bits of a block of a file.
use Rattle.std.proofs.Common.{◌≡◌, ℕ, suc, ◌+◌, ◌-◌, ◌*◌, ◌/◌, ◌%◌, ◌<◌, ◌≤◌, min, Bool, false, List, ◌∷◌, ◌++◌, length, get_or, take, drop, Some, sym, ◌∙◌, ap, subst, arith}
use Rattle.std.proofs.lemmas.List.{take-append-drop, length-take, length-take-le, length-drop, take_at, take_all, drop_at, take-take, drop-take, drop-drop, drop_more}
use Rattle.pdh_bits.specs.Bits.{bits_of, bytes_of}
use Rattle.pdh_bits.proofs.BitsLemmas.{bits_of-append, length-bits_of, length-bytes_of}
use Rattle.pdh_edge.specs.Files.{ShelfState, WhereTold, IsRangeOf, Appends}
use Rattle.pdh_blocks.specs.Leaves.{Leaf, Output, after_giving, with_waiting, to_wait, past_bytes, IsBlockRead, IsAppended}

-- some bits that wait are left out
pub slid : (taken end n : ℕ) (xs : List Bool) → n ≤ end - taken → take (end - (taken + n)) (drop (taken + n) xs) ≡ drop n (take (end - taken) (drop taken xs))
slid taken end n xs few =
    let k : ℕ = end - (taken + n) in
    let cut : end - taken ≡ n + k = omega arith in
    ap (take k) (sym (drop-drop n taken xs)) ∙ sym (drop-take n k (drop taken xs)) ∙ ap (λ v. drop n (take v (drop taken xs))) (sym cut)

-- the first that waits
pub first_waiting : (taken end : ℕ) (xs : List Bool) (bit : Bool) → taken < end → end ≤ length xs → bit ≡ get_or xs taken false → take (end - taken) (drop taken xs) ≡ bit ∷ take (end - (taken + 1)) (drop (taken + 1) xs)
first_waiting taken end xs bit some within is =
    let k : ℕ = end - (taken + 1) in
    let cut : end - taken ≡ suc k = omega arith in
    ap (λ n. take n (drop taken xs)) cut ∙ ap (take (suc k)) (drop_more xs taken false (omega arith)) ∙ ap (λ b. b ∷ take k (drop (taken + 1) xs)) (sym is)

abbrev pub leaf_with : List ℕ → ℕ → ℕ → List Bool → Leaf
leaf_with name bits given waiting = record { name = name; bits = bits; given = given; waiting = waiting }

-- a leaf after some of its bits were given
pub gives : (seen : Leaf) (name : List ℕ) (bits given taken end count : ℕ) (xs : List Bool) → leaf_with name bits given (take (end - taken) (drop taken xs)) ≡ seen → count ≤ end - taken
    → leaf_with name bits (given + count) (take (end - (taken + count)) (drop (taken + count) xs)) ≡ after_giving count seen
gives seen name bits given taken end count xs is few = ap (leaf_with name bits (given + count)) (slid taken end count xs few) ∙ ap (after_giving count) is

-- ---- bytes

split_bits : (n : ℕ) (bytes : List ℕ) → bits_of bytes ≡ bits_of (take n bytes) ++ bits_of (drop n bytes)
split_bits n bytes = ap bits_of (sym (take-append-drop n bytes)) ∙ bits_of-append (take n bytes) (drop n bytes)

front_long : (n : ℕ) (bytes : List ℕ) → n ≤ length bytes → length (bits_of (take n bytes)) ≡ 8 * n
front_long n bytes within = omega (arith, length-bits_of (take n bytes), length-take-le n bytes within)

bits_of-take : (n : ℕ) (bytes : List ℕ) → n ≤ length bytes → bits_of (take n bytes) ≡ take (8 * n) (bits_of bytes)
bits_of-take n bytes within = sym (ap (take (8 * n)) (split_bits n bytes) ∙ take_at (bits_of (take n bytes)) (bits_of (drop n bytes)) (8 * n) (front_long n bytes within))

bits_of-drop : (n : ℕ) (bytes : List ℕ) → n ≤ length bytes → bits_of (drop n bytes) ≡ drop (8 * n) (bits_of bytes)
bits_of-drop n bytes within = sym (ap (drop (8 * n)) (split_bits n bytes) ∙ drop_at (bits_of (take n bytes)) (bits_of (drop n bytes)) (8 * n) (front_long n bytes within))

-- the bits of a range of a file
pub range_bits : (file buffer : List ℕ) (given count : ℕ) → given % 32768 ≡ 0 → count ≤ 8 * length buffer → given / 8 + length buffer ≤ length file → buffer ≡ take (length buffer) (drop (given / 8) file)
    → take count (bits_of buffer) ≡ take count (drop given (bits_of file))
range_bits file buffer given count whole few within is =
    let at : ℕ = given / 8 in
    let n : ℕ = length buffer in
    let place : 8 * at ≡ given = omega arith in
    let left : n ≤ length (drop at file) = omega (arith, length-drop at file) in
    let read : bits_of buffer ≡ take (8 * n) (drop given (bits_of file)) = ap bits_of is ∙ bits_of-take n (drop at file) left ∙ ap (take (8 * n)) (bits_of-drop at file (omega arith) ∙ ap (λ v. drop v (bits_of file)) place) in
    ap (take count) read ∙ take-take count (8 * n) (drop given (bits_of file)) few

-- all whole bytes are written
pub bytes_written : (bits : List Bool) (count : ℕ) (before : List ℕ) → count ≡ length bits / 8 → take count (take count (bytes_of bits) ++ drop count before) ≡ bytes_of bits
bytes_written bits count before is =
    let long : length (bytes_of bits) ≡ count = omega (arith, length-bytes_of bits) in
    let all : take count (bytes_of bits) ≡ bytes_of bits = take_all count (bytes_of bits) (omega arith) in
    ap (λ (bytes : List ℕ). take count (bytes ++ drop count before)) all ∙ take_at (bytes_of bits) (drop count before) count long

-- a block was read
pub block_read : (shelf : ShelfState) (seen : Leaf) (name called : List ℕ) (bits given count : ℕ) (waited block : List Bool) (buffer : List ℕ) → leaf_with name bits given waited ≡ seen → block ≡ bits_of buffer → count ≤ 8 * length buffer → count ≡ min 32768 (bits - given)
    → given % 32768 ≡ 0 → called ≡ name → WhereTold (shelf.told called) (λ held. IsRangeOf held (given / 8) buffer) → IsBlockRead shelf seen (leaf_with name bits given (take (count - 0) (drop 0 block)))
block_read shelf seen name called bits given count waited block buffer is got few amount whole named read =
    let waiting : List Bool = take (count - 0) (drop 0 block) in
    let all : length block ≡ 8 * length buffer = ap length got ∙ length-bits_of buffer in
    let long : length waiting ≡ count = omega (arith, length-take (count - 0) (drop 0 block), all, few) in
    let same : count - 0 ≡ count = omega arith in
    let bits_is : bits ≡ seen.bits = ap (λ (leaf : Leaf). leaf.bits) is in
    let given_is : given ≡ seen.given = ap (λ (leaf : Leaf). leaf.given) is in
    record {
      leaf = ap (with_waiting waiting) is;
      count = omega (arith, long, amount, bits_is, given_is);
      told = λ bytes at.
          let range = read (Some bytes) (ap shelf.told named ∙ ap (λ (leaf : Leaf). shelf.told leaf.name) is ∙ at) in
          let next : take count (bits_of buffer) ≡ take count (drop given (bits_of bytes)) = range_bits bytes buffer given count whole few range.0 range.1 in
          let now : waiting ≡ take count (bits_of buffer) = ap (λ n. take n block) same ∙ ap (take count) got in
          now ∙ next ∙ ap (λ n. take n (drop given (bits_of bytes))) (sym long) ∙ ap (λ n. take (length waiting) (drop n (bits_of bytes))) given_is;
    }

-- ---- an output

abbrev pub output_with : List ℕ → List Bool → Output
output_with name waiting = record { name = name; waiting = waiting }

-- its whole bytes were appended
pub block_appended : (a b : ShelfState) (seen : Output) (name called : List ℕ) (bits rest : List Bool) (count : ℕ) (before : List ℕ) → output_with name bits ≡ seen → count ≡ length bits / 8 → called ≡ name → rest ≡ take (length bits - 8 * count) (drop (8 * count) bits)
    → Appends called (take count (take count (bytes_of bits) ++ drop count before)) a b → IsAppended seen (output_with name rest) a b
block_appended a b seen name called bits rest count before is amount named left done =
    let bytes : take count (take count (bytes_of bits) ++ drop count before) ≡ bytes_of bits = bytes_written bits count before amount in
    let exact : Appends called (bytes_of bits) a b = subst (λ (bytes : List ℕ). Appends called bytes a b) bytes done in
    let own : Appends name (bytes_of bits) a b = subst (λ (name : List ℕ). Appends name (bytes_of bits) a b) named exact in
    let long : length (drop (8 * count) bits) ≤ length bits - 8 * count = omega (arith, length-drop (8 * count) bits) in
    let all : rest ≡ past_bytes bits = left ∙ take_all (length bits - 8 * count) (drop (8 * count) bits) long ∙ ap (λ n. drop (8 * n) bits) amount in
    record {
      file = subst (λ (output : Output). Appends output.name (bytes_of output.waiting) a b) is own;
      rest = ap (output_with name) all ∙ ap (λ (output : Output). to_wait (past_bytes output.waiting) output) is;
    }
