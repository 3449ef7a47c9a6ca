-- What blocks of bytes give of the bits of a recording.
use Rattle.std.proofs.Common.{◌≡◌, ℕ, ◌+◌, ◌≤◌, ◌-◌, ◌*◌, ◌<◌, ◌⊎◌, inl, inr, min, Bool, List, [], ◌++◌, length, take, drop, Option, None, Some, option_map, refl, sym, ap, ◌∙◌, subst, arith, length-take, length-drop}
use Rattle.std.proofs.lemmas.List.{nil_from_length}
use Rattle.std.specs.Io.KnownBytes.{Consumes}
use Rattle.pdh_readings.specs.Orders.{read_as}
use Rattle.pdh_readings.specs.declared.bit_order.BitOrder.{BitOrder}
use Rattle.pdh_recording.specs.Given.{recorded, Gives, HasNone, IsWhole}
use Rattle.pdh_recording.proofs.Blocks.{split, read_length, block_given}

-- no bits are cut out of none
cut_none : (order : BitOrder) (skip most : ℕ) (bytes : List ℕ) → length bytes ≡ 0 → take most (drop skip (read_as order bytes)) ≡ []
cut_none order skip most bytes none =
    let mine = read_as order bytes in
    nil_from_length (take most (drop skip mine)) (omega (arith, length-take most (drop skip mine), length-drop skip mine, read_length order bytes, none))

-- no bits are cut out of any where none is wanted
none_wanted : (bits : List Bool) (most : ℕ) → most ≡ 0 → take most bits ≡ []
none_wanted bits most none = nil_from_length (take most bits) (omega (arith, length-take most bits, none))

-- where no byte came the reader has ended, or nothing was wanted
short_block : (skip left count : ℕ) (rest : List ℕ) → count ≡ 0 → IsWhole count skip left (Some rest) → (left ≡ 0) ⊎ (rest ≡ [])
short_block skip left count rest none whole = elim whole [
  | inl full ↦ absurd (omega (arith, none, full))
  | inr more ↦ elim more [ inl all ↦ inl (omega (arith, none, all)) | inr end ↦ inr end ]
]

block_bits : (order : BitOrder) (skip left count taken : ℕ) (block rest : List ℕ) → skip < 8 → taken ≡ min (8 * length block) skip → count ≡ min (8 * length block - taken) left
    → IsWhole (length block) skip left (Some rest) → recorded order skip left (block ++ rest) ≡ take count (drop taken (read_as order block)) ++ recorded order 0 (left - count) rest
block_bits order skip left count taken block rest small first least whole = elim (split skip (8 * length block)) [
  | inl le ↦
      let same : taken ≡ skip = omega (arith, first, le) in
      let fits : count ≡ min (8 * length block - skip) left = omega (arith, least, same) in
      block_given order skip left count block rest le fits
      ∙ ap (λ (n : ℕ). take count (drop n (read_as order block)) ++ recorded order 0 (left - count) rest) (sym same)
  | inr lt ↦
      let none : length block ≡ 0 = omega (arith, lt, small) in
      let nothing : count ≡ 0 = omega (arith, least, first, none) in
      let mine : take count (drop taken (read_as order block)) ≡ [] = cut_none order taken count block none in
      let before : block ≡ [] = nil_from_length block none in
      let whole_rest : recorded order skip left rest ≡ recorded order 0 (left - count) rest = elim (short_block skip left (length block) rest none whole) [
        | inl zero ↦
            none_wanted (drop skip (read_as order rest)) left zero ∙ sym (none_wanted (drop 0 (read_as order rest)) (left - count) (omega (arith, zero)))
        | inr end ↦
            let empty : length rest ≡ 0 = ap length end in
            cut_none order skip left rest empty ∙ sym (cut_none order 0 (left - count) rest empty)
      ] in
      ap (λ (l : List ℕ). recorded order skip left (l ++ rest)) before ∙ whole_rest
      ∙ ap (λ (l : List Bool). l ++ recorded order 0 (left - count) rest) (sym mine)
]

-- a block that a reader gave gives the bits of its bytes
pub block_gives : (order : BitOrder) (skip left count taken : ℕ) (a b : Option (List ℕ)) (block : List ℕ) → skip < 8 → taken ≡ min (8 * length block) skip
    → count ≡ min (8 * length block - taken) left → Consumes a b block → IsWhole (length block) skip left b
    → Gives (option_map (recorded order skip left) a) (option_map (recorded order 0 (left - count)) b) (take count (drop taken (read_as order block)))
block_gives order skip left count taken None b block small first least read whole = tt
block_gives order skip left count taken (Some xs) None block small first least read whole = absurd read
block_gives order skip left count taken (Some xs) (Some ys) block small first least read whole =
    ap (recorded order skip left) read ∙ block_bits order skip left count taken block ys small first least whole

-- a block without bits is the last
pub last_block : (order : BitOrder) (skip left count taken : ℕ) (b : Option (List ℕ)) (block : List ℕ) → skip < 8 → taken ≡ min (8 * length block) skip
    → count ≡ min (8 * length block - taken) left → IsWhole (length block) skip left b → count ≡ 0
    → HasNone (option_map (recorded order 0 (left - count)) b)
last_block order skip left count taken None block small first least whole none = tt
last_block order skip left count taken (Some ys) block small first least whole none = elim (split left 0) [
  | inl zero ↦ none_wanted (drop 0 (read_as order ys)) (left - count) (omega (arith, zero))
  | inr some ↦
      let empty : length block ≡ 0 = omega (arith, some, none, least, first, small) in
      elim (short_block skip left (length block) ys empty whole) [
        | inl zero ↦ none_wanted (drop 0 (read_as order ys)) (left - count) (omega (arith, zero))
        | inr end ↦ cut_none order 0 (left - count) ys (ap length end)
      ]
]

-- what is made of a block's bits: behind those that are passed over, as many as are still wanted
pub record Cut (order : BitOrder) (skip left count : ℕ) (block : List ℕ) (bits : List Bool) : Type 0 where
  pub least : count ≡ min (8 * length block - min (8 * length block) skip) left
  pub made : bits ≡ take count (drop (min (8 * length block) skip) (read_as order block))

pub cut_of : (order : BitOrder) (skip left skip_now left_now count : ℕ) (block slice : List ℕ) (all bits : List Bool) → skip_now ≡ skip → left_now ≡ left → slice ≡ block → all ≡ read_as order slice
    → count ≡ min (length all - min (length all) skip_now) left_now → bits ≡ take count (drop (min (length all) skip_now) all) → Cut order skip left count block bits
cut_of order skip left skip_now left_now count block slice all bits same_skip same_left whole read least made =
    let is : all ≡ read_as order block = read ∙ ap (read_as order) whole in
    let long : length all ≡ 8 * length block = ap length is ∙ read_length order block in
    let place : min (length all) skip_now ≡ min (8 * length block) skip = omega (arith, long, same_skip) in
    record {
      least = omega (arith, least, long, same_skip, same_left);
      made = made ∙ ap (λ (n : ℕ). take count (drop n all)) place ∙ ap (λ (l : List Bool). take count (drop (min (8 * length block) skip) l)) is;
    }

-- a block gives what was made of its bits
pub next_given : (order : BitOrder) (skip left left_now count : ℕ) (a b : Option (List ℕ)) (block : List ℕ) (bits : List Bool) → Cut order skip left count block bits → skip < 8 → left_now ≡ left
    → Consumes a b block → IsWhole (length block) skip left b → Gives (option_map (recorded order skip left) a) (option_map (recorded order 0 (left_now - count)) b) bits
next_given order skip left left_now count a b block bits cut small same read whole =
    subst (λ (n : ℕ). Gives (option_map (recorded order skip left) a) (option_map (recorded order 0 (n - count)) b) bits) (sym same)
    (subst (Gives (option_map (recorded order skip left) a) (option_map (recorded order 0 (left - count)) b)) (sym cut.made)
    (block_gives order skip left count (min (8 * length block) skip) a b block small refl cut.least read whole))

none_made : (order : BitOrder) (skip left count : ℕ) (block : List ℕ) (bits : List Bool) → Cut order skip left count block bits → bits ≡ [] → count ≡ 0
none_made order skip left count block bits cut none =
    let mine = read_as order block in
    let taken = min (8 * length block) skip in
    omega (arith, cut.least, read_length order block, length-take count (drop taken mine), length-drop taken mine, ap length (sym cut.made ∙ none))

-- and where nothing was made of them nothing is left
pub next_last : (order : BitOrder) (skip left left_now count : ℕ) (b : Option (List ℕ)) (block : List ℕ) (bits : List Bool) → Cut order skip left count block bits → skip < 8 → left_now ≡ left
    → IsWhole (length block) skip left b → bits ≡ [] → HasNone (option_map (recorded order 0 (left_now - count)) b)
next_last order skip left left_now count b block bits cut small same whole none =
    subst (λ (n : ℕ). HasNone (option_map (recorded order 0 (n - count)) b)) (sym same)
    (last_block order skip left count (min (8 * length block) skip) b block small refl cut.least whole (none_made order skip left count block bits cut none))

-- or nothing is wanted any more, of what has a size
pub next_whole : (order : BitOrder) (skip left left_now count : ℕ) (block : List ℕ) (bits : List Bool) → Cut order skip left count block bits → skip < 8 → left_now ≡ left
    → (length block ≡ 65536) ⊎ (skip + left ≤ 8 * length block) → bits ≡ [] → left_now - count ≡ 0
next_whole order skip left left_now count block bits cut small same whole none =
    let zero : count ≡ 0 = none_made order skip left count block bits cut none in
    elim whole [ inl full ↦ omega (arith, zero, full, small, same, cut.least) | inr most ↦ omega (arith, zero, most, same, cut.least) ]
