-- What is seen of a recording before it is read.
use Rattle.std.proofs.Common.{◌≡◌, ℕ, zero, suc, ◌+◌, ◌-◌, ◌*◌, ◌≤◌, ◌==◌, ◌||◌, inl, inr, Bool, true, false, if◌then◌else◌, List, [], ◌∷◌, ◌++◌, length, take, drop, replicate, Option, None, Some, option_map, refl, sym, ap, ◌∙◌, subst, arith, append_assoc, length-take, length-drop}
use Rattle.std.proofs.lemmas.List.{nil_from_length, replicate-append-replicate, drop-replicate, length-replicate, take_at, take-take, drop-take, drop-drop, take-append-le, drop-append-le}
use Rattle.std.proofs.lemmas.Bool.Decides.{nat_tests}
use Rattle.std.proofs.Math.Seq.{drop-append-add}
use Rattle.std.specs.Io.KnownBytes.{prepend_known}
use Rattle.pdh_readings.specs.Orders.{read_as}
use Rattle.pdh_readings.specs.declared.bit_order.BitOrder.{BitOrder}
use Rattle.pdh_recording.specs.Given.{recorded}
use Rattle.pdh_recording.specs.Seen.{AreAlike, Shows}
use Rattle.pdh_recording.proofs.Blocks.{split, read_joined, read_length}

-- eight bits of a byte of which all are alike
alike_byte : (lsb_first inverted ones : Bool) → (bit : Bool) × (read_as record { lsb_first = lsb_first; inverted = inverted } ((if ones then 255 else 0) ∷ []) ≡ replicate 8 bit)
alike_byte false false false = (false, refl)
alike_byte false false true = (true, refl)
alike_byte false true false = (true, refl)
alike_byte false true true = (false, refl)
alike_byte true false false = (false, refl)
alike_byte true false true = (true, refl)
alike_byte true true false = (true, refl)
alike_byte true true true = (false, refl)

byte_is : (zeros ones : Bool) (value : ℕ) → (zeros ≡ true → value ≡ 0) → (ones ≡ true → value ≡ 255) → (zeros || ones) ≡ true → (high : Bool) × (value ≡ (if high then 255 else 0))
byte_is true ones value zero_if ones_if some = (false, zero_if refl)
byte_is false true value zero_if ones_if some = (true, ones_if refl)
byte_is false false value zero_if ones_if some = cc

repeated : (order : BitOrder) (value : ℕ) (bit : Bool) (n : ℕ) → read_as order (value ∷ []) ≡ replicate 8 bit → read_as order (replicate n value) ≡ replicate (8 * n) bit
repeated order value bit zero same = nil_from_length (read_as order []) (read_length order [])
repeated order value bit (suc n) same =
    let more : 8 + 8 * n ≡ 8 * suc n = omega arith in
    read_joined order (value ∷ []) (replicate n value) ∙ ap (λ (l : List Bool). l ++ read_as order (replicate n value)) same
    ∙ ap (λ (l : List Bool). replicate 8 bit ++ l) (repeated order value bit n same) ∙ replicate-append-replicate 8 (8 * n) bit ∙ ap (λ (m : ℕ). replicate m bit) more

-- the bits of copies of a byte of which all are alike
alike_bits : (order : BitOrder) (value n : ℕ) → (value == 0 || value == 255) ≡ true → (bit : Bool) × (read_as order (replicate n value) ≡ replicate (8 * n) bit)
alike_bits order value n test =
    let which : (high : Bool) × (value ≡ (if high then 255 else 0)) = byte_is (value == 0) (value == 255) value (λ same. grind (arith, nat_tests)) (λ same. grind (arith, nat_tests)) test in
    let byte = alike_byte order.lsb_first order.inverted which.0 in
    (byte.0, repeated order value byte.0 n (ap (λ (v : ℕ). read_as order (v ∷ [])) which.1 ∙ byte.1))

alike_list : (bits : List Bool) (n : ℕ) (bit : Bool) → bits ≡ replicate n bit → AreAlike bits
alike_list bits n bit same = (bit, same ∙ ap (λ (m : ℕ). replicate m bit) (sym (ap length same ∙ length-replicate n bit)))

-- what stands in front of others, behind its first bits
front_alike : (copies rest : List Bool) (n skip : ℕ) (bit : Bool) → copies ≡ replicate n bit → AreAlike (take (n - skip) (drop skip (copies ++ rest)))
front_alike copies rest n skip bit same = elim (split skip n) [
  | inl le ↦
      let long : length copies ≡ n = ap length same ∙ length-replicate n bit in
      let cut : length (drop skip copies) ≡ n - skip = omega (arith, length-drop skip copies, long) in
      alike_list (take (n - skip) (drop skip (copies ++ rest))) (n - skip) bit
      (ap (take (n - skip)) (drop-append-le skip copies rest (omega (arith, long, le))) ∙ take_at (drop skip copies) rest (n - skip) cut
      ∙ ap (drop skip) same ∙ drop-replicate skip n bit)
  | inr lt ↦
      let none : n - skip ≡ 0 = omega (arith, lt) in
      alike_list (take (n - skip) (drop skip (copies ++ rest))) 0 bit (ap (λ (m : ℕ). take m (drop skip (copies ++ rest))) none)
]

-- bits behind copies of a byte and others, in all of what stands behind their first ones
behind : (copies mine rest : List Bool) (skip passed first count left : ℕ) → skip + passed ≡ length copies + first → passed ≤ left → count ≤ left - passed → first + count ≤ length mine
    → take count (drop passed (take left (drop skip (copies ++ (mine ++ rest))))) ≡ take count (drop first mine)
behind copies mine rest skip passed first count left place within few fits =
    let all = copies ++ (mine ++ rest) in
    let whole : passed + (left - passed) ≡ left = omega (arith, within) in
    let inside : first ≤ length mine = omega (arith, fits) in
    ap (λ (n : ℕ). take count (drop passed (take n (drop skip all)))) (sym whole) ∙ ap (take count) (drop-take passed (left - passed) (drop skip all))
    ∙ take-take count (left - passed) (drop passed (drop skip all)) few ∙ ap (take count) (drop-drop passed skip all ∙ ap (λ (n : ℕ). drop n all) place ∙ drop-append-add copies (mine ++ rest) first ∙ drop-append-le first mine rest inside)
    ∙ take-append-le count (drop first mine) rest (omega (arith, length-drop first mine, fits))

-- where no bits are seen nothing is said of others
shows_none : (xs seen : List Bool) → length seen ≡ 0 → Shows (Some xs) seen
shows_none xs seen none = (0, alike_list [] 0 true refl, ap (λ (n : ℕ). take n xs) none ∙ sym (nil_from_length seen none))

joined_seen : (copies mine rest : List Bool) (run skip left passed first count : ℕ) (bit : Bool) → copies ≡ replicate (8 * run) bit → passed ≡ 8 * run - skip → skip + passed ≡ 8 * run + first
    → count ≤ left - passed → passed ≤ left → first + count ≤ length mine → Shows (Some (take left (drop skip (copies ++ (mine ++ rest))))) (take count (drop first mine))
joined_seen copies mine rest run skip left passed first count bit same over place few within fits =
    let all = drop skip (copies ++ (mine ++ rest)) in
    let long : length copies ≡ 8 * run = ap length same ∙ length-replicate (8 * run) bit in
    let many : length (take count (drop first mine)) ≡ count = omega (arith, length-take count (drop first mine), length-drop first mine, fits) in
    let front : AreAlike (take passed all) = subst (λ (n : ℕ). AreAlike (take n all)) (sym over) (front_alike copies (mine ++ rest) (8 * run) skip bit same) in (
      passed,
      subst AreAlike (sym (take-take passed left all within)) front,
      ap (λ (n : ℕ). take n (drop passed (take left all))) many ∙ behind copies mine rest skip passed first count left (omega (arith, place, long)) within few fits,
    )

known_seen : (order : BitOrder) (run value skip left passed first count : ℕ) (mine rest : List ℕ) → (value == 0 || value == 255) ≡ true → passed ≡ 8 * run - skip → skip + passed ≡ 8 * run + first → count ≤ left - passed
    → count ≤ 8 * length mine - first → Shows (Some (recorded order skip left ((replicate run value ++ mine) ++ rest))) (take count (drop first (read_as order mine)))
known_seen order run value skip left passed first count mine rest test over place few fits =
    let bits = read_as order mine in
    let copies = read_as order (replicate run value) in
    let tail = read_as order rest in
    let all : read_as order ((replicate run value ++ mine) ++ rest) ≡ copies ++ (bits ++ tail) =
    read_joined order (replicate run value ++ mine) rest ∙ ap (λ (l : List Bool). l ++ tail) (read_joined order (replicate run value) mine) ∙ append_assoc copies bits tail in
    let alike = alike_bits order value run test in
    let long : length bits ≡ 8 * length mine = read_length order mine in
    let seen = take count (drop first bits) in
    let short : length seen ≤ count = omega (arith, length-take count (drop first bits)) in
    subst (λ (l : List Bool). Shows (Some (take left (drop skip l))) seen) (sym all) (elim (split passed left) [
      | inl within ↦ elim (split first (8 * length mine)) [
        | inl inside ↦ joined_seen copies bits tail run skip left passed first count alike.0 alike.1 over place few within (omega (arith, fits, inside, long))
        | inr beyond ↦ shows_none (take left (drop skip (copies ++ (bits ++ tail)))) seen (omega (arith, short, fits, beyond))
      ]
      | inr past ↦ shows_none (take left (drop skip (copies ++ (bits ++ tail)))) seen (omega (arith, short, few, past))
    ])

-- what was read ahead shows bits that come next
pub seen_ahead : (order : BitOrder) (run value skip left passed first count : ℕ) (mine : List ℕ) (known : Option (List ℕ)) → (value == 0 || value == 255) ≡ true → passed ≡ 8 * run - skip
    → skip + passed ≡ 8 * run + first → count ≤ left - passed → count ≤ 8 * length mine - first
    → Shows (option_map (recorded order skip left) (prepend_known (replicate run value ++ mine) known)) (take count (drop first (read_as order mine)))
seen_ahead order run value skip left passed first count mine None test over place few fits = tt
seen_ahead order run value skip left passed first count mine (Some rest) test over place few fits = known_seen order run value skip left passed first count mine rest test over place few fits
