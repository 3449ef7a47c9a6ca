-- What a layout finds in a frame, slot by slot.
use Rattle.std.proofs.Common.{◌≡◌, ℕ, zero, suc, ◌+◌, ◌<◌, ◌≤◌, Bool, true, false, ◌&&◌, cond, List, [], ◌∷◌, ◌++◌, length, map, filter, get_or, All, refl, sym, ap, ◌∙◌, subst, arith}
use Rattle.std.specs.Prelude.{count_by}
use Rattle.std.specs.List.{range_with_len}
use Rattle.std.proofs.lemmas.List.{length-append, length-map}
use Rattle.std.proofs.lemmas.List.Elements.{All-filter}
use Rattle.std.proofs.lemmas.List.Sums.{sum_by-cons}
use Rattle.pdh_line.proofs.Ranges.{length-range}
use Rattle.pdh_bits.specs.BitOut.{BoundedBits}
use Rattle.pdh_packed.specs.Words.{bounded}
use Rattle.pdh_shape.specs.Frame.{FrameShape, slots}
use Rattle.pdh_shape.specs.Tributary.{controls, control_ones, HasTributaries}
use Rattle.pdh_shape.specs.Payload.{payload_before}
use Rattle.pdh_packed.proofs.BoundedLaws.{bits_grow}
use Rattle.pdh_runs.specs.Tables.{is_overhead}
use Rattle.pdh_runs.proofs.Counts.{before, picked, before_less, length-picked, made_pass, made_fail, made_next}

-- ---- the tables

pub one_more_payload : (s : FrameShape) (k count : ℕ) (items : List ℕ) → items ≡ map (payload_before s) (range_with_len 0 k) → count ≡ payload_before s k → items ++ count ∷ [] ≡ map (payload_before s) (range_with_len 0 (k + 1))
one_more_payload s k count items are is =
    ap (λ l. l ++ count ∷ []) are ∙ ap (λ n. map (payload_before s) (range_with_len 0 k) ++ n ∷ []) is ∙ sym (made_next (payload_before s) k)

-- ---- bits that are made of slots, one after another

-- a slot that passes gives one bit more
pub one_more : (p : ℕ → Bool) (f : ℕ → Bool) (k : ℕ) (first now after : BoundedBits) (mine : List Bool) (bit : Bool) → p k ≡ true → bit ≡ f k → now ≡ bounded first.capacity (mine ++ map f (picked p k)) → after ≡ record now { bits = now.bits ++ bit ∷ [] }
    → after ≡ bounded first.capacity (mine ++ map f (picked p (k + 1)))
one_more p f k first now after mine bit pass is was grown =
    bits_grow first now after (mine ++ map f (picked p k)) (bit ∷ []) (mine ++ map f (picked p (k + 1))) was grown
    (ap (λ l. mine ++ l) (made_pass p f k pass) ∙ ap (λ b. mine ++ (map f (picked p k) ++ b ∷ [])) (sym is) ∙ sym (again (map f (picked p k))))
  where
    push : (xs ys : List Bool) → (mine : List Bool) → (mine ++ xs) ++ ys ≡ mine ++ (xs ++ ys)
    push xs ys [] = refl
    push xs ys (x ∷ mine) = ap (λ l. x ∷ l) (push xs ys mine)

    again : (xs : List Bool) → (mine ++ xs) ++ bit ∷ [] ≡ mine ++ (xs ++ bit ∷ [])
    again xs = push xs (bit ∷ []) mine

-- another gives none
pub none_more : (p : ℕ → Bool) (f : ℕ → Bool) (k : ℕ) (first now after : BoundedBits) (mine : List Bool) → p k ≡ false → now ≡ bounded first.capacity (mine ++ map f (picked p k)) → after ≡ now
    → after ≡ bounded first.capacity (mine ++ map f (picked p (k + 1)))
none_more p f k first now after mine fail was same = same ∙ was ∙ ap (λ l. bounded first.capacity (mine ++ l)) (sym (made_fail p f k fail))

-- there is room for it where there is room for all of them
pub room_for_one : (p : ℕ → Bool) (f : ℕ → Bool) (k len most : ℕ) (first now : BoundedBits) (mine : List Bool) → p k ≡ true → k < len → before p len ≤ most → length mine + most ≤ first.capacity → now ≡ bounded first.capacity (mine ++ map f (picked p k))
    → length now.bits < now.capacity
room_for_one p f k len most first now mine pass within all room was =
    omega (
      arith,
      ap (λ (b : BoundedBits). length b.bits) was,
      ap (λ (b : BoundedBits). b.capacity) was,
      length-append mine (map f (picked p k)),
      length-map (picked p k) f,
      length-picked p k,
      before_less p k len pass within,
      all,
      room,
    )

-- ---- the copies of the justification control

add_le : (a b x y : ℕ) → a ≤ b → x ≤ y → a + x ≤ b + y
add_le a b x y h h' = omega (arith, h, h')

-- a narrower test passes no more
count_and_le : (p q : ℕ → Bool) (xs : List ℕ) → count_by (λ x. p x && q x) xs ≤ count_by p xs
count_and_le p q [] = omega arith
count_and_le p q (x ∷ xs) =
    rw (sum_by-cons (λ x. cond (p x && q x) 1 0) x xs, sum_by-cons (λ x. cond (p x) 1 0) x xs) (add_le (cond (p x && q x) 1 0) (cond (p x) 1 0) _ _ (one (p x) (q x)) (count_and_le p q xs))
  where
    one : (a b : Bool) → cond (a && b) 1 0 ≤ cond a 1 0
    one true true = omega arith
    one true false = omega arith
    one false b = omega arith

-- a tributary has no more control slots than copies
pub ones_few : (s : FrameShape) (j : ℕ) (frame : List Bool) → HasTributaries s → j < s.tribs → control_ones s j frame ≤ s.copies
ones_few s j frame has known = rw (← has.copies j known) (count_and_le (λ slot. controls j (s.role slot)) (λ slot. get_or frame slot false) (slots s))

-- ---- the bits of a tributary

-- ---- control slots

-- those that pass both tests
count_filter : (p q : ℕ → Bool) (xs : List ℕ) → count_by q (filter p xs) ≡ count_by (λ x. p x && q x) xs
count_filter p q [] = refl
count_filter p q (x ∷ xs) = one (p x) (count_filter p q xs) ∙ sym (sum_by-cons (λ x. cond (p x && q x) 1 0) x xs)
  where
    one : (b : Bool) → count_by q (filter p xs) ≡ count_by (λ x. p x && q x) xs → count_by q (cond b (x ∷ filter p xs) (filter p xs)) ≡ cond (b && q x) 1 0 + count_by (λ x. p x && q x) xs
    one true rest = sum_by-cons (λ x. cond (q x) 1 0) x (filter p xs) ∙ ap (λ n. cond (q x) 1 0 + n) rest
    one false rest = let none : count_by (λ x. p x && q x) xs ≡ 0 + count_by (λ x. p x && q x) xs = omega arith in rest ∙ none

range_at : (a n k d : ℕ) → k < n → get_or (range_with_len a n) k d ≡ a + k
range_at a zero k d lt = absurd (omega (arith, lt))
range_at a (suc n) zero d lt = omega arith
range_at a (suc n) (suc k) d lt = let place : a + 1 + k ≡ a + suc k = omega arith in range_at (a + 1) n k d (omega (arith, lt)) ∙ place

range_below : (n m : ℕ) → n ≤ m → All (λ k. k < m) (range_with_len 0 n)
range_below n m le k d lt =
    let inside : k < n = omega (arith, lt, length-range 0 n) in
    omega (arith, range_at 0 n k d inside, inside, le)

-- the overhead slots stand in the frame
pub overhead_inside : (s : FrameShape) (items : List ℕ) (m : ℕ) → items ≡ filter (is_overhead s) (slots s) → s.len ≡ m → All (λ slot. slot < m) items
overhead_inside s items m are e = subst (All (λ slot. slot < m)) (sym are) (All-filter (is_overhead s) (λ slot. slot < m) (range_with_len 0 s.len) (range_below s.len m (omega (arith, e))))

module _ (s : FrameShape) (j : ℕ) (items : List ℕ) (are : items ≡ filter (λ t. controls j (s.role t)) (slots s)) where
  pub controls_inside : (m : ℕ) → s.len ≡ m → All (λ slot. slot < m) items
  controls_inside m e = subst (All (λ slot. slot < m)) (sym are) (All-filter (λ t. controls j (s.role t)) (λ slot. slot < m) (range_with_len 0 s.len) (range_below s.len m (omega (arith, e))))

  pub ones_counted : (frame : List Bool) (ones : ℕ) → ones ≡ count_by (λ slot. get_or frame slot false) items → ones ≡ control_ones s j frame
  ones_counted frame ones is = is ∙ ap (count_by (λ slot. get_or frame slot false)) are ∙ count_filter (λ slot. controls j (s.role slot)) (λ slot. get_or frame slot false) (slots s)
