-- Bits of one list.
use Rattle.pdh_bits.specs.BitOut.{BoundedBits}
use Rattle.std.proofs.Common.{◌≡◌, inl, inr, ◌⊎◌, ℕ, zero, suc, ◌+◌, ◌-◌, ◌<◌, take, Bool, List, [], ◌∷◌, ◌++◌, length, map, get_or, ◌≤◌, append_assoc, cond, refl, sym, ◌∙◌, ap, subst, arith, Option, Some, None, slice_get, slice_set}
use Rattle.std.specs.Prelude.{IsTrue, nat_lt}
use Rattle.std.proofs.lemmas.Bool.{cases_eq, ne_eqb, eq-eqb, ltb-true, lt-ltb}
use Rattle.std.proofs.lemmas.List.{append-nil, length-append, length-map, length-set, map-set, get_or-map, get_or-set_same, get_or-set_other}
use Rattle.std.proofs.lemmas.Option.{slice_get-map}
use Rattle.std.specs.Option.{option_map}
use Rattle.pdh_edge.specs.Ports.{Takes, Puts, PutsPart, PrefixOf, for_leaf, before, after}
use Rattle.pdh_edge.specs.MemLists.{length_of, inputs_of, outputs_of, mem_outputs, items_of, bits_held, room_in, IsFull, room_left, PutInRoom, PutAllInRoom, IsRefused, IsCutShort, StaysInRoom}
use Rattle.pdh_edge.specs.Counts.{one_more}
use Rattle.pdh_packed.specs.Words.{bounded}
use Rattle.pdh_edge.proofs.Rooms.{capacity_of, map_set_same}

get_set_same : {C : Type 0} (xs : List C) (i : ℕ) (y : C) → i < length xs → slice_get (slice_set xs i y) i ≡ Some y
get_set_same [] i y h = absurd (omega arith)
get_set_same (x ∷ xs) zero y h = refl
get_set_same (x ∷ xs) (suc i) y h = get_set_same xs i y (omega arith)

get_set_other : {C : Type 0} (xs : List C) (i j : ℕ) (y : C) → (j ≡ i → ⊥) → slice_get (slice_set xs i y) j ≡ slice_get xs j
get_set_other [] i j y h = refl
get_set_other (x ∷ xs) zero zero y h = absurd (h refl)
get_set_other (x ∷ xs) zero (suc j) y h = refl
get_set_other (x ∷ xs) (suc i) zero y h = refl
get_set_other (x ∷ xs) (suc i) (suc j) y h = get_set_other xs i j y (λ e. h (ap suc e))

-- the element at a place
get_or_found : {X : Type 0} (xs : List X) (i : ℕ) (x : X) → slice_get xs i ≡ Some x → get_or xs i x ≡ x
get_or_found [] i x h = absurd (cc)
get_or_found (y ∷ ys) zero x h = let same : y ≡ x = cc in same
get_or_found (y ∷ ys) (suc i) x h = get_or_found ys i x h

-- a list that is set to itself
pub set_found : {X : Type 0} (xs : List X) (i : ℕ) (x : X) → slice_get xs i ≡ Some x → slice_set xs i x ≡ xs
set_found [] i x h = absurd (cc)
set_found (y ∷ ys) zero x h = let same : y ≡ x = cc in ap (λ z. z ∷ ys) (sym same)
set_found (y ∷ ys) (suc i) x h = ap (λ zs. y ∷ zs) (set_found ys i x h)

pub for_leaf_same : (t : ℕ) (bits : List Bool) → for_leaf t bits t ≡ bits
for_leaf_same t bits = ap (λ v. cond v bits []) (eq-eqb t t refl)

pub for_leaf_other : (t : ℕ) (bits : List Bool) (k : ℕ) → (k ≡ t → ⊥) → for_leaf t bits k ≡ []
for_leaf_other t bits k ne = ap (λ v. cond v bits []) (ne_eqb k t ne)

before_none : (o : Option (List Bool)) → before [] o ≡ o
before_none None = refl
before_none (Some l) = refl

after_none : (o : Option (List Bool)) → after [] o ≡ o
after_none None = refl
after_none (Some l) = ap Some (append-nil l)

prefix_same : (bits : List Bool) (o : Option (List Bool)) → PrefixOf bits o o
prefix_same bits None = tt
prefix_same bits (Some l) = (bits, refl)

-- a list gives its first bits
pub takes_front : (lists : List (List Bool)) (t : ℕ) (bits rest : List Bool) → t < length lists → slice_get lists t ≡ Some (bits ++ rest) → Takes (for_leaf t bits) (inputs_of lists) (inputs_of (slice_set lists t rest))
takes_front lists t bits rest within is = record {
  counts = λ k. elim (cases_eq k t) [
    | inl same ↦
        let P : ℕ → Type 0 = λ v. length_of (slice_get lists v) ≡ length (for_leaf t bits v) + length_of (slice_get (slice_set lists t rest) v) in
        let all : length (for_leaf t bits t) ≡ length bits = ap length (for_leaf_same t bits) in
        let was : length_of (slice_get lists t) ≡ length bits + length rest = ap length_of is ∙ length-append bits rest in
        let now : length_of (slice_get (slice_set lists t rest) t) ≡ length rest = ap length_of (get_set_same lists t rest within) in
        let here : P t = omega (arith, all, was, now) in
        subst P (sym same) here
    | inr other ↦
        let none : length (for_leaf t bits k) ≡ 0 = ap length (for_leaf_other t bits k other) in
        let kept : length_of (slice_get (slice_set lists t rest) k) ≡ length_of (slice_get lists k) = ap length_of (get_set_other lists t k rest other) in
        omega (arith, none, kept)
  ];
  bits = λ k. elim (cases_eq k t) [
    | inl same ↦
        let P : ℕ → Type 0 = λ v. slice_get lists v ≡ before (for_leaf t bits v) (slice_get (slice_set lists t rest) v) in
        let here : P t = is ∙ sym (ap (λ l. before l (slice_get (slice_set lists t rest) t)) (for_leaf_same t bits) ∙ ap (before bits) (get_set_same lists t rest within)) in
        subst P (sym same) here
    | inr other ↦
        sym (ap (λ l. before l (slice_get (slice_set lists t rest) k)) (for_leaf_other t bits k other) ∙ before_none (slice_get (slice_set lists t rest) k) ∙ get_set_other lists t k rest other)
  ];
}

-- a list takes bits
pub puts_last : (lists : List (List Bool)) (t : ℕ) (bits old : List Bool) → t < length lists → slice_get lists t ≡ Some old → Puts (for_leaf t bits) (outputs_of lists) (outputs_of (slice_set lists t (old ++ bits)))
puts_last lists t bits old within is k = elim (cases_eq k t) [
  | inl same ↦
      let new : List Bool = old ++ bits in
      let P : ℕ → Type 0 = λ v. slice_get (slice_set lists t new) v ≡ after (for_leaf t bits v) (slice_get lists v) in
      let here : P t = get_set_same lists t new within ∙ sym (ap (λ l. after l (slice_get lists t)) (for_leaf_same t bits) ∙ ap (after bits) is) in
      subst P (sym same) here
  | inr other ↦
      get_set_other lists t k (old ++ bits) other ∙ sym (ap (λ l. after l (slice_get lists k)) (for_leaf_other t bits k other) ∙ after_none (slice_get lists k))
]

-- a list stays as it was
pub puts_none : (lists : List (List Bool)) (t : ℕ) (bits old : List Bool) → t < length lists → slice_get lists t ≡ Some old → PutsPart (for_leaf t bits) (outputs_of lists) (outputs_of (slice_set lists t old))
puts_none lists t bits old within is k = elim (cases_eq k t) [
  | inl same ↦
      let P : ℕ → Type 0 = λ v. PrefixOf (for_leaf t bits v) (slice_get lists v) (slice_get (slice_set lists t old) v) in
      let now : slice_get (slice_set lists t old) t ≡ slice_get lists t = get_set_same lists t old within ∙ sym is in
      let here : P t = subst (PrefixOf (for_leaf t bits t) (slice_get lists t)) (sym now) (prefix_same (for_leaf t bits t) (slice_get lists t)) in
      subst P (sym same) here
  | inr other ↦ subst (PrefixOf (for_leaf t bits k) (slice_get lists k)) (sym (get_set_other lists t k old other)) (prefix_same (for_leaf t bits k) (slice_get lists k))
]

-- a list takes the first of some bits
pub puts_some : (lists : List (List Bool)) (t : ℕ) (bits rest old : List Bool) → t < length lists → slice_get lists t ≡ Some old → PutsPart (for_leaf t (bits ++ rest)) (outputs_of lists) (outputs_of (slice_set lists t (old ++ bits)))
puts_some lists t bits rest old within is k = elim (cases_eq k t) [
  | inl same ↦
      let all : List Bool = bits ++ rest in
      let new : List Bool = old ++ bits in
      let P : ℕ → Type 0 = λ v. PrefixOf (for_leaf t all v) (slice_get lists v) (slice_get (slice_set lists t new) v) in
      let told : PrefixOf all (Some old) (Some new) = (rest, sym (append_assoc old bits rest)) in
      let here : P t = subst (λ b. PrefixOf b (slice_get lists t) (slice_get (slice_set lists t new) t)) (sym (for_leaf_same t all))
      (subst (λ o. PrefixOf all o (slice_get (slice_set lists t new) t)) (sym is) (subst (λ o. PrefixOf all (Some old) o) (sym (get_set_same lists t new within)) told)) in
      subst P (sym same) here
  | inr other ↦ subst (PrefixOf (for_leaf t (bits ++ rest) k) (slice_get lists k)) (sym (get_set_other lists t k (old ++ bits) other)) (prefix_same (for_leaf t (bits ++ rest) k) (slice_get lists k))
]

-- a leaf that has a list
pub within_lists : {C : Type 0} (f : C → List Bool) (xs : List C) (k : ℕ) → IsTrue (nat_lt k (length (map f xs))) → k < length xs
within_lists f xs k h =
    let long = length-map xs f in
    let within : k < length (map f xs) = ltb-true _ _ h in
    omega (arith, long, within)

-- ---- the room of a list

-- the room of a list that is held
pub room_at : (lists : List BoundedBits) (i : ℕ) (d : BoundedBits) → i < length lists → room_in lists i ≡ capacity_of (get_or lists i d)
room_at lists i d h = get_or-map capacity_of lists i d 0 h

pub room_now : (lists : List BoundedBits) (i : ℕ) (y : BoundedBits) → i < length lists → room_in (slice_set lists i y) i ≡ capacity_of y
room_now lists i y h =
    room_at (slice_set lists i y) i y (omega (arith, length-set lists i y, h)) ∙ ap capacity_of (get_or-set_same lists i y y h)

-- a list is changed, and its room stays
pub room_same : (lists : List BoundedBits) (i : ℕ) (y d : BoundedBits) → i < length lists → capacity_of y ≡ capacity_of (get_or lists i d) → (k : ℕ) → room_in (slice_set lists i y) k ≡ room_in lists k
room_same lists i y d h same k = ap (λ rooms. get_or rooms k 0) (map_set_same capacity_of lists i y d h same)

-- its room grows
pub room_grows : (lists : List BoundedBits) (i : ℕ) (y d : BoundedBits) → i < length lists → capacity_of (get_or lists i d) ≤ capacity_of y → (k : ℕ) → room_in lists k ≤ room_in (slice_set lists i y) k
room_grows lists i y d h more k =
    let rooms : List ℕ = map capacity_of lists in
    let long : length rooms ≡ length lists = length-map lists capacity_of in
    let new : room_in (slice_set lists i y) k ≡ get_or (slice_set rooms i (capacity_of y)) k 0 = ap (λ l. get_or l k 0) (map-set capacity_of lists i y) in
    elim (cases_eq k i) [
      | inl same ↦
          let old : room_in lists k ≡ capacity_of (get_or lists i d) = ap (room_in lists) same ∙ room_at lists i d h in
          let now : get_or (slice_set rooms i (capacity_of y)) k 0 ≡ capacity_of y = ap (λ k. get_or (slice_set rooms i (capacity_of y)) k 0) same ∙ get_or-set_same rooms i (capacity_of y) 0 (omega arith) in
          omega arith
      | inr other ↦ (let kept : get_or (slice_set rooms i (capacity_of y)) k 0 ≡ room_in lists k = get_or-set_other rooms i k (capacity_of y) 0 other in omega arith)
    ]

-- how many bits it holds
pub held_at : (lists : List BoundedBits) (i : ℕ) (y : BoundedBits) → slice_get lists i ≡ Some y → bits_held (mem_outputs lists) i ≡ length (items_of y)
held_at lists i y here = ap length_of (slice_get-map items_of lists i ∙ ap (option_map items_of) here)

pub held_now : (lists : List BoundedBits) (i : ℕ) (y : BoundedBits) → i < length lists → bits_held (mem_outputs (slice_set lists i y)) i ≡ length (items_of y)
held_now lists i y h = held_at (slice_set lists i y) i y (get_set_same lists i y h)

-- the others hold what they held
pub held_other : (lists : List BoundedBits) (i : ℕ) (y : BoundedBits) (k : ℕ) → (k ≡ i → ⊥) → bits_held (mem_outputs (slice_set lists i y)) k ≡ bits_held (mem_outputs lists) k
held_other lists i y k other = ap length_of (slice_get-map items_of (slice_set lists i y) k ∙ ap (option_map items_of) (get_set_other lists i k y other) ∙ sym (slice_get-map items_of lists k))

-- no list holds fewer bits
pub held_grows : (lists : List BoundedBits) (i : ℕ) (y d : BoundedBits) → i < length lists → slice_get lists i ≡ Some d → length (items_of d) ≤ length (items_of y) → (k : ℕ) → bits_held (mem_outputs lists) k ≤ bits_held (mem_outputs (slice_set lists i y)) k
held_grows lists i y d h here more k = elim (cases_eq k i) [
  | inl same ↦
      let old : bits_held (mem_outputs lists) k ≡ length (items_of d) = ap (bits_held (mem_outputs lists)) same ∙ held_at lists i d here in
      let now : bits_held (mem_outputs (slice_set lists i y)) k ≡ length (items_of y) = ap (bits_held (mem_outputs (slice_set lists i y))) same ∙ held_now lists i y h in
      omega arith
  | inr other ↦ (let kept : bits_held (mem_outputs (slice_set lists i y)) k ≡ bits_held (mem_outputs lists) k = held_other lists i y k other in omega arith)
]

-- ---- a put

-- the leaves stay the same
pub same_holds : (lists : List BoundedBits) (i : ℕ) (y : BoundedBits) → (mem_outputs (slice_set lists i y)).holds ≡ (mem_outputs lists).holds
same_holds lists i y = ap (λ n k. nat_lt k n) (length-map (slice_set lists i y) items_of ∙ length-set lists i y ∙ sym (length-map lists items_of))

-- bits are appended to a list, or none
module _ (lists : List BoundedBits) (i : ℕ) (old new : BoundedBits) (bits : List Bool) (within : i < length lists) (here : slice_get lists i ≡ Some old) (grown : new ≡ record old { bits = old.bits ++ bits }) where
  many : i < length (map items_of lists)
  many = omega (arith, length-map lists items_of, within)

  bits_here : slice_get (map items_of lists) i ≡ Some old.bits
  bits_here = slice_get-map items_of lists i ∙ ap (option_map items_of) here

  bits_now : map items_of (slice_set lists i new) ≡ slice_set (map items_of lists) i (old.bits ++ bits)
  bits_now = map-set items_of lists i new ∙ ap (λ (list : BoundedBits). slice_set (map items_of lists) i list.bits) grown

  old_at : get_or lists i old ≡ old
  old_at = get_or_found lists i old here

  same_room : capacity_of new ≡ capacity_of (get_or lists i old)
  same_room = ap capacity_of grown ∙ sym (ap capacity_of old_at)

  longer : length (items_of new) ≡ length (items_of old) + length bits
  longer = ap (λ (list : BoundedBits). length list.bits) grown ∙ length-append old.bits bits

  pub was_put : Puts (for_leaf i bits) (mem_outputs lists) (mem_outputs (slice_set lists i new))
  was_put = subst (λ now. Puts (for_leaf i bits) (mem_outputs lists) (outputs_of now)) (sym bits_now) (puts_last (map items_of lists) i bits old.bits many bits_here)

  pub part_put : (rest : List Bool) → PutsPart (for_leaf i (bits ++ rest)) (mem_outputs lists) (mem_outputs (slice_set lists i new))
  part_put rest = subst (λ now. PutsPart (for_leaf i (bits ++ rest)) (mem_outputs lists) (outputs_of now)) (sym bits_now) (puts_some (map items_of lists) i bits rest old.bits many bits_here)

  stays : (faults now : ℕ) → (now ≡ faults) ⊎ ((k : ℕ) × IsTrue ((mem_outputs (slice_set lists i new)).holds k) × IsFull (slice_set lists i new) k) → StaysInRoom lists (slice_set lists i new) faults now
  stays faults now counted = record {
    rooms = room_same lists i new old within same_room;
    grows = held_grows lists i new old within here (omega (arith, longer));
    counted = counted;
  }

  pub put_stays : (faults : ℕ) → StaysInRoom lists (slice_set lists i new) faults faults
  put_stays faults = stays faults faults (inl refl)

  -- the others have as much room as before
  pub others_room : (k : ℕ) → (k ≡ i → ⊥) → room_left (slice_set lists i new) k ≡ room_left lists k
  others_room k other = (let held : bits_held (mem_outputs (slice_set lists i new)) k ≡ bits_held (mem_outputs lists) k = held_other lists i new k other in omega (arith, held, room_same lists i new old within same_room k))

  -- and the list is full then
  pub full_stays : (faults now : ℕ) → capacity_of old ≤ length (items_of old) + length bits → StaysInRoom lists (slice_set lists i new) faults now
  full_stays faults now full =
      let held : bits_held (mem_outputs (slice_set lists i new)) i ≡ length (items_of new) = held_now lists i new within in
      let room : room_in (slice_set lists i new) i ≡ capacity_of new = room_now lists i new within in
      stays faults now (inr (
        i,
        lt-ltb i (length (map items_of (slice_set lists i new))) (omega (arith, length-map (slice_set lists i new) items_of, length-set lists i new, within)),
        omega (arith, held, room, longer, ap capacity_of grown, full),
      ))

module _ (lists : List BoundedBits) (i : ℕ) (old : BoundedBits) (within : i < length lists) (here : slice_get lists i ≡ Some old) where
  held_here : bits_held (mem_outputs lists) i ≡ length (items_of old)
  held_here = held_at lists i old here

  room_here : room_in lists i ≡ capacity_of old
  room_here = room_at lists i old within ∙ ap capacity_of (get_or_found lists i old here)

  -- the list has room for a bit more
  pub had_room : (faults : ℕ) → length (items_of old) < capacity_of old → PutInRoom i lists faults faults
  had_room faults room = record { room = omega (arith, held_here, room_here, room); uncounted = refl }

  -- the list has room for so many bits more
  pub had_room_for : (count faults : ℕ) → length (items_of old) + count ≤ capacity_of old → PutAllInRoom i count lists faults faults
  had_room_for count faults room = record { room = omega (arith, held_here, room_here, room); uncounted = refl }

  -- for how many bits more the list has room
  pub left_here : room_left lists i ≡ capacity_of old - length (items_of old)
  left_here = omega (arith, held_here, room_here)

  -- it is full
  pub nothing_put : old ≡ record old { bits = old.bits ++ [] }
  nothing_put = ap (bounded old.capacity) (sym (append-nil old.bits))

  pub was_refused : (faults now : ℕ) → capacity_of old ≤ length (items_of old) → now ≡ one_more faults → IsRefused i lists (slice_set lists i old) faults now
  was_refused faults now full counted = record {
    full = omega (arith, held_here, room_here, full);
    same = ap mem_outputs (set_found lists i old here);
    counted = counted;
  }

  -- it took as many bits as it had room for, and not all
  pub was_cut_short : (new : BoundedBits) (bits : List Bool) (put faults now : ℕ) → put ≡ capacity_of old - length (items_of old) → put < length bits → new ≡ record old { bits = old.bits ++ take put bits }
      → now ≡ one_more faults → IsCutShort i bits lists (slice_set lists i new) faults now
  was_cut_short new bits put faults now is few grown counted =
      let left : put ≡ room_left lists i = omega (arith, held_here, room_here, is) in
      record {
        few = omega (arith, held_here, room_here, is, few);
        part = subst (λ (n : ℕ). Puts (for_leaf i (take n bits)) (mem_outputs lists) (mem_outputs (slice_set lists i new))) left
            (was_put lists i old new (take put bits) within here grown);
        counted = counted;
      }
