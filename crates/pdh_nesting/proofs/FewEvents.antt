-- How many events stand in making so many bits of a line at most, in either mode.
use Rattle.std.proofs.Common.{ℕ, ◌+◌, ◌*◌, ◌/◌, ◌%◌, ◌≤◌, eqb, Bool, true, false, cond, List, [], ◌∷◌, ◌++◌, flat_map, length, refl, subst, arith, mul-suc}
use Rattle.std.specs.List.{range_with_len}
use Rattle.std.proofs.Math.Nat.{mul-le-mul_right}
use Rattle.std.proofs.lemmas.List.{length-append}
use Rattle.pdh_shape.specs.Frame.{FrameShape}
use Rattle.pdh_shape.specs.Tributary.{reads_from, reads_below}
use Rattle.pdh_shape.specs.OwnNumbers.{lead}
use Rattle.pdh_line.specs.Sending.{Mode, arrives_at, came_before}
use Rattle.pdh_line.specs.Events.{Event, overflow_at, underflow_at}
use Rattle.pdh_line.specs.Nodes.{child, Counts}
use Rattle.pdh_line.proofs.Ranges.{length-range}
use Rattle.pdh_nesting.specs.Events.{events_with_stores, events_without_stores, events_in, events_below}
use Rattle.pdh_nesting.proofs.SlipOnce.{AtMostOne, overflow-one, underflow-one}

-- ---- lists of parts

-- where each part has so many at most
flat_few : {A B : Type 0} (f : A → List B) (m : ℕ) → ((x : A) → length (f x) ≤ m) → (xs : List A) → length (flat_map f xs) ≤ m * length xs
flat_few f m each [] = omega arith
flat_few f m each (x ∷ xs) = omega (arith, length-append (f x) (flat_map f xs), each x, flat_few f m each xs, mul-suc m (length xs))

range_few : {B : Type 0} (f : ℕ → List B) (m a n : ℕ) → ((x : ℕ) → length (f x) ≤ m) → length (flat_map f (range_with_len a n)) ≤ m * n
range_few f m a n each = subst (λ k. length (flat_map f (range_with_len a n)) ≤ m * k) (length-range a n) (flat_few f m each (range_with_len a n))

if_few : {B : Type 0} (b : Bool) (xs : List B) (m : ℕ) → length xs ≤ m → length (cond b xs []) ≤ m
if_few true xs m few = few
if_few false xs m few = omega arith

one_few : {B : Type 0} (xs : List B) → AtMostOne xs → length xs ≤ 1
one_few [] few = omega arith
one_few (x ∷ []) few = omega arith
one_few (x ∷ y ∷ xs) few = absurd few

-- ---- a node

-- in making a bit: those of a lead of each tributary, of a bit that arrives, and two of the tributary's own
abbrev pub events_per_bit : List FrameShape → ℕ
events_per_bit [] = 0
events_per_bit (s ∷ below) =
    let c = events_per_bit below in
    (c * lead) * s.tribs + ((c + 1) * s.tribs + 1 * s.tribs)

module _ (s : FrameShape) (counts : Counts) (path : List ℕ) (made : ℕ → ℕ → List Event) (c : ℕ) (few : (j k : ℕ) → length (made j k) ≤ c) where
  without_few : (x : ℕ) → length (events_without_stores s made x) ≤ c * s.tribs
  without_few x =
      let n : ℕ = x / s.len in
      let t : ℕ = x % s.len in
      range_few (λ j. cond (reads_from j false (s.role t)) (made j (n * s.low + reads_below s j false t)) []) c 0 s.tribs
      (λ j. if_few (reads_from j false (s.role t)) (made j (n * s.low + reads_below s j false t)) c (few j (n * s.low + reads_below s j false t)))

  with_few : (mode : Mode) (x : ℕ) → length (events_with_stores mode s counts path made x) ≤ (c * lead) * s.tribs + ((c + 1) * s.tribs + 1 * s.tribs)
  with_few mode x =
      let n : ℕ = x / s.len in
      let t : ℕ = x % s.len in
      let arrived : ℕ → List Event = λ j. cond (arrives_at s (counts path j n) t) (made j (came_before s (counts path j) n t)) [] in
      let leads : List Event = flat_map (λ j. flat_map (made j) (range_with_len 0 lead)) (range_with_len 0 s.tribs) in
      let first : List Event = cond (eqb x 0) leads [] in
      let second : List Event = flat_map (λ j. arrived j ++ overflow_at mode s path j (counts path j) n t) (range_with_len 0 s.tribs) in
      let third : List Event = flat_map (λ j. underflow_at mode s path j (counts path j) n t) (range_with_len 0 s.tribs) in
      let first_few : length first ≤ (c * lead) * s.tribs =
      if_few (eqb x 0) leads ((c * lead) * s.tribs) (range_few (λ j. flat_map (made j) (range_with_len 0 lead)) (c * lead) 0 s.tribs (λ j. range_few (made j) c 0 lead (few j))) in
      let second_few : length second ≤ (c + 1) * s.tribs =
      range_few (λ j. arrived j ++ overflow_at mode s path j (counts path j) n t) (c + 1) 0 s.tribs (λ j.
      omega (
        arith,
        length-append (arrived j) (overflow_at mode s path j (counts path j) n t),
        if_few (arrives_at s (counts path j n) t) (made j (came_before s (counts path j) n t)) c (few j (came_before s (counts path j) n t)),
        one_few (overflow_at mode s path j (counts path j) n t) (overflow-one mode s path j (counts path j) n t),
      )) in
      let third_few : length third ≤ 1 * s.tribs =
      range_few (λ j. underflow_at mode s path j (counts path j) n t) 1 0 s.tribs (λ j. one_few (underflow_at mode s path j (counts path j) n t) (underflow-one mode s path j (counts path j) n t)) in
      let all : length ((first ++ second) ++ third) ≤ (c * lead) * s.tribs + ((c + 1) * s.tribs + 1 * s.tribs) =
      omega (arith, length-append (first ++ second) third, length-append first second, first_few, second_few, third_few) in
      all

-- in making a bit of the line of the node at a path
pub few_in : (mode : Mode) (chain : List FrameShape) (counts : Counts) (path : List ℕ) (x : ℕ) → length (events_in mode chain counts path x) ≤ events_per_bit chain
unfolding events_in
few_in mode [] counts path x = omega arith
few_in mode (s ∷ below) counts path x = go (eqb s.copies 0) (λ j k. few_in mode below counts (child path j) k)
  where
    made : ℕ → ℕ → List Event
    made j k = events_in mode below counts (child path j) k

    c : ℕ
    c = events_per_bit below

    less : c * s.tribs ≤ (c + 1) * s.tribs
    less = mul-le-mul_right s.tribs (omega arith)

    go : (b : Bool) → ((j k : ℕ) → length (made j k) ≤ c) → length (cond b (events_without_stores s made x) (events_with_stores mode s counts path made x)) ≤ events_per_bit (s ∷ below)
    go true few = omega (arith, without_few s counts path made c few x, less)
    go false few = with_few s counts path made c few mode x

-- in making the first x bits of the top's line
pub few_below : (mode : Mode) (chain : List FrameShape) (counts : Counts) (x : ℕ) → length (events_below mode chain counts x) ≤ events_per_bit chain * x
unfolding events_below
few_below mode chain counts x = range_few (events_in mode chain counts []) (events_per_bit chain) 0 x (few_in mode chain counts [])
