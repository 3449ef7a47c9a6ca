-- What bits of a line bring, appended to a list, many bits at a time.
use Rattle.std.proofs.Common.{◌-◌, ◌≡◌, ℕ, suc, ◌+◌, ◌*◌, ◌<◌, ◌≤◌, Bool, List, [], ◌∷◌, ◌++◌, length, take, drop, map, replicate, sym, ap, subst, ◌∙◌, arith, append_assoc, Option}
use Rattle.std.proofs.lemmas.List.{append-nil, length-append, length-drop, length-take-le, take-append-drop}
use Rattle.std.proofs.lemmas.Simd.{splat_is_map}
use Rattle.std.proofs.Math.Seq.{take-add}
use Rattle.pdh_bits.specs.Bits.{bits_of}
use Rattle.pdh_bits.specs.BitOut.{BoundedBits}
use Rattle.pdh_bits.proofs.BitsLemmas.{length-bits_of}
use Rattle.pdh_packed.specs.Words.{bounded}
use Rattle.pdh_packed.proofs.BoundedLaws.{bits_grow, room_left}
use Rattle.pdh_script.specs.Scripts.{Row}
use Rattle.pdh_script.specs.Stored.{becomes}
use Rattle.pdh_script.specs.declared.step.Effect.{Effect}
use Rattle.pdh_script.specs.Bending.{added_at, becomes_at, all_brought}
use Rattle.pdh_script.specs.RowsLeft.{Remain, IsAhead, AreLeft, ArePassed, HasAdded}
use Rattle.pdh_script.proofs.Brought.{brought_then}
use Rattle.pdh_script.proofs.RowsLeft.{passed_more, passed_all, left_adds, same_brought, added_first}

-- ---- what rows add before the bit of a place

pub record Appending (place : ℕ) (rows left : List Row) (old now : BoundedBits) : Type 0 where
  pub done : List Bool
  pub grown : now ≡ bounded old.capacity (old.bits ++ done)
  pub passed : ArePassed place rows left done

-- the bits of the next row come after those that were appended
module _ (place : ℕ) (rows mid left : List Row) (bytes : List ℕ) (old now : BoundedBits) (h : Appending place rows mid old now) (next : ArePassed place mid left (bits_of bytes)) where
  both : ArePassed place rows left (h.done ++ bits_of bytes)
  both = passed_more place rows mid left h.done (bits_of bytes) h.passed next

  pub appending_room : length old.bits + length (added_at place rows) ≤ old.capacity → length now.bits + 8 * length bytes ≤ now.capacity
  appending_room room =
      let others = added_at place left in
      let long : length (added_at place rows) ≡ length h.done + length (bits_of bytes) + length others =
      ap length both.adds ∙ length-append (h.done ++ bits_of bytes) others ∙ ap (λ k. k + length others) (length-append h.done (bits_of bytes)) in
      room_left old now h.done (8 * length bytes) h.grown (omega (arith, room, long, length-bits_of bytes))

  pub appending_next : (new : BoundedBits) → new ≡ record now { bits = now.bits ++ bits_of bytes } → Appending place rows left old new
  appending_next new grown = record {
    done = h.done ++ bits_of bytes;
    grown = bits_grow old now new (old.bits ++ h.done) (bits_of bytes) (old.bits ++ (h.done ++ bits_of bytes)) h.grown grown (sym (append_assoc old.bits h.done (bits_of bytes)));
    passed = both;
  }

-- all of them were appended
pub appending_done : (place : ℕ) (rows left : List Row) (old now : BoundedBits) (h : Appending place rows left old now) → IsAhead place left → now ≡ record old { bits = old.bits ++ added_at place rows }
appending_done place rows left old now h ahead = h.grown ∙ ap (λ bits. bounded old.capacity (old.bits ++ bits)) (passed_all place rows left h.done h.passed ahead)

-- so many bits of a list, each of which becomes the same
pub same_bits : (bits : List Bool) (from count : ℕ) (bit : Bool) → from + count ≤ length bits → replicate count bit ≡ map (λ old. bit) (take count (drop from bits))
same_bits bits from count bit within = splat_is_map (take count (drop from bits)) count bit (length-take-le count (drop from bits) (omega (arith, within, length-drop from bits)))

-- ---- all of them

-- how far a bender has come in bits: it has taken so many of them, and appended what they bring
pub record Bends (rows : List Row) (from : ℕ) (bits : List Bool) (old : BoundedBits) (left : List Row) (place done : ℕ) (now : BoundedBits) : Type 0 where
  pub within : done ≤ length bits
  pub place_is : place ≡ from + done
  pub rest : AreLeft left rows place
  pub grown : now ≡ bounded old.capacity (old.bits ++ all_brought from rows (take done bits))

pub bends_none : (rows : List Row) (from : ℕ) (bits : List Bool) (old : BoundedBits) (left : List Row) (place : ℕ) → place ≡ from → AreLeft left rows place → Bends rows from bits old left place 0 old
bends_none rows from bits old left place is rest = record {
  within = omega arith;
  place_is = omega (arith, is);
  rest = rest;
  grown = ap (bounded old.capacity) (sym (append-nil old.bits));
}

added_fits : (place : ℕ) (rows : List Row) (xs : List Bool) → 0 < length xs → length (added_at place rows) ≤ length (all_brought place rows xs)
added_fits place rows [] some = absurd (let P : ⊥ = omega (arith, some) in P)
added_fits place rows (x ∷ xs) some =
    let become = becomes_at place rows (x ∷ []) in
    let later = all_brought (suc place) rows xs in
    omega (arith, length-append (added_at place rows ++ become) later, length-append (added_at place rows) become)

module _ (rows : List Row) (from : ℕ) (bits : List Bool) (old : BoundedBits) (held first : List Row) (place done : ℕ) (now : BoundedBits) (h : Bends rows from bits old held place done now) (same : first ≡ held) (room : length old.bits + length (all_brought from rows bits) ≤ old.capacity) where
  rest : AreLeft first rows place
  rest = subst (λ (r : List Row). AreLeft r rows place) (sym same) h.rest

  -- what the bits bring, cut behind some more of them
  cut : (xs ys : List Bool) → drop done bits ≡ xs ++ ys → all_brought from rows bits ≡ all_brought from rows (take done bits) ++ (all_brought place rows xs ++ all_brought (place + length xs) rows ys)
  cut xs ys is =
      let before = take done bits in
      let place_is : from + length before ≡ place = omega (arith, length-take-le done bits h.within, h.place_is) in
      ap (all_brought from rows) (sym (take-append-drop done bits) ∙ ap (λ v. before ++ v) is) ∙ brought_then from rows before (xs ++ ys)
      ∙ ap (λ p. all_brought from rows before ++ all_brought p rows (xs ++ ys)) place_is ∙ ap (λ v. all_brought from rows before ++ v) (brought_then place rows xs ys)

  pub room_added : done < length bits → length now.bits + length (added_at place first) ≤ now.capacity
  room_added less =
      let before = all_brought from rows (take done bits) in
      let left = drop done bits in
      let whole = cut left [] (sym (append-nil left)) in
      let long : length (all_brought from rows bits) ≡ length before + length (all_brought place rows left ++ []) = ap length whole ∙ length-append before (all_brought place rows left ++ []) in
      let fits = added_fits place rows left (omega (arith, less, length-drop done bits)) in
      room_left old now before (length (added_at place first)) h.grown
      (omega (arith, room, long, fits, length-append (all_brought place rows left) [], ap length (left_adds first rows place rest)))

  -- some more of them, of which the same becomes
  module _ (left : List Row) (effect : Option Effect) (count : ℕ) (mid : BoundedBits) (some : 0 < count) (most : count ≤ length bits - done) (added : HasAdded place first left) (mid_is : mid ≡ record now { bits = now.bits ++ added_at place first }) (remains : Remain (place + count) left) (alike : (xs : List Bool) → length xs ≡ count → all_brought place left xs ≡ becomes_at place left xs) (effect_is : (xs : List Bool) → becomes effect xs ≡ becomes_at place left xs) where
    long_enough : length (take count (drop done bits)) ≡ count
    long_enough = length-take-le count (drop done bits) (omega (arith, most, length-drop done bits))

    brings : all_brought place rows (take count (drop done bits)) ≡ added_at place first ++ becomes effect (take count (drop done bits))
    brings =
        let xs = take count (drop done bits) in
        sym (same_brought place first rows xs rest.same) ∙ added_first place first left xs (omega (arith, some, long_enough)) added ∙ ap (λ v. added_at place first ++ v) (alike xs long_enough ∙ sym (effect_is xs))

    pub room_altered : length mid.bits + length (becomes effect (take count (drop done bits))) ≤ mid.capacity
    room_altered =
        let xs = take count (drop done bits) in
        let ys = drop count (drop done bits) in
        let before = all_brought from rows (take done bits) in
        let later = all_brought (place + length xs) rows ys in
        let whole = cut xs ys (sym (take-append-drop count (drop done bits))) in
        let long : length (all_brought from rows bits) ≡ length before + (length (all_brought place rows xs) + length later) =
        ap length whole ∙ length-append before (all_brought place rows xs ++ later) ∙ ap (λ k. length before + k) (length-append (all_brought place rows xs) later) in
        let all : length (all_brought place rows xs) ≡ length (added_at place first) + length (becomes effect xs) = ap length brings ∙ length-append (added_at place first) (becomes effect xs) in
        let mid_long : length mid.bits ≡ length now.bits + length (added_at place first) = ap (λ (b : BoundedBits). length b.bits) mid_is ∙ length-append now.bits (added_at place first) in
        let capacity : mid.capacity ≡ now.capacity = ap (λ (b : BoundedBits). b.capacity) mid_is in
        let fits = room_left old now before (length (added_at place first) + length (becomes effect xs)) h.grown (omega (arith, room, long, all)) in
        omega (arith, fits, mid_long, capacity)

    pub bends_next : (new : BoundedBits) (next : ℕ) → new ≡ record mid { bits = mid.bits ++ becomes effect (take count (drop done bits)) } → next ≡ place + count → Bends rows from bits old left next (done + count) new
    bends_next new next grown next_is =
        let xs = take count (drop done bits) in
        let before = take done bits in
        let place_is : from + length before ≡ place = omega (arith, length-take-le done bits h.within, h.place_is) in
        let taken : take (done + count) bits ≡ before ++ xs = take-add done count bits in
        let so_far : all_brought from rows (take (done + count) bits) ≡ all_brought from rows before ++ (added_at place first ++ becomes effect xs) =
        ap (all_brought from rows) taken ∙ brought_then from rows before xs ∙ ap (λ p. all_brought from rows before ++ all_brought p rows xs) place_is ∙ ap (λ v. all_brought from rows before ++ v) brings in
        let mid_grown = bits_grow old now mid (old.bits ++ all_brought from rows before) (added_at place first) (old.bits ++ (all_brought from rows before ++ added_at place first)) h.grown mid_is
        (sym (append_assoc old.bits (all_brought from rows before) (added_at place first))) in
        record {
          within = omega (arith, most, h.within);
          place_is = omega (arith, next_is, h.place_is);
          rest = subst (AreLeft left rows) (sym next_is) (record {
            remain = remains;
            same = λ p since. (
              (added.passed.later p (omega (arith, since, some))).0 ∙ (rest.same p (omega (arith, since))).0,
              λ v. (added.passed.later p (omega (arith, since, some))).1 v ∙ (rest.same p (omega (arith, since))).1 v,
            );
          });
          grown = bits_grow old mid new (old.bits ++ (all_brought from rows before ++ added_at place first)) (becomes effect xs) (old.bits ++ all_brought from rows (take (done + count) bits)) mid_grown grown
              (ap (λ v. old.bits ++ v) (so_far ∙ sym (append_assoc (all_brought from rows before) (added_at place first) (becomes effect xs)))
              ∙ sym (append_assoc old.bits (all_brought from rows before ++ added_at place first) (becomes effect xs)));
        }
