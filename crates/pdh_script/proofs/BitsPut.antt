-- Calls that put what bits of a line bring.
use Rattle.std.proofs.Common.{◌≡◌, ℕ, ◌+◌, ◌<◌, Bool, false, List, [], ◌∷◌, ◌++◌, length, take, drop, get_or, refl, sym, ap, subst, ◌∙◌, arith, Result, Ok, Err}
use Rattle.std.proofs.lemmas.List.{take-append-drop, take_more}
use Rattle.std.proofs.lemmas.List.Concat.{flat_map-append}
use Rattle.pdh_bits.specs.Bits.{bits_of, bits_of_byte}
use Rattle.pdh_edge.specs.declared.port.Drain as drain
use Rattle.pdh_edge.specs.declared.shelf.Failed.{Failed}
use Rattle.pdh_edge.specs.Counts.{one_more}
use Rattle.pdh_edge.specs.Ports.{Puts, PutsPart, IsPrefix, for_leaf}
use Rattle.pdh_edge.proofs.Progress.{starts, goes_on}
use Rattle.pdh_edge.proofs.Runs.{puts_begin, puts_then, puts_part}
use Rattle.pdh_script.specs.Scripts.{Row}
use Rattle.pdh_script.specs.Bending.{added_at, becomes_at, brought, PutsSome, PutsBits}
use Rattle.pdh_script.specs.RowsLeft.{IsAhead, AreLeft, ArePassed, HasAdded}
use Rattle.pdh_script.proofs.Parts.{prefix_same}
use Rattle.pdh_script.proofs.RowsLeft.{passed_more, passed_all, left_adds}

-- ---- bits that are put one after another

pub puts_none : {D E : Type 0} (drains : drain.Ghosts D) (all : List Bool) (a : D) → drains.drained a a → PutsSome {T = Unit {0}} {E = E} drains [] all a a (Ok tt)
puts_none drains all a same = starts same (puts_begin 0 (drains.outputs a))

-- bits after others
puts_next : {D E : Type 0} (drains : drain.Ghosts D) (xs ys zs all : List Bool) (a b c : D) (result : Result (Unit {0}) E) → (drains.drained a b → drains.drained b c → drains.drained a c) → xs ++ ys ≡ zs → IsPrefix zs all
    → PutsSome {T = Unit {0}} {E = E} drains xs all a b (Ok tt) → PutsBits drains ys b c result → PutsSome drains zs all a c result
puts_next drains xs ys zs all a b c result join is begins first next =
    goes_on result first next join
    (λ p q. subst (λ bits. Puts (for_leaf 0 bits) (drains.outputs a) (drains.outputs c)) is (puts_then 0 xs ys (drains.outputs a) (drains.outputs b) (drains.outputs c) p q))
    (λ why same p q. puts_part 0 xs ys all (drains.outputs a) (drains.outputs b) (drains.outputs c) p q (subst (λ v. IsPrefix v all) (sym is) begins))

-- where a call failed it doesn't matter which bits were to be put first
pub part_put : {D T T' E E' : Type 0} {why : E} {why' : E'} (drains : drain.Ghosts D) (some all : List Bool) (a b : D) → PutsSome {T = T} drains some all a b (Err why) → PutsBits {T = T'} drains all a b (Err why')
part_put drains some all a b work = record { kept = work.kept; counts = work.counts; does = work.does }

front_begins : (bits : List Bool) (n : ℕ) → IsPrefix (take n bits) bits
front_begins bits n = (drop n bits, sym (take-append-drop n bits))

with_next : (bits : List Bool) (i : ℕ) (bit : Bool) → i < length bits → bit ≡ get_or bits i false → take i bits ++ bit ∷ [] ≡ take (i + 1) bits
with_next bits i bit inside is = ap (λ v. take i bits ++ v ∷ []) is ∙ sym (take_more bits i false inside)

-- the next bit of a list was put after those before it, or it was not
module _ {D E : Type 0} (drains : drain.Ghosts D) (bits : List Bool) (i : ℕ) (bit : Bool) (a b c : D) (join : drains.drained a b → drains.drained b c → drains.drained a c) (inside : i < length bits) (is : bit ≡ get_or bits i false) (first : PutsSome {T = Unit {0}} {E = E} drains (take i bits) bits a b (Ok tt)) (kept : drains.drained b c) where
  pub bit_put : drains.drain_faults c ≡ drains.drain_faults b → Puts (for_leaf 0 (bit ∷ [])) (drains.outputs b) (drains.outputs c) → PutsSome {T = Unit {0}} {E = E} drains (take (i + 1) bits) bits a c (Ok tt)
  bit_put counts puts = puts_next drains (take i bits) (bit ∷ []) (take (i + 1) bits) bits a b c (Ok tt) join (with_next bits i bit inside is) (front_begins bits (i + 1)) first (record { kept = kept; counts = counts; does = puts })

  pub bit_not_put : {why : E} → drains.drain_faults c ≡ one_more (drains.drain_faults b) → PutsPart (for_leaf 0 (bit ∷ [])) (drains.outputs b) (drains.outputs c) → PutsBits {T = Unit {0}} {E = E} drains bits a c (Err why)
  bit_not_put {why} counts part =
      part_put drains (take (i + 1) bits) bits a c
      (puts_next drains (take i bits) (bit ∷ []) (take (i + 1) bits) bits a b c (Err why) join (with_next bits i bit inside is) (front_begins bits (i + 1)) first (record { kept = kept; counts = counts; does = part }))

-- the bits of the next byte of a list, after those before it
bytes_next : (bytes : List ℕ) (i : ℕ) → i < length bytes → bits_of (take i bytes) ++ bits_of_byte (get_or bytes i 0) ≡ bits_of (take (i + 1) bytes)
bytes_next bytes i inside = sym (ap bits_of (take_more bytes i 0 inside) ∙ flat_map-append bits_of_byte (take i bytes) (get_or bytes i 0 ∷ []))

bytes_begin : (bytes : List ℕ) (n : ℕ) → IsPrefix (bits_of (take n bytes)) (bits_of bytes)
bytes_begin bytes n = (bits_of (drop n bytes), ap bits_of (sym (take-append-drop n bytes)) ∙ flat_map-append bits_of_byte (take n bytes) (drop n bytes))

pub byte_put : {D E : Type 0} (drains : drain.Ghosts D) (bytes : List ℕ) (i : ℕ) (a b c : D) (result : Result (Unit {0}) E) → (drains.drained a b → drains.drained b c → drains.drained a c) → i < length bytes
    → PutsSome {T = Unit {0}} {E = E} drains (bits_of (take i bytes)) (bits_of bytes) a b (Ok tt) → PutsBits drains (bits_of_byte (get_or bytes i 0)) b c result
    → PutsSome drains (bits_of (take (i + 1) bytes)) (bits_of bytes) a c result
byte_put drains bytes i a b c result join inside =
    puts_next drains (bits_of (take i bytes)) (bits_of_byte (get_or bytes i 0)) (bits_of (take (i + 1) bytes)) (bits_of bytes) a b c result join (bytes_next bytes i inside) (bytes_begin bytes (i + 1))

-- ---- what rows add before the bit of a place

pub record Adding {D : Type 0} (drains : drain.Ghosts D) (place : ℕ) (rows left : List Row) (a b : D) : Type 0 where
  pub done : List Bool
  pub puts : PutsSome {T = Unit {0}} {E = Failed} drains done (added_at place rows) a b (Ok tt)
  pub passed : ArePassed place rows left done

-- the bits of the next row come after those that were put
module _ {D : Type 0} (drains : drain.Ghosts D) (place : ℕ) (rows mid left : List Row) (now : List Bool) (a b c : D) (join : drains.drained a b → drains.drained b c → drains.drained a c) (h : Adding drains place rows mid a b) (next : ArePassed place mid left now) where
  row_puts : (result : Result (Unit {0}) Failed) → PutsBits drains now b c result → PutsSome drains (h.done ++ now) (added_at place rows) a c result
  row_puts result put =
      puts_next drains h.done now (h.done ++ now) (added_at place rows) a b c result join refl (added_at place left, (passed_more place rows mid left h.done now h.passed next).adds) h.puts put

  pub adding_next : PutsBits {T = Unit {0}} {E = Failed} drains now b c (Ok tt) → Adding drains place rows left a c
  adding_next put = record { done = h.done ++ now; puts = row_puts (Ok tt) put; passed = passed_more place rows mid left h.done now h.passed next }

  pub adding_fails : {why why' : Failed} → PutsBits {T = Unit {0}} drains now b c (Err why) → PutsBits {T = Unit {0}} drains (added_at place rows) a c (Err why')
  adding_fails {why} put = part_put drains (h.done ++ now) (added_at place rows) a c (row_puts (Err why) put)

-- all of them were put
pub adding_done : {D : Type 0} (drains : drain.Ghosts D) (place : ℕ) (rows left : List Row) (a b : D) (h : Adding drains place rows left a b) → IsAhead place left → PutsBits {T = Unit {0}} {E = Failed} drains (added_at place rows) a b (Ok tt)
adding_done drains place rows left a b h ahead =
    subst (λ v. PutsSome {T = Unit {0}} {E = Failed} drains v (added_at place rows) a b (Ok tt)) (passed_all place rows left h.done h.passed ahead) h.puts

-- ---- one bit more

-- what was added before it was put, or not all of it; and then what becomes of it
module _ {D : Type 0} (drains : drain.Ghosts D) (old rows : List Row) (place : ℕ) (bit : Bool) (left : AreLeft old rows place) where
  brought_is : added_at place old ++ becomes_at place old (bit ∷ []) ≡ brought place rows bit
  brought_is =
      ap (λ v. v ++ becomes_at place old (bit ∷ [])) (left_adds old rows place left) ∙ ap (λ v. added_at place rows ++ v) ((left.same place (omega arith)).1 (bit ∷ []))

  pub added_fails : {E : Type 0} {why why' : E} (a b : D) → PutsBits {T = Unit {0}} drains (added_at place old) a b (Err why) → PutsBits {T = Unit {0}} drains (brought place rows bit) a b (Err why')
  added_fails a b part = record {
    kept = part.kept;
    counts = part.counts;
    does = puts_part 0 [] (added_at place old) (brought place rows bit) (drains.outputs a) (drains.outputs a) (drains.outputs b) (puts_begin 0 (drains.outputs a)) part.does (becomes_at place old (bit ∷ []), sym brought_is);
  }

  pub bit_bends : {E : Type 0} (new : List Row) (put : List Bool) (a b c : D) (result : Result (Unit {0}) E) → (drains.drained a b → drains.drained b c → drains.drained a c) → HasAdded place old new → put ≡ becomes_at place new (bit ∷ [])
      → PutsBits {T = Unit {0}} {E = E} drains (added_at place old) a b (Ok tt) → PutsBits drains put b c result → PutsBits drains (brought place rows bit) a c result
  bit_bends new put a b c result join added is first next =
      let whole : added_at place old ++ put ≡ brought place rows bit = ap (λ v. added_at place old ++ v) (is ∙ added.passed.here (bit ∷ [])) ∙ brought_is in
      goes_on result first next join
      (λ p q. subst (λ bits. Puts (for_leaf 0 bits) (drains.outputs a) (drains.outputs c)) whole (puts_then 0 (added_at place old) put (drains.outputs a) (drains.outputs b) (drains.outputs c) p q))
      (λ why same p q. puts_part 0 (added_at place old) put (brought place rows bit) (drains.outputs a) (drains.outputs b) (drains.outputs c) p q (subst (λ v. IsPrefix v (brought place rows bit)) (sym whole) (prefix_same (brought place rows bit))))
