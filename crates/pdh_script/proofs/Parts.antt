-- Bits that pass from list 0 to list 0, one part after another.
use Rattle.std.proofs.Common.{◌≡◌, ℕ, zero, suc, ◌+◌, ◌==◌, ◌<◌, ◌≤◌, Bool, true, false, not, cond, List, [], ◌∷◌, ◌++◌, length, take, drop, refl, sym, ap, subst, ◌∙◌, arith, append_assoc, Some, None, Option, Result, Ok, Err, OnOk, IfErr}
use mathlib.Core.Path.{fun_ext}
use Rattle.std.proofs.lemmas.List.{append-nil, map-append, length-append, length-take-le, take-append-drop}
use Rattle.std.proofs.lemmas.List.Concat.{flat_map-append}
use Rattle.std.proofs.Math.Seq.{take-add}
use Rattle.pdh_bits.specs.Bits.{bits_of, bits_of_byte}
use Rattle.pdh_bits.specs.BitOut.{BoundedBits}
use Rattle.pdh_packed.specs.Gaining.{gained, IsGrown}
use Rattle.pdh_edge.specs.Counts.{one_more}
use Rattle.pdh_edge.specs.Files.{Rose}
use Rattle.pdh_edge.specs.Ports.{Inputs, Outputs, Takes, Puts, PutsPart, IsPrefix, PrefixOf, before, faults_fed, for_leaf, nothing}
use Rattle.pdh_edge.specs.declared.port.Feed as feed
use Rattle.pdh_edge.specs.declared.port.Drain as drain
use Rattle.pdh_edge.specs.declared.port.FeedStop.{FeedStop}
use Rattle.pdh_edge.specs.declared.port.FeedStop.TheVariants.{Failed as FeedFailed, Ended as FeedEnded}
use Rattle.pdh_edge.proofs.Progress.{starts, goes_on, both_counts}
use Rattle.pdh_edge.proofs.Runs.{for_leaf_then, puts_begin, puts_then, puts_part, rose_of, rose_of_feed}
use Rattle.pdh_script.specs.Scripts.{altered, bits_changed}
use Rattle.pdh_script.specs.Stored.{becomes, change_by, change_in}
use Rattle.pdh_script.specs.declared.step.Edit.{Edit}
use Rattle.pdh_script.specs.declared.step.Edit.TheVariants as edits
use Rattle.pdh_script.specs.declared.step.Effect.{Effect}
use Rattle.pdh_script.specs.declared.step.Effect.TheVariants as effects
use Rattle.pdh_script.specs.Applying.{Passes, PassesPart, PassesSo, PassesBy, IsPassStop, apply_reads, apply_writes, counted_at, feed_stop, reads_at_stop, writes_at_stop}
use Rattle.pdh_script.specs.declared.stop.ApplyStop.{ApplyStop}
use Rattle.pdh_script.specs.declared.stop.ApplyStop.TheVariants.{Ended, ReadFailed, WriteFailed}

-- ---- what is taken and put

before_then : (a b : List Bool) (t : Option (List Bool)) → before a (before b t) ≡ before (a ++ b) t
before_then a b None = refl
before_then a b (Some list) = ap Some (sym (append_assoc a b list))

before_none : (t : Option (List Bool)) → t ≡ before [] t
before_none None = refl
before_none (Some list) = refl

when_none : (here : Bool) → [] ≡ cond {A = List Bool} here [] []
when_none true = refl
when_none false = refl

-- no bits for one leaf are no bits for any
no_bits : (k : ℕ) → nothing k ≡ for_leaf 0 [] k
no_bits k = when_none (k == 0)

takes_none : (x y : Inputs) → Takes nothing x y → Takes (for_leaf 0 []) x y
takes_none x y h = record {
  counts = λ k. h.counts k ∙ ap (λ bits. length bits + y.left k) (no_bits k);
  bits = λ k. h.bits k ∙ ap (λ bits. before bits (y.told k)) (no_bits k);
}

takes_same : (x : Inputs) → Takes nothing x x
takes_same x = record { counts = λ k. omega arith; bits = λ k. before_none (x.told k) }

takes_more : (xs ys : List Bool) (x y z : Inputs) → Takes (for_leaf 0 xs) x y → Takes (for_leaf 0 ys) y z → Takes (for_leaf 0 (xs ++ ys)) x z
takes_more xs ys x y z a b = record {
  counts = λ k. (let both : x.left k ≡ length (for_leaf 0 xs k ++ for_leaf 0 ys k) + z.left k = omega (arith, a.counts k, b.counts k, length-append (for_leaf 0 xs k) (for_leaf 0 ys k)) in
      both ∙ ap (λ bits. length bits + z.left k) (for_leaf_then 0 xs ys k));
  bits = λ k. a.bits k ∙ ap (before (for_leaf 0 xs k)) (b.bits k) ∙ before_then (for_leaf 0 xs k) (for_leaf 0 ys k) (z.told k)
      ∙ ap (λ bits. before bits (z.told k)) (for_leaf_then 0 xs ys k);
}

same_is_part : (bits : List Bool) (t : Option (List Bool)) → PrefixOf bits t t
same_is_part bits None = tt
same_is_part bits (Some list) = (bits, refl)

part_none : (bits : List Bool) (o : Outputs) → PutsPart (for_leaf 0 bits) o o
part_none bits o k = same_is_part (for_leaf 0 bits k) (o.told k)

-- ---- prefixes

pub prefix_same : (xs : List Bool) → IsPrefix xs xs
prefix_same xs = ([], sym (append-nil xs))

pub prefix_after : (xs ys zs : List Bool) → IsPrefix ys zs → IsPrefix (xs ++ ys) (xs ++ zs)
prefix_after xs ys zs h = (h.0, ap (λ v. xs ++ v) h.1 ∙ sym (append_assoc xs ys h.0))

-- ---- parts

pub passes_none : (f : List Bool → List Bool) (x : Inputs) (o : Outputs) → f [] ≡ [] → Passes f 0 x x o o
passes_none f x o none = record {
  given = [];
  count = refl;
  takes = takes_none x x (takes_same x);
  puts = subst (λ bits. Puts (for_leaf 0 bits) o o) (sym none) (puts_begin 0 o);
}

-- these bits were put, and none taken
pub passes_put : (bits : List Bool) (x y : Inputs) (o p : Outputs) → y ≡ x → Puts (for_leaf 0 bits) o p → Passes (λ line. bits) 0 x y o p
passes_put bits x y o p same puts = record {
  given = [];
  count = refl;
  takes = subst (Takes (for_leaf 0 []) x) (sym same) (takes_none x x (takes_same x));
  puts = puts;
}

-- these bits were taken, and what becomes of them was put
pub passes_bits : (f : List Bool → List Bool) (bits put : List Bool) (x y z : Inputs) (o p q : Outputs) → z ≡ y → p ≡ o → put ≡ f bits
    → Takes (for_leaf 0 bits) x y → Puts (for_leaf 0 put) p q → Passes f (length bits) x z o q
passes_bits f bits put x y z o p q inputs outputs same takes puts = record {
  given = bits;
  count = refl;
  takes = subst (Takes (for_leaf 0 bits) x) (sym inputs) takes;
  puts = subst (λ v. Puts (for_leaf 0 v) o q) same (subst (λ v. Puts (for_leaf 0 put) v q) outputs puts);
}

-- two parts, one after the other
pub passes_then : (f g h : List Bool → List Bool) (n m k : ℕ) (x y z : Inputs) (o p q : Outputs) → n + m ≡ k
    → ((xs ys : List Bool) → length xs ≡ n → length ys ≡ m → f xs ++ g ys ≡ h (xs ++ ys))
    → Passes f n x y o p → Passes g m y z p q → Passes h k x z o q
passes_then f g h n m k x y z o p q all joined a b = record {
  given = a.given ++ b.given;
  count = omega (arith, length-append a.given b.given, a.count, b.count, all);
  takes = takes_more a.given b.given x y z a.takes b.takes;
  puts = subst (λ bits. Puts (for_leaf 0 bits) o q) (joined a.given b.given a.count b.count) (puts_then 0 (f a.given) (g b.given) o p q a.puts b.puts);
}

-- ---- the end of the passing

-- a call for bits that gave none
pub feed_stops : (f : List Bool → List Bool) (m : ℕ) (x y : Inputs) (o p : Outputs) (reads now writes writes_now : ℕ) (why : FeedStop) → 0 < m → p ≡ o → Takes nothing x y
    → (why ≡ FeedFailed → Rose reads now) → (why ≡ FeedEnded → x.left 0 ≡ 0) → IsPassStop f m x y o p reads now writes writes_now (feed_stop why)
feed_stops f m x y o p reads now writes writes_now why some outputs takes failed ended =
    let part : PassesPart f m x y o p = record {
      given = [];
      upto = omega arith;
      takes = takes_none x y takes;
      puts = λ line count begins. subst (PutsPart (for_leaf 0 (f line)) o) (sym outputs) (part_none (f line) o);
    } in
    stops why part failed ended
  where
    stops : (why : FeedStop) → PassesPart f m x y o p → (why ≡ FeedFailed → Rose reads now) → (why ≡ FeedEnded → x.left 0 ≡ 0) → IsPassStop f m x y o p reads now writes writes_now (feed_stop why)
    stops FeedFailed part failed ended = (failed refl, part)
    stops FeedEnded part failed ended = (omega (arith, ended refl), omega (arith, takes.counts 0, ended refl), part)

-- bits that were taken, and of which not all could be put that become of them
pub put_stops : (f : List Bool → List Bool) (m : ℕ) (bits put : List Bool) (x y z : Inputs) (o p q : Outputs) (reads reads_now writes writes_now : ℕ) → z ≡ y → p ≡ o → put ≡ f bits → length bits ≤ m
    → ((rest : List Bool) → IsPrefix (f bits) (f (bits ++ rest)))
    → Takes (for_leaf 0 bits) x y → PutsPart (for_leaf 0 put) p q → Rose writes writes_now → IsPassStop f m x z o q reads reads_now writes writes_now WriteFailed
put_stops f m bits put x y z o p q reads reads_now writes writes_now inputs outputs same upto longer takes puts rose = (
  rose,
  record {
    given = bits;
    upto = upto;
    takes = subst (Takes (for_leaf 0 bits) x) (sym inputs) takes;
    puts = λ line count begins.
        let here : PutsPart (for_leaf 0 (f bits)) o q = subst (λ v. PutsPart (for_leaf 0 v) o q) same (subst (λ v. PutsPart (for_leaf 0 put) v q) outputs puts) in
        let more : IsPrefix ([] ++ f bits) (f line) = subst (λ v. IsPrefix (f bits) (f v)) (sym begins.1) (longer begins.0) in
        puts_part 0 [] (f bits) (f line) o o q (puts_begin 0 o) here more;
  },
)

-- the first bits of a list that begins with others
pub prefix_of_taken : (xs rest : List Bool) (m : ℕ) → length xs ≤ m → IsPrefix xs (take m (xs ++ rest))
prefix_of_taken [] rest m h = (take m rest, refl)
prefix_of_taken (x ∷ xs) rest zero h = absurd (let P : ⊥ = omega (arith, h) in P)
prefix_of_taken (x ∷ xs) rest (suc m) h = let p = prefix_of_taken xs rest m (omega (arith, h)) in (p.0, ap (λ v. x ∷ v) p.1)

-- a part of bits after others that passed
part_then : (f g h : List Bool → List Bool) (n m k : ℕ) (x y z : Inputs) (o p q : Outputs) → n + m ≤ k
    → ((xs ys rest : List Bool) → length xs ≡ n → length ys ≡ m → length ((xs ++ ys) ++ rest) ≡ k → IsPrefix (f xs ++ g ys) (h ((xs ++ ys) ++ rest)))
    → Passes f n x y o p → PassesPart g m y z p q → PassesPart h k x z o q
part_then f g h n m k x y z o p q within joined a b = record {
  given = a.given ++ b.given;
  upto = omega (arith, length-append a.given b.given, a.count, b.upto, within);
  takes = takes_more a.given b.given x y z a.takes b.takes;
  puts = λ line count begins.
      let rest : List Bool = begins.0 in
      let tail : List Bool = b.given ++ rest in
      let ys : List Bool = take m tail in
      let behind : List Bool = drop m tail in
      let whole : line ≡ (a.given ++ ys) ++ behind =
      begins.1 ∙ append_assoc a.given b.given rest ∙ ap (λ v. a.given ++ v) (sym (take-append-drop m tail)) ∙ sym (append_assoc a.given ys behind) in
      let lens : length line ≡ length (a.given ++ tail) = ap length (begins.1 ∙ append_assoc a.given b.given rest) in
      let long : m ≤ length tail = omega (arith, lens, count, length-append a.given tail, a.count, within) in
      let taken : length ys ≡ m = length-take-le m tail long in
      let starts : IsPrefix b.given ys = prefix_of_taken b.given rest m b.upto in
      puts_part 0 (f a.given) (g ys) (h line) o p q a.puts (b.puts ys taken starts)
      (subst (λ v. IsPrefix (f a.given ++ g ys) (h v)) (sym whole) (joined a.given ys behind a.count taken (sym (ap length whole) ∙ count)));
}

-- what ends the passing of bits after others that passed
pub stop_then : (f g h : List Bool → List Bool) (n m k : ℕ) (x y z : Inputs) (o p q : Outputs) (first reads now first' writes now' : ℕ) (stop : ApplyStop) → n + m ≤ k
    → ((xs ys rest : List Bool) → length xs ≡ n → length ys ≡ m → length ((xs ++ ys) ++ rest) ≡ k → IsPrefix (f xs ++ g ys) (h ((xs ++ ys) ++ rest)))
    → first ≤ reads → first' ≤ writes → Passes f n x y o p → IsPassStop g m y z p q reads now writes now' stop → IsPassStop h k x z o q first now first' now' stop
stop_then f g h n m k x y z o p q first reads now first' writes now' Ended within joined later later' a b = (
  omega (arith, a.takes.counts 0, a.count, b.0, within),
  b.1,
  part_then f g h n m k x y z o p q within joined a b.2,
)
stop_then f g h n m k x y z o p q first reads now first' writes now' ReadFailed within joined later later' a b =
    (omega (arith, later, b.0), part_then f g h n m k x y z o p q within joined a b.1)
stop_then f g h n m k x y z o p q first reads now first' writes now' WriteFailed within joined later later' a b =
    (omega (arith, later', b.0), part_then f g h n m k x y z o p q within joined a b.1)

-- ---- bits that have an effect, or none

pub becomes_nothing : (effect : Option Effect) → becomes effect [] ≡ []
becomes_nothing None = refl
becomes_nothing (Some effects.Flip) = refl
becomes_nothing (Some effects.Ones) = refl
becomes_nothing (Some effects.Zeros) = refl
becomes_nothing (Some effects.Drop) = refl

pub becomes_joined : (effect : Option Effect) (xs ys : List Bool) → becomes effect xs ++ becomes effect ys ≡ becomes effect (xs ++ ys)
becomes_joined None xs ys = refl
becomes_joined (Some effects.Flip) xs ys = sym (map-append not xs ys)
becomes_joined (Some effects.Ones) xs ys = sym (map-append (λ bit. true) xs ys)
becomes_joined (Some effects.Zeros) xs ys = sym (map-append (λ bit. false) xs ys)
becomes_joined (Some effects.Drop) xs ys = refl

pub becomes_longer : (effect : Option Effect) (xs rest : List Bool) → IsPrefix (becomes effect xs) (becomes effect (xs ++ rest))
becomes_longer effect xs rest = (becomes effect rest, sym (becomes_joined effect xs rest))

-- what becomes of bits that a row changes, as it is stored
pub altered_is : (effect : Effect) (n : ℕ) (bits : List Bool) → altered (change_by effect n) bits ≡ becomes (Some effect) bits
altered_is effects.Flip n bits = refl
altered_is effects.Ones n bits = refl
altered_is effects.Zeros n bits = refl
altered_is effects.Drop n bits = refl

pub joined_begins : (effect : Option Effect) (xs ys rest : List Bool) → IsPrefix (becomes effect xs ++ becomes effect ys) (becomes effect ((xs ++ ys) ++ rest))
joined_begins effect xs ys rest =
    subst (λ v. IsPrefix v (becomes effect ((xs ++ ys) ++ rest))) (sym (becomes_joined effect xs ys)) (becomes_longer effect (xs ++ ys) rest)

-- what is put of a list that was empty, got bits and was then altered
pub put_is : (effect : Option Effect) (buffer empty filled put : BoundedBits) (count : ℕ) → empty ≡ record buffer { bits = [] } → IsGrown empty filled count → put ≡ record filled { bits = becomes effect filled.bits }
    → put.bits ≡ becomes effect (gained empty filled)
put_is effect buffer empty filled put count cleared grown altered_is =
    let none : empty.bits ≡ [] = ap (λ (list : BoundedBits). list.bits) cleared in
    ap (λ (list : BoundedBits). list.bits) altered_is ∙ ap (becomes effect) (grown.bits ∙ ap (λ (front : List Bool). front ++ gained empty filled) none)

-- ---- bytes that are added

bytes_more : (bytes : List ℕ) (i n : ℕ) → bits_of (take i bytes) ++ bits_of (take n (drop i bytes)) ≡ bits_of (take (i + n) bytes)
bytes_more bytes i n = sym (ap bits_of (take-add i n bytes) ∙ flat_map-append bits_of_byte (take i bytes) (take n (drop i bytes)))

bytes_begin : (bytes : List ℕ) (i n : ℕ) → IsPrefix (bits_of (take i bytes) ++ bits_of (take n (drop i bytes))) (bits_of bytes)
bytes_begin bytes i n =
    let rest : List ℕ = drop (i + n) bytes in
    (bits_of rest, ap bits_of (sym (take-append-drop (i + n) bytes)) ∙ flat_map-append bits_of_byte (take (i + n) bytes) rest ∙ ap (λ v. v ++ bits_of rest) (sym (bytes_more bytes i n)))

-- a list that was emptied and got bits has the same room
pub room_kept : (buffer empty put : BoundedBits) (bits : List Bool) → empty ≡ record buffer { bits = [] } → put ≡ record empty { bits = empty.bits ++ bits } → put.capacity ≡ buffer.capacity
room_kept buffer empty put bits cleared appended =
    ap (λ (list : BoundedBits). list.capacity) appended ∙ ap (λ (list : BoundedBits). list.capacity) cleared

-- what is put of a list that was empty and got the bits of bytes
pub bytes_are : (buffer empty put : BoundedBits) (bytes : List ℕ) (i n k : ℕ) → empty ≡ record buffer { bits = [] } → put ≡ record empty { bits = empty.bits ++ bits_of (take k (drop i bytes)) } → k ≡ n
    → put.bits ≡ bits_of (take n (drop i bytes))
bytes_are buffer empty put bytes i n k cleared appended same =
    ap (λ (list : BoundedBits). list.bits) appended ∙ ap (λ (list : BoundedBits). list.bits ++ bits_of (take k (drop i bytes))) cleared ∙ ap (λ m. bits_of (take m (drop i bytes))) same

-- ---- a port that bits pass

-- the counts where the line gives no bits
feed_counts : (why : FeedStop) (r r' w w' : ℕ) → r' ≡ faults_fed why r → w' ≡ w → ◌≡◌ {A = ℕ × ℕ} (r', w') (counted_at (feed_stop why) (r, w))
feed_counts FeedFailed r r' w w' counted same = both_counts counted same
feed_counts FeedEnded r r' w w' counted same = both_counts counted same

-- counts that are the same are no less
pub no_less : (old new : ℕ × ℕ) → new ≡ old → (old.0 ≤ new.0) × (old.1 ≤ new.1)
no_less old new same =
    let first : new.0 ≡ old.0 = ap (λ (n : ℕ × ℕ). n.0) same in
    let second : new.1 ≡ old.1 = ap (λ (n : ℕ × ℕ). n.1) same in
    (omega (arith, first), omega (arith, second))

module _ {P : Type 0} (feeds : feed.Ghosts P) (drains : drain.Ghosts P) (keeps : P → P → Type 0) where
  -- nothing passed so far
  pub passing_starts : (f g : List Bool → List Bool) (m : ℕ) (a : P) → keeps a a → f [] ≡ [] → PassesSo {T = Unit {0}} feeds drains keeps (Passes f 0) g m a a (Ok tt)
  passing_starts f g m a kept none = starts kept (passes_none f (feeds.inputs a) (drains.outputs a) none)

  -- bits pass after others, or don't
  pub passing_goes_on : (f g h e : List Bool → List Bool) (n m k l : ℕ) (a b c : P) (result : Result (Unit {0}) ApplyStop) → n + m ≡ k → n + m ≤ l
      → ((xs ys : List Bool) → length xs ≡ n → length ys ≡ m → f xs ++ g ys ≡ h (xs ++ ys))
      → ((xs ys rest : List Bool) → length xs ≡ n → length ys ≡ m → length ((xs ++ ys) ++ rest) ≡ l → IsPrefix (f xs ++ g ys) (e ((xs ++ ys) ++ rest)))
      → (keeps a b → keeps b c → keeps a c) → PassesSo {T = Unit {0}} feeds drains keeps (Passes f n) e l a b (Ok tt) → PassesBy feeds drains keeps g m b c result → PassesSo feeds drains keeps (Passes h k) e l a c result
  passing_goes_on f g h e n m k l a b c result all within joined begins join first next =
      goes_on result first next join (passes_then f g h n m k _ _ _ _ _ _ all joined)
      (λ stop same. let since = no_less _ _ same in stop_then f g e n m l _ _ (feeds.inputs c) _ _ (drains.outputs c) _ _ (feeds.feed_faults c) _ _ (drains.drain_faults c) stop within begins since.0 since.1)

  -- the same of bits that have one effect, or none
  pub pass_goes_on : (effect : Option Effect) (n m k l : ℕ) (a b c : P) (result : Result (Unit {0}) ApplyStop) → n + m ≡ k → n + m ≤ l
      → (keeps a b → keeps b c → keeps a c) → PassesSo {T = Unit {0}} feeds drains keeps (Passes (becomes effect) n) (becomes effect) l a b (Ok tt) → PassesBy feeds drains keeps (becomes effect) m b c result
      → PassesSo feeds drains keeps (Passes (becomes effect) k) (becomes effect) l a c result
  pass_goes_on effect n m k l a b c result all within =
      let f = becomes effect in
      passing_goes_on f f f f n m k l a b c result all within (λ xs ys lens more. becomes_joined effect xs ys) (λ xs ys rest lens more whole. joined_begins effect xs ys rest)

  -- a call for bits gave none
  pub feed_fails : (f : List Bool → List Bool) (a b : P) (why : FeedStop) → keeps a b → (drains.outputs b ≡ drains.outputs a) × (drains.drain_faults b ≡ drains.drain_faults a) → Takes nothing (feeds.inputs a) (feeds.inputs b)
      → feeds.feed_faults b ≡ faults_fed why (feeds.feed_faults a) → (why ≡ FeedEnded → (feeds.inputs a).left 0 ≡ 0) → PassesBy {T = Unit {0}} feeds drains keeps f 1 a b (Err (feed_stop why))
  feed_fails f a b why kept same takes counted ended = record {
    kept = kept;
    counts = feed_counts why _ _ _ _ counted same.1;
    does = feed_stops f 1 _ _ _ _ _ _ _ _ why (omega arith) same.0 takes (rose_of_feed why _ _ counted) ended;
  }

  -- bits were taken, and what becomes of them was put, or not all of it
  module _ (effect : Option Effect) (bits put : List Bool) (a b c : P) (kept : keeps a c) (fed : (drains.outputs b ≡ drains.outputs a) × (drains.drain_faults b ≡ drains.drain_faults a)) (drained : (feeds.inputs c ≡ feeds.inputs b) × (feeds.feed_faults c ≡ feeds.feed_faults b)) (same : put ≡ becomes effect bits) (read : feeds.feed_faults b ≡ feeds.feed_faults a) (takes : Takes (for_leaf 0 bits) (feeds.inputs a) (feeds.inputs b)) where
    pub bits_pass : drains.drain_faults c ≡ drains.drain_faults b → Puts (for_leaf 0 put) (drains.outputs b) (drains.outputs c) → PassesBy {T = Unit {0}} feeds drains keeps (becomes effect) (length bits) a c (Ok tt)
    bits_pass written puts = record {
      kept = kept;
      counts = both_counts (drained.1 ∙ read) (written ∙ fed.1);
      does = passes_bits (becomes effect) bits put _ _ _ _ _ _ drained.0 fed.0 same takes puts;
    }

    pub bits_fail : drains.drain_faults c ≡ one_more (drains.drain_faults b) → PutsPart (for_leaf 0 put) (drains.outputs b) (drains.outputs c) → PassesBy {T = Unit {0}} feeds drains keeps (becomes effect) (length bits) a c (Err WriteFailed)
    bits_fail counted puts =
        let all : drains.drain_faults c ≡ one_more (drains.drain_faults a) = counted ∙ ap one_more fed.1 in
        record {
          kept = kept;
          counts = both_counts (drained.1 ∙ read) all;
          does = put_stops (becomes effect) (length bits) bits put _ _ _ _ _ _ (feeds.feed_faults a) (feeds.feed_faults c) _ _ drained.0 fed.0 same (omega arith) (λ rest. becomes_longer effect bits rest) takes puts (rose_of _ _ all);
        }

  -- bytes whose bits were put after those of others, or not all of them
  module _ (bytes : List ℕ) (i n next : ℕ) (put : List Bool) (a b c : P) (is : next ≡ i + n) (same : put ≡ bits_of (take n (drop i bytes))) (kept : keeps b c) (drained : (feeds.inputs c ≡ feeds.inputs b) × (feeds.feed_faults c ≡ feeds.feed_faults b)) (join : keeps a b → keeps b c → keeps a c) (first : PassesSo {T = Unit {0}} feeds drains keeps (Passes (λ line. bits_of (take i bytes)) 0) (λ line. bits_of bytes) 0 a b (Ok tt)) where
    bytes_go_on : (result : Result (Unit {0}) ApplyStop) → PassesBy feeds drains keeps (λ line. put) 0 b c result → PassesSo feeds drains keeps (Passes (λ line. bits_of (take next bytes)) 0) (λ line. bits_of bytes) 0 a c result
    bytes_go_on result =
        passing_goes_on (λ line. bits_of (take i bytes)) (λ line. put) (λ line. bits_of (take next bytes)) (λ line. bits_of bytes) 0 0 0 0 a b c result (omega arith) (omega arith)
        (λ xs ys lens more. ap (λ v. bits_of (take i bytes) ++ v) same ∙ bytes_more bytes i n ∙ ap (λ k. bits_of (take k bytes)) (sym is))
        (λ xs ys rest lens more all. subst (λ v. IsPrefix (bits_of (take i bytes) ++ v) (bits_of bytes)) (sym same) (bytes_begin bytes i n)) join first

    pub bytes_pass : drains.drain_faults c ≡ drains.drain_faults b → Puts (for_leaf 0 put) (drains.outputs b) (drains.outputs c) → PassesSo {T = Unit {0}} feeds drains keeps (Passes (λ line. bits_of (take next bytes)) 0) (λ line. bits_of bytes) 0 a c (Ok tt)
    bytes_pass written puts = bytes_go_on (Ok tt) (record { kept = kept; counts = both_counts drained.1 written; does = passes_put put _ _ _ _ drained.0 puts })

    pub bytes_fail : drains.drain_faults c ≡ one_more (drains.drain_faults b) → PutsPart (for_leaf 0 put) (drains.outputs b) (drains.outputs c) → PassesSo {T = Unit {0}} feeds drains keeps (Passes (λ line. bits_of (take next bytes)) 0) (λ line. bits_of bytes) 0 a c (Err WriteFailed)
    bytes_fail counted puts =
        let none : Takes (for_leaf 0 []) (feeds.inputs b) (feeds.inputs b) = takes_none _ _ (takes_same (feeds.inputs b)) in
        bytes_go_on (Err WriteFailed) (record { kept = kept; counts = both_counts drained.1 counted; does = put_stops (λ line. put) 0 [] put _ _ _ _ _ _ (feeds.feed_faults b) (feeds.feed_faults c) _ _ drained.0 refl refl (omega arith) (λ rest. prefix_same put) none puts (rose_of _ _ counted) })

  -- what passed after a start, and was counted
  pub after_start : (f : List Bool → List Bool) (n : ℕ) (a b c : P) (result : Result (Unit {0}) ApplyStop) → feeds.inputs b ≡ feeds.inputs a → drains.outputs b ≡ drains.outputs a → feeds.feed_faults b ≡ feeds.feed_faults a → drains.drain_faults b ≡ drains.drain_faults a
      → PassesBy feeds drains keeps f n b c result → (feeds.feed_faults c ≡ apply_reads result (feeds.feed_faults a)) × (drains.drain_faults c ≡ apply_writes result (drains.drain_faults a))
      × OnOk result (Passes f n (feeds.inputs a) (feeds.inputs c) (drains.outputs a) (drains.outputs c))
      × IfErr result (IsPassStop f n (feeds.inputs a) (feeds.inputs c) (drains.outputs a) (drains.outputs c) (feeds.feed_faults a) (feeds.feed_faults c) (drains.drain_faults a) (drains.drain_faults c))
  after_start f n a b c (Ok done) inputs outputs reads writes passed =
      (ap (λ (k : ℕ × ℕ). k.0) passed.counts ∙ reads, ap (λ (k : ℕ × ℕ). k.1) passed.counts ∙ writes, rw (sym inputs, sym outputs) passed.does, tt)
  after_start f n a b c (Err stop) inputs outputs reads writes passed =
      (ap (λ (k : ℕ × ℕ). k.0) passed.counts ∙ ap (reads_at_stop stop) reads, ap (λ (k : ℕ × ℕ). k.1) passed.counts ∙ ap (writes_at_stop stop) writes, tt, rw (sym inputs, sym outputs, sym reads, sym writes) passed.does)

-- ---- what becomes of bits that a row changes, as it is stored

bits_changed_is : (effect : Effect) (n : ℕ) → n ≡ bits_changed (change_by effect n)
bits_changed_is effects.Flip n = refl
bits_changed_is effects.Ones n = refl
bits_changed_is effects.Zeros n = refl
bits_changed_is effects.Drop n = refl

-- whatever is so of what becomes of bits that have an effect is so of the change
pub altering : (Q : (List Bool → List Bool) → ℕ → Type 0) (edit : Edit) (effect : Effect) (bits n : ℕ) (added : List ℕ) → edit ≡ edits.Alter effect bits → n ≡ bits → Q (becomes (Some effect)) n → Q (altered (change_in edit added)) (bits_changed (change_in edit added))
altering Q edit effect bits n added is same h =
    let change = change_by effect bits in
    subst (λ (e : Edit). Q (altered (change_in e added)) (bits_changed (change_in e added))) (sym is)
    (subst (λ k. Q (altered change) k) (same ∙ bits_changed_is effect bits) (subst (λ (f : List Bool → List Bool). Q f n) (sym (fun_ext (altered_is effect bits))) h))

pub adding : (Q : (List Bool → List Bool) → ℕ → Type 0) (edit : Edit) (count : ℕ) (added : List ℕ) → edit ≡ edits.Add count → Q (λ line. bits_of (take count added)) 0 → Q (altered (change_in edit added)) (bits_changed (change_in edit added))
adding Q edit count added is h = subst (λ (e : Edit). Q (altered (change_in e added)) (bits_changed (change_in e added))) (sym is) h

-- ---- a start that failed

pub start_fails : (f : List Bool → List Bool) (bits : ℕ) (x y : Inputs) (o p : Outputs) (reads reads_now writes writes_now : ℕ) → y ≡ x → p ≡ o → Rose writes writes_now
    → IsPassStop f bits x y o p reads reads_now writes writes_now WriteFailed
start_fails f bits x y o p reads reads_now writes writes_now inputs outputs rose = (
  rose,
  record {
    given = [];
    upto = omega arith;
    takes = subst (Takes (for_leaf 0 []) x) (sym inputs) (takes_none x x (takes_same x));
    puts = λ line count begins. subst (PutsPart (for_leaf 0 (f line)) o) (sym outputs) (part_none (f line) o);
  },
)
