-- What is taken of lists and put to them, one call after another.
use Rattle.std.proofs.Common.{◌≡◌, ℕ, ◌+◌, ◌==◌, Bool, true, false, cond, List, [], ◌++◌, length, drop, refl, sym, ap, ◌∙◌, arith, append_assoc, Some, None, Option}
use Rattle.std.proofs.lemmas.List.{length-append}
use Rattle.pdh_bits.specs.BitOut.{BoundedBits}
use Rattle.pdh_packed.specs.Gaining.{gained}
use Rattle.pdh_edge.specs.Ports.{Inputs, Outputs, Takes, Puts, PutsPart, IsPrefix, before, nothing}
use Rattle.pdh_edge.proofs.Runs.{puts_begin, puts_then as puts_then_of, puts_part as puts_part_of}
use Rattle.pdh_chain.specs.Muxing.{as_line}

-- ---- what is taken

before_none : (t : Option (List Bool)) → t ≡ before [] t
before_none None = refl
before_none (Some list) = refl

before_then : (a b : List Bool) (t : Option (List Bool)) → before a (before b t) ≡ before (a ++ b) t
before_then a b None = refl
before_then a b (Some list) = ap Some (sym (append_assoc a b list))

pub takes_none : (x : Inputs) → Takes nothing x x
takes_none x = record { counts = λ k. omega arith; bits = λ k. before_none (x.told k) }

pub takes_then : (a b : ℕ → List Bool) (x y z : Inputs) → Takes a x y → Takes b y z → Takes (λ k. a k ++ b k) x z
takes_then a b x y z p q = record {
  counts = λ k. omega (arith, p.counts k, q.counts k, length-append (a k) (b k));
  bits = λ k. p.bits k ∙ ap (before (a k)) (q.bits k) ∙ before_then (a k) (b k) (z.told k);
}

-- ---- what is put to the line

when_none : (here : Bool) → [] ≡ cond {A = List Bool} here [] []
when_none true = refl
when_none false = refl

line_none : (k : ℕ) → [] ≡ as_line [] k
line_none k = when_none (k == 0)

when_then : (xs ys : List Bool) (here : Bool) → cond here xs [] ++ cond here ys [] ≡ cond here (xs ++ ys) []
when_then xs ys true = refl
when_then xs ys false = refl

line_then : (xs ys : List Bool) (k : ℕ) → as_line xs k ++ as_line ys k ≡ as_line (xs ++ ys) k
line_then xs ys k = when_then xs ys (k == 0)

pub puts_none : (x : Outputs) → Puts (as_line []) x x
puts_none x = puts_begin 0 x

pub puts_then : (xs ys : List Bool) (x y z : Outputs) → Puts (as_line xs) x y → Puts (as_line ys) y z → Puts (as_line (xs ++ ys)) x z
puts_then xs ys x y z p q = puts_then_of 0 xs ys x y z p q

pub puts_part : (xs ys zs : List Bool) (x y z : Outputs) → Puts (as_line xs) x y → PutsPart (as_line ys) y z → IsPrefix (xs ++ ys) zs → PutsPart (as_line zs) x z
puts_part xs ys zs x y z p q h = puts_part_of 0 xs ys zs x y z p q h

-- bits of the line that are taken, and then others
pub takes_line : (xs ys : List Bool) (x y z : Inputs) → Takes (as_line xs) x y → Takes (as_line ys) y z → Takes (as_line (xs ++ ys)) x z
takes_line xs ys x y z p q =
    let both = takes_then (as_line xs) (as_line ys) x y z p q in
    record {
      counts = λ k. both.counts k ∙ ap (λ bits. length bits + z.left k) (line_then xs ys k);
      bits = λ k. both.bits k ∙ ap (λ bits. before bits (z.told k)) (line_then xs ys k);
    }

pub takes_no_line : (x : Inputs) → Takes (as_line []) x x
takes_no_line x = record {
  counts = λ k. let none : length (as_line [] k) ≡ 0 = ap length (sym (line_none k)) in omega (arith, none);
  bits = λ k. before_none (x.told k) ∙ ap (λ bits. before bits (x.told k)) (line_none k);
}

-- a list that was empty gained all that it has
pub gained_whole : (old new : BoundedBits) → old.bits ≡ [] → gained old new ≡ new.bits
gained_whole old new none = ap (λ (bits : List Bool). drop (length bits) new.bits) none
