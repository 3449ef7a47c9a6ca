-- Bits that are given to a machine, one piece after another.
use Rattle.std.proofs.Common.{◌≡◌, ℕ, ◌+◌, Bool, List, [], ◌++◌, length, drop, refl, sym, ap, ◌∙◌, subst, arith, append_assoc, length-append, Some, None, Option}
use Rattle.std.proofs.lemmas.List.{append-nil}
use Rattle.pdh_bits.specs.BitOut.{BoundedBits}
use Rattle.pdh_packed.specs.Gaining.{gained}
use Rattle.pdh_edge.specs.Ports.{Inputs, Outputs, Takes, Puts, PutsPart, PrefixOf, IsPrefix, before, nothing, for_leaf}
use Rattle.pdh_edge.proofs.Runs.{for_leaf_none, for_leaf_then, puts_begin, puts_then, puts_part}
use Rattle.pdh_framed.specs.Taking.{Takes as MachineTakes, TakesPart}
use Rattle.pdh_streams.specs.Streaming.{GivesOn, Streams, StreamsPart}

-- ---- what is taken of a list

before_none : (t : Option (List Bool)) → t ≡ before [] t
before_none None = refl
before_none (Some list) = refl

before_then : (a b : List Bool) (t : Option (List Bool)) → before a (before b t) ≡ before (a ++ b) t
before_then a b None = refl
before_then a b (Some list) = ap Some (sym (append_assoc a b list))

takes_none : (x : Inputs) → Takes (for_leaf 0 []) x x
takes_none x = record {
  counts = λ k. let none : length (for_leaf 0 [] k) ≡ 0 = ap length (sym (for_leaf_none 0 k)) in omega (arith, none);
  bits = λ k. before_none (x.told k) ∙ ap (λ bits. before bits (x.told k)) (for_leaf_none 0 k);
}

takes_then : (xs ys : List Bool) (x y z : Inputs) → Takes (for_leaf 0 xs) x y → Takes (for_leaf 0 ys) y z → Takes (for_leaf 0 (xs ++ ys)) x z
takes_then xs ys x y z p q = record {
  counts = λ k.
      let both : length (for_leaf 0 (xs ++ ys) k) ≡ length (for_leaf 0 xs k) + length (for_leaf 0 ys k) =
      ap length (sym (for_leaf_then 0 xs ys k)) ∙ length-append (for_leaf 0 xs k) (for_leaf 0 ys k) in
      omega (arith, p.counts k, q.counts k, both);
  bits = λ k. p.bits k ∙ ap (before (for_leaf 0 xs k)) (q.bits k) ∙ before_then (for_leaf 0 xs k) (for_leaf 0 ys k) (z.told k) ∙ ap (λ bits. before bits (z.told k)) (for_leaf_then 0 xs ys k);
}

-- a call that took nothing
takes_nothing : (xs : List Bool) (x y z : Inputs) → Takes (for_leaf 0 xs) x y → Takes nothing y z → Takes (for_leaf 0 xs) x z
takes_nothing xs x y z p q = record {
  counts = λ k. omega (arith, p.counts k, q.counts k);
  bits = λ k. p.bits k ∙ ap (before (for_leaf 0 xs k)) (q.bits k ∙ sym (before_none (z.told k)));
}

-- a list that was empty gained all that it has
pub gained_whole : (old new : BoundedBits) → old.bits ≡ [] → gained old new ≡ new.bits
gained_whole old new none = ap (λ (bits : List Bool). drop (length bits) new.bits) none

-- ---- what is put to it

same_is_part : (bits : List Bool) (t : Option (List Bool)) → PrefixOf bits t t
same_is_part bits None = tt
same_is_part bits (Some list) = (bits, refl)

part_none : (o : Outputs) → PutsPart (for_leaf 0 []) o o
part_none o k = same_is_part (for_leaf 0 [] k) (o.told k)

-- ---- the run

module _ (far : List Bool → List Bool) (on : GivesOn far) where
  -- no bit was given yet
  pub streams_none : (stands : List Bool → Type 0) (inputs : Inputs) (outputs : Outputs) → stands [] → Streams far stands 0 inputs inputs outputs outputs
  streams_none stands inputs outputs stood = record {
    given = [];
    count = refl;
    takes = takes_none inputs;
    stood = stood;
    puts = subst (λ (bits : List Bool). Puts (for_leaf 0 bits) outputs outputs) (sym on.none) (puts_begin 0 outputs);
  }

  module _ {stands : List Bool → Type 0} {bits : ℕ} {inputs inputs_then : Inputs} {outputs outputs_then : Outputs} (so_far : Streams far stands bits inputs inputs_then outputs outputs_then) where
    -- no more came
    pub streams_unread : (inputs_now : Inputs) (outputs_now : Outputs) → Takes nothing inputs_then inputs_now → outputs_now ≡ outputs_then → StreamsPart far inputs inputs_now outputs outputs_now
    streams_unread inputs_now outputs_now takes same = record {
      given = so_far.given;
      takes = takes_nothing so_far.given inputs inputs_then inputs_now so_far.takes takes;
      puts = λ more. subst (λ (o : Outputs). PutsPart (for_leaf 0 (far (so_far.given ++ more))) outputs o) (sym same)
          (puts_part 0 (far so_far.given) [] (far (so_far.given ++ more)) outputs outputs_then outputs_then so_far.puts (part_none outputs_then)
          (subst (λ (front : List Bool). IsPrefix front (far (so_far.given ++ more))) (sym (append-nil (far so_far.given))) (on.more so_far.given more)));
    }

    -- more came,
    module _ (now : List Bool) (inputs_now : Inputs) (outputs_now : Outputs) (takes : Takes (for_leaf 0 now) inputs_then inputs_now) where
      -- and was taken
      pub streams_more : (count : ℕ) (stands_now : List Bool → Type 0) → length now ≡ count → MachineTakes far stands stands_now now outputs_then outputs_now → Streams far stands_now (bits + count) inputs inputs_now outputs outputs_now
      streams_more count stands_now long taken =
          let gains = taken.gains so_far.given so_far.stood in
          record {
            given = so_far.given ++ now;
            count = omega (arith, length-append so_far.given now, so_far.count, long);
            takes = takes_then so_far.given now inputs inputs_then inputs_now so_far.takes takes;
            stood = taken.stands so_far.given so_far.stood;
            puts = subst (λ (bits : List Bool). Puts (for_leaf 0 bits) outputs outputs_now) (sym gains.gained) (puts_then 0 (far so_far.given) gains.more outputs outputs_then outputs_now so_far.puts gains.puts);
          }

      -- or a put failed
      pub streams_unwritten : TakesPart far stands now outputs_then outputs_now → StreamsPart far inputs inputs_now outputs outputs_now
      streams_unwritten part =
          let gains = part.gains so_far.given so_far.stood in
          record {
            given = so_far.given ++ now;
            takes = takes_then so_far.given now inputs inputs_then inputs_now so_far.takes takes;
            puts = λ more.
                puts_part 0 (far so_far.given) gains.more (far ((so_far.given ++ now) ++ more)) outputs outputs_then outputs_now so_far.puts gains.puts
                (subst (λ (front : List Bool). IsPrefix front (far ((so_far.given ++ now) ++ more))) gains.gained (on.more (so_far.given ++ now) more));
          }

-- where nothing was given nothing was put
pub streams_unstarted : (far : List Bool → List Bool) (inputs inputs_now : Inputs) (outputs outputs_now : Outputs) → inputs_now ≡ inputs → outputs_now ≡ outputs → StreamsPart far inputs inputs_now outputs outputs_now
streams_unstarted far inputs inputs_now outputs outputs_now inputs_same outputs_same = record {
  given = [];
  takes = subst (λ (i : Inputs). Takes (for_leaf 0 []) inputs i) (sym inputs_same) (takes_none inputs);
  puts = λ more. subst (λ (o : Outputs). PutsPart (for_leaf 0 (far more)) outputs o) (sym outputs_same) (λ k. same_is_part (for_leaf 0 (far more) k) (outputs.told k));
}
