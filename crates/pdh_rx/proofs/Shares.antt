-- Calls that follow each other in taking bits.
use Rattle.std.proofs.Common.{◌≡◌, ℕ, Bool, List, [], ◌∷◌, ◌++◌, length, take, drop, sym, ap, subst, ◌∙◌, append_assoc, arith}
use Rattle.std.proofs.lemmas.List.{append-nil, take-append-drop}
use Rattle.pdh_watch.specs.declared.event.Event.{Event}
use Rattle.pdh_edge.specs.Ports.{Outputs, IsPrefix}
use Rattle.pdh_events.specs.laws.QuietLaws.{IsQuiet}
use Rattle.pdh_rx.specs.Meaning.{Meaning, IsSound, TakesBits, TakesPart}
use Rattle.pdh_rx.proofs.Gains.{gains_nothing, gains_is, gains_join, part_after}

pub bits_rest : (n : ℕ) (bits : List Bool) → IsPrefix (take n bits ++ drop n bits) bits
bits_rest n bits = ([], sym (append-nil (take n bits ++ drop n bits) ∙ take-append-drop n bits))

-- these bits and then those
pub takes_join : (m now : Meaning) (a b all : List Bool) (was is next : List Bool → Type 0) (o p q : Outputs) → now ≡ m → all ≡ a ++ b → TakesBits m a was is o p → TakesBits now b is next p q → TakesBits m all was next o q
takes_join m now a b all was is next o p q same e f g' =
    let g : TakesBits m b is next p q = subst (λ (m : Meaning). TakesBits m b is next p q) same g' in
    let line_is : (line : List Bool) → line ++ a ++ b ≡ line ++ all = λ line. append_assoc line a b ∙ ap (λ v. line ++ v) (sym e) in
    record {
      stands = λ line h. subst next (line_is line) (g.stands (line ++ a) (f.stands line h));
      gains = λ line h. gains_is (m.got line) (m.got (line ++ a ++ b)) (m.got (line ++ all)) o q (λ k. ap (λ v. m.got v k) (sym (line_is line)))
          (gains_join (m.got line) (m.got (line ++ a)) (m.got (line ++ a ++ b)) o p q (f.gains line h) (g.gains (line ++ a) (f.stands line h)));
    }

-- these bits and then those, of which not all could be put; more was to come
pub takes_part : (m now : Meaning) (a b all : List Bool) (was is : List Bool → Type 0) (o p q : Outputs) → IsSound m → now ≡ m → IsPrefix (a ++ b) all → TakesBits m a was is o p → TakesPart now b is p q → TakesPart m all was o q
takes_part m now a b all was is o p q sound same more f g' =
    let g : TakesPart m b is p q = subst (λ (m : Meaning). TakesPart m b is p q) same g' in
    let line_is : (line : List Bool) → line ++ a ++ b ++ more.0 ≡ line ++ all = λ line. ap (λ v. v ++ more.0) (append_assoc line a b) ∙ append_assoc line (a ++ b) more.0 ∙ ap (λ v. line ++ v) (sym more.1) in
    record {
      gains = λ line h.
          part_after (m.got line) (m.got (line ++ a)) (m.got (line ++ a ++ b)) (m.got (line ++ all)) o p q (f.gains line h) (g.gains (line ++ a) (f.stands line h))
          (λ k. subst (λ v. IsPrefix (m.got (line ++ a ++ b) k) (m.got v k)) (line_is line) (sound.grows (line ++ a ++ b) more.0 k));
    }

-- no bits
pub takes_none : (m : Meaning) (was : List Bool → Type 0) (o : Outputs) → TakesBits m [] was was o o
takes_none m was o = record {
  stands = λ line h. subst was (sym (append-nil line)) h;
  gains = λ line h. gains_nothing (m.got line) (m.got (line ++ [])) o (λ k. ap (λ v. m.got v k) (append-nil line));
}

pub takes_no_bits : (m : Meaning) (bits : List Bool) (was : List Bool → Type 0) (o : Outputs) → length bits ≡ 0 → TakesBits m bits was was o o
takes_no_bits m [] was o none = takes_none m was o
takes_no_bits m (bit ∷ bits) was o none = absurd (omega (arith, none))

pub quiet_no_bits : (notes : List Bool → Bool → List Event) (line bits : List Bool) → length bits ≡ 0 → IsQuiet notes line bits
quiet_no_bits notes line [] none = tt
quiet_no_bits notes line (bit ∷ bits) none = absurd (omega (arith, none))
