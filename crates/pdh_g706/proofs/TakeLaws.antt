-- Bits that a machine takes, one piece after another: what it stands for, puts and notes by them.
use Rattle.std.proofs.Common.{◌≡◌, ℕ, ◌+◌, ◌<◌, Bool, false, List, [], ◌∷◌, ◌++◌, length, get_or, take, drop, refl, sym, ap, ◌∙◌, subst, append_assoc}
use Rattle.std.proofs.lemmas.List.{append-nil, take_more, take-append-drop}
use Rattle.pdh_watch.specs.declared.event.Event.{Event}
use Rattle.pdh_watch.specs.Seen.{SawPart}
use Rattle.pdh_edge.specs.Ports.{Outputs}
use Rattle.pdh_edge.proofs.Runs.{puts_begin}
use Rattle.pdh_events.specs.Chain.{bits_events}
use Rattle.pdh_events.specs.laws.QuietLaws.{IsQuiet, events_join, quiet_events, one_event}
use Rattle.pdh_g706.specs.declared.align.E1Align.{E1Align}
use Rattle.pdh_g706.specs.Tracking.{e1_far}
use Rattle.pdh_g706.specs.Events.{e1_bit_events, e1_events}
use Rattle.pdh_g706.specs.View.{StandsFor, Gains, GainsPart}
use Rattle.pdh_framed.proofs.TakeLaws.{gains_join, part_join}
use Rattle.pdh_g706.proofs.AlignSteps.{line_grows}

-- ---- the events of more bits

pub events_none : e1_events [] ≡ []
unfolding e1_events
events_none = refl

pub events_more : (line bits : List Bool) → e1_events (line ++ bits) ≡ e1_events line ++ bits_events e1_bit_events line bits
unfolding e1_events
events_more line bits = events_join e1_bit_events [] line bits

pub events_whole : (line : List Bool) → bits_events e1_bit_events [] line ≡ e1_events line
unfolding e1_events
events_whole line = refl

-- ---- the bits so far

-- a machine has taken these bits
pub record Takes {W : Type 0} (saw : W → List Event → W → Type 0) (old new : E1Align) (bits : List Bool) (o p : Outputs) (u v : W) : Type 0 where
  pub stands : (line : List Bool) → StandsFor old line → StandsFor new (line ++ bits)
  pub puts : (line : List Bool) → StandsFor old line → Gains line (line ++ bits) o p
  pub seen : (line : List Bool) → StandsFor old line → saw u (bits_events e1_bit_events line bits) v

module _ {W : Type 0} (saw : W → List Event → W → Type 0) (join : (a b c : W) (xs ys : List Event) → saw a xs b → saw b ys c → saw a (xs ++ ys) c) where
  pub takes_quiet : (old new : E1Align) (bits : List Bool) (o : Outputs) (u : W) → saw u [] u → ((line : List Bool) → StandsFor old line → StandsFor new (line ++ bits)) → ((line : List Bool) → StandsFor old line → e1_far (line ++ bits) ≡ e1_far line)
      → ((line : List Bool) → StandsFor old line → IsQuiet e1_bit_events line bits) → Takes saw old new bits o o u u
  takes_quiet old new bits o u none stands far quiet = record {
    stands = stands;
    puts = λ line h. record { more = []; gained = far line h ∙ sym (append-nil (e1_far line)); puts = puts_begin 0 o };
    seen = λ line h. subst (λ (x : List Event). saw u x u) (sym (quiet_events e1_bit_events line bits (quiet line h))) none;
  }

  pub takes_bit : (old new : E1Align) (bit : Bool) (o p : Outputs) (u v : W) → ((line : List Bool) → StandsFor old line → StandsFor new (line ++ bit ∷ [])) → ((line : List Bool) → StandsFor old line → Gains line (line ++ bit ∷ []) o p)
      → ((line : List Bool) → StandsFor old line → saw u (e1_bit_events line bit) v) → Takes saw old new (bit ∷ []) o p u v
  takes_bit old new bit o p u v stands puts seen = record {
    stands = stands;
    puts = puts;
    seen = λ line h. subst (λ (x : List Event). saw u x v) (sym (one_event e1_bit_events line bit)) (seen line h);
  }

  pub takes_join : (old mid new : E1Align) (a b all : List Bool) (o p q : Outputs) (u v w : W) → all ≡ a ++ b → Takes saw old mid a o p u v → Takes saw mid new b p q v w → Takes saw old new all o q u w
  takes_join old mid new a b all o p q u v w e f g =
      let both : (line : List Bool) → (line ++ a) ++ b ≡ line ++ all = λ line. append_assoc line a b ∙ ap (λ (x : List Bool). line ++ x) (sym e) in
      record {
        stands = λ line h. subst (StandsFor new) (both line) (g.stands (line ++ a) (f.stands line h));
        puts = λ line h. subst (λ (x : List Bool). Gains line x o q) (both line) (gains_join e1_far line (line ++ a) ((line ++ a) ++ b) o p q (f.puts line h) (g.puts (line ++ a) (f.stands line h)));
        seen = λ line h. subst (λ (x : List Event). saw u x w) (sym (ap (bits_events e1_bit_events line) e ∙ events_join e1_bit_events line a b)) (join u v w _ _ (f.seen line h) (g.seen (line ++ a) (f.stands line h)));
      }

  -- the next bit of a list failed
  module _ (old mid : E1Align) (bits : List Bool) (n : ℕ) (inside : n < length bits) (o p q : Outputs) (u v w : W) (before : Takes saw old mid (take n bits) o p u v) where
    pub fails_puts : ((line : List Bool) → StandsFor mid line → GainsPart line (line ++ get_or bits n false ∷ []) p q) → (line : List Bool) → StandsFor old line → GainsPart line (line ++ bits) o q
    fails_puts part line h =
        let at : List Bool = line ++ take n bits in
        part_join e1_far line at (at ++ get_or bits n false ∷ []) (line ++ bits) o p q (line_grows line bits n inside) (before.puts line h) (part at (before.stands line h))

    pub fails_seen : ((line : List Bool) → StandsFor mid line → SawPart saw v (e1_bit_events line (get_or bits n false)) w) → (line : List Bool) → StandsFor old line → SawPart saw u (bits_events e1_bit_events line bits) w
    fails_seen part line h =
        let bit : Bool = get_or bits n false in
        let at : List Bool = line ++ take n bits in
        let some = part at (before.stands line h) in
        let own : List Event = bits_events e1_bit_events line (take n bits) in
        let after : List Event = bits_events e1_bit_events (at ++ bit ∷ []) (drop (n + 1) bits) in
        let front : bits ≡ take n bits ++ (bit ∷ []) ++ drop (n + 1) bits = sym (take-append-drop (n + 1) bits) ∙ ap (λ (x : List Bool). x ++ drop (n + 1) bits) (take_more bits n false inside) in
        let all : bits_events e1_bit_events line bits ≡ (own ++ (some.0 ++ some.1)) ++ after =
        ap (bits_events e1_bit_events line) front ∙ events_join e1_bit_events line (take n bits ++ bit ∷ []) (drop (n + 1) bits)
        ∙ ap (λ (l : List Bool). bits_events e1_bit_events line (take n bits ++ bit ∷ []) ++ bits_events e1_bit_events l (drop (n + 1) bits)) (sym (append_assoc line (take n bits) (bit ∷ [])))
        ∙ ap (λ (x : List Event). x ++ after) (events_join e1_bit_events line (take n bits) (bit ∷ []) ∙ ap (λ (x : List Event). own ++ x) (one_event e1_bit_events at bit ∙ some.2)) in (
          own ++ some.0,
          some.1 ++ after,
          all ∙ ap (λ (x : List Event). x ++ after) (sym (append_assoc own some.0 some.1)) ∙ append_assoc (own ++ some.0) some.1 after,
          join u v w own some.0 (before.seen line h) some.3,
        )
