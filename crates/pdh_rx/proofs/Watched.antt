-- Bits that a receiver takes one after another, and the events that they bring.
use Rattle.std.proofs.Common.{◌≡◌, Bool, List, [], ◌∷◌, ◌++◌, sym, ap, ◌∙◌, subst, append_assoc}
use Rattle.std.proofs.lemmas.List.{append-nil}
use Rattle.pdh_watch.specs.declared.event.Event.{Event}
use Rattle.pdh_events.specs.laws.QuietLaws.{IsQuiet, events_join, quiet_events, one_event}
use Rattle.pdh_watch.specs.Seen.{SawPart}
use Rattle.pdh_events.specs.Chain.{bits_events}
use Rattle.pdh_rx.proofs.Playing.{SawJoins}

module _ {W : Type 0} (saw : W → List Event → W → Type 0) (joins : SawJoins saw) (notes : List Bool → Bool → List Event) (line : List Bool) where
  -- a bit more was taken
  pub seen_push : (a all : List Bool) (bit : Bool) (u v w : W) → all ≡ a ++ bit ∷ [] → saw u (bits_events notes line a) v → saw v (notes (line ++ a) bit) w → saw u (bits_events notes line all) w
  seen_push a all bit u v w e f g =
      let P : List Event → Type 0 = λ x. saw u x w in
      subst P (sym (ap (bits_events notes line) e ∙ events_join notes line a (bit ∷ []) ∙ ap (λ x. bits_events notes line a ++ x) (one_event notes (line ++ a) bit))) (joins u v w _ _ f g)

  -- bits that bring nothing were taken
  pub seen_quiet : (a b all : List Bool) (u v : W) → all ≡ a ++ b → saw u (bits_events notes line a) v → IsQuiet notes (line ++ a) b → saw u (bits_events notes line all) v
  seen_quiet a b all u v e f quiet =
      let P : List Event → Type 0 = λ x. saw u x v in
      subst P (sym (ap (bits_events notes line) e ∙ events_join notes line a b ∙ ap (λ x. bits_events notes line a ++ x) (quiet_events notes (line ++ a) b quiet) ∙ append-nil (bits_events notes line a))) f

  -- a bit's call failed, and more was to come
  pub part_push : (a rest all : List Bool) (bit : Bool) (u v w : W) → all ≡ (a ++ bit ∷ []) ++ rest → saw u (bits_events notes line a) v → SawPart saw v (notes (line ++ a) bit) w → SawPart saw u (bits_events notes line all) w
  part_push a rest all bit u v w e f part =
      let own : List Event = bits_events notes line a in
      let others : List Event = bits_events notes (line ++ (a ++ bit ∷ [])) rest in (
        own ++ part.0,
        part.1 ++ others,
        ap (bits_events notes line) e ∙ events_join notes line (a ++ bit ∷ []) rest ∙ ap (λ x. x ++ others) (events_join notes line a (bit ∷ []) ∙ ap (λ x. own ++ x) (one_event notes (line ++ a) bit ∙ part.2))
            ∙ ap (λ x. x ++ others) (sym (append_assoc own part.0 part.1)) ∙ append_assoc (own ++ part.0) part.1 others,
        joins u v w _ _ f part.3,
      )

  -- a call of bits that bring nothing failed, and more was to come
  pub part_more : (a rest all : List Bool) (u v : W) → all ≡ a ++ rest → saw u (bits_events notes line a) v → SawPart saw u (bits_events notes line all) v
  part_more a rest all u v e f = (bits_events notes line a, bits_events notes (line ++ a) rest, ap (bits_events notes line) e ∙ events_join notes line a rest, f)
