-- The events of lines that follow each other, with their places.
use Rattle.std.proofs.Common.{◌≡◌, ℕ, suc, ◌+◌, Bool, List, [], ◌∷◌, ◌++◌, length, map, refl, sym, ap, ◌∙◌, subst, arith, append_assoc, append-nil}
use Rattle.pdh_watch.specs.declared.event.Event.{Event}
use Rattle.pdh_events.specs.laws.QuietLaws.{IsQuiet}
use Rattle.pdh_events.specs.Chain.{bits_events}
use Rattle.std.proofs.lemmas.List.{map-append}
use Rattle.pdh_placed.specs.declared.placed.Placed.{Placed}
use Rattle.pdh_placed.specs.Places.{at_place, placed_events}

placed_join : (notes : List Bool → Bool → List Event) (line : List Bool) (place : ℕ) (a b : List Bool)
    → placed_events notes line place (a ++ b) ≡ placed_events notes line place a ++ placed_events notes (line ++ a) (place + length a) b
placed_join notes line place [] b =
    let here : place ≡ place + 0 = omega arith in
    ap (λ (l : List Bool). placed_events notes l place b) (sym (append-nil line)) ∙ ap (λ (n : ℕ). placed_events notes (line ++ []) n b) here
placed_join notes line place (bit ∷ a) b =
    let there : suc place + length a ≡ place + length (bit ∷ a) = omega arith in
    ap (λ (v : List Placed). map (at_place place) (notes line bit) ++ v)
    (placed_join notes (line ++ bit ∷ []) (suc place) a b
    ∙ ap (λ (l : List Bool). placed_events notes (line ++ bit ∷ []) (suc place) a ++ placed_events notes l (suc place + length a) b) (append_assoc line (bit ∷ []) a)
    ∙ ap (λ (n : ℕ). placed_events notes (line ++ bit ∷ []) (suc place) a ++ placed_events notes (line ++ (bit ∷ a)) n b) there)
    ∙ sym (append_assoc (map (at_place place) (notes line bit)) (placed_events notes (line ++ bit ∷ []) (suc place) a) (placed_events notes (line ++ (bit ∷ a)) (place + length (bit ∷ a)) b))

-- bits that bring nothing
pub quiet_placed : (notes : List Bool → Bool → List Event) (line : List Bool) (place : ℕ) (bits : List Bool) → IsQuiet notes line bits → placed_events notes line place bits ≡ []
quiet_placed notes line place [] quiet = refl
quiet_placed notes line place (bit ∷ bits) quiet =
    ap (λ (v : List Event). map (at_place place) v ++ placed_events notes (line ++ bit ∷ []) (suc place) bits) quiet.0
    ∙ quiet_placed notes (line ++ bit ∷ []) (suc place) bits quiet.1

-- without their places they are the events of the line
pub events_placed : (notes : List Bool → Bool → List Event) (line : List Bool) (place : ℕ) (bits : List Bool)
    → map (λ (p : Placed). p.event) (placed_events notes line place bits) ≡ bits_events notes line bits
events_placed notes line place [] = refl
events_placed notes line place (bit ∷ bits) =
    map-append (λ (p : Placed). p.event) (map (at_place place) (notes line bit)) (placed_events notes (line ++ bit ∷ []) (suc place) bits)
    ∙ ap (λ (v : List Event). v ++ map (λ (p : Placed). p.event) (placed_events notes (line ++ bit ∷ []) (suc place) bits)) (own (notes line bit))
    ∙ ap (λ (v : List Event). notes line bit ++ v) (events_placed notes (line ++ bit ∷ []) (suc place) bits)
  where
    own : (events : List Event) → map (λ (p : Placed). p.event) (map (at_place place) events) ≡ events
    own [] = refl
    own (event ∷ events) = ap (λ (v : List Event). event ∷ v) (own events)

module _ {W : Type 0} (saw : W → List Placed → W → Type 0) (joins : (a b c : W) (xs ys : List Placed) → saw a xs b → saw b ys c → saw a (xs ++ ys) c) (notes : List Bool → Bool → List Event) (line : List Bool) (place : ℕ) where
  -- a bit more was taken
  pub placed_push : (a all : List Bool) (bit : Bool) (now : ℕ) (u v w : W) → all ≡ a ++ bit ∷ [] → now ≡ place + length a
      → saw u (placed_events notes line place a) v → saw v (map (at_place now) (notes (line ++ a) bit)) w → saw u (placed_events notes line place all) w
  placed_push a all bit now u v w is here f g =
      let one : placed_events notes (line ++ a) (place + length a) (bit ∷ []) ≡ map (at_place now) (notes (line ++ a) bit) =
      append-nil (map (at_place (place + length a)) (notes (line ++ a) bit)) ∙ ap (λ (n : ℕ). map (at_place n) (notes (line ++ a) bit)) (sym here) in
      let whole : placed_events notes line place all ≡ placed_events notes line place a ++ map (at_place now) (notes (line ++ a) bit) =
      ap (placed_events notes line place) is ∙ placed_join notes line place a (bit ∷ []) ∙ ap (λ (v : List Placed). placed_events notes line place a ++ v) one in
      subst (λ (l : List Placed). saw u l w) (sym whole) (joins u v w _ _ f g)

  -- bits that bring nothing were taken
  pub placed_quiet : (a b all : List Bool) (u v : W) → all ≡ a ++ b → saw u (placed_events notes line place a) v → IsQuiet notes (line ++ a) b → saw u (placed_events notes line place all) v
  placed_quiet a b all u v is f quiet =
      let whole : placed_events notes line place all ≡ placed_events notes line place a =
      ap (placed_events notes line place) is ∙ placed_join notes line place a b
      ∙ ap (λ (v : List Placed). placed_events notes line place a ++ v) (quiet_placed notes (line ++ a) (place + length a) b quiet) ∙ append-nil (placed_events notes line place a) in
      subst (λ (l : List Placed). saw u l v) (sym whole) f
