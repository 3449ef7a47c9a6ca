-- A recording that is followed block by block.
use Rattle.std.proofs.Common.{◌≡◌, ℕ, suc, ◌+◌, Bool, List, [], ◌∷◌, ◌++◌, length, map, Option, None, Some, refl, sym, ap, ◌∙◌, subst, arith, append_assoc, append-nil, length-append}
use Rattle.std.specs.declared.io.Write.{Ghosts as Writes}
use Rattle.pdh_watch.specs.declared.event.Event.{Event}
use Rattle.pdh_placed.specs.declared.placed.Placed.{Placed}
use Rattle.pdh_placed.specs.declared.placing.Placing.{Placing}
use Rattle.pdh_placed.specs.Places.{at_place, placed_events}
use Rattle.pdh_recording.specs.Given.{Gives, HasNone}
use Rattle.pdh_following.specs.declared.teller.Teller.{Teller}
use Rattle.pdh_following.specs.Telling.{Told}
use Rattle.pdh_following.specs.Following.{AreAll, Follows}
use Rattle.pdh_following.specs.laws.Telling.{told_none, told_both}

gives_none : (left : Option (List Bool)) → Gives left left []
gives_none None = tt
gives_none (Some bits) = refl

gives_both : (a b c : Option (List Bool)) (xs ys : List Bool) → Gives a b xs → Gives b c ys → Gives a c (xs ++ ys)
gives_both None b c xs ys f g = tt
gives_both (Some a) None c xs ys f g = absurd f
gives_both (Some a) (Some b) None xs ys f g = absurd g
gives_both (Some a) (Some b) (Some c) xs ys f g = f ∙ ap (λ (l : List Bool). xs ++ l) g ∙ sym (append_assoc xs ys c)

-- what was given is all, where nothing is left
pub gives_all : (given left : Option (List Bool)) (bits : List Bool) → Gives given left bits → HasNone left → AreAll given bits
gives_all None left bits gave none = tt
gives_all (Some all) None bits gave none = absurd gave
gives_all (Some all) (Some rest) bits gave none = gave ∙ ap (λ (l : List Bool). bits ++ l) none ∙ append-nil bits

events_join : (notes : List Bool → Bool → List Event) (line : List Bool) (place : ℕ) (a b : List Bool)
    → placed_events notes line place (a ++ b) ≡ placed_events notes line place a ++ placed_events notes (line ++ a) (place + length a) b
events_join notes line place [] b =
    let here : place ≡ place + 0 = omega arith in
    ap (λ (l : List Bool). placed_events notes l place b) (sym (append-nil line)) ∙ ap (λ (n : ℕ). placed_events notes (line ++ []) n b) here
events_join notes line place (bit ∷ a) b =
    let there : suc place + length a ≡ place + length (bit ∷ a) = omega arith in
    ap (λ (v : List Placed). map (at_place place) (notes line bit) ++ v)
    (events_join notes (line ++ bit ∷ []) (suc place) a b
    ∙ ap (λ (l : List Bool). placed_events notes (line ++ bit ∷ []) (suc place) a ++ placed_events notes l (suc place + length a) b) (append_assoc line (bit ∷ []) a)
    ∙ ap (λ (n : ℕ). placed_events notes (line ++ bit ∷ []) (suc place) a ++ placed_events notes (line ++ (bit ∷ a)) n b) there)
    ∙ sym (append_assoc (map (at_place place) (notes line bit)) (placed_events notes (line ++ bit ∷ []) (suc place) a) (placed_events notes (line ++ (bit ∷ a)) (place + length (bit ∷ a)) b))

module _ {W : Type 0} {writes : Writes W} (contents : W → Option (List ℕ)) (notes : List Bool → Bool → List Event) (front : List Bool) where
  pub follows_none : (left : Option (List Bool)) (watch : Placing (Teller W writes)) → Follows contents notes front left left watch watch []
  follows_none left watch = record {
    gives = gives_none left;
    place = omega arith;
    told = told_none contents watch.watch;
  }

  -- nothing more was given
  pub follows_still : (given left now : Option (List Bool)) (a b : Placing (Teller W writes)) (xs : List Bool)
      → Follows contents notes front given left a b xs → Gives left now [] → Follows contents notes front given now a b xs
  follows_still given left now a b xs before gave = record {
    gives = subst (Gives given now) (append-nil xs) (gives_both given left now xs [] before.gives gave);
    place = before.place;
    told = before.told;
  }

  -- a block more was given
  pub follows_more : (given left now : Option (List Bool)) (a b c : Placing (Teller W writes)) (xs ys : List Bool) → Follows contents notes front given left a b xs → Gives left now ys → c.place ≡ b.place + length ys
      → Told contents b.watch c.watch (placed_events notes (front ++ xs) b.place ys) → Follows contents notes front given now a c (xs ++ ys)
  follows_more given left now a b c xs ys before gave place told =
      let T : ℕ → Type 0 = λ n. Told contents b.watch c.watch (placed_events notes (front ++ xs) n ys) in
      let later : T (a.place + length xs) = subst T before.place told in
      let P : List Placed → Type 0 = λ l. Told contents a.watch c.watch l in
      record {
        gives = gives_both given left now xs ys before.gives gave;
        place = omega (arith, place, before.place, length-append xs ys);
        told = subst P (sym (events_join notes front a.place xs ys))
            (told_both contents a.watch b.watch c.watch (placed_events notes front a.place xs) (placed_events notes (front ++ xs) (a.place + length xs) ys) before.told later);
      }
