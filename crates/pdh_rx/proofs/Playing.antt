-- Calls that follow each other in what a demultiplexer notes and gives.
use Rattle.std.proofs.Common.{◌≡◌, Bool, List, [], ◌∷◌, ◌++◌, map, refl, sym, ◌∙◌, ap, subst, append_assoc}
use Rattle.pdh_watch.specs.declared.event.Event.{Event}
use Rattle.pdh_edge.specs.Ports.{Outputs}
use Rattle.pdh_events.specs.Acts.{Act, acts_events}
use Rattle.pdh_events.specs.Acts.Act.{Note}
use Rattle.pdh_events.specs.laws.ActsLaws.{bits_to, after_acts, bits_to-append, bits_to-notes, acts_events-append, acts_events-notes}
use Rattle.pdh_rx.specs.Meaning.{Meaning}
use Rattle.pdh_rx.specs.Node.{child_notes, Plays, PlaysPart, PlaysUpTo}
use Rattle.pdh_rx.specs.laws.NodeLaws.{AllSound}
use Rattle.pdh_rx.proofs.Gains.{gives_nothing, gives_join, gives_part}

-- what a watch saw joins
abbrev pub SawJoins : {W : Type 0} → (W → List Event → W → Type 0) → Type 0
SawJoins {W} saw = (a b c : W) (xs ys : List Event) → saw a xs b → saw b ys c → saw a (xs ++ ys) c

module _ {C W : Type 0} (stands : C → List Bool → Type 0) (saw : W → List Event → W → Type 0) (ms : List Meaning) where
  -- a node noted events of its own
  pub plays_notes : (events : List Event) (cs : List C) (o : Outputs) (v w : W) → saw v events w → Plays stands saw ms (map Note events) cs cs o o v w
  plays_notes events cs o v w seen = record {
    gives = gives_nothing stands ms cs o (bits_to (map Note events)) (bits_to-notes events);
    sees = λ lines each. let P : List Event → Type 0 = λ x. saw v x w in subst P (sym (acts_events-notes (child_notes ms) lines events)) seen;
  }

  -- the same acts, told in another way
  pub plays_same : (acts acts' : List Act) (xs ys : List C) (o p : Outputs) (v w : W) → acts' ≡ acts → Plays stands saw ms acts xs ys o p v w → Plays stands saw ms acts' xs ys o p v w
  plays_same acts acts' xs ys o p v w e f = let P : List Act → Type 0 = λ a. Plays stands saw ms a xs ys o p v w in subst P (sym e) f

  pub part_same : (acts acts' : List Act) (xs : List C) (o p : Outputs) (v w : W) → acts' ≡ acts → PlaysPart stands saw ms acts xs o p v w → PlaysPart stands saw ms acts' xs o p v w
  part_same acts acts' xs o p v w e f = let P : List Act → Type 0 = λ a. PlaysPart stands saw ms a xs o p v w in subst P (sym e) f

  -- these acts and then those
  pub plays_join : SawJoins saw → (a b : List Act) (xs ys zs : List C) (o p q : Outputs) (u v w : W)
      → Plays stands saw ms a xs ys o p u v → Plays stands saw ms b ys zs p q v w → Plays stands saw ms (a ++ b) xs zs o q u w
  plays_join joins a b xs ys zs o p q u v w f g = record {
    gives = gives_join stands ms (bits_to a) (bits_to b) (bits_to (a ++ b)) xs ys zs o p q (bits_to-append a b) f.gives g.gives;
    sees = λ lines each.
        let P : List Event → Type 0 = λ x. saw u x w in
        subst P (sym (acts_events-append (child_notes ms) a b lines)) (joins u v w _ _ (f.sees lines each) (g.sees (after_acts lines a) (f.gives.each lines each)));
  }

  -- these acts and then those, of which a call failed to do all; more were to come
  pub plays_part : SawJoins saw → AllSound ms → (a b rest all : List Act) (xs ys : List C) (o p q : Outputs) (u v w : W) → all ≡ (a ++ b) ++ rest
      → Plays stands saw ms a xs ys o p u v → PlaysPart stands saw ms b ys p q v w → PlaysPart stands saw ms all xs o q u w
  plays_part joins sound a b rest all xs ys o p q u v w e f g = record {
    gives = gives_part stands ms sound (bits_to a) (bits_to b) (bits_to all) xs ys o p q
        (λ j. (bits_to rest j, ap (λ v. bits_to v j) e ∙ bits_to-append (a ++ b) rest j ∙ ap (λ v. v ++ bits_to rest j) (bits_to-append a b j))) f.gives g.gives;
    sees = λ lines each.
        let part = g.sees (after_acts lines a) (f.gives.each lines each) in
        let own : List Event = acts_events (child_notes ms) lines a in
        let others : List Event = acts_events (child_notes ms) (after_acts lines (a ++ b)) rest in (
          own ++ part.0,
          part.1 ++ others,
          ap (acts_events (child_notes ms) lines) e ∙ acts_events-append (child_notes ms) (a ++ b) rest lines ∙ ap (λ v. v ++ others) (acts_events-append (child_notes ms) a b lines ∙ ap (λ v. own ++ v) part.2)
              ∙ ap (λ v. v ++ others) (sym (append_assoc own part.0 part.1)) ∙ append_assoc (own ++ part.0) part.1 others,
          joins u v w _ _ (f.sees lines each) part.3,
        );
  }

  -- what is said of equal meanings
  pub plays_at : (ms' : List Meaning) → ms' ≡ ms → (acts : List Act) (xs ys : List C) (o p : Outputs) (v w : W) → Plays stands saw ms' acts xs ys o p v w → Plays stands saw ms acts xs ys o p v w
  plays_at ms' e acts xs ys o p v w f = let P : List Meaning → Type 0 = λ m. Plays stands saw m acts xs ys o p v w in subst P e f

  pub part_at : (ms' : List Meaning) → ms' ≡ ms → (acts : List Act) (xs : List C) (o p : Outputs) (v w : W) → PlaysPart stands saw ms' acts xs o p v w → PlaysPart stands saw ms acts xs o p v w
  part_at ms' e acts xs o p v w f = let P : List Meaning → Type 0 = λ m. PlaysPart stands saw m acts xs o p v w in subst P e f

  -- ---- calls that fail at one act

  -- at the only one
  pub up_to_one : (act : Act) (xs : List C) (o p : Outputs) (v w : W) → saw v [] v → PlaysPart stands saw ms (act ∷ []) xs o p v w → PlaysUpTo stands saw ms (act ∷ []) xs o p v w
  up_to_one act xs o p v w none f = record {
    done = [];
    failed = act;
    left = [];
    acts_are = refl;
    between = xs;
    middle = o;
    heard = v;
    played = plays_notes [] xs o v v none;
    part = f;
  }

  -- after others, and before more
  pub up_to_after : SawJoins saw → (a b rest all : List Act) (xs ys : List C) (o p q : Outputs) (u v w : W) → all ≡ (a ++ b) ++ rest
      → Plays stands saw ms a xs ys o p u v → PlaysUpTo stands saw ms b ys p q v w → PlaysUpTo stands saw ms all xs o q u w
  up_to_after joins a b rest all xs ys o p q u v w e f g = record {
    done = a ++ g.done;
    failed = g.failed;
    left = g.left ++ rest;
    acts_are = e ∙ ap (λ x. (a ++ x) ++ rest) g.acts_are ∙ ap (λ x. x ++ rest) (sym (append_assoc a g.done (g.failed ∷ g.left))) ∙ append_assoc (a ++ g.done) (g.failed ∷ g.left) rest;
    between = g.between;
    middle = g.middle;
    heard = g.heard;
    played = plays_join joins a g.done xs ys g.between o p g.middle u v g.heard f g.played;
    part = g.part;
  }

  -- a prefix was played
  pub up_to_part : SawJoins saw → AllSound ms → (acts : List Act) (xs : List C) (o q : Outputs) (u w : W) → PlaysUpTo stands saw ms acts xs o q u w → PlaysPart stands saw ms acts xs o q u w
  up_to_part joins sound acts xs o q u w f = plays_part joins sound f.done (f.failed ∷ []) f.left acts xs f.between o f.middle q u f.heard w (f.acts_are ∙ sym (append_assoc f.done (f.failed ∷ []) f.left)) f.played f.part

  pub up_to_at : (ms' : List Meaning) → ms' ≡ ms → (acts : List Act) (xs : List C) (o p : Outputs) (v w : W) → PlaysUpTo stands saw ms' acts xs o p v w → PlaysUpTo stands saw ms acts xs o p v w
  up_to_at ms' e acts xs o p v w f = let P : List Meaning → Type 0 = λ m. PlaysUpTo stands saw m acts xs o p v w in subst P e f
