-- Acts of which some children got bits ahead that bring nothing: the children may be given such bits at once, before those of other
-- children that come earlier, and the watch sees what it sees where each bit comes in its turn.
use Rattle.std.proofs.Common.{◌≡◌, inl, inr, ℕ, ◌+◌, ◌<◌, ◌≤◌, Bool, cond, List, [], ◌∷◌, ◌++◌, refl, sym, ap, ◌∙◌, subst, arith, append_assoc}
use Rattle.std.specs.Prelude.{◌⊎◌}
use Rattle.std.proofs.lemmas.List.{append-nil}
use Rattle.std.proofs.lemmas.Bool.{cases_eq, cases_lt, eq-eqb, ne_eqb, lt-ltb, le-ltb}
use Rattle.pdh_watch.specs.declared.event.Event.{Event}
use Rattle.pdh_edge.specs.Ports.{Outputs, IsPrefix, only, for_leaf}
use Rattle.pdh_events.specs.Acts.{Act, with_more, acts_events}
use Rattle.pdh_events.specs.Acts.Act.{Give}
use Rattle.pdh_events.specs.laws.ActsLaws.{bits_to, after_acts, bits_to-append, acts_events-append}
use Rattle.pdh_events.specs.laws.QuietLaws.{IsQuiet, quiet_front, quiet_rest, quiet_join, OnlyGive, quiet_acts}
use Rattle.pdh_rx.specs.Meaning.{Meaning}
use Rattle.pdh_rx.specs.Node.{EachStands, child_notes, Gives, GivesPart, Plays, PlaysPart}
use Rattle.pdh_rx.specs.Merging.{first_bits, FirstGot}
use Rattle.pdh_rx.specs.laws.NodeLaws.{AllSound}
use Rattle.pdh_rx.proofs.Gains.{gives_nothing, gives_same, gives_join, gives_part}
use Rattle.pdh_rx.proofs.Playing.{SawJoins}

-- what each child got by these acts, and ahead of others
abbrev pub got_ahead : List Act → (ℕ → List Bool) → ℕ → List Bool
got_ahead done ahead j = bits_to done j ++ ahead j

-- these acts were played, and each child has got bits more, which bring nothing
pub record PlaysAhead {C W : Type 0} (stands : C → List Bool → Type 0) (saw : W → List Event → W → Type 0) (ms : List Meaning) (done : List Act) (ahead : ℕ → List Bool) (old new : List C) (before after : Outputs) (was is : W) : Type 0 where
  pub gives : Gives stands ms (got_ahead done ahead) old new before after
  pub sees : (lines : ℕ → List Bool) → EachStands stands old lines → saw was (acts_events (child_notes ms) lines done) is
  pub quiet : (lines : ℕ → List Bool) → EachStands stands old lines → (j : ℕ) → IsQuiet (child_notes ms j) (lines j ++ bits_to done j) (ahead j)

pub for_here : (j : ℕ) (bits : List Bool) → for_leaf j bits j ≡ bits
for_here j bits = ap (λ b. cond b bits []) (eq-eqb j j refl)

pub for_other : (j k : ℕ) (bits : List Bool) → (k ≡ j → ⊥) → for_leaf j bits k ≡ []
for_other j k bits ne = ap (λ b. cond b bits []) (ne_eqb k j ne)

-- bits for one child that bring nothing
quiet_for : (ms : List Meaning) (i : ℕ) (more : List Bool) (lines : ℕ → List Bool) → IsQuiet (child_notes ms i) (lines i) more → (j : ℕ) → IsQuiet (child_notes ms j) (lines j) (for_leaf i more j)
quiet_for ms i more lines quiet j = elim (cases_eq j i) [
  | inl e ↦
      let P : ℕ → Type 0 = λ k. IsQuiet (child_notes ms k) (lines k) (for_leaf i more k) in
      let Q : List Bool → Type 0 = IsQuiet (child_notes ms i) (lines i) in
      subst P (sym e) (subst Q (sym (for_here i more)) quiet)
  | inr ne ↦ let Q : List Bool → Type 0 = IsQuiet (child_notes ms j) (lines j) in subst Q (sym (for_other i j more ne)) tt
]

-- ---- the first children

module _ {C : Type 0} (stands : C → List Bool → Type 0) (ms : List Meaning) where
  pub first_none : (bits : ℕ → List Bool) (cs : List C) (o : Outputs) → FirstGot stands ms bits 0 cs cs o o
  first_none bits cs o = record {
    gives = gives_nothing stands ms cs o (first_bits bits 0) none;
    quiet = λ lines each j. (let P : List Bool → Type 0 = IsQuiet (child_notes ms j) (lines j) in subst P (sym (none j)) tt);
  }
    where
      none : (j : ℕ) → first_bits bits 0 j ≡ []
      none j = ap (λ b. cond b (bits j) []) (le-ltb j 0 (omega arith))

  -- one more got its bits
  pub first_more : (bits bits' : ℕ → List Bool) (t : ℕ) (xs ys zs : List C) (o p q : Outputs) → ((j : ℕ) → j < t → bits' j ≡ bits j) → FirstGot stands ms bits t xs ys o p → Gives stands ms (for_leaf t (bits' t)) ys zs p q
      → ((lines : ℕ → List Bool) → EachStands stands ys lines → IsQuiet (child_notes ms t) (lines t) (bits' t)) → FirstGot stands ms bits' (t + 1) xs zs o q
  first_more bits bits' t xs ys zs o p q before f g quiet = record {
    gives = gives_join stands ms (first_bits bits t) (for_leaf t (bits' t)) (first_bits bits' (t + 1)) xs ys zs o p q same f.gives g;
    quiet = λ lines each j.
        let P : List Bool → Type 0 = IsQuiet (child_notes ms j) (lines j) in
        subst P (sym (same j)) (quiet_join (child_notes ms j) (first_bits bits t j) (for_leaf t (bits' t) j) (lines j) (f.quiet lines each j) (quiet_for ms t (bits' t) (λ i. lines i ++ first_bits bits t i) (quiet (with_more lines (first_bits bits t)) (f.gives.each lines each)) j));
  }
    where
      other : (j : ℕ) → (j ≡ t → ⊥) → (j < t) ⊎ (t ≤ j) → first_bits bits' (t + 1) j ≡ first_bits bits t j
      other j ne (inl less) = ap (λ b. cond b (bits' j) []) (lt-ltb j (t + 1) (omega (arith, less))) ∙ before j less ∙ sym (ap (λ b. cond b (bits j) []) (lt-ltb j t less))
      other j ne (inr more) = ap (λ b. cond b (bits' j) []) (le-ltb j (t + 1) (omega (arith, more, ne))) ∙ sym (ap (λ b. cond b (bits j) []) (le-ltb j t more))

      same : (j : ℕ) → first_bits bits' (t + 1) j ≡ first_bits bits t j ++ for_leaf t (bits' t) j
      same j = elim (cases_eq j t) [
        | inl e ↦
            let P : ℕ → Type 0 = λ i. first_bits bits' (t + 1) i ≡ first_bits bits t i ++ for_leaf t (bits' t) i in
            subst P (sym e) (ap (λ b. cond b (bits' t) []) (lt-ltb t (t + 1) (omega arith)) ∙ sym (ap (λ b. cond b (bits t) [] ++ for_leaf t (bits' t) t) (le-ltb t t (omega arith)) ∙ for_here t (bits' t)))
        | inr ne ↦ other j ne (cases_lt j t) ∙ sym (ap (λ x. first_bits bits t j ++ x) (for_other t j (bits' t) ne) ∙ append-nil (first_bits bits t j))
      ]

-- ---- acts

module _ {C W : Type 0} (stands : C → List Bool → Type 0) (saw : W → List Event → W → Type 0) (joins : SawJoins saw) (ms : List Meaning) where
  -- bits ahead were given alone
  pub ahead_gives : (bits : ℕ → List Bool) (t : ℕ) (xs ys : List C) (o p : Outputs) (w : W) → saw w [] w → FirstGot stands ms bits t xs ys o p → PlaysAhead stands saw ms [] (first_bits bits t) xs ys o p w w
  ahead_gives bits t xs ys o p w seen f = record {
    gives = f.gives;
    sees = λ lines each. seen;
    quiet = λ lines each j. (let P : List Bool → Type 0 = λ x. IsQuiet (child_notes ms j) x (first_bits bits t j) in subst P (sym (append-nil (lines j))) (f.quiet lines each j));
  }

  -- a child got more bits that bring nothing
  pub ahead_more : (done : List Act) (ahead : ℕ → List Bool) (i : ℕ) (more : List Bool) (xs ys zs : List C) (o p q : Outputs) (v w : W)
      → PlaysAhead stands saw ms done ahead xs ys o p v w → Gives stands ms (for_leaf i more) ys zs p q
      → ((lines : ℕ → List Bool) → EachStands stands ys lines → IsQuiet (child_notes ms i) (lines i) more)
      → PlaysAhead stands saw ms done (with_more ahead (for_leaf i more)) xs zs o q v w
  ahead_more done ahead i more xs ys zs o p q v w f g quiet = record {
    gives = gives_join stands ms (got_ahead done ahead) (for_leaf i more) (got_ahead done (with_more ahead (for_leaf i more))) xs ys zs o p q
        (λ j. sym (append_assoc (bits_to done j) (ahead j) (for_leaf i more j))) f.gives g;
    sees = f.sees;
    quiet = λ lines each j.
        let S : List Bool → Type 0 = λ v. IsQuiet (child_notes ms i) v more in
        quiet_join (child_notes ms j) (ahead j) (for_leaf i more j) (lines j ++ bits_to done j) (f.quiet lines each j)
        (quiet_for ms i more (λ k. (lines k ++ bits_to done k) ++ ahead k) (subst S (sym (append_assoc (lines i) (bits_to done i) (ahead i))) (quiet (with_more lines (got_ahead done ahead)) (f.gives.each lines each))) j);
  }

  -- the same bits ahead, told in another way
  pub ahead_same : (done : List Act) (ahead ahead' : ℕ → List Bool) (xs ys : List C) (o p : Outputs) (v w : W) → ((j : ℕ) → ahead' j ≡ ahead j) → PlaysAhead stands saw ms done ahead xs ys o p v w → PlaysAhead stands saw ms done ahead' xs ys o p v w
  ahead_same done ahead ahead' xs ys o p v w same f = record {
    gives = gives_same stands ms (got_ahead done ahead) (got_ahead done ahead') xs ys o p (λ j. ap (λ x. bits_to done j ++ x) (same j)) f.gives;
    sees = f.sees;
    quiet = λ lines each j. (let P : List Bool → Type 0 = λ x. IsQuiet (child_notes ms j) (lines j ++ bits_to done j) x in subst P (sym (same j)) (f.quiet lines each j));
  }

  -- what a child's bit brings, where it got all its bits of the acts before and these bring nothing
  pub push_events : (done quiet : List Act) (i : ℕ) (bit : Bool) (ahead later : ℕ → List Bool) (xs ys : List C) (o p : Outputs) (u v : W)
      → OnlyGive quiet → ((j : ℕ) → ahead j ≡ bits_to quiet j ++ later j) → later i ≡ []
      → PlaysAhead stands saw ms done ahead xs ys o p u v → (lines : ℕ → List Bool) → EachStands stands xs lines
      → acts_events (child_notes ms) lines (done ++ (quiet ++ Give i bit ∷ [])) ≡ acts_events (child_notes ms) lines done ++ acts_events (child_notes ms) (with_more lines (got_ahead done ahead)) (Give i bit ∷ [])
  push_events done quiet i bit ahead later xs ys o p u v only_give front last f lines each =
      let notes = child_notes ms in
      acts_events-append notes done (quiet ++ Give i bit ∷ []) lines
      ∙ ap (λ x. acts_events notes lines done ++ x)
      (acts_events-append notes quiet (Give i bit ∷ []) (after_acts lines done) ∙ ap (λ x. x ++ acts_events notes (after_acts (after_acts lines done) quiet) (Give i bit ∷ [])) nothing
      ∙ ap (λ x. notes i x bit ++ []) line_is)
    where
      calm : (j : ℕ) → IsQuiet (child_notes ms j) (lines j ++ bits_to done j) (bits_to quiet j ++ later j)
      calm j = let P : List Bool → Type 0 = λ x. IsQuiet (child_notes ms j) (lines j ++ bits_to done j) x in subst P (front j) (f.quiet lines each j)

      nothing : acts_events (child_notes ms) (after_acts lines done) quiet ≡ []
      nothing = quiet_acts (child_notes ms) quiet (after_acts lines done) only_give (λ j. quiet_front (child_notes ms j) (bits_to quiet j) (later j) (lines j ++ bits_to done j) (calm j))

      -- the child's line, when the bit comes
      line_is : after_acts (after_acts lines done) quiet i ≡ with_more lines (got_ahead done ahead) i
      line_is = append_assoc (lines i) (bits_to done i) (bits_to quiet i) ∙ ap (λ x. lines i ++ (bits_to done i ++ x)) (sym (front i ∙ ap (λ x. bits_to quiet i ++ x) last ∙ append-nil (bits_to quiet i)))

  -- A child that got all its bits of the acts before it got the next one, and more bits than these were given ahead or none.
  pub ahead_push : (done quiet : List Act) (i : ℕ) (bit : Bool) (ahead later : ℕ → List Bool) (xs ys zs : List C) (o p q : Outputs) (u v w : W)
      → OnlyGive quiet → ((j : ℕ) → ahead j ≡ bits_to quiet j ++ later j) → later i ≡ []
      → PlaysAhead stands saw ms done ahead xs ys o p u v → Plays stands saw ms (Give i bit ∷ []) ys zs p q v w
      → PlaysAhead stands saw ms (done ++ (quiet ++ Give i bit ∷ [])) later xs zs o q u w
  ahead_push done quiet i bit ahead later xs ys zs o p q u v w only_give front last f g = record {
    gives = gives_join stands ms (got_ahead done ahead) (bits_to (Give i bit ∷ [])) (got_ahead (done ++ (quiet ++ Give i bit ∷ [])) later) xs ys zs o p q same f.gives g.gives;
    sees = λ lines each.
        let P : List Event → Type 0 = λ x. saw u x w in
        subst P (sym (push_events done quiet i bit ahead later xs ys o p u v only_give front last f lines each)) (joins u v w _ _ (f.sees lines each) (g.sees (with_more lines (got_ahead done ahead)) (f.gives.each lines each)));
    quiet = still;
  }
    where
      pushed : (j : ℕ) → bits_to (quiet ++ Give i bit ∷ []) j ≡ bits_to quiet j ++ only i bit j
      pushed j = bits_to-append quiet (Give i bit ∷ []) j ∙ ap (λ x. bits_to quiet j ++ x) (append-nil (only i bit j))

      all : (j : ℕ) → bits_to (done ++ (quiet ++ Give i bit ∷ [])) j ≡ bits_to done j ++ (bits_to quiet j ++ only i bit j)
      all j = bits_to-append done (quiet ++ Give i bit ∷ []) j ∙ ap (λ x. bits_to done j ++ x) (pushed j)

      -- what is ahead of the others comes after the bit, or the bit is another child's
      swap : (j : ℕ) → only i bit j ++ later j ≡ later j ++ only i bit j
      swap j = elim (cases_eq j i) [
        | inl e ↦
            let none : later j ≡ [] = ap later e ∙ last in
            ap (λ x. only i bit j ++ x) none ∙ append-nil (only i bit j) ∙ ap (λ x. x ++ only i bit j) (sym none)
        | inr ne ↦
            let none : only i bit j ≡ [] = for_other i j (bit ∷ []) ne in
            ap (λ x. x ++ later j) none ∙ sym (append-nil (later j)) ∙ ap (λ x. later j ++ x) (sym none)
      ]

      same : (j : ℕ) → got_ahead (done ++ (quiet ++ Give i bit ∷ [])) later j ≡ got_ahead done ahead j ++ bits_to (Give i bit ∷ []) j
      same j =
          let d = bits_to done j in
          let k = bits_to quiet j in
          let b = only i bit j in
          ap (λ x. x ++ later j) (all j) ∙ append_assoc d (k ++ b) (later j) ∙ ap (λ x. d ++ x) (append_assoc k b (later j) ∙ ap (λ x. k ++ x) (swap j) ∙ sym (append_assoc k (later j) b))
          ∙ sym (append_assoc d (k ++ later j) b) ∙ ap (λ x. (d ++ x) ++ b) (sym (front j)) ∙ ap (λ x. (d ++ ahead j) ++ x) (sym (append-nil b))

      calm : (lines : ℕ → List Bool) → EachStands stands xs lines → (j : ℕ) → IsQuiet (child_notes ms j) (lines j ++ bits_to done j) (bits_to quiet j ++ later j)
      calm lines each j = let P : List Bool → Type 0 = λ x. IsQuiet (child_notes ms j) (lines j ++ bits_to done j) x in subst P (front j) (f.quiet lines each j)

      still : (lines : ℕ → List Bool) → EachStands stands xs lines → (j : ℕ) → IsQuiet (child_notes ms j) (lines j ++ bits_to (done ++ (quiet ++ Give i bit ∷ [])) j) (later j)
      still lines each j = elim (cases_eq j i) [
        | inl e ↦
            let P : List Bool → Type 0 = λ x. IsQuiet (child_notes ms j) (lines j ++ bits_to (done ++ (quiet ++ Give i bit ∷ [])) j) x in
            subst P (sym (ap later e ∙ last)) tt
        | inr ne ↦
            let none : only i bit j ≡ [] = for_other i j (bit ∷ []) ne in
            let got : bits_to (done ++ (quiet ++ Give i bit ∷ [])) j ≡ bits_to done j ++ bits_to quiet j = all j ∙ ap (λ x. bits_to done j ++ x) (ap (λ x. bits_to quiet j ++ x) none ∙ append-nil (bits_to quiet j)) in
            let P : List Bool → Type 0 = λ x. IsQuiet (child_notes ms j) x (later j) in
            subst P (append_assoc (lines j) (bits_to done j) (bits_to quiet j) ∙ ap (λ x. lines j ++ x) (sym got)) (quiet_rest (child_notes ms j) (bits_to quiet j) (later j) (lines j ++ bits_to done j) (calm lines each j))
      ]

  -- each child got all its bits
  pub ahead_all : (done quiet : List Act) (ahead : ℕ → List Bool) (xs ys : List C) (o p : Outputs) (v w : W) → OnlyGive quiet → ((j : ℕ) → ahead j ≡ bits_to quiet j)
      → PlaysAhead stands saw ms done ahead xs ys o p v w → Plays stands saw ms (done ++ quiet) xs ys o p v w
  ahead_all done quiet ahead xs ys o p v w only_give is f = record {
    gives = gives_same stands ms (got_ahead done ahead) (bits_to (done ++ quiet)) xs ys o p (λ j. bits_to-append done quiet j ∙ ap (λ x. bits_to done j ++ x) (sym (is j))) f.gives;
    sees = λ lines each.
        let P : List Event → Type 0 = λ x. saw v x w in
        let Q : (j : ℕ) → IsQuiet (child_notes ms j) (lines j ++ bits_to done j) (bits_to quiet j) =
        λ j. (let R : List Bool → Type 0 = λ x. IsQuiet (child_notes ms j) (lines j ++ bits_to done j) x in subst R (is j) (f.quiet lines each j)) in
        subst P (sym (acts_events-append (child_notes ms) done quiet lines ∙ ap (λ x. acts_events (child_notes ms) lines done ++ x) (quiet_acts (child_notes ms) quiet (after_acts lines done) only_give Q) ∙ append-nil (acts_events (child_notes ms) lines done))) (f.sees lines each);
  }

  -- a child's bit failed, where more was to come
  pub ahead_part_push : AllSound ms → (done quiet rest all : List Act) (i : ℕ) (bit : Bool) (ahead later : ℕ → List Bool) (xs ys : List C) (o p q : Outputs) (u v w : W)
      → OnlyGive quiet → ((j : ℕ) → ahead j ≡ bits_to quiet j ++ later j) → later i ≡ [] → all ≡ (done ++ (quiet ++ Give i bit ∷ [])) ++ rest
      → ((j : ℕ) → IsPrefix (got_ahead done ahead j ++ bits_to (Give i bit ∷ []) j) (bits_to all j))
      → PlaysAhead stands saw ms done ahead xs ys o p u v → PlaysPart stands saw ms (Give i bit ∷ []) ys p q v w → PlaysPart stands saw ms all xs o q u w
  ahead_part_push sound done quiet rest all i bit ahead later xs ys o p q u v w only_give front last e prefix f g = record {
    gives = gives_part stands ms sound (got_ahead done ahead) (bits_to (Give i bit ∷ [])) (bits_to all) xs ys o p q prefix f.gives g.gives;
    sees = λ lines each.
        let part = g.sees (with_more lines (got_ahead done ahead)) (f.gives.each lines each) in
        let own : List Event = acts_events (child_notes ms) lines done in
        let others : List Event = acts_events (child_notes ms) (after_acts lines (done ++ (quiet ++ Give i bit ∷ []))) rest in (
          own ++ part.0,
          part.1 ++ others,
          ap (acts_events (child_notes ms) lines) e ∙ acts_events-append (child_notes ms) (done ++ (quiet ++ Give i bit ∷ [])) rest lines
              ∙ ap (λ x. x ++ others) (push_events done quiet i bit ahead later xs ys o p u v only_give front last f lines each ∙ ap (λ x. own ++ x) part.2)
              ∙ ap (λ x. x ++ others) (sym (append_assoc own part.0 part.1)) ∙ append_assoc (own ++ part.0) part.1 others,
          joins u v w _ _ (f.sees lines each) part.3,
        );
  }

  -- more bits failed, where more was to come
  pub ahead_part_more : AllSound ms → (done rest all : List Act) (i : ℕ) (more : List Bool) (ahead : ℕ → List Bool) (xs ys : List C) (o p q : Outputs) (v w : W) → all ≡ done ++ rest
      → ((j : ℕ) → IsPrefix (got_ahead done ahead j ++ for_leaf i more j) (bits_to all j))
      → PlaysAhead stands saw ms done ahead xs ys o p v w → GivesPart stands ms (for_leaf i more) ys p q → PlaysPart stands saw ms all xs o q v w
  ahead_part_more sound done rest all i more ahead xs ys o p q v w e prefix f g = record {
    gives = gives_part stands ms sound (got_ahead done ahead) (for_leaf i more) (bits_to all) xs ys o p q prefix f.gives g;
    sees = λ lines each. (
      acts_events (child_notes ms) lines done,
      acts_events (child_notes ms) (after_acts lines done) rest,
      ap (acts_events (child_notes ms) lines) e ∙ acts_events-append (child_notes ms) done rest lines,
      f.sees lines each,
    );
  }

-- notes that are alike
pub quiet_alike : (f g : List Bool → Bool → List Event) → ((line : List Bool) (bit : Bool) → g line bit ≡ f line bit) → (line bits : List Bool) → IsQuiet f line bits → IsQuiet g line bits
quiet_alike f g same line [] quiet = tt
quiet_alike f g same line (bit ∷ bits) quiet = (same line bit ∙ quiet.0, quiet_alike f g same (line ++ bit ∷ []) bits quiet.1)
