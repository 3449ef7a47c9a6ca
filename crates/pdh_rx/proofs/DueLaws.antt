-- The children's bits of what is loaded: each gets at once those that bring no event, and then the one whose next bit stands first gets
-- that bit, and those behind it that bring none, until none is due.
use Rattle.std.proofs.Common.{◌≡◌, inl, inr, ℕ, zero, suc, ◌+◌, ◌-◌, ◌%◌, ◌<◌, ◌≤◌, ◌==◌, Bool, false, cond, List, [], ◌∷◌, ◌++◌, length, take, drop, get_or, set, Option, Some, refl, sym, ap, ◌∙◌, subst, arith}
use Rattle.std.proofs.lemmas.List.{append_cancel_left, append-nil, length-append, length-take-le, take-append-drop, get_or-set_same, get_or-set_other}
use Rattle.std.specs.Prelude.{◌⊎◌}
use Rattle.std.proofs.Math.ListN.{get_or-eq_default}
use Rattle.std.proofs.Math.Seq.{take-add}
use Rattle.std.proofs.lemmas.Nat.{mod_below}
use Rattle.std.proofs.lemmas.Bool.{cases_eq, cases_lt, eq-eqb, ne_eqb, lt-ltb, le-ltb}
use Rattle.pdh_watch.specs.declared.event.Event.{Event}
use Rattle.pdh_edge.specs.Ports.{Outputs, IsPrefix, only, for_leaf}
use Rattle.pdh_events.specs.Acts.{Act, with_more}
use Rattle.pdh_events.specs.Acts.Act.{Give}
use Rattle.pdh_events.specs.laws.ActsLaws.{bits_to, bits_to-append}
use Rattle.pdh_events.specs.laws.QuietLaws.{IsQuiet}
use Rattle.pdh_rx.specs.declared.merging.Due.{Due}
use Rattle.pdh_rx.specs.Meaning.{Meaning}
use Rattle.pdh_rx.specs.Node.{EachStands, child_notes, Gives, GivesPart, Plays, PlaysPart}
use Rattle.pdh_rx.specs.Places.{cell_acts, places_acts, StandsAt}
use Rattle.pdh_rx.specs.Merging.{nowhere, due_at, due_place, given_bits, first_bits, Begun}
use Rattle.pdh_rx.specs.laws.NodeLaws.{AllSound}
use Rattle.pdh_rx.proofs.Gains.{gives_part}
use Rattle.pdh_rx.proofs.Playing.{SawJoins}
use Rattle.pdh_rx.proofs.Ahead.{first_none, first_more, got_ahead, PlaysAhead, for_here, for_other, ahead_same, ahead_gives, ahead_more, ahead_push, ahead_all, ahead_part_push, ahead_part_more}
use Rattle.pdh_rx.proofs.Places.{places_give, places_split, ahead_of, due_front, due_next, one_place}
use Rattle.pdh_rx.proofs.Standing.{none_at, own_first, cell_bits}

-- ---- places and bits

-- a front of the places
place_prefix : (tribs : ℕ) (cell : ℕ → Option Bool) (n end j : ℕ) → n ≤ end → bits_to (places_acts tribs cell 0 end) j ≡ bits_to (places_acts tribs cell 0 n) j ++ bits_to (places_acts tribs cell n (end - n)) j
place_prefix tribs cell n end j le =
    let count : end ≡ n + (end - n) = omega (arith, le) in
    let none : 0 + n ≡ n = omega arith in
    ap (λ k. bits_to (places_acts tribs cell 0 k) j) count ∙ ap (λ a. bits_to a j) (places_split tribs cell 0 n (end - n)) ∙ bits_to-append (places_acts tribs cell 0 n) (places_acts tribs cell (0 + n) (end - n)) j
    ∙ ap (λ p. bits_to (places_acts tribs cell 0 n) j ++ bits_to (places_acts tribs cell p (end - n)) j) none

-- no place is that of a tributary that there isn't
pub none_beyond : (tribs : ℕ) (cell : ℕ → Option Bool) (j from n : ℕ) → (0 < tribs) ⊎ (n ≡ 0) → tribs ≤ j → bits_to (places_acts tribs cell from n) j ≡ []
none_beyond tribs cell j from n (inl some) more = none_at tribs cell j from n (λ p le lt is. omega (arith, is, more, mod_below p tribs some))
none_beyond tribs cell j from n (inr none) more = ap (λ k. bits_to (places_acts tribs cell from k) j) none

module _ (tribs : ℕ) (cell : ℕ → Option Bool) (end j : ℕ) (bits : List Bool) where
  -- a later bit stands at a later place
  pub stands_later : (k p k' p' : ℕ) → StandsAt tribs cell end j bits k p → StandsAt tribs cell end j bits k' p' → k < k' → p < p'
  stands_later k p k' p' f g lt = elim (cases_lt p p') [
    | inl less ↦ less
    | inr more ↦
        let front : length (take k bits) ≡ k = length-take-le k bits f.few in
        let long : length (take k' bits) ≡ k' = length-take-le k' bits g.few in
        let whole : take k bits ≡ take k' bits ++ bits_to (places_acts tribs cell p' (p - p')) j = sym f.before ∙ place_prefix tribs cell p' p j more ∙ ap (λ v. v ++ bits_to (places_acts tribs cell p' (p - p')) j) g.before in
        let count : length (take k bits) ≡ length (take k' bits) + length (bits_to (places_acts tribs cell p' (p - p')) j) = ap length whole ∙ length-append (take k' bits) (bits_to (places_acts tribs cell p' (p - p')) j) in
        absurd (omega (arith, front, long, count, lt))
  ]

  -- the bit that stands at a place is given there
  pub given_here : (k p : ℕ) → StandsAt tribs cell end j bits k p → k < length bits → bits_to (places_acts tribs cell 0 (p + 1)) j ≡ take (k + 1) bits
  given_here k p f lt =
      let here = f.here lt in
      let one : take 1 (drop k bits) ≡ get_or bits k false ∷ [] = first_of k bits lt in
      let back : (p + 1) - p ≡ 1 + 0 = omega arith in
      place_prefix tribs cell p (p + 1) j (omega arith) ∙ ap (λ v. v ++ bits_to (places_acts tribs cell p ((p + 1) - p)) j) f.before
      ∙ ap (λ n. take k bits ++ bits_to (places_acts tribs cell p n) j) back
      ∙ ap (λ v. take k bits ++ v) (own_first tribs cell j p 0 here.1 ∙ ap (λ c. cell_bits c ++ []) here.2 ∙ sym one)
      ∙ sym (take-add k 1 bits)
    where
      first_of : (k : ℕ) (xs : List Bool) → k < length xs → take 1 (drop k xs) ≡ get_or xs k false ∷ []
      first_of zero [] lt = absurd (omega (arith, lt))
      first_of (suc k) [] lt = absurd (omega (arith, lt))
      first_of zero (x ∷ xs) lt = refl
      first_of (suc k) (x ∷ xs) lt = first_of k xs (omega (arith, lt))

  -- and those that come after it, up to the next due place
  pub given_behind : (k p n q : ℕ) → StandsAt tribs cell end j bits k p → k < length bits → StandsAt tribs cell end j bits ((k + 1) + n) q → bits_to (places_acts tribs cell (p + 1) (q - (p + 1))) j ≡ take n (drop (k + 1) bits)
  given_behind k p n q f lt g =
      let later : p < q = stands_later k p ((k + 1) + n) q f g (omega arith) in
      let here : bits_to (places_acts tribs cell 0 (p + 1)) j ≡ take (k + 1) bits = given_here k p f lt in
      append_cancel_left (take (k + 1) bits) (bits_to (places_acts tribs cell (p + 1) (q - (p + 1))) j) (take n (drop (k + 1) bits))
      (ap (λ v. v ++ bits_to (places_acts tribs cell (p + 1) (q - (p + 1))) j) (sym here) ∙ sym (place_prefix tribs cell (p + 1) q j (omega (arith, later))) ∙ g.before ∙ take-add (k + 1) n bits)

-- ---- how far the tributaries are

-- All acts before a place were played, and each tributary got what brings nothing up to its due place.
pub record Merges {C W : Type 0} (stands : C → List Bool → Type 0) (saw : W → List Event → W → Type 0) (ms : List Meaning) (tribs : ℕ) (cell : ℕ → Option Bool) (end : ℕ) (bits : ℕ → List Bool) (least : ℕ) (list : List Due) (old new : List C) (before after : Outputs) (was is : W) : Type 0 where
  pub at : ℕ
  pub far : least ≤ at
  pub within : at ≤ end
  pub stand : (j : ℕ) → j < tribs → StandsAt tribs cell end j (bits j) (due_at end list j).given (due_place end list j)
  pub first : (j : ℕ) → at ≤ due_place end list j
  pub most : (j : ℕ) → due_place end list j ≤ end
  pub ahead : PlaysAhead stands saw ms (places_acts tribs cell 0 at) (ahead_of tribs cell at (due_place end list)) old new before after was is

-- each tributary's bits are what all places give it
abbrev pub AreAll : ℕ → (ℕ → Option Bool) → ℕ → (ℕ → List Bool) → Type 0
AreAll tribs cell end bits = (j : ℕ) → j < tribs → bits j ≡ bits_to (places_acts tribs cell 0 end) j

module _ {C : Type 0} (stands : C → List Bool → Type 0) (ms : List Meaning) (tribs : ℕ) (cell : ℕ → Option Bool) (end : ℕ) (bits : ℕ → List Bool) where
  pub begun_none : (list : List Due) (cs : List C) (o : Outputs) → Begun stands ms tribs cell end bits 0 list cs cs o o
  begun_none list cs o = record { stand = λ j lt. absurd (omega (arith, lt)); got = first_none stands ms (given_bits end bits list) cs o }

  pub begun_more : (t : ℕ) (list list' : List Due) (due : Due) (xs ys zs : List C) (o p q : Outputs) → t < length list → list' ≡ set list t due → StandsAt tribs cell end t (bits t) due.given due.place
      → Begun stands ms tribs cell end bits t list xs ys o p → Gives stands ms (for_leaf t (take due.given (bits t))) ys zs p q
      → ((lines : ℕ → List Bool) → EachStands stands ys lines → IsQuiet (child_notes ms t) (lines t) (take due.given (bits t)))
      → Begun stands ms tribs cell end bits (t + 1) list' xs zs o q
  begun_more t list list' due xs ys zs o p q inside is placed f g quiet = record {
    stand = λ j lt. elim (cases_eq j t) [
      | inl e ↦
          let P : ℕ → Type 0 = λ i. StandsAt tribs cell end i (bits i) (due_at end list' i).given (due_place end list' i) in
          let Q : Due → Type 0 = λ d. StandsAt tribs cell end t (bits t) d.given d.place in
          subst P (sym e) (subst Q (sym here) placed)
      | inr ne ↦ let Q : Due → Type 0 = λ d. StandsAt tribs cell end j (bits j) d.given d.place in subst Q (sym (other j ne)) (f.stand j (omega (arith, lt, ne)))
    ];
    got =
        let P : Due → Type 0 = λ d. Gives stands ms (for_leaf t (take d.given (bits t))) ys zs p q in
        let Q : Due → Type 0 = λ d. (lines : ℕ → List Bool) → EachStands stands ys lines → IsQuiet (child_notes ms t) (lines t) (take d.given (bits t)) in
        first_more stands ms (given_bits end bits list) (given_bits end bits list') t xs ys zs o p q (λ j lt. ap (λ (d : Due). take d.given (bits j)) (other j (λ e. omega (arith, lt, e)))) f.got (subst P (sym here) g) (subst Q (sym here) quiet);
  }
    where
      here : due_at end list' t ≡ due
      here = ap (λ l. get_or l t (nowhere end)) is ∙ get_or-set_same list t due (nowhere end) inside

      other : (j : ℕ) → (j ≡ t → ⊥) → due_at end list' j ≡ due_at end list j
      other j ne = ap (λ l. get_or l j (nowhere end)) is ∙ get_or-set_other list t j due (nowhere end) ne

  -- a glide of one of the first tributaries failed
  pub begun_part : AllSound ms → AreAll tribs cell end bits → (t : ℕ) (list : List Due) (xs ys : List C) (o p q : Outputs) → t < tribs → Begun stands ms tribs cell end bits t list xs ys o p → GivesPart stands ms (for_leaf t (bits t)) ys p q
      → GivesPart stands ms (bits_to (places_acts tribs cell 0 end)) xs o q
  begun_part sound all t list xs ys o p q inside f g = gives_part stands ms sound (first_bits (given_bits end bits list) t) (for_leaf t (bits t)) (bits_to (places_acts tribs cell 0 end)) xs ys o p q prefix f.got.gives g
    where
      prefix : (j : ℕ) → IsPrefix (first_bits (given_bits end bits list) t j ++ for_leaf t (bits t) j) (bits_to (places_acts tribs cell 0 end) j)
      prefix j = elim (cases_eq j t) [
        | inl e ↦
            let none : first_bits (given_bits end bits list) t j ≡ [] = ap (λ b. cond b (take (due_at end list j).given (bits j)) []) (le-ltb j t (omega (arith, e))) in
            let mine : for_leaf t (bits t) j ≡ bits j = ap (λ i. for_leaf t (bits t) i) e ∙ for_here t (bits t) ∙ sym (ap bits e) in
            ([], sym (append-nil (first_bits (given_bits end bits list) t j ++ for_leaf t (bits t) j) ∙ ap (λ v. v ++ for_leaf t (bits t) j) none ∙ mine ∙ all j (omega (arith, e, inside))))
        | inr ne ↦ other j ne (cases_lt j t)
      ]
        where
          other : (j : ℕ) → (j ≡ t → ⊥) → (j < t) ⊎ (t ≤ j) → IsPrefix (first_bits (given_bits end bits list) t j ++ for_leaf t (bits t) j) (bits_to (places_acts tribs cell 0 end) j)
          other j ne (inl less) =
              let placed = f.stand j less in
              let got : first_bits (given_bits end bits list) t j ++ for_leaf t (bits t) j ≡ bits_to (places_acts tribs cell 0 (due_place end list j)) j =
              ap (λ v. first_bits (given_bits end bits list) t j ++ v) (for_other t j (bits t) ne) ∙ append-nil (first_bits (given_bits end bits list) t j)
              ∙ ap (λ b. cond b (take (due_at end list j).given (bits j)) []) (lt-ltb j t less) ∙ sym placed.before in
              (bits_to (places_acts tribs cell (due_place end list j) (end - due_place end list j)) j, place_prefix tribs cell (due_place end list j) end j placed.within ∙ ap (λ v. v ++ bits_to (places_acts tribs cell (due_place end list j) (end - due_place end list j)) j) (sym got))
          other j ne (inr more) =
              let none : first_bits (given_bits end bits list) t j ++ for_leaf t (bits t) j ≡ [] =
              ap (λ v. first_bits (given_bits end bits list) t j ++ v) (for_other t j (bits t) ne) ∙ append-nil (first_bits (given_bits end bits list) t j)
              ∙ ap (λ b. cond b (take (due_at end list j).given (bits j)) []) (le-ltb j t more) in
              (bits_to (places_acts tribs cell 0 end) j, ap (λ v. v ++ bits_to (places_acts tribs cell 0 end) j) (sym none))

module _ {C W : Type 0} (stands : C → List Bool → Type 0) (saw : W → List Event → W → Type 0) (joins : SawJoins saw) (ms : List Meaning) (tribs : ℕ) (cell : ℕ → Option Bool) (end : ℕ) (bits : ℕ → List Bool) where
  pub begun_all : (list : List Due) (xs ys : List C) (o p : Outputs) (w : W) → saw w [] w → (0 < tribs) ⊎ (end ≡ 0) → length list ≡ tribs → Begun stands ms tribs cell end bits tribs list xs ys o p → Merges stands saw ms tribs cell end bits 0 list xs ys o p w w
  begun_all list xs ys o p w seen some count f = record {
    at = 0;
    far = omega arith;
    within = omega arith;
    stand = f.stand;
    first = λ j. omega arith;
    most = λ j. elim (cases_lt j tribs) [
      | inl less ↦ (f.stand j less).within
      | inr more ↦ (let out : due_place end list j ≡ end = ap (λ (d : Due). d.place) (get_or-eq_default list (nowhere end) (omega (arith, more, count))) in omega (arith, out))
    ];
    ahead = ahead_same stands saw joins ms [] (first_bits (given_bits end bits list) tribs) (ahead_of tribs cell 0 (due_place end list)) xs ys o p w w same (ahead_gives stands saw joins ms (given_bits end bits list) tribs xs ys o p w seen f.got);
  }
    where
      empty_to : (j : ℕ) → tribs ≤ j → (0 < tribs) ⊎ (end ≡ 0) → (0 < tribs) ⊎ (due_place end list j - 0 ≡ 0)
      empty_to j more (inl h) = inl h
      empty_to j more (inr h) = (let out : due_place end list j ≡ end = ap (λ (d : Due). d.place) (get_or-eq_default list (nowhere end) (omega (arith, more, count))) in inr (omega (arith, out, h)))

      same : (j : ℕ) → ahead_of tribs cell 0 (due_place end list) j ≡ first_bits (given_bits end bits list) tribs j
      same j = elim (cases_lt j tribs) [
        | inl less ↦
            let all : due_place end list j - 0 ≡ due_place end list j = omega arith in
            ap (λ n. bits_to (places_acts tribs cell 0 n) j) all ∙ (f.stand j less).before ∙ sym (ap (λ b. cond b (take (due_at end list j).given (bits j)) []) (lt-ltb j tribs less))
        | inr more ↦ none_beyond tribs cell j 0 (due_place end list j - 0) (empty_to j more some) more ∙ sym (ap (λ b. cond b (take (due_at end list j).given (bits j)) []) (le-ltb j tribs more))
      ]

  module _ (sound : AllSound ms) (all : AreAll tribs cell end bits) where
    -- none is due
    pub merges_all : (least : ℕ) (list : List Due) (xs ys : List C) (o p : Outputs) (v w : W) → ((j : ℕ) → end ≤ due_place end list j) → Merges stands saw ms tribs cell end bits least list xs ys o p v w
        → Plays stands saw ms (places_acts tribs cell 0 end) xs ys o p v w
    merges_all least list xs ys o p v w done f =
        let at : ℕ = f.at in
        let count : at + (end - at) ≡ end = omega (arith, f.within) in
        let none : 0 + at ≡ at = omega arith in
        let whole : places_acts tribs cell 0 at ++ places_acts tribs cell at (end - at) ≡ places_acts tribs cell 0 end =
        sym (ap (places_acts tribs cell 0) (sym count) ∙ places_split tribs cell 0 at (end - at) ∙ ap (λ p. places_acts tribs cell 0 at ++ places_acts tribs cell p (end - at)) none) in
        let P : List Act → Type 0 = λ a. Plays stands saw ms a xs ys o p v w in
        subst P whole (ahead_all stands saw joins ms (places_acts tribs cell 0 at) (places_acts tribs cell at (end - at)) (ahead_of tribs cell at (due_place end list)) xs ys o p v w (places_give tribs cell at (end - at))
        (λ j. (let last : due_place end list j ≡ end = omega (arith, done j, f.most j) in ap (λ n. bits_to (places_acts tribs cell at (n - at)) j) last)) f.ahead)

    -- the place up to which all is played is the end
    pub merges_end : (least : ℕ) (list : List Due) (xs ys : List C) (o p : Outputs) (v w : W) → end ≤ least → Merges stands saw ms tribs cell end bits least list xs ys o p v w → Plays stands saw ms (places_acts tribs cell 0 end) xs ys o p v w
    merges_end least list xs ys o p v w past f = merges_all least list xs ys o p v w (λ j. omega (arith, past, f.far, f.first j)) f

    -- ---- the tributary that is due first

    module _ (least : ℕ) (list : List Due) (xs ys : List C) (o p : Outputs) (u v : W) (f : Merges stands saw ms tribs cell end bits least list xs ys o p u v) (count : length list ≡ tribs)
        (i : ℕ) (known : i < tribs) (yet : due_place end list i < end) (least_is : (j : ℕ) → j < tribs → due_place end list i ≤ due_place end list j) where
      abbrev at : ℕ
      at = f.at

      abbrev place : ℕ
      place = due_place end list i

      abbrev given : ℕ
      given = (due_at end list i).given

      abbrev due : ℕ → ℕ
      due = due_place end list

      abbrev bit : Bool
      bit = get_or (bits i) given false

      beyond : (j : ℕ) → tribs ≤ j → due j ≡ end
      beyond j more = ap (λ (d : Due). d.place) (get_or-eq_default list (nowhere end) (omega (arith, more, count)))

      few : (j : ℕ) → j < tribs → due j < end → (due_at end list j).given < length (bits j)
      few j lt less = elim (cases_lt (due_at end list j).given (length (bits j))) [
        | inl h ↦ h
        | inr h ↦ (let placed = f.stand j lt in let last : due j ≡ end = placed.last (omega (arith, h, placed.few)) in absurd (omega (arith, last, less)))
      ]

      pub bit_there : given < length (bits i)
      bit_there = few i known yet

      own : place % tribs ≡ i
      own = ((f.stand i known).here bit_there).1

      here : cell place ≡ Some bit
      here = ((f.stand i known).here bit_there).2

      after_all : (j : ℕ) → place ≤ due j
      after_all j = elim (cases_lt j tribs) [
        | inl lt ↦ least_is j lt
        | inr more ↦ omega (arith, beyond j more, yet)
      ]

      alone : (j : ℕ) → due j ≡ place → j ≡ i
      alone j e = elim (cases_lt j tribs) [
        | inl lt ↦ sym ((f.stand j lt).here (few j lt (omega (arith, e, yet)))).1 ∙ ap (λ n. n % tribs) e ∙ own
        | inr more ↦ absurd (omega (arith, beyond j more, e, yet))
      ]

      behind : (j : ℕ) → (j ≡ i → ⊥) → place + 1 ≤ due j
      behind j ne = elim (cases_eq (due j) place) [
        | inl e ↦ absurd (ne (alone j e))
        | inr ne' ↦ omega (arith, ne', after_all j)
      ]

      abbrev quiets : List Act
      quiets = places_acts tribs cell at (place - at)

      abbrev later : ℕ → List Bool
      later j = cond (j == i) [] (ahead_of tribs cell (place + 1) due j)

      front : (j : ℕ) → ahead_of tribs cell at due j ≡ bits_to quiets j ++ later j
      front j = due_front tribs cell at place i bit due j (f.first i) own here (after_all j) (λ e. ap due e) (alone j)

      none_later : later i ≡ []
      none_later = ap (λ b. cond b [] (ahead_of tribs cell (place + 1) due i)) (eq-eqb i i refl)

      acts_are : places_acts tribs cell 0 at ++ (quiets ++ Give i bit ∷ []) ≡ places_acts tribs cell 0 (place + 1)
      acts_are = due_next tribs cell at place i bit (f.first i) own here

      left : places_acts tribs cell 0 end ≡ places_acts tribs cell 0 (place + 1) ++ places_acts tribs cell (place + 1) (end - (place + 1))
      left =
          let all : end ≡ (place + 1) + (end - (place + 1)) = omega (arith, yet) in
          let none : 0 + (place + 1) ≡ place + 1 = omega arith in
          ap (places_acts tribs cell 0) all ∙ places_split tribs cell 0 (place + 1) (end - (place + 1)) ∙ ap (λ p. places_acts tribs cell 0 (place + 1) ++ places_acts tribs cell p (end - (place + 1))) none

      -- what a tributary got by all before a place, and ahead up to its due place
      up_to : (n j : ℕ) → n ≤ due j → bits_to (places_acts tribs cell 0 n) j ++ ahead_of tribs cell n due j ≡ bits_to (places_acts tribs cell 0 (due j)) j
      up_to n j le = sym (place_prefix tribs cell n (due j) j le)

      prefix_of : (n j : ℕ) (got : List Bool) → n ≤ end → got ≡ bits_to (places_acts tribs cell 0 n) j → IsPrefix got (bits_to (places_acts tribs cell 0 end) j)
      prefix_of n j got le e = (bits_to (places_acts tribs cell n (end - n)) j, place_prefix tribs cell n end j le ∙ ap (λ v. v ++ bits_to (places_acts tribs cell n (end - n)) j) (sym e))

      -- its bit failed
      pub push_part : (q : Outputs) (w : W) → PlaysPart stands saw ms (Give i bit ∷ []) ys p q v w → PlaysPart stands saw ms (places_acts tribs cell 0 end) xs o q u w
      push_part q w g =
          ahead_part_push stands saw joins ms sound (places_acts tribs cell 0 at) quiets (places_acts tribs cell (place + 1) (end - (place + 1))) (places_acts tribs cell 0 end) i bit (ahead_of tribs cell at due) later xs ys o p q u v w
          (places_give tribs cell at (place - at)) front none_later (left ∙ ap (λ a. a ++ places_acts tribs cell (place + 1) (end - (place + 1))) (sym acts_are)) prefix f.ahead g
        where
          prefix : (j : ℕ) → IsPrefix (got_ahead (places_acts tribs cell 0 at) (ahead_of tribs cell at due) j ++ bits_to (Give i bit ∷ []) j) (bits_to (places_acts tribs cell 0 end) j)
          prefix j = elim (cases_eq j i) [
            | inl e ↦
                let P : ℕ → Type 0 = λ j. IsPrefix (got_ahead (places_acts tribs cell 0 at) (ahead_of tribs cell at due) j ++ bits_to (Give i bit ∷ []) j) (bits_to (places_acts tribs cell 0 end) j) in
                subst P (sym e) (prefix_of (place + 1) i _ (omega (arith, yet))
                (ap (λ v. v ++ bits_to (Give i bit ∷ []) i) (up_to at i (f.first i)) ∙ sym (place_more i)))
            | inr ne ↦
                let none : bits_to (Give i bit ∷ []) j ≡ [] = append-nil (only i bit j) ∙ for_other i j (bit ∷ []) ne in
                prefix_of (due j) j _ (f.most j) (ap (λ v. got_ahead (places_acts tribs cell 0 at) (ahead_of tribs cell at due) j ++ v) none ∙ append-nil (got_ahead (places_acts tribs cell 0 at) (ahead_of tribs cell at due) j) ∙ up_to at j (f.first j))
          ]
            where
              place_more : (j : ℕ) → bits_to (places_acts tribs cell 0 (place + 1)) j ≡ bits_to (places_acts tribs cell 0 place) j ++ bits_to (Give i bit ∷ []) j
              place_more j =
                  let none : 0 + place ≡ place = omega arith in
                  ap (λ a. bits_to a j) (places_split tribs cell 0 place 1) ∙ bits_to-append (places_acts tribs cell 0 place) (places_acts tribs cell (0 + place) 1) j
                  ∙ ap (λ p. bits_to (places_acts tribs cell 0 place) j ++ bits_to (places_acts tribs cell p 1) j) none
                  ∙ ap (λ a. bits_to (places_acts tribs cell 0 place) j ++ bits_to a j) (one_place tribs cell place ∙ ap (λ c. cell_acts (place % tribs) c) here ∙ ap (λ k. Give k bit ∷ []) own)

      module _ (zs : List C) (q : Outputs) (w : W) (g : Plays stands saw ms (Give i bit ∷ []) ys zs p q v w) where
        pushed : PlaysAhead stands saw ms (places_acts tribs cell 0 (place + 1)) later xs zs o q u w
        pushed =
            let P : List Act → Type 0 = λ a. PlaysAhead stands saw ms a later xs zs o q u w in
            subst P acts_are (ahead_push stands saw joins ms (places_acts tribs cell 0 at) quiets i bit (ahead_of tribs cell at due) later xs ys zs o p q u v w (places_give tribs cell at (place - at)) front none_later f.ahead g)

        -- it got that bit, and then a glide failed
        pub glide_part : (r : Outputs) → GivesPart stands ms (for_leaf i (drop (given + 1) (bits i))) zs q r → PlaysPart stands saw ms (places_acts tribs cell 0 end) xs o r u w
        glide_part r h =
            ahead_part_more stands saw joins ms sound (places_acts tribs cell 0 (place + 1)) (places_acts tribs cell (place + 1) (end - (place + 1))) (places_acts tribs cell 0 end) i (drop (given + 1) (bits i)) later xs zs o q r u w left prefix pushed h
          where
            prefix : (j : ℕ) → IsPrefix (got_ahead (places_acts tribs cell 0 (place + 1)) later j ++ for_leaf i (drop (given + 1) (bits i)) j) (bits_to (places_acts tribs cell 0 end) j)
            prefix j = elim (cases_eq j i) [
              | inl e ↦
                  let P : ℕ → Type 0 = λ j. IsPrefix (got_ahead (places_acts tribs cell 0 (place + 1)) later j ++ for_leaf i (drop (given + 1) (bits i)) j) (bits_to (places_acts tribs cell 0 end) j) in
                  subst P (sym e) (prefix_of end i _ (omega arith)
                  (ap (λ v. (bits_to (places_acts tribs cell 0 (place + 1)) i ++ v) ++ for_leaf i (drop (given + 1) (bits i)) i) none_later ∙ ap (λ v. v ++ for_leaf i (drop (given + 1) (bits i)) i) (append-nil (bits_to (places_acts tribs cell 0 (place + 1)) i))
                  ∙ ap (λ v. v ++ for_leaf i (drop (given + 1) (bits i)) i) (given_here tribs cell end i (bits i) given place (f.stand i known) bit_there) ∙ ap (λ v. take (given + 1) (bits i) ++ v) (for_here i (drop (given + 1) (bits i)))
                  ∙ take-append-drop (given + 1) (bits i) ∙ all i known))
              | inr ne ↦
                  let got : List Bool = got_ahead (places_acts tribs cell 0 (place + 1)) later j in
                  let past : place + 1 ≤ due j = behind j ne in
                  prefix_of (due j) j _ (f.most j) (ap (λ v. got ++ v) (for_other i j (drop (given + 1) (bits i)) ne) ∙ append-nil got ∙ ap (λ b. bits_to (places_acts tribs cell 0 (place + 1)) j ++ cond b [] (ahead_of tribs cell (place + 1) due j)) (ne_eqb j i ne) ∙ up_to (place + 1) j past)
            ]

        -- and it got those that bring nothing
        pub merges_more : (zs' : List C) (r : Outputs) (n : ℕ) (now : Due) (list' : List Due) → list' ≡ set list i now → now.given ≡ (given + 1) + n → StandsAt tribs cell end i (bits i) now.given now.place
            → Gives stands ms (for_leaf i (take n (drop (given + 1) (bits i)))) zs zs' q r
            → ((lines : ℕ → List Bool) → EachStands stands zs lines → IsQuiet (child_notes ms i) (lines i) (take n (drop (given + 1) (bits i))))
            → Merges stands saw ms tribs cell end bits (least + 1) list' xs zs' o r u w
        merges_more zs' r n now list' is given_is placed h quiet = record {
          at = place + 1;
          far = omega (arith, f.far, f.first i);
          within = omega (arith, yet);
          stand = λ j lt. elim (cases_eq j i) [
            | inl e ↦
                let P : ℕ → Type 0 = λ j. StandsAt tribs cell end j (bits j) (due_at end list' j).given (due_place end list' j) in
                let Q : Due → Type 0 = λ d. StandsAt tribs cell end i (bits i) d.given d.place in
                subst P (sym e) (subst Q (sym mine) placed)
            | inr ne ↦ let Q : Due → Type 0 = λ d. StandsAt tribs cell end j (bits j) d.given d.place in subst Q (sym (others j ne)) (f.stand j lt)
          ];
          first = λ j. elim (cases_eq j i) [
            | inl e ↦ omega (arith, ap (due_place end list') e, place_is, later_place)
            | inr ne ↦ omega (arith, ap (λ (d : Due). d.place) (others j ne), behind j ne)
          ];
          most = λ j. elim (cases_eq j i) [
            | inl e ↦ omega (arith, ap (due_place end list') e, place_is, placed.within)
            | inr ne ↦ omega (arith, ap (λ (d : Due). d.place) (others j ne), f.most j)
          ];
          ahead = ahead_same stands saw joins ms (places_acts tribs cell 0 (place + 1)) (with_more later (for_leaf i (take n (drop (given + 1) (bits i))))) (ahead_of tribs cell (place + 1) (due_place end list')) xs zs' o r u w same
              (ahead_more stands saw joins ms (places_acts tribs cell 0 (place + 1)) later i (take n (drop (given + 1) (bits i))) xs zs zs' o q r u w pushed h quiet);
        }
          where
            mine : due_at end list' i ≡ now
            mine = ap (λ l. get_or l i (nowhere end)) is ∙ get_or-set_same list i now (nowhere end) (omega (arith, known, count))

            place_is : due_place end list' i ≡ now.place
            place_is = ap (λ (d : Due). d.place) mine

            others : (j : ℕ) → (j ≡ i → ⊥) → due_at end list' j ≡ due_at end list j
            others j ne = ap (λ l. get_or l j (nowhere end)) is ∙ get_or-set_other list i j now (nowhere end) ne

            stands' : StandsAt tribs cell end i (bits i) ((given + 1) + n) now.place
            stands' = let Q : ℕ → Type 0 = λ k. StandsAt tribs cell end i (bits i) k now.place in subst Q given_is placed

            later_place : place + 1 ≤ now.place
            later_place = (let lt : place < now.place = stands_later tribs cell end i (bits i) given place ((given + 1) + n) now.place (f.stand i known) stands' (omega arith) in omega (arith, lt))

            same : (j : ℕ) → ahead_of tribs cell (place + 1) (due_place end list') j ≡ with_more later (for_leaf i (take n (drop (given + 1) (bits i)))) j
            same j = elim (cases_eq j i) [
              | inl e ↦
                  let P : ℕ → Type 0 = λ j. ahead_of tribs cell (place + 1) (due_place end list') j ≡ with_more later (for_leaf i (take n (drop (given + 1) (bits i)))) j in
                  subst P (sym e) (ap (λ m. bits_to (places_acts tribs cell (place + 1) (m - (place + 1))) i) place_is ∙ given_behind tribs cell end i (bits i) given place n now.place (f.stand i known) bit_there stands'
                  ∙ sym (ap (λ v. v ++ for_leaf i (take n (drop (given + 1) (bits i))) i) none_later ∙ for_here i (take n (drop (given + 1) (bits i)))))
              | inr ne ↦
                  ap (λ m. bits_to (places_acts tribs cell (place + 1) (m - (place + 1))) j) (ap (λ (d : Due). d.place) (others j ne))
                  ∙ sym (ap (λ v. later j ++ v) (for_other i j (take n (drop (given + 1) (bits i))) ne) ∙ append-nil (later j) ∙ ap (λ b. cond b [] (ahead_of tribs cell (place + 1) due j)) (ne_eqb j i ne))
            ]
