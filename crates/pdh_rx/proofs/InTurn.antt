-- What is loaded, given in turn: what the laws of due places say of it.
use Rattle.std.proofs.Common.{◌≡◌, inl, inr, ℕ, ◌+◌, ◌<◌, ◌≤◌, Bool, false, List, [], ◌∷◌, length, drop, get_or, sym, ap, ◌∙◌, subst, arith}
use Rattle.std.proofs.lemmas.Bool.{cases_lt}
use Rattle.std.proofs.lemmas.List.{get_or_default}
use Rattle.std.proofs.Math.ListN.{get_or-eq_default}
use Rattle.pdh_shape.specs.Frame.{FrameShape}
use Rattle.pdh_shape.specs.Payload.{PayloadInTurn}
use Rattle.pdh_shape.specs.Tributary.{HasTributaries}
use Rattle.pdh_watch.specs.declared.event.Event.{Event}
use Rattle.pdh_edge.specs.Ports.{Outputs, for_leaf}
use Rattle.pdh_events.specs.Acts.Act.{Give}
use Rattle.pdh_rx.specs.declared.merging.Due.{Due}
use Rattle.pdh_rx.specs.Meaning.{Meaning}
use Rattle.pdh_rx.specs.Node.{GivesPart, Plays, PlaysPart}
use Rattle.pdh_rx.specs.Places.{places_acts, loaded_cell, loaded_places, loaded_bits, loaded_acts}
use Rattle.pdh_rx.specs.Merging.{nowhere, due_at, due_place, GoesOn}
use Rattle.pdh_rx.specs.laws.NodeLaws.{AllSound}
use Rattle.pdh_rx.proofs.Playing.{SawJoins, plays_same, part_same}
use Rattle.pdh_rx.proofs.Standing.{loaded_all, loaded_acts_are}
use Rattle.pdh_rx.proofs.DueLaws.{Merges, AreAll, merges_all, merges_end, merges_more, bit_there, push_part, glide_part}

-- so far
abbrev pub MergesLoaded : {C W : Type 0} → (C → List Bool → Type 0) → (W → List Event → W → Type 0) → List Meaning → FrameShape → Bool → List Bool → ℕ → List Due → List C → List C → Outputs → Outputs → W → W → Type 0
MergesLoaded stands saw ms s gap frame = Merges stands saw ms s.tribs (loaded_cell s gap frame) (loaded_places s gap) (loaded_bits s gap frame)

module _ {C W : Type 0} {stands : C → List Bool → Type 0} {saw : W → List Event → W → Type 0} {ms : List Meaning} {s : FrameShape} (gap : Bool) (frame : List Bool) (joins : SawJoins saw) (sound : AllSound ms) (turns : PayloadInTurn s) (has : HasTributaries s)
    {least : ℕ} {list : List Due} {xs ys : List C} {o p : Outputs} {u v : W} (merges : MergesLoaded stands saw ms s gap frame least list xs ys o p u v) {last : ℕ} (last_is : last ≡ loaded_places s gap) where
  abbrev end : ℕ
  end = loaded_places s gap

  all : AreAll s.tribs (loaded_cell s gap frame) end (loaded_bits s gap frame)
  all j lt = loaded_all s gap frame j turns has lt

  part : {q : Outputs} {w : W} → PlaysPart stands saw ms (places_acts s.tribs (loaded_cell s gap frame) 0 end) xs o q u w → PlaysPart stands saw ms (loaded_acts s gap frame) xs o q u w
  part f = part_same stands saw ms _ _ _ _ _ _ _ (loaded_acts_are s gap frame turns) f

  -- none is due
  pub none_due : ((j : ℕ) (d : Due) → j < length list → last ≤ (get_or list j d).place) → Plays stands saw ms (loaded_acts s gap frame) xs ys o p u v
  none_due none = plays_same stands saw ms _ _ _ _ _ _ _ _ (loaded_acts_are s gap frame turns) (merges_all stands saw joins ms _ _ end _ sound all least list xs ys o p u v done merges)
    where
      done : (j : ℕ) → end ≤ due_place end list j
      done j = elim (cases_lt j (length list)) [
        | inl less ↦ omega (arith, none j (nowhere end) less, last_is)
        | inr more ↦ omega (arith, ap (λ (d : Due). d.place) (get_or-eq_default list (nowhere end) more))
      ]

  -- all places are past
  pub past_end : last ≤ least → Plays stands saw ms (loaded_acts s gap frame) xs ys o p u v
  past_end past = plays_same stands saw ms _ _ _ _ _ _ _ _ (loaded_acts_are s gap frame turns) (merges_end stands saw joins ms _ _ end _ sound all least list xs ys o p u v (omega (arith, past, last_is)) merges)

  -- a tributary is due first
  module _ (count : length list ≡ s.tribs) {i : ℕ} (inside : i < length list) (before : (d : Due) → (get_or list i d).place < last)
      (first : (d : Due) (j : ℕ) → j < length list → (get_or list i d).place ≤ (get_or list j d).place) {bits : List Bool} (own : bits ≡ loaded_bits s gap frame i) where
    abbrev given : ℕ
    given = (get_or list i (nowhere 0)).given

    known : i < s.tribs
    known = omega (arith, inside, count)

    yet : due_place end list i < end
    yet = omega (arith, before (nowhere end), last_is)

    leads : (j : ℕ) → j < s.tribs → due_place end list i ≤ due_place end list j
    leads j lt = first (nowhere end) j (omega (arith, lt, count))

    given_is : given ≡ (due_at end list i).given
    given_is = ap (λ (d : Due). d.given) (get_or_default list i (nowhere 0) (nowhere end) inside)

    pub still_more : given < length bits
    still_more = (let there = bit_there stands saw joins ms _ _ end _ sound all least list xs ys o p u v merges count i known yet leads in omega (arith, there, given_is, ap length own))

    module _ {bit : Bool} (bit_is : bit ≡ get_or bits given false) where
      acts : Give i (get_or (loaded_bits s gap frame i) (due_at end list i).given false) ∷ [] ≡ Give i bit ∷ []
      acts = ap (λ b. Give i b ∷ []) (sym (bit_is ∙ ap (λ l. get_or l given false) own ∙ ap (λ k. get_or (loaded_bits s gap frame i) k false) given_is))

      -- its bit failed
      pub push_fails : {q : Outputs} {w : W} → PlaysPart stands saw ms (Give i bit ∷ []) ys p q v w → PlaysPart stands saw ms (loaded_acts s gap frame) xs o q u w
      push_fails f = part (push_part stands saw joins ms _ _ end _ sound all least list xs ys o p u v merges count i known yet leads _ _ (part_same stands saw ms _ _ _ _ _ _ _ acts f))

      module _ {zs : List C} {q : Outputs} {w : W} (played : Plays stands saw ms (Give i bit ∷ []) ys zs p q v w) where
        -- it got that bit, and then a glide failed
        pub glide_fails : {r : Outputs} → GivesPart stands ms (for_leaf i (drop (given + 1) bits)) zs q r → PlaysPart stands saw ms (loaded_acts s gap frame) xs o r u w
        glide_fails {r = r} f =
            let P : List Bool → Type 0 = λ l. GivesPart stands ms (for_leaf i (drop (given + 1) l)) zs q r in
            let Q : ℕ → Type 0 = λ k. GivesPart stands ms (for_leaf i (drop (k + 1) (loaded_bits s gap frame i))) zs q r in
            part (glide_part stands saw joins ms _ _ end _ sound all least list xs ys o p u v merges count i known yet leads zs q w (plays_same stands saw ms _ _ _ _ _ _ _ _ acts played) r (subst Q given_is (subst P own f)))

        -- and it got those that bring nothing
        pub goes_on : {zs' : List C} {r : Outputs} {list' : List Due} → GoesOn stands ms s gap frame i (given + 1) list list' zs zs' q r → MergesLoaded stands saw ms s gap frame (least + 1) list' xs zs' o r u w
        goes_on {zs' = zs'} {r = r} {list' = list'} f =
            let N : ℕ → Type 0 = λ k. GoesOn stands ms s gap frame i (k + 1) list list' zs zs' q r in
            let on = subst N given_is f in
            merges_more stands saw joins ms _ _ end _ sound all least list xs ys o p u v merges count i known yet leads zs q w (plays_same stands saw ms _ _ _ _ _ _ _ _ acts played) zs' r on.more on.due list' on.list_is on.given_is on.placed on.gives on.quiet

-- a tributary that goes on, told in another way
pub goes_same : {C : Type 0} {stands : C → List Bool → Type 0} {ms ms' : List Meaning} {s : FrameShape} {gap gap' : Bool} {frame frame' : List Bool} {j from : ℕ} {list list' : List Due} {xs ys : List C} {o p : Outputs}
    → ms' ≡ ms → gap' ≡ gap → frame' ≡ frame → GoesOn stands ms' s gap' frame' j from list list' xs ys o p → GoesOn stands ms s gap frame j from list list' xs ys o p
goes_same {stands = stands} {ms = ms} {s = s} {gap = gap} {gap' = gap'} {frame' = frame'} {j = j} {from = from} {list = list} {list' = list'} {xs = xs} {ys = ys} {o = o} {p = p} em eg ef on =
    let M : List Meaning → Type 0 = λ m. GoesOn stands m s gap' frame' j from list list' xs ys o p in
    let G : Bool → Type 0 = λ g. GoesOn stands ms s g frame' j from list list' xs ys o p in
    let F : List Bool → Type 0 = λ f. GoesOn stands ms s gap f j from list list' xs ys o p in
    subst F ef (subst G eg (subst M em on))
