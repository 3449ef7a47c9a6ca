-- What bits bring one after another; bits that bring nothing, and acts that bring nothing by them.
use Rattle.std.proofs.Common.{◌≡◌, ℕ, Bool, true, cond, List, [], ◌∷◌, ◌++◌, refl, sym, ap, ◌∙◌, subst, append_assoc}
use Rattle.std.proofs.lemmas.List.{append-nil}
use Rattle.std.proofs.lemmas.Bool.{eq-eqb}
use Rattle.pdh_watch.specs.declared.event.Event.{Event}
use Rattle.pdh_edge.specs.Ports.{only}
use Rattle.pdh_events.specs.Telling.{ais_kinds}
use Rattle.pdh_events.specs.Chain.{bits_events}
use Rattle.pdh_events.specs.Acts.{Act, with_more, acts_events}
use Rattle.pdh_events.specs.Acts.Act.{Note, Give}
use Rattle.pdh_events.specs.laws.ActsLaws.{bits_to}

-- each of these bits brings nothing, after those before it
abbrev pub IsQuiet : (List Bool → Bool → List Event) → List Bool → List Bool → Type 0
IsQuiet notes line [] = Unit {0}
IsQuiet notes line (bit ∷ bits) = (notes line bit ≡ []) × IsQuiet notes (line ++ bit ∷ []) bits

-- bits that come after others
pub events_join : (notes : List Bool → Bool → List Event) (line a b : List Bool) → bits_events notes line (a ++ b) ≡ bits_events notes line a ++ bits_events notes (line ++ a) b
events_join notes line [] b = ap (λ l. bits_events notes l b) (sym (append-nil line))
events_join notes line (bit ∷ a) b =
    ap (λ v. notes line bit ++ v) (events_join notes (line ++ bit ∷ []) a b ∙ ap (λ l. bits_events notes (line ++ bit ∷ []) a ++ bits_events notes l b) (append_assoc line (bit ∷ []) a))
    ∙ sym (append_assoc (notes line bit) (bits_events notes (line ++ bit ∷ []) a) (bits_events notes (line ++ (bit ∷ a)) b))

-- quiet bits bring no event
pub quiet_events : (notes : List Bool → Bool → List Event) (line bits : List Bool) → IsQuiet notes line bits → bits_events notes line bits ≡ []
quiet_events notes line [] quiet = refl
quiet_events notes line (bit ∷ bits) quiet = ap (λ v. v ++ bits_events notes (line ++ bit ∷ []) bits) quiet.0 ∙ quiet_events notes (line ++ bit ∷ []) bits quiet.1

pub one_event : (notes : List Bool → Bool → List Event) (line : List Bool) (bit : Bool) → bits_events notes line (bit ∷ []) ≡ notes line bit
one_event notes line bit = append-nil (notes line bit)

pub quiet_front : (notes : List Bool → Bool → List Event) (a b line : List Bool) → IsQuiet notes line (a ++ b) → IsQuiet notes line a
quiet_front notes [] b line q = tt
quiet_front notes (bit ∷ a) b line q = (q.0, quiet_front notes a b (line ++ bit ∷ []) q.1)

pub quiet_rest : (notes : List Bool → Bool → List Event) (a b line : List Bool) → IsQuiet notes line (a ++ b) → IsQuiet notes (line ++ a) b
quiet_rest notes [] b line q = let P : List Bool → Type 0 = λ v. IsQuiet notes v b in subst P (sym (append-nil line)) q
quiet_rest notes (bit ∷ a) b line q = let P : List Bool → Type 0 = λ v. IsQuiet notes v b in subst P (append_assoc line (bit ∷ []) a) (quiet_rest notes a b (line ++ bit ∷ []) q.1)

pub quiet_join : (notes : List Bool → Bool → List Event) (a b line : List Bool) → IsQuiet notes line a → IsQuiet notes (line ++ a) b → IsQuiet notes line (a ++ b)
quiet_join notes [] b line p q = let P : List Bool → Type 0 = λ v. IsQuiet notes v b in subst P (append-nil line) q
quiet_join notes (bit ∷ a) b line p q =
    let P : List Bool → Type 0 = λ v. IsQuiet notes v b in
    (p.0, quiet_join notes a b (line ++ bit ∷ []) p.1 (subst P (sym (append_assoc line (bit ∷ []) a)) q))

-- none of these bits shows AIS begin or end, after those before it
abbrev pub IsCalm : ℕ → List Bool → List Bool → Type 0
IsCalm long line [] = Unit {0}
IsCalm long line (bit ∷ bits) = (ais_kinds long line bit ≡ []) × IsCalm long (line ++ bit ∷ []) bits

abbrev pub AreOnes : List Bool → Type 0
AreOnes [] = Unit {0}
AreOnes (bit ∷ bits) = (bit ≡ true) × AreOnes bits

-- they give alone, and note nothing
abbrev pub OnlyGive : List Act → Type 0
OnlyGive [] = Unit {0}
OnlyGive (Note event ∷ acts) = ⊥
OnlyGive (Give j bit ∷ acts) = OnlyGive acts

only_here : (i : ℕ) (bit : Bool) → only i bit i ≡ bit ∷ []
only_here i bit = ap (λ b. cond b (bit ∷ []) []) (eq-eqb i i refl)

-- the law: acts by which each tributary gets bits that bring nothing bring nothing, in whatever order they come
pub quiet_acts : (below : ℕ → List Bool → Bool → List Event) (acts : List Act) (lines : ℕ → List Bool) → OnlyGive acts → ((j : ℕ) → IsQuiet (below j) (lines j) (bits_to acts j)) → acts_events below lines acts ≡ []
quiet_acts below [] lines gives quiet = refl
quiet_acts below (Note event ∷ acts) lines gives quiet = absurd gives
quiet_acts below (Give i bit ∷ acts) lines gives quiet =
    let P : List Bool → Type 0 = λ v. IsQuiet (below i) (lines i) (v ++ bits_to acts i) in
    let here : IsQuiet (below i) (lines i) (bit ∷ bits_to acts i) = subst P (only_here i bit) (quiet i) in
    ap (λ v. v ++ acts_events below (with_more lines (only i bit)) acts) here.0
    ∙ quiet_acts below acts (with_more lines (only i bit)) gives (λ j. quiet_rest (below j) (only i bit j) (bits_to acts j) (lines j) (quiet j))
