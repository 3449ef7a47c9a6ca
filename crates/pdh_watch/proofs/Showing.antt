-- An event is shown to one monitor after another.
use Rattle.std.proofs.Common.{◌≡◌, ℕ, zero, suc, ◌+◌, ◌≤◌, List, [], ◌∷◌, length, map, Some, refl, sym, ◌∙◌, subst, arith, add-one, slice_get, slice_set}
use Rattle.std.proofs.lemmas.List.{map-set, length-map}
use Rattle.std.proofs.lemmas.Option.{slice_get-map}
use Rattle.pdh_watch.specs.declared.event.Event.{Event}
use Rattle.pdh_watch.specs.Monitors.{State, Saw, SawEach}

-- the first n of some monitors saw these events, and the others are as before
abbrev pub SawFirst : ℕ → List State → List Event → List State → Type 0
SawFirst zero olds events news = news ≡ olds
SawFirst (suc n) [] events [] = Unit {0}
SawFirst (suc n) (old ∷ olds) events (new ∷ news) = Saw old events new × SawFirst n olds events news
SawFirst (suc n) _ events _ = ⊥

-- the next one
pub one_more_saw : (n : ℕ) (olds news : List State) (events : List Event) (s s' : State) → SawFirst n olds events news → slice_get news n ≡ Some s → Saw s events s' → SawFirst (suc n) olds events (slice_set news n s')
one_more_saw zero [] [] events s s' f e g = absurd (no e)
  where
    no : slice_get {X = State} [] zero ≡ Some s → ⊥
    no h = cc
one_more_saw zero [] (x ∷ xs) events s s' f e g = cc
one_more_saw zero (o ∷ os) [] events s s' f e g = cc
one_more_saw zero (o ∷ os) (x ∷ xs) events s s' f e g =
    let here : s ≡ o = cc in
    let others : xs ≡ os = cc in
    let P : State → Type 0 = λ v. Saw v events s' in
    (subst P here g, others)
one_more_saw (suc n) [] [] events s s' f e g = tt
one_more_saw (suc n) [] (x ∷ xs) events s s' f e g = absurd f
one_more_saw (suc n) (o ∷ os) [] events s s' f e g = absurd f
one_more_saw (suc n) (o ∷ os) (x ∷ xs) events s s' f e g = (f.0, one_more_saw n os xs events s s' f.1 e g)

-- all of them
pub all_saw : (n : ℕ) (olds news : List State) (events : List Event) → SawFirst n olds events news → length olds ≤ n → SawEach olds events news
all_saw zero [] [] events f h = tt
all_saw zero [] (x ∷ xs) events f h = cc
all_saw zero (o ∷ os) news events f h = absurd (omega arith)
all_saw (suc n) [] [] events f h = tt
all_saw (suc n) [] (x ∷ xs) events f h = f
all_saw (suc n) (o ∷ os) [] events f h = f
all_saw (suc n) (o ∷ os) (x ∷ xs) events f h = (f.0, all_saw n os xs events f.1 (omega arith))

-- no event was shown yet
pub none_saw : {A : Type 0} (state : A → State) (items : List A) (events : List Event) → SawFirst 0 (map state items) events (map state items)
none_saw state items events = refl

-- one more monitor among things that stand for states
pub shown : {A : Type 0} (state : A → State) (items olds : List A) (i : ℕ) (m m' : A) (events : List Event) → SawFirst i (map state olds) events (map state items) → slice_get items i ≡ Some m → Saw (state m) events (state m')
    → SawFirst (i + 1) (map state olds) events (map state (slice_set items i m'))
shown state items olds i m m' events f at g =
    let there : slice_get (map state items) i ≡ Some (state m) = slice_get-map state items i ∙ rw at refl in
    let next : SawFirst (suc i) (map state olds) events (slice_set (map state items) i (state m')) = one_more_saw i (map state olds) (map state items) events (state m) (state m') f there g in
    let P : List State → Type 0 = SawFirst (suc i) (map state olds) events in
    let Q : ℕ → Type 0 = λ n. SawFirst n (map state olds) events (map state (slice_set items i m')) in
    subst Q (sym (add-one i)) (subst P (sym (map-set state items i m')) next)

pub all_shown : {A : Type 0} (state : A → State) (items olds : List A) (i : ℕ) (events : List Event) → SawFirst i (map state olds) events (map state items) → length olds ≤ i → SawEach (map state olds) events (map state items)
all_shown state items olds i events f h = let long : length (map state olds) ≡ length olds = length-map olds state in all_saw i (map state olds) (map state items) events f (omega (arith, long, h))
