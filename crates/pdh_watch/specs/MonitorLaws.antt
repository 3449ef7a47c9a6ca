-- What monitors saw joins.
use Rattle.std.specs.Prelude.{ℕ, List, [], ◌∷◌, ◌++◌, fold, refl}
use Rattle.std.proofs.Common.{sym, ◌∙◌, ap}
use Rattle.std.proofs.lemmas.List.Sums.{fold-append}
use Rattle.pdh_watch.specs.declared.event.Event.{Event}
use Rattle.pdh_watch.specs.Monitors.{State, Saw, SawEach, SawAll, count_with, hits_with, first_with, alarms_with}

saw_none : (s : State) → Saw s [] s
saw_none s = record { form_is = refl; wants_is = refl; hits_are = refl; first_is = λ e. refl; alarms_are = λ e. refl }

saw_joined : (a b c : State) (xs ys : List Event) → Saw a xs b → Saw b ys c → Saw a (xs ++ ys) c
saw_joined a b c xs ys f g = record {
  form_is = g.form_is ∙ f.form_is;
  wants_is = g.wants_is ∙ f.wants_is;
  hits_are = g.hits_are ∙ ap (λ w. fold (hits_with w) b.hits ys) f.wants_is ∙ ap (λ n. fold (hits_with a.wants) n ys) f.hits_are ∙ sym (fold-append (hits_with a.wants) a.hits xs ys);
  first_is = λ e. g.first_is (f.form_is ∙ e) ∙ ap (λ w. fold (first_with w) b.first ys) f.wants_is ∙ ap (λ n. fold (first_with a.wants) n ys) (f.first_is e) ∙ sym (fold-append (first_with a.wants) a.first xs ys);
  alarms_are = λ e. g.alarms_are (f.form_is ∙ e) ∙ ap (λ n. fold alarms_with n ys) (f.alarms_are e) ∙ sym (fold-append alarms_with a.alarms xs ys);
}

each_none : (states : List State) → SawEach states [] states
each_none [] = tt
each_none (s ∷ states) = (saw_none s, each_none states)

each_joined : (olds mids news : List State) (xs ys : List Event) → SawEach olds xs mids → SawEach mids ys news → SawEach olds (xs ++ ys) news
each_joined [] [] [] xs ys f g = tt
each_joined (a ∷ olds) (b ∷ mids) (c ∷ news) xs ys f g = (saw_joined a b c xs ys f.0 g.0, each_joined olds mids news xs ys f.1 g.1)
each_joined [] [] (c ∷ news) xs ys f g = g
each_joined [] (b ∷ mids) news xs ys f g = absurd f
each_joined (a ∷ olds) [] news xs ys f g = absurd f
each_joined (a ∷ olds) (b ∷ mids) [] xs ys f g = g

pub all_none : (states : List State) (count : ℕ) → SawAll states count [] states count
all_none states count = record { each = each_none states; count_is = refl }

pub all_joined : (olds mids news : List State) (a b c : ℕ) (xs ys : List Event) → SawAll olds a xs mids b → SawAll mids b ys news c → SawAll olds a (xs ++ ys) news c
all_joined olds mids news a b c xs ys f g = record {
  each = each_joined olds mids news xs ys f.each g.each;
  count_is = g.count_is ∙ ap (λ n. fold count_with n ys) f.count_is ∙ sym (fold-append count_with a xs ys);
}
