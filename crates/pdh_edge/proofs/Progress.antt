-- The law of loops that may fail: its start, and a step or an early exit, which are one lemma.
use Rattle.std.proofs.Common.{◌≡◌, ℕ, refl, ap, ◌∙◌, Result, Ok, Err}
use Rattle.pdh_edge.specs.Progress.{Works}

-- nothing is done yet
pub starts : {S C T E : Type 0} {keeps : S → S → Type 0} {count : S → C} {counted : E → C → C} {Whole : S → S → Type 0} {Part : E → S → S → Type 0} {a : S} {done : T} → keeps a a → Whole a a
    → Works keeps count counted Whole Part a a (Ok done)
starts kept whole = record { kept = kept; counts = refl; does = whole }

-- more is done after what was done so far, in whole or in part
pub goes_on : {S C T E : Type 0} {keeps : S → S → Type 0} {count : S → C} {counted : E → C → C} {First Next Both : S → S → Type 0} {Ends Fails Stops : E → S → S → Type 0} {a b c : S} {done : T} (result : Result T E)
    → Works keeps count counted First Ends a b (Ok done) → Works keeps count counted Next Fails b c result
    → (keeps a b → keeps b c → keeps a c) → (First a b → Next b c → Both a c) → ((why : E) → count b ≡ count a → First a b → Fails why b c → Stops why a c)
    → Works keeps count counted Both Stops a c result
goes_on (Ok done) first next join whole part = record {
  kept = join first.kept next.kept;
  counts = next.counts ∙ first.counts;
  does = whole first.does next.does;
}
goes_on {counted = counted} (Err why) first next join whole part = record {
  kept = join first.kept next.kept;
  counts = next.counts ∙ ap (counted why) first.counts;
  does = part why first.counts first.does next.does;
}

-- a failure's part is the same, whatever the whole would be
pub fails : {S C T E : Type 0} {keeps : S → S → Type 0} {count : S → C} {counted : E → C → C} {Some All : S → S → Type 0} {Part : E → S → S → Type 0} {a b : S} {why : E}
    → Works {T = T} keeps count counted Some Part a b (Err why) → Works {T = T} keeps count counted All Part a b (Err why)
fails work = record { kept = work.kept; counts = work.counts; does = work.does }

-- two counts, each as it is said
pub both_counts : {a b c d : ℕ} → a ≡ b → c ≡ d → ◌≡◌ {A = ℕ × ℕ} (a, c) (b, d)
both_counts p q i = (p i, q i)
