-- Calls that give the children bits, one after another: what they keep, and that more can follow.
use Rattle.std.proofs.Common.{◌≡◌, ℕ, Bool, List, refl, sym, ◌∙◌, ap, Result, Ok, Err}
use Rattle.pdh_edge.specs.Ports.{Outputs}
use Rattle.pdh_edge.proofs.Runs.{cause_since}
use Rattle.pdh_rx.specs.Meaning.{Meaning}
use Rattle.pdh_events.specs.Acts.{with_more}
use Rattle.pdh_rx.specs.Node.{any_leaf, AreReady, Keeps, Gives}

-- what calls kept of which none failed
abbrev pub KeepsYet : {C D : Type 0} (meaning : C → Meaning) (faults : D → ℕ) (drained : D → D → Type 0) (old new : List C) (before after : D) → Type 0
KeepsYet meaning faults drained old new before after = Keeps {T = Unit {0}} {E = Unit {0}} meaning faults drained old new before after (Ok tt)

module _ {C D : Type 0} (meaning : C → Meaning) (faults : D → ℕ) (drained : D → D → Type 0) where
  -- no call
  pub keeps_nothing : {E : Type 0} (cs : List C) (d : D) → drained d d → Keeps {T = Unit {0}} {E = E} meaning faults drained cs cs d d (Ok tt)
  keeps_nothing cs d none = record { same = refl; drains = none; cause = refl }

  module _ (joins : (a b c : D) → drained a b → drained b c → drained a c) (xs ys zs : List C) (a b c : D) where
    -- one more
    pub keeps_more : {T E : Type 0} (x : T) → KeepsYet meaning faults drained xs ys a b → Keeps {E = E} meaning faults drained ys zs b c (Ok x) → KeepsYet meaning faults drained xs zs a c
    keeps_more x f g = record { same = g.same ∙ f.same; drains = joins a b c f.drains g.drains; cause = g.cause ∙ f.cause }

    -- one more, which failed and ends them
    pub keeps_failed : {T U E : Type 0} (result : Result T E) (e e' : E) → result ≡ Err e → KeepsYet meaning faults drained xs ys a b → Keeps {T = U} meaning faults drained ys zs b c (Err e') → Keeps meaning faults drained xs zs a c result
    keeps_failed result e e' is f g = record { same = g.same ∙ f.same; drains = joins a b c f.drains g.drains; cause = cause_since result e (faults a) (faults b) (faults c) is f.cause g.cause }

-- all were made
pub keeps_all : {C D E : Type 0} (meaning : C → Meaning) (faults : D → ℕ) (drained : D → D → Type 0) (xs ys : List C) (a b : D) → KeepsYet meaning faults drained xs ys a b → Keeps {T = Unit {0}} {E = E} meaning faults drained xs ys a b (Ok tt)
keeps_all meaning faults drained xs ys a b f = record { same = f.same; drains = f.drains; cause = f.cause }

-- the children got bits, and can take more
pub gives_ready : {C D T E : Type 0} {stands : C → List Bool → Type 0} {meaning : C → Meaning} {faults : D → ℕ} {drained : D → D → Type 0} (outputs : D → Outputs) {ms : List Meaning} {more : ℕ → List Bool} {xs ys : List C} {a b : D} {o p : Outputs} {r : Result T E}
    → ((a b : D) → drained a b → (outputs b).holds ≡ (outputs a).holds) → AreReady stands meaning xs (outputs a) → Keeps meaning faults drained xs ys a b r → Gives stands ms more xs ys o p → AreReady stands meaning ys (outputs b)
gives_ready outputs {more = more} {a = a} {b = b} holds ready kept gives = record {
  lines = with_more ready.lines more;
  each = gives.each ready.lines ready.each;
  lists = λ k is. ap (λ h. h k) (holds a b kept.drains) ∙ ready.lists k (ap (λ ms. any_leaf ms k) (sym kept.same) ∙ is);
}
