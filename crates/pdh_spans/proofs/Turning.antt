-- What one turn more makes of the times.
use Rattle.std.proofs.Common.{◌≡◌, ℕ, Some, None, Option, List, [], ◌∷◌, ◌++◌, refl, sym, ap, ◌∙◌, append_assoc}
use Rattle.std.specs.Prelude.{fold}
use Rattle.std.proofs.lemmas.List.{append-nil}
use Rattle.std.proofs.lemmas.List.Sums.{fold_push}
use Rattle.pdh_spans.specs.Times.{Span, Turn, begun_with, ended_by, ended_after, ended, begun_after}
use Rattle.pdh_spans.specs.Times.Turn.{Begins, Ends}

ended-append : (begun : Option ℕ) (xs ys : List Turn) → ended_after begun (xs ++ ys) ≡ ended_after begun xs ++ ended_after (fold begun_with begun xs) ys
ended-append begun [] ys = refl
ended-append begun (x ∷ xs) ys =
    ap (λ (l : List Span). ended_by begun x ++ l) (ended-append (begun_with begun x) xs ys)
    ∙ sym (append_assoc (ended_by begun x) (ended_after (begun_with begun x) xs) (ended_after (fold begun_with (begun_with begun x) xs) ys))

-- the times that have ended with one turn more
pub ended_push : (turns : List Turn) (turn : Turn) → ended (turns ++ turn ∷ []) ≡ ended turns ++ ended_by (begun_after turns) turn
ended_push turns turn =
    ended-append None turns (turn ∷ []) ∙ ap (λ (l : List Span). ended turns ++ l) (append-nil (ended_by (begun_after turns) turn))

-- where the time began that goes on behind it
pub begun_push : (turns : List Turn) (turn : Turn) → begun_after (turns ++ turn ∷ []) ≡ begun_with (begun_after turns) turn
begun_push turns turn = fold_push begun_with None turns turn

-- a state that begins ends nothing
pub ended_begins : (turns : List Turn) (place : ℕ) → ended (turns ++ Begins place ∷ []) ≡ ended turns
ended_begins turns place = ended_push turns (Begins place) ∙ append-nil (ended turns)

-- and one that ends goes on no more
pub begun_ends : (turns : List Turn) (place : ℕ) → begun_after (turns ++ Ends place ∷ []) ≡ None
begun_ends turns place = begun_push turns (Ends place) ∙ none (begun_after turns)
  where
    none : (begun : Option ℕ) → begun_with begun (Ends place) ≡ None
    none None = refl
    none (Some from) = refl
