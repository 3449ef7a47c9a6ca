-- The run of ones that a line ends with.
use Rattle.std.proofs.Common.{◌≡◌, ℕ, suc, Bool, true, false, List, [], ◌∷◌, ◌++◌, refl, ap, ◌∙◌, arith}
use Rattle.std.specs.List.{prefix_len}
use Rattle.std.proofs.lemmas.List.{reverse-append}
use Rattle.pdh_events.specs.Telling.{ones_at_end}

pub ones_none : ◌≡◌ {A = ℕ} (ones_at_end []) 0
unfolding ones_at_end
ones_none = refl

one_more : (line : List Bool) → ones_at_end (line ++ true ∷ []) ≡ suc (ones_at_end line)
unfolding ones_at_end
one_more line = ap (prefix_len (λ bit. bit)) (reverse-append line (true ∷ [])) ∙ omega arith

none_left : (line : List Bool) → ◌≡◌ {A = ℕ} (ones_at_end (line ++ false ∷ [])) 0
unfolding ones_at_end
none_left line = ap (prefix_len (λ bit. bit)) (reverse-append line (false ∷ []))

pub ones_with_one : (line : List Bool) (bit : Bool) → bit ≡ true → ones_at_end (line ++ bit ∷ []) ≡ suc (ones_at_end line)
ones_with_one line bit is = ap (λ b. ones_at_end (line ++ b ∷ [])) is ∙ one_more line

pub ones_with_zero : (line : List Bool) (bit : Bool) → bit ≡ false → ◌≡◌ {A = ℕ} (ones_at_end (line ++ bit ∷ [])) 0
ones_with_zero line bit is = ap (λ b. ones_at_end (line ++ b ∷ [])) is ∙ none_left line
