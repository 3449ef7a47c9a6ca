-- A line that has more words than a row.
use Rattle.std.proofs.Common.{◌≡◌, ℕ, true, List, ◌∷◌, Option, Some, None, is_some, ap, ◌∙◌, Bor}
use Rattle.std.specs.Option.{option_copied}
use Rattle.pdh_row_text.specs.Parsed.{words_left}
use Rattle.pdh_row_text.specs.Text.{words_of}
use Rattle.pdh_row_text.proofs.Splits.{words_of_first}
use Rattle.pdh_script.specs.RowText.{row_of, row_of_words}

no_row : (a b c : List ℕ) (o : Option (Bor (List ℕ))) → true ≡ is_some o → row_of_words (a ∷ b ∷ c ∷ words_left (option_copied o)) ≡ None
no_row a b c None h = cc
no_row a b c (Some rest) h = ap (λ words. row_of_words (a ∷ b ∷ c ∷ words)) (words_of_first rest.now)

pub four_words : (line a b c : List ℕ) (o₁ o₂ o₃ : Option (Bor (List ℕ))) (r₁ r₂ : Bor (List ℕ))
    → words_of line ≡ a ∷ words_left (option_copied o₁) → o₁ ≡ Some r₁ → words_of r₁.now ≡ b ∷ words_left (option_copied o₂) → o₂ ≡ Some r₂
    → words_of r₂.now ≡ c ∷ words_left (option_copied o₃) → true ≡ is_some o₃ → row_of line ≡ None
four_words line a b c o₁ o₂ o₃ r₁ r₂ first is₁ second is₂ third more =
    ap row_of_words (first ∙ ap (λ o. a ∷ words_left (option_copied o)) is₁ ∙ ap (λ words. a ∷ words) (second ∙ ap (λ o. b ∷ words_left (option_copied o)) is₂ ∙ ap (λ words. b ∷ words) third))
    ∙ no_row a b c o₃ more
