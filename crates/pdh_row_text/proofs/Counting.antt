-- The numbers of a row, word by word.
use Rattle.std.proofs.Common.{◌≡◌, ℕ, List, [], ◌∷◌, ◌++◌, Option, Some, None, option_map, option_and_then, refl, ap, sym, ◌∙◌}
use Rattle.pdh_row_text.specs.declared.row.Numbers.{Numbers}
use Rattle.std.proofs.lemmas.List.{append_assoc}
use Rattle.pdh_row_text.specs.Text.{each_of}
use Rattle.pdh_row_text.specs.Parsed.{AreNumbers}

-- the numbers that were found are those of the words before the ones that are left
pub record SeenBefore (read : List ℕ → Option ℕ) (found : Numbers) (left all : List (List ℕ)) : Type 0 where
  pub seen : List ℕ
  pub numbers : AreNumbers found seen
  pub before : each_of read all ≡ option_map (λ more. seen ++ more) (each_of read left)

numbers_more : (seen : List ℕ) (n : ℕ) (numbers : Option (List ℕ))
    → option_map (λ more. seen ++ more) (option_and_then (λ more. Some (n ∷ more)) numbers)
    ≡ option_map (λ more. (seen ++ n ∷ []) ++ more) numbers
numbers_more seen n None = refl
numbers_more seen n (Some more) = ap Some (sym (append_assoc seen (n ∷ []) more))

pub seen_more : (read : List ℕ → Option ℕ) (found found' : Numbers) (word : List ℕ) (n : ℕ) (left all : List (List ℕ)) → SeenBefore read found (word ∷ left) all
    → read word ≡ Some n
    → ((numbers : List ℕ) → AreNumbers found numbers → AreNumbers found' (numbers ++ n ∷ [])) → SeenBefore read found' left all
seen_more read found found' word n left all h is push = record {
  seen = h.seen ++ n ∷ [];
  numbers = push h.seen h.numbers;
  before = h.before ∙ ap
      (λ o. option_map (λ more. h.seen ++ more)
      (option_and_then (λ first. option_and_then (λ more. Some (first ∷ more)) (each_of read left)) o)) is
      ∙ numbers_more h.seen n (each_of read left);
}
