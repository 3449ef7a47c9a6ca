-- What is answered of a part of a recording, by what is found in it.
use Rattle.std.proofs.Common.{◌≡◌, ℕ, Bool, List, Option, ap, sym, ◌∙◌, subst}
use Rattle.std.specs.Prelude.{find, Some}
use Rattle.pdh_readings.specs.declared.bit_order.BitOrder.{BitOrder}
use Rattle.pdh_candidates.specs.declared.candidate.Candidate.{Candidate}
use Rattle.pdh_candidates.specs.Words.{candidates}
use Rattle.pdh_looking.specs.declared.answer.Found.{Found as FoundRecording}
use Rattle.pdh_looking.specs.declared.answer.Looked.TheVariants.{Found}
use Rattle.pdh_looking.specs.declared.nearest.Nearest.{Nearest}
use Rattle.pdh_looking.specs.declared.part.Part.{Part}
use Rattle.pdh_looking.specs.Judging.{line_of}
use Rattle.pdh_looking.specs.Levels.{fits}
use Rattle.pdh_looking.specs.Looking.{IsPart, lines_in, is_met_in, meets}
use Rattle.pdh_looking.specs.Nearest.{nearest_by, nearest_of}
use Rattle.pdh_looking.specs.Answers.{IsFound, IsAnswer}

module _ (bytes : List ℕ) (from bits : ℕ) (orders : List BitOrder) (part : Part) (is : IsPart bytes from bits part) where
  same_lines : lines_in part ≡ line_of bytes from bits
  same_lines = λ i order. is order i

  same_test : is_met_in part ≡ meets bytes from bits
  same_test = λ i candidate. fits candidate.word (is candidate.order i)

  -- the first of the candidates that meets the test in it
  pub first_is : (list : List Candidate) (first answer : Option Candidate) → list ≡ candidates orders → first ≡ find (is_met_in part) list → first ≡ answer
      → find (meets bytes from bits) (candidates orders) ≡ answer
  first_is list first answer list_is found answered =
      ap (λ (test : Candidate → Bool). find test (candidates orders)) (sym same_test) ∙ ap (find (is_met_in part)) (sym list_is) ∙ sym found ∙ answered

  -- the frames at tops of which most are right in it
  pub nearest_are : (nearest : List Nearest) → nearest ≡ nearest_by (lines_in part) orders → nearest ≡ nearest_of bytes from bits orders
  nearest_are nearest are = are ∙ ap (λ (line : BitOrder → List Bool). nearest_by line orders) same_lines

  -- what is told of it
  pub answer_is : (candidate : Candidate) (found : FoundRecording) → find (meets bytes from bits) (candidates orders) ≡ Some candidate
      → IsFound (lines_in part) (is_met_in part) orders candidate found → IsAnswer bytes from bits orders (Found found)
  answer_is candidate found first told =
      let by_line : IsFound (line_of bytes from bits) (is_met_in part) orders candidate found =
      subst (λ (line : BitOrder → List Bool). IsFound line (is_met_in part) orders candidate found) same_lines told in
      let by_test : IsFound (line_of bytes from bits) (meets bytes from bits) orders candidate found =
      subst (λ (test : Candidate → Bool). IsFound (line_of bytes from bits) test orders candidate found) same_test by_line in
      (first ∙ ap Some (sym told.candidate_is), subst (λ (c : Candidate). IsFound (line_of bytes from bits) (meets bytes from bits) orders c found) (sym told.candidate_is) by_test)
