-- What a look at a recording answers.
use Rattle.std.specs.Prelude.{◌≡◌, ℕ, Bool, not, ◌&&◌, List, find, filter, Some, None}
use Rattle.std.specs.Bool.{beq}
use Rattle.pdh_readings.specs.declared.bit_order.BitOrder.{BitOrder}
use Rattle.pdh_candidates.specs.declared.candidate.Candidate.{Candidate}
use Rattle.pdh_candidates.specs.Words.{candidates, candidate_of}
use Rattle.pdh_looking.specs.declared.answer.Found.{Found as FoundRecording}
use Rattle.pdh_looking.specs.declared.answer.Looked.{Looked}
use Rattle.pdh_looking.specs.declared.answer.Looked.TheVariants.{Found, Nothing}
use Rattle.pdh_looking.specs.Words.{top_of}
use Rattle.pdh_looking.specs.Judging.{line_of, are_alike_as}
use Rattle.pdh_looking.specs.Levels.{levels_in}
use Rattle.pdh_looking.specs.Looking.{meets}
use Rattle.pdh_looking.specs.Nearest.{nearest_of}

-- two orders of bits are the same
abbrev pub same_order : BitOrder → BitOrder → Bool
same_order a b = beq a.lsb_first b.lsb_first && beq a.inverted b.inverted

-- the other orders of these in which a candidate's chain or stream meets a test
abbrev pub others_by : (Candidate → Bool) → Candidate → List BitOrder → List BitOrder
others_by test found orders = filter (λ order. not (same_order order found.order) && test (candidate_of found.word order)) orders

-- what is told of a recording that is this candidate, by its line in an order and a test of candidates
pub record IsFound (line : BitOrder → List Bool) (test : Candidate → Bool) (orders : List BitOrder) (candidate : Candidate) (found : FoundRecording) : Type 0 where
  pub candidate_is : found.candidate ≡ candidate
  pub levels : found.levels.items ≡ levels_in candidate.word (line candidate.order)
  pub also : found.also.items ≡ others_by test candidate orders
  pub alike : found.alike ≡ are_alike_as (top_of candidate.word) (line candidate.order)

-- The answer to a look at so many bits of these bytes from a bit on, in these orders: the first candidate that meets the test, or
-- where none does, those that are nearest.
abbrev pub IsAnswer : List ℕ → ℕ → ℕ → List BitOrder → Looked → Type 0
IsAnswer bytes from bits orders (Found found) =
    (find (meets bytes from bits) (candidates orders) ≡ Some found.candidate) × IsFound (line_of bytes from bits) (meets bytes from bits) orders found.candidate found
IsAnswer bytes from bits orders (Nothing nearest) =
    (find (meets bytes from bits) (candidates orders) ≡ None) × (nearest.items ≡ nearest_of bytes from bits orders)
