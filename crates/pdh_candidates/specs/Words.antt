-- What a recording may be, in the order in which it is tried.
use Rattle.std.specs.Prelude.{ℕ, List, [], ◌∷◌, map, flat_map, codes}
use Rattle.pdh_readings.specs.declared.bit_order.BitOrder.{BitOrder}
use Rattle.pdh_candidates.specs.declared.word.Word.{Word}
use Rattle.pdh_candidates.specs.declared.word.Word.TheVariants.{E14, E24, E34, E13, E23, C13, M13, C13Top, M23, E12, M12, E1, Ds1Esf, Ds1Sf}
use Rattle.pdh_candidates.specs.declared.candidate.Candidate.{Candidate}

-- the deepest chain first
abbrev pub words : List Word
words = E14 ∷ E24 ∷ E34 ∷ E13 ∷ E23 ∷ C13 ∷ M13 ∷ C13Top ∷ M23 ∷ E12 ∷ M12 ∷ E1 ∷ Ds1Esf ∷ Ds1Sf ∷ []

-- the word of each
abbrev pub name_of : Word → List ℕ
name_of E14 = codes "e14"
name_of E24 = codes "e24"
name_of E34 = codes "e34"
name_of E13 = codes "e13"
name_of E23 = codes "e23"
name_of C13 = codes "c13"
name_of M13 = codes "m13"
name_of C13Top = codes "c13"
name_of M23 = codes "m23"
name_of E12 = codes "e12"
name_of M12 = codes "m12"
name_of E1 = codes "e1"
name_of Ds1Esf = codes "ds1-esf"
name_of Ds1Sf = codes "ds1-sf"

abbrev pub candidate_of : Word → BitOrder → Candidate
candidate_of word order = record { word = word; order = order }

-- each in each of these orders of bits
abbrev pub candidates : List BitOrder → List Candidate
candidates orders = flat_map (λ word. map (candidate_of word) orders) words
