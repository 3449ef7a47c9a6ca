-- Worked examples, computed by the checker.
use Rattle.std.specs.Prelude.{◌≡◌, ℕ, ◌+◌, ◌-◌, ◌^◌, Bool, true, false, Some, None, List, [], ◌∷◌, ◌++◌, map, take, refl}
use Rattle.std.specs.List.{range_with_len}
use Rattle.pdh_cbit.specs.Fields.{fields_of}
use Rattle.pdh_cbit.specs.Feac.{word_of, feac_bit, ten_words, answers, answer_of}

-- the word of code 5 is FF0A
abbrev pub word_of_five : List Bool
word_of_five =
    true ∷ true ∷ true ∷ true ∷ true ∷ true ∷ true ∷ true
    ∷ false ∷ false ∷ false ∷ false ∷ true ∷ false ∷ true ∷ false ∷ []

pub word_of-five : word_of 5 ≡ word_of_five
unfolding word_of
word_of-five = refl

-- a sender's first forty bits
pub bits_of_five : map (feac_bit 5) (range_with_len 0 40) ≡ word_of_five ++ word_of_five ++ take 8 word_of_five
unfolding feac_bit word_of
bits_of_five = refl

-- ten words answer the code at their last bit, and not one bit before
pub answered_at_ten : answer_of (ten_words 5) ≡ Some 5
unfolding answer_of answers ten_words word_of
answered_at_ten = refl

pub silent_before : answer_of (take 159 (ten_words 5)) ≡ None
unfolding answer_of answers ten_words word_of
silent_before = refl

-- the eleventh word answers nothing
pub silent_at_eleven : answer_of (ten_words 5 ++ word_of_five) ≡ None
unfolding answer_of answers ten_words word_of
silent_at_eleven = refl

-- ten words of another code answer it
pub answered_anew : answer_of (ten_words 5 ++ ten_words 63) ≡ Some 63
unfolding answer_of answers ten_words word_of
answered_anew = refl

-- words that begin amid others are answered at their own last bit
pub answered_behind_a_bit : answer_of (ten_words 5 ++ false ∷ ten_words 5) ≡ Some 5
unfolding answer_of answers ten_words word_of
answered_behind_a_bit = refl

-- the idle C bits are ones
pub idle_fields : fields_of (2 ^ 21 - 1) ≡ record { id = true; feac = true; path = 7; febe = 7; link = 7; rest = 1023 }
idle_fields = refl

-- C12, C31, C42, C53 and C73
pub five_ones : fields_of (2 ^ 19 + 2 ^ 14 + 2 ^ 10 + 2 ^ 6 + 1) ≡ record { id = false; feac = false; path = 4; febe = 2; link = 1; rest = 513 }
five_ones = refl
