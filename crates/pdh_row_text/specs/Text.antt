-- The lines of a text, the words of a line, and the words that are numbers or paths.
use Rattle.std.specs.Prelude.{ℕ, ◌+◌, ◌-◌, ◌*◌, Bool, true, false, not, nat_le, ◌==◌, ◌&&◌, ◌||◌, if◌then◌else◌, List, [], ◌∷◌, length, fold, Option, Some, None, option_and_then}
use Rattle.std.specs.List.{list_all, onto_first, slice_split}
use Rattle.std.specs.Char.{is_ascii_digit}

infixl 10 ◌>>=◌
abbrev pub ◌>>=◌ : {A B : Type 0} → Option A → (A → Option B) → Option B
o >>= f = option_and_then f o

-- the lines: each is ended by a line feed, 10, which the last may lack
abbrev pub lines_of : List ℕ → List (List ℕ)
lines_of [] = []
lines_of (byte ∷ bytes) = if byte == 10 then [] ∷ lines_of bytes else onto_first byte (lines_of bytes)

-- an empty line and one that begins with `#`, 35
abbrev pub is_passed_over : List ℕ → Bool
is_passed_over [] = true
is_passed_over (byte ∷ _) = byte == 35

-- the words of a line: what stands between its spaces, 32, so two spaces side by side have an empty word between them
abbrev pub words_of : List ℕ → List (List ℕ)
words_of line = slice_split (λ byte. byte == 32) line

-- the number that decimal digits write; 48 is `0`
abbrev pub digits_value : List ℕ → ℕ
digits_value digits = fold (λ value digit. 10 * value + (digit - 48)) 0 digits

-- `0`, or a digit 1 to 9 and at most eight digits
abbrev pub is_number : List ℕ → Bool
is_number [] = false
is_number (digit ∷ digits) = list_all is_ascii_digit (digit ∷ digits) && nat_le (length digits) 8 && (not (digit == 48) || length digits == 0)

abbrev pub number_of : List ℕ → Option ℕ
number_of word = if is_number word then Some (digits_value word) else None

-- the numbers that words write, where each word writes one in that way
abbrev pub each_of : (List ℕ → Option ℕ) → List (List ℕ) → Option (List ℕ)
each_of read [] = Some []
each_of read (word ∷ words) = do
  number ← read word
  numbers ← each_of read words
  Some (number ∷ numbers)

-- a step of a path: a slash, 47, and a digit 1 to 9, 49 to 57
abbrev pub is_step : ℕ → ℕ → Bool
is_step slash digit = slash == 47 && nat_le 49 digit && nat_le digit 57

-- a path, as the numbers of its steps: `/`, or one or two steps
abbrev pub path_of : List ℕ → Option (List ℕ)
path_of (slash ∷ []) = if slash == 47 then Some [] else None
path_of (slash ∷ a ∷ []) = if is_step slash a then Some ((a - 48) ∷ []) else None
path_of (slash ∷ a ∷ slash' ∷ b ∷ []) = if is_step slash a && is_step slash' b then Some ((a - 48) ∷ (b - 48) ∷ []) else None
path_of _ = None
