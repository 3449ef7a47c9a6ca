-- A row of a schedule's text, as its line says it.
use Rattle.std.specs.Prelude.{ℕ, nat_le, ◌==◌, ◌&&◌, if◌then◌else◌, List, [], ◌∷◌, codes, Option, Some, None}
use Rattle.std.specs.Str.{bytes_eq}
use Rattle.pdh_shape.specs.OwnNumbers.{most_frames}
use Rattle.pdh_rows.specs.declared.flow.Says.{Says}
use Rattle.pdh_rows.specs.declared.flow.Says.TheVariants.{Counts, Rates}
use Rattle.pdh_row_text.specs.declared.row.Version.{Version}
use Rattle.pdh_row_text.specs.declared.row.Version.TheVariants.{First, Second}
use Rattle.pdh_row_text.specs.Text.{◌>>=◌, words_of, number_of, each_of, path_of}
use Rattle.pdh_row_text.specs.RateWords.{rate_of}

-- what a line says of the next `repeat` frames of the node at the path: numbers, and what they are
pub record Form : Type 0 where
  pub path : List ℕ
  pub repeat : ℕ
  pub says : Says
  pub numbers : List ℕ

-- each frame has these counts
abbrev pub counts_form : List ℕ → ℕ → List ℕ → Form
counts_form path repeat counts = record { path = path; repeat = repeat; says = Counts; numbers = counts }

-- the line and the tributaries have these rates
abbrev pub rates_form : List ℕ → ℕ → ℕ → List ℕ → Form
rates_form path repeat line tribs = record { path = path; repeat = repeat; says = Rates line; numbers = tribs }

-- a path, a repeat that isn't 0, and any number of counts
abbrev pub counts_row : List (List ℕ) → Option Form
counts_row (path_word ∷ repeat_word ∷ count_words) = do
  path ← path_of path_word
  repeat ← number_of repeat_word
  counts ← each_of number_of count_words
  if repeat == 0 then None else Some (counts_form path repeat counts)
counts_row _ = None

-- a path, a repeat from 1 up to the most frames of a line, the line's offset, and any number of tributaries' offsets
abbrev pub rates_row : List (List ℕ) → Option Form
rates_row (path_word ∷ repeat_word ∷ line_word ∷ trib_words) = do
  path ← path_of path_word
  repeat ← number_of repeat_word
  line ← rate_of line_word
  tribs ← each_of rate_of trib_words
  if nat_le 1 repeat && nat_le repeat most_frames then Some (rates_form path repeat line tribs) else None
rates_row _ = None

-- the row that words are: one of counts, or in a text of version 2 one of rates behind the word `rate`
abbrev pub form_of_words : Version → List (List ℕ) → Option Form
form_of_words First words = counts_row words
form_of_words Second [] = None
form_of_words Second (word ∷ words) = (if bytes_eq word (codes "rate") then rates_row words else counts_row (word ∷ words))

abbrev pub form_of : Version → List ℕ → Option Form
form_of version line = form_of_words version (words_of line)
