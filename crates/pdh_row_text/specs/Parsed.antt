-- What a parser of a line keeps of what it reads.
use Rattle.std.specs.Prelude.{◌≡◌, ℕ, ◌+◌, List, [], length, take, Option, Some, None}
use Rattle.pdh_row_text.specs.declared.row.FoundRow.{FoundRow}
use Rattle.pdh_row_text.specs.declared.row.Numbers.{Numbers}
use Rattle.pdh_row_text.specs.declared.row.Version.{Version}
use Rattle.pdh_row_text.specs.declared.row.Version.TheVariants.{First, Second}
use Rattle.pdh_row_text.specs.Form.{Form}
use Rattle.pdh_levels.specs.Levels.{most_tributaries}
use Rattle.pdh_line.specs.Paths.{steps_of}
use Rattle.pdh_row_text.specs.Text.{words_of}

-- what was found agrees with what is there, or neither is
abbrev pub Finds : {X Y : Type 0} → (X → Y → Type 0) → Option X → Option Y → Type 0
Finds agrees None None = Unit {0}
Finds agrees (Some x) (Some y) = agrees x y
Finds agrees _ _ = ⊥

-- the words that are left of a line, where any are
abbrev pub words_left : Option (List ℕ) → List (List ℕ)
words_left None = []
words_left (Some line) = words_of line

-- how many bytes are left of a line, with the space before them
abbrev pub left_len : Option (List ℕ) → ℕ
left_len None = 0
left_len (Some line) = 1 + length line

-- how many numbers there are, and the first ones, as many as a node has tributaries at most
pub record AreNumbers (found : Numbers) (numbers : List ℕ) : Type 0 where
  pub number : found.number ≡ length numbers
  pub first : take found.number found.first ≡ take most_tributaries numbers

pub record IsForm (found : FoundRow) (form : Form) : Type 0 where
  pub path : steps_of found.path ≡ form.path
  pub repeat : found.repeat ≡ form.repeat
  pub says : found.says ≡ form.says
  pub numbers : AreNumbers found.numbers form.numbers

-- the first numbers, where there are no more than a node has tributaries at most
abbrev pub numbers_found : Numbers → List ℕ
numbers_found found = take found.number found.first

-- what a row that was found says, where it has no more numbers
abbrev pub form_found : FoundRow → Form
form_found found = record { path = steps_of found.path; repeat = found.repeat; says = found.says; numbers = numbers_found found.numbers }

-- how many lines say the version of a text
abbrev pub lines_before : Version → ℕ
lines_before First = 0
lines_before Second = 1
