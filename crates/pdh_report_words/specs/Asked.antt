-- What is asked for by the words in which the options were found.
use Rattle.std.specs.Prelude.{◌≡◌, ℕ, ◌^◌, ◌<◌, Bool, true, false, List, [], Option, None, Some, option_and_then, unwrap_or, find, codes}
use Rattle.std.specs.Str.{bytes_eq}
use Rattle.std.specs.Str.Parse.{IsNumeral, digits_value, without_leading_plus}
use Rattle.clap.specs.declared.parser.matches.Found.{Found}
use Rattle.clap.specs.Words.{first_value, one_text}
use Rattle.pdh_candidates.specs.Words.{words, name_of}
use Rattle.pdh_candidates.specs.declared.word.Word.{Word}
use Rattle.pdh_report_words.specs.Files.{name_bytes}
use Rattle.pdh_report_words.specs.declared.request.Request.{Request}

-- the chain or framed stream of a word
abbrev pub chain_of : List ℕ → Option Word
chain_of text = find (λ word. bytes_eq text (name_of word)) words

-- the number that a text writes, where it writes one below 2^64
abbrev pub number_of : List ℕ → ℕ
number_of text = digits_value 10 (without_leading_plus text)

abbrev pub IsNumber : List ℕ → Type 0
IsNumber text = IsNumeral 10 (without_leading_plus text) × (number_of text < 2 ^ 64)

-- an option without a value: it is found, or isn't
pub record IsFlag (found : Found) (option : List ℕ) (set : Bool) : Type 0 where
  pub missing : one_text found option ≡ None → set ≡ false
  pub given : one_text found option ≡ Some (codes "true") → set ≡ true
  pub left : one_text found option ≡ Some (codes "false") → set ≡ false

-- each option leads to its part of what is asked for
pub record IsAsked (found : Found) (request : Request) : Type 0 where
  pub file : request.file.now ≡ unwrap_or (first_value found (codes "file")) []
  pub chain : request.chain ≡ option_and_then chain_of (first_value found (codes "chain"))
  pub lsb_first : IsFlag found (codes "lsb-first") request.lsb_first
  pub inverted : IsFlag found (codes "invert") request.inverted
  pub all : IsFlag found (codes "all") request.lists_all
  pub from : one_text found (codes "from") ≡ None → request.from ≡ 0
  pub from_given : (text : List ℕ) → one_text found (codes "from") ≡ Some text → IsNumber text → request.from ≡ number_of text
  pub bits : one_text found (codes "bits") ≡ None → request.bits ≡ None
  pub bits_given : (text : List ℕ) → one_text found (codes "bits") ≡ Some text → IsNumber text → request.bits ≡ Some (number_of text)
  pub events : name_bytes request.outputs.events ≡ first_value found (codes "events")
  pub json : name_bytes request.outputs.json ≡ first_value found (codes "json")
  pub picture : name_bytes request.outputs.picture ≡ first_value found (codes "picture")
