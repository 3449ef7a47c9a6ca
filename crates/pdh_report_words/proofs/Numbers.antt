-- Numbers that texts write.
use Rattle.std.proofs.Common.{◌≡◌, ℕ, List, Option, None, Some, Result, ap}
use Rattle.std.specs.Str.Parse.{ParsesUnsigned}
use Rattle.clap.specs.Words.{ReadsOne}
use Rattle.pdh_report_words.specs.Asked.{IsNumber, number_of}

-- what is read of a text that writes a number is this number, whatever else is known of it
pub number_read : {E : Type 0} (more others : List ℕ → Result ℕ E → Type 0) (text : List ℕ) (result : Option ℕ) → ReadsOne (λ (t : List ℕ) (read : Result ℕ E). ParsesUnsigned 64 10 t read × more t read × others t read) text result
    → IsNumber text → result ≡ Some (number_of text)
number_read more others text (Some value) reads number = ap Some reads.0.1
number_read more others text None reads number = absurd (reads.1.0 number)
