-- The lines that the commands of framed lines say.
use Rattle.std.specs.Prelude.{ℕ, List, ◌++◌, codes, decimal}
use Rattle.pdh_answers.specs.declared.answer.Done.{Done}
use Rattle.pdh_answers.specs.declared.answer.Done.TheVariants.{Line}
use Rattle.pdh_streams.specs.declared.codec.Found.{Found}

-- words and a number
abbrev pub counted_line : List ℕ → ℕ → Done
counted_line words number = Line (words ++ decimal number ++ codes "\n")

-- words, and what was found in a line, with its blocks
abbrev pub found_line : List ℕ → Found → Done
found_line words found = Line (words ++ decimal found.delivered ++ codes " blocks " ++ decimal found.blocks ++ codes " errored " ++ decimal found.errored ++ codes "\n")
