-- The steps that read an input: what they find, and why they stop.
use Rattle.std.specs.Prelude.{◌≡◌, ℕ, ◌+◌, ◌≤◌, List, true, ⊤, Some, None, length}
use Rattle.std.specs.Option.{option_map}
use Rattle.pdh_edge.specs.Files.{ShelfState, WhereTold, FailsToRead}
use Rattle.pdh_edge.specs.declared.shelf.Call.TheVariants.{Size as SizeCall, Read as ReadCall}
use Rattle.pdh_answers.specs.Names.{name_of}
use Rattle.pdh_answers.specs.declared.file.File.{File}
use Rattle.pdh_answers.specs.declared.answer.Stop.{Stop}
use Rattle.pdh_answers.specs.declared.answer.Stop.TheVariants.{Memory, Read, Missing}

-- where a file is told it is held with so many bytes, and its ranges may be read
pub record HasLength (name : List ℕ) (bytes : ℕ) (state : ShelfState) : Type 0 where
  pub told : WhereTold (state.told name) (λ held. Some bytes ≡ option_map length held)
  pub readable : (at len : ℕ) → at + len ≤ bytes → state.readable name at len ≡ true

-- why a file's size isn't known: it isn't held, or the call failed
abbrev pub IsSizeStop : File → ShelfState → ShelfState → Stop → Type 0
IsSizeStop file old new (Missing missed) = (missed ≡ file) × WhereTold (old.told (name_of file)) (λ held. held ≡ None)
IsSizeStop file old new (Read failed) = (failed ≡ file) × FailsToRead SizeCall (name_of file) old new
IsSizeStop file old new _ = ⊥

-- why its bytes aren't read: memory is wanting, or the call failed
abbrev pub IsReadStop : File → ShelfState → ShelfState → Stop → Type 0
IsReadStop file old new Memory = ⊤
IsReadStop file old new (Read failed) = (failed ≡ file) × FailsToRead ReadCall (name_of file) old new
IsReadStop file old new _ = ⊥
