-- Where the bits of a recording begin, and how many there are.
use Rattle.std.specs.Prelude.{◌≡◌, ℕ, ◌-◌, ◌*◌, ◌^◌, min, Bool, List, length, Option, None, Some, IfSome}
use Rattle.std.specs.Io.KnownBytes.{Consumes}
use Rattle.pdh_readings.specs.declared.bit_order.BitOrder.{BitOrder}
use Rattle.pdh_recording.specs.Given.{recorded}
use Rattle.pdh_recording.specs.declared.source.Source.{Source}
use Rattle.pdh_recording.specs.declared.source.Source.TheVariants.{File, Standard}

-- how many bits are read from a bit on, where no more than so many are wanted; the number of a bit is below 2^64
abbrev pub room : ℕ → Option ℕ → ℕ
room from None = (2 ^ 64 - 1) - from
room from (Some most) = min most ((2 ^ 64 - 1) - from)

-- and no more than a file of so many bytes has
abbrev pub of_size : ℕ → ℕ → Option ℕ → ℕ
of_size size from bits = min (room from bits) (8 * size - from)

-- known bytes lose so many in front
abbrev pub Passes : Option (List ℕ) → Option (List ℕ) → ℕ → Type 0
Passes old new count = (passed : List ℕ) × (length passed ≡ count) × Consumes old new passed

-- of known bytes the bits from a bit on are given in an order, and no more than so many
abbrev pub BeginsAt : BitOrder → ℕ → ℕ → Option (List ℕ) → Option (List Bool) → Type 0
BeginsAt order from most None given = Unit {0}
BeginsAt order from most (Some bytes) given = given ≡ Some (recorded order from most bytes)

-- where the place of a file was known, it is now this one
abbrev pub StandsAt : Option ℕ → Option ℕ → ℕ → Type 0
StandsAt old new place = IfSome old (λ before. new ≡ Some place)

-- and so it is of the file of a source
abbrev pub StandsInFile : {F I : Type 0} → (F → Option ℕ) → Option ℕ → Source F I → ℕ → Type 0
StandsInFile position old (File file) place = StandsAt old (position file) place
StandsInFile position old (Standard input) place = ⊥
