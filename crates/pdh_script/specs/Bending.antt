-- The disturbed line as it comes: what each bit of a line brings of it, and what stands behind the last.
use Rattle.std.specs.Prelude.{◌≡◌, ℕ, suc, Bool, true, ◌==◌, ◌&&◌, nat_le, nat_lt, if◌then◌else◌, List, [], ◌∷◌, ◌++◌, Result, refl}
use Rattle.pdh_bits.specs.Bits.{bits_of}
use Rattle.pdh_edge.specs.declared.port.Drain as drain
use Rattle.pdh_edge.specs.Counts.{one_more}
use Rattle.pdh_edge.specs.Ports.{Puts, PutsPart, for_leaf}
use Rattle.pdh_edge.specs.Progress.{Works}
use Rattle.pdh_script.specs.Scripts.{Row, Flip, Drop, Add, altered, bytes_of, disturbed, end_of, row, four_bits, eight_ones}

-- the bits that rows add before the bit of a place
abbrev pub added_at : ℕ → List Row → List Bool
added_at place [] = []
added_at place (row ∷ rows) = (if row.at == place then bits_of (bytes_of row.change) else []) ++ added_at place rows

-- a row changes the bit of a place
abbrev pub covers : ℕ → Row → Bool
covers place row = nat_le row.at place && nat_lt place (end_of row)

-- what becomes of bits at a place
abbrev pub becomes_at : ℕ → List Row → List Bool → List Bool
becomes_at place [] bits = bits
becomes_at place (row ∷ rows) bits = if covers place row then altered row.change bits else becomes_at place rows bits

-- the bits that the bit of a place brings: those that are added before it, and what becomes of it
abbrev pub brought : ℕ → List Row → Bool → List Bool
brought place rows bit = added_at place rows ++ becomes_at place rows (bit ∷ [])

-- the bits that bits from a place on bring, one after another
abbrev pub all_brought : ℕ → List Row → List Bool → List Bool
all_brought place rows [] = []
all_brought place rows (bit ∷ bits) = brought place rows bit ++ all_brought (suc place) rows bits

-- a script's rows, and how many bits of its line came
pub record Bending : Type 0 where
  pub rows : List Row
  pub place : ℕ

-- ---- calls that put bits to a drain's list 0

-- some bits were put; or a call failed, which was counted once, and a prefix of all bits was put
abbrev pub PutsSome : {D T E : Type 0} → drain.Ghosts D → List Bool → List Bool → D → D → Result T E → Type 0
PutsSome drains some all =
    Works drains.drained drains.drain_faults (λ why faults. one_more faults) (λ old new. Puts (for_leaf 0 some) (drains.outputs old) (drains.outputs new))
    (λ why old new. PutsPart (for_leaf 0 all) (drains.outputs old) (drains.outputs new))

-- all of them were put, or a prefix
abbrev pub PutsBits : {D T E : Type 0} → drain.Ghosts D → List Bool → D → D → Result T E → Type 0
PutsBits drains bits = PutsSome drains bits bits

-- ---- worked by the checker

abbrev pub some_rows : List Row
some_rows = row 1 (Flip 1) ∷ row 2 (Add (0xFF ∷ [])) ∷ row 2 (Drop 1) ∷ []

pub brought_one_by_one : all_brought 0 some_rows four_bits ≡ true ∷ true ∷ eight_ones ++ true ∷ []
brought_one_by_one = refl

-- bits that are added at the end of the line come behind its last bit
pub added_at_the_end : added_at 4 (row 4 (Add (0xFF ∷ [])) ∷ []) ≡ eight_ones
added_at_the_end = refl

pub the_same_at_once : disturbed four_bits some_rows ≡ all_brought 0 some_rows four_bits
the_same_at_once = refl
