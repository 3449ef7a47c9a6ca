-- The orders in which bits are read of bytes.
use Rattle.std.specs.Prelude.{ℕ, Bool, true, false, not, if◌then◌else◌, List, [], ◌∷◌, map, flat_map}
use Rattle.pdh_bits.specs.Bits.{bit, bits_of}
use Rattle.pdh_readings.specs.declared.bit_order.BitOrder.{BitOrder}

abbrev pub order_of : Bool → Bool → BitOrder
order_of lsb_first inverted = record { lsb_first = lsb_first; inverted = inverted }

-- all orders, as they are tried
abbrev pub orders : List BitOrder
orders = order_of false false ∷ order_of false true ∷ order_of true false ∷ order_of true true ∷ []

-- the eight bits of a byte, the least significant first
abbrev pub reversed_byte : ℕ → List Bool
reversed_byte byte = map (bit byte) (0 ∷ 1 ∷ 2 ∷ 3 ∷ 4 ∷ 5 ∷ 6 ∷ 7 ∷ [])

abbrev pub reversed_bits : List ℕ → List Bool
reversed_bits bytes = flat_map reversed_byte bytes

-- bits as they are, or inverted
abbrev pub turned : Bool → List Bool → List Bool
turned inverted bits = (if inverted then map not bits else bits)

-- the bits of bytes in an order
abbrev pub read_as : BitOrder → List ℕ → List Bool
read_as order bytes = turned order.inverted (if order.lsb_first then reversed_bits bytes else bits_of bytes)
