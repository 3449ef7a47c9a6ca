-- Where the alignment signal that begins a frame stands in a list of bits, and how often in a row at a phase. Phases are
-- this project's own; the signal is that of ITU-T G.742, 4.
use Rattle.std.specs.Prelude.{◌≡◌, ℕ, zero, suc, ◌+◌, ◌-◌, ◌*◌, ◌%◌, ◌<◌, ◌≤◌, min, Bool, true, false, not, ◌==◌, ◌&&◌, List, [], ◌∷◌, length, map, drop, filter}
use Rattle.std.specs.List.{range_with_len, list_all, position_or_len}
use Rattle.pdh_shape.specs.declared.role.Role.{Role}
use Rattle.pdh_shape.specs.declared.role.Role.TheVariants.{Align}
use Rattle.pdh_shape.specs.Frame.{FrameShape, breaks_at}

-- the bit that a slot of the alignment signal has
abbrev pub bit_in : Role → Bool
bit_in (Align bit) = bit
bit_in _ = false

-- the bits that the slots before slot n have in the alignment signal, in slot order
abbrev pub bits_before : FrameShape → ℕ → List Bool
bits_before s n = map (λ slot. bit_in (s.role slot)) (range_with_len 0 n)

-- the bits of the alignment signal
unfoldable pub signal_bits : FrameShape → List Bool
signal_bits s = bits_before s s.signal

-- the alignment signal stands at position p: no slot of it is wrong in the bits from there on
unfoldable pub signal_at : FrameShape → List Bool → ℕ → Bool
signal_at s bits p = list_all (λ slot. not (breaks_at s (drop p bits) slot)) (range_with_len 0 s.signal)

-- at how many positions all bits of a signal have come: the positions below this number
abbrev pub places : FrameShape → List Bool → ℕ
places s bits = length bits + 1 - s.signal

-- the numbers below n, from the greatest down
abbrev pub down_from : ℕ → List ℕ
down_from zero = []
down_from (suc n) = n ∷ down_from n

-- The positions of a phase below n, from the greatest down: those that leave it as their remainder modulo the frame's
-- slots, so that each stands a frame before the one that it follows.
abbrev pub phase_below : FrameShape → ℕ → ℕ → List ℕ
phase_below s phase n = filter (λ p. p % s.len == phase) (down_from n)

-- The run of a phase: at how many of its positions, from the greatest on at which all bits of a signal have come, the
-- signal stands one after another, but 3 at most. It is 0 where there is no such position.
unfoldable pub run_of : FrameShape → List Bool → ℕ → ℕ
run_of s bits phase = min 3 (position_or_len (λ p. not (signal_at s bits p)) (phase_below s phase (places s bits)))

-- p is the greatest position of its phase at which all bits of a signal have come
abbrev pub IsNewest : FrameShape → List Bool → ℕ → Type 0
IsNewest s bits p = (p + s.signal ≤ length bits) × (length bits < p + s.len + s.signal)

-- the signal stands at p and at the positions before it that are a frame apart, so many in all
abbrev pub StandsBack : FrameShape → List Bool → ℕ → ℕ → Type 0
StandsBack s bits p count = (k : ℕ) → k < count → (k * s.len ≤ p) × (signal_at s bits (p - k * s.len) ≡ true)

-- the signal stands at p and at the next two positions a frame apart
abbrev pub stands_thrice : FrameShape → List Bool → ℕ → Bool
stands_thrice s bits p = signal_at s bits p && signal_at s bits (p + s.len) && signal_at s bits (p + 2 * s.len)
