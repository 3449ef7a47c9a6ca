-- The bits that a recording gives.
use Rattle.std.specs.Prelude.{◌≡◌, ℕ, ◌+◌, ◌*◌, ◌≤◌, ◌⊎◌, Bool, List, [], ◌++◌, take, drop, replicate, Option, None, Some, option_map}
use Rattle.std.specs.Io.KnownBytes.{prepend_known, IsAtEnd}
use Rattle.std.specs.declared.io.Read.{Ghosts as Reads}
use Rattle.pdh_readings.specs.Orders.{read_as}
use Rattle.pdh_readings.specs.declared.bit_order.BitOrder.{BitOrder}
use Rattle.pdh_recording.specs.declared.ahead.Ahead.{Ahead}
use Rattle.pdh_recording.specs.declared.recording.Recording.{Recording}
use Rattle.pdh_recording.specs.declared.replay.Replay.{Replay}

-- the bytes that were kept and not yet given again
abbrev pub kept : Ahead → List ℕ
kept ahead = drop ahead.given ahead.bytes.items

-- those that were read ahead and not yet given again: copies of a byte, and then these
abbrev pub kept_bytes : Ahead → List ℕ
kept_bytes ahead = replicate ahead.run ahead.value ++ kept ahead

-- these, and then the reader's, where those are known
abbrev pub replayed : {R : Type 0} → (R → Option (List ℕ)) → Replay R → Option (List ℕ)
replayed remaining replay = prepend_known (kept_bytes replay.ahead) (remaining replay.reader)

-- the bits of bytes in an order, behind so many that are passed over, and no more than so many
abbrev pub recorded : BitOrder → ℕ → ℕ → List ℕ → List Bool
recorded order skip most bytes = take most (drop skip (read_as order bytes))

-- the bits that a recording still has in an order, where its bytes are known
abbrev pub bits_left : {R : Type 0} {reads : Reads R} → (R → Option (List ℕ)) → BitOrder → Recording R reads → Option (List Bool)
bits_left remaining order recording = option_map (recorded order recording.skip recording.left) (replayed remaining recording.replay)

-- known bits begin with these, and lose them
abbrev pub Gives : Option (List Bool) → Option (List Bool) → List Bool → Type 0
Gives None new bits = Unit {0}
Gives (Some xs) None bits = ⊥
Gives (Some xs) (Some ys) bits = xs ≡ bits ++ ys

-- no known bit is left
abbrev pub HasNone : Option (List Bool) → Type 0
HasNone None = Unit {0}
HasNone (Some xs) = xs ≡ []

-- so many bytes came as a block: a whole one, those of all bits that are still wanted, or the last ones
abbrev pub IsWhole : ℕ → ℕ → ℕ → Option (List ℕ) → Type 0
IsWhole count skip left known = (count ≡ 65536) ⊎ ((skip + left ≤ 8 * count) ⊎ IsAtEnd known)
