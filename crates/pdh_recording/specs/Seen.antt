-- What is seen of a recording before it is read.
use Rattle.std.specs.Prelude.{◌≡◌, ℕ, ◌+◌, ◌*◌, ◌≤◌, ◌⊎◌, Bool, true, false, List, length, take, drop, replicate, Option, None, Some}
use Rattle.std.specs.Io.KnownBytes.{IsAtEnd}
use Rattle.std.specs.declared.io.Read.{Ghosts as Reads}
use Rattle.pdh_recording.specs.Given.{kept}
use Rattle.pdh_recording.specs.declared.recording.Recording.{Recording}

-- so many bytes were wanted and are there, or no known byte is left behind those that are
abbrev pub HasEnough : Bool → ℕ → ℕ → Option (List ℕ) → Type 0
HasEnough true wanted count known = wanted ≤ count
HasEnough false wanted count known = IsAtEnd known

-- the bytes of a whole part are kept, or those of all bits that are wanted were read ahead, or all that there are
abbrev pub HasPart : {R : Type 0} {reads : Reads R} → (R → Option (List ℕ)) → Recording R reads → Type 0
HasPart remaining recording =
    (131073 ≤ length (kept recording.replay.ahead))
    ⊎ ((recording.skip + recording.left ≤ 8 * (recording.replay.ahead.run + length (kept recording.replay.ahead))) ⊎ IsAtEnd (remaining recording.replay.reader))

-- bits are all alike
abbrev pub AreAlike : List Bool → Type 0
AreAlike bits = (bit : Bool) × (bits ≡ replicate (length bits) bit)

-- known bits go on with these, behind some that are all alike
abbrev pub Shows : Option (List Bool) → List Bool → Type 0
Shows None seen = Unit {0}
Shows (Some xs) seen = (passed : ℕ) × AreAlike (take passed xs) × (take (length seen) (drop passed xs) ≡ seen)
