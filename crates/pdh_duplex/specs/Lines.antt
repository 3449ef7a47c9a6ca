-- Room for what comes of a frame.
use Rattle.std.specs.Prelude.{ℕ, ◌+◌, ◌*◌, ◌≤◌, List}
use Rattle.pdh_bits.specs.BitOut.{BoundedBits}
use Rattle.pdh_script.specs.Scripts.{Row, bytes_added}

-- a list has room for what comes of a frame of so many bits, whatever these rows add
abbrev pub HasRoom : ℕ → List Row → BoundedBits → Type 0
HasRoom len rows list = len + 8 * bytes_added rows ≤ list.capacity
