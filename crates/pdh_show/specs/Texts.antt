-- A text in memory that was taken before.
use Rattle.std.specs.Prelude.{ℕ, ◌+◌, ◌*◌, List}
use Rattle.std.specs.Int.{div_ceil}

-- a text, and for how many bytes in all there is memory
pub record BoundedText : Type 0 where
  pub text : List ℕ
  pub capacity : ℕ

-- the lines of so many bytes, 16 of them to a line, have no more bytes than these: two digits for each byte, and a line's end
abbrev pub bytes_room : ℕ → ℕ
bytes_room bytes = 33 * div_ceil bytes 16

-- the text of a frame of so many tributaries and bytes has no more bytes than these
abbrev pub text_room : ℕ → ℕ → ℕ
text_room tribs bytes = 320 + 320 * tribs + bytes_room bytes
