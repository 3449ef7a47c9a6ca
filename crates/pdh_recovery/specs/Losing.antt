-- What a right frame doesn't lose.
use Rattle.std.specs.Prelude.{◌≡◌, true}
use Rattle.pdh_shape.specs.declared.role.Marks.{Marks}
use Rattle.pdh_shape.specs.Frame.{FrameShape, clean}

-- A right frame completes no loss unless the frame before it completed one: where a frame in which nothing is wrong completes
-- a loss after three others, the last of these completed one already, whatever the frame before them was.
abbrev pub KeepsRight : FrameShape → Type 0
KeepsRight s = (before a b c : Marks) → s.loses a b c clean ≡ true → s.loses before a b c ≡ true
