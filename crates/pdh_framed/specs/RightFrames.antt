-- The frames of a line up to the first wrong one, by a test of each frame.
use Rattle.std.specs.Prelude.{◌≡◌, ◌<◌, ℕ, Bool, true, false}

-- the frames before this one are right
abbrev pub AreRight : (ℕ → Bool) → ℕ → Type 0
AreRight right frames = (frame : ℕ) → frame < frames → right frame ≡ true

-- of so many frames, this one is the first wrong one
pub record FirstWrong (right : ℕ → Bool) (frames frame : ℕ) : Type 0 where
  pub within : frame < frames
  pub wrong : right frame ≡ false
  pub before : AreRight right frame
