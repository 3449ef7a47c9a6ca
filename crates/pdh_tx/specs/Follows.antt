-- The slot after a slot.
use Rattle.std.proofs.Common.{◌≡◌, ℕ, suc, ◌+◌, ◌*◌, ◌<◌}
use Rattle.pdh_shape.specs.Frame.{FrameShape}

-- slot t' of frame n' follows slot t of frame n
pub record Follows (s : FrameShape) (n t n' t' : ℕ) : Type 0 where
  pub inside : t' < s.len
  pub place : n' * s.len + t' ≡ suc (n * s.len + t)
  pub within : 0 < t' → (n' ≡ n) × (t' ≡ suc t)
  pub next : t' ≡ 0 → (n' ≡ suc n) × (suc t ≡ s.len)
