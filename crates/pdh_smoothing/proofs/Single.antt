-- The chains of one multiplexer.
use Rattle.std.proofs.Common.{◌≡◌, ℕ, suc, ◌^◌, ◌<◌, [], ◌∷◌, length, refl, arith, lit<}
use Rattle.pdh_shape.specs.Frame.{FrameShape}
use Rattle.pdh_line.specs.Sending.{HasStores}
use Rattle.pdh_eframes.specs.Plans.{e2, e3, e4}
use Rattle.pdh_ds.specs.Plans.{ds2, ds3}
use Rattle.pdh_chain.specs.Chains.{shapes_of, levels_of}
use Rattle.pdh_chain.specs.declared.chain.Chain.{Chain}
use Rattle.pdh_chain.specs.declared.chain.Chain.TheVariants.{E12, E23, E34, E13, E24, E14, M12, M23, M13, C13}

-- its one frame
pub record IsSingle (chain : Chain) : Type 0 where
  pub shape : FrameShape
  pub only : shapes_of chain ≡ shape ∷ []
  pub stores : HasStores shape
  -- a frame carries more of a tributary than a far store and the last bits of its file may lack of what enters
  pub enough : 102 < shape.low
  pub low_few : suc shape.low < 2 ^ 64

two : {A : Type 0} → ◌≡◌ {A = ℕ} 2 1 → A
two e = absurd (omega (arith, e))

three : {A : Type 0} → ◌≡◌ {A = ℕ} 3 1 → A
three e = absurd (omega (arith, e))

pub single : (chain : Chain) → length (levels_of chain) ≡ 1 → IsSingle chain
single E12 one = record { shape = e2; only = refl; stores = refl; enough = lit< tt; low_few = lit< tt }
single E23 one = record { shape = e3; only = refl; stores = refl; enough = lit< tt; low_few = lit< tt }
single E34 one = record { shape = e4; only = refl; stores = refl; enough = lit< tt; low_few = lit< tt }
single M12 one = record { shape = ds2; only = refl; stores = refl; enough = lit< tt; low_few = lit< tt }
single M23 one = record { shape = ds3; only = refl; stores = refl; enough = lit< tt; low_few = lit< tt }
single E13 one = two one
single E24 one = two one
single E14 one = three one
single M13 one = two one
single C13 one = two one

-- a chain is one of those
pub not_single : {A : Type 0} (chain : Chain) → length (levels_of chain) ≡ 1 → (chain ≡ E12 → ⊥) → (chain ≡ E23 → ⊥) → (chain ≡ E34 → ⊥) → (chain ≡ M12 → ⊥) → (chain ≡ M23 → ⊥) → A
not_single E12 one a b c d e = absurd (a refl)
not_single E23 one a b c d e = absurd (b refl)
not_single E34 one a b c d e = absurd (c refl)
not_single M12 one a b c d e = absurd (d refl)
not_single M23 one a b c d e = absurd (e refl)
not_single E13 one a b c d e = two one
not_single E24 one a b c d e = two one
not_single E14 one a b c d e = three one
not_single M13 one a b c d e = two one
not_single C13 one a b c d e = two one
