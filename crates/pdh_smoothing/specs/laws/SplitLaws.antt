-- Lists that are split stay the same where both parts do.
use Rattle.std.proofs.Common.{◌≡◌, ℕ, ap, ◌∙◌}
use Rattle.pdh_edge.specs.Ports.{Outputs}
use Rattle.pdh_smoothing.specs.Split.{first_then, split_outputs}

pub split_same : {X : Type 0} (from from' : ℕ) (a a' b b' : ℕ → X) → from' ≡ from → a' ≡ a → b' ≡ b → first_then from' a' b' ≡ first_then from a b
split_same from from' a a' b b' same first second = ap (λ n. first_then n a' b') same ∙ ap (λ f. first_then from f b') first ∙ ap (first_then from a) second

pub outputs_same : (from from' : ℕ) (a a' b b' : Outputs) → from' ≡ from → a' ≡ a → b' ≡ b → split_outputs from' a' b' ≡ split_outputs from a b
outputs_same from from' a a' b b' same first second = ap (λ n. split_outputs n a' b') same ∙ ap (λ o. split_outputs from o b') first ∙ ap (split_outputs from a) second
