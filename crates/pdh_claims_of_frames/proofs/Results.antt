-- What is known of a result by its two variants.
use Rattle.std.proofs.Common.{◌≡◌, true, false, Result, Ok, Err, refl, subst}
use Rattle.std.specs.Prelude.{IfOk, IsErr, MatchResult}

-- of its value
pub value_matched : {A B : Type 0} (r : Result A B) (P Q : A → Type 0) (R : B → Type 0) → ((x : A) → P x → Q x) → MatchResult r P R → IfOk r Q
value_matched (Ok x) P Q R more matched = more x matched
value_matched (Err e) P Q R more matched = tt

-- that it has none
pub no_value : {A B : Type 0} (r : Result A B) (P : A → Type 0) (R : B → Type 0) → ((x : A) → P x → ⊥) → MatchResult r P R → IsErr r
no_value (Ok x) P R none matched = absurd (none x matched)
no_value (Err e) P R none matched = refl

-- of this error
pub error_matched : {A B : Type 0} (r : Result A B) (P : A → Type 0) (R : B → Type 0) → MatchResult r P R → (e : B) → r ≡ Err e → R e
error_matched r P R matched e is = subst (λ r. MatchResult r P R) is matched

pub differ : true ≡ false → ⊥
differ e = cc
