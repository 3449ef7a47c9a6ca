-- The files of a port are prepared.
use Rattle.std.specs.Prelude.{Result, Ok, Err, IfOk}

-- what follows of files that were made
pub ok_both : {T E : Type 0} {P Q R : T → Type 0} → (r : Result T E) → ((x : T) → P x → Q x → R x) → IfOk r P → IfOk r Q → IfOk r R
ok_both (Ok x) each p q = each x p q
ok_both (Err e) each p q = tt
