-- What is known of a result that is Ok, or Err.
use Rattle.std.proofs.Common.{◌≡◌, true, false, Result, Ok, Err}
use Rattle.std.specs.Prelude.{OnOk, OnErr}
use Rattle.std.specs.Result.{is_ok}

module _ {T E P : Type 0} where
  pub at_ok : (result : Result T E) → is_ok result ≡ true → OnOk result P → P
  at_ok (Ok done) is known = known
  at_ok (Err why) is known = absurd (cc)

  pub at_err : (result : Result T E) → is_ok result ≡ false → OnErr result P → P
  at_err (Ok done) is known = absurd (cc)
  at_err (Err why) is known = known
