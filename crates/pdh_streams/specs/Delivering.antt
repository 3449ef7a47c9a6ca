-- What a payload of lines keeps, so that a line's bits can be given to a machine a piece at a time.
use Rattle.std.specs.Prelude.{◌≡◌, ◌<◌, Bool, List, [], length}

-- no bits have no payload, and others have fewer bits of it than they are
pub record IsPayload (payload : List Bool → List Bool) : Type 0 where
  pub none : payload [] ≡ []
  pub fewer : (line : List Bool) → 0 < length line → length (payload line) < length line
