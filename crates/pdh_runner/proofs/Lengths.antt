-- What the length of a file that is known tells of what it holds.
use Rattle.std.proofs.Common.{◌≡◌, ℕ, List, [], Option, None, Some, false, length, refl}
use Rattle.std.specs.Prelude.{is_none, unwrap_or}
use Rattle.std.specs.Option.{option_map}
use Rattle.pdh_edge.specs.Files.{ShelfState}
use Rattle.pdh_edge.specs.Files.Told.{Known}
use Rattle.pdh_runner.specs.Operation.{Files, bytes_in}
use Rattle.pdh_runner.specs.Reading.{HasLength}

pub is_held : (state : ShelfState) (name : List ℕ) (bytes : ℕ) (held : Option (List ℕ)) → HasLength name bytes state → state.told name ≡ Known held → is_none held ≡ false
is_held state name bytes None known told = absurd (let e : ◌≡◌ {A = Option ℕ} (Some bytes) None = known.told None told in cc)
is_held state name bytes (Some line) known told = refl

-- a file of which the length is known has that length
pub length_is : (state : ShelfState) (name : List ℕ) (bytes : ℕ) (files : Files) → HasLength name bytes state → state.told name ≡ Known (files name) → length (bytes_in files name) ≡ bytes
length_is state name bytes files known told = go (files name) (known.told (files name) told)
  where
    go : (held : Option (List ℕ)) → Some bytes ≡ option_map length held → length (unwrap_or held []) ≡ bytes
    go None e = absurd (cc)
    go (Some line) e = cc
