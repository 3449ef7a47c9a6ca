-- Reads, one after the other.
use Rattle.std.proofs.Common.{ℕ, List, ◌∙◌, Option, None, Some, sym}
use Rattle.std.specs.Io.KnownBytes.{Consumes, Keeps}

-- bytes come after a read that took nothing
pub kept_consumes : (a b c : Option (List ℕ)) (bytes : List ℕ) → Keeps a b → Consumes b c bytes → Consumes a c bytes
kept_consumes None b c bytes kept read = tt
kept_consumes (Some xs) None c bytes kept read = absurd kept
kept_consumes (Some xs) (Some ys) None bytes kept read = absurd read
kept_consumes (Some xs) (Some ys) (Some zs) bytes kept read = sym kept ∙ read
