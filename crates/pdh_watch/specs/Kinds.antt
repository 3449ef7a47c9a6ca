-- The kinds of events.
use Rattle.std.specs.Prelude.{ℕ, List, [], ◌∷◌, codes}

-- the name and the bit of each
abbrev pub kinds : List (List ℕ × ℕ)
kinds =
    (codes "aligned", 1) ∷ (codes "lost", 2) ∷ (codes "ais_on", 4) ∷ (codes "ais_off", 8) ∷ (codes "alarm_on", 16) ∷ (codes "alarm_off", 32) ∷ (codes "parity", 64)
    ∷ (codes "path_parity", 128) ∷ (codes "febe", 256) ∷ (codes "feac", 512) ∷ (codes "crc", 1024) ∷ (codes "ebit", 2048) ∷ []
