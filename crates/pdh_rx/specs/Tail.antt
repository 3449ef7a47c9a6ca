-- A leaf gets what it receives, and nothing is noted.
use Rattle.std.specs.Prelude.{ℕ, [], ◌==◌, if◌then◌else◌, None}
use Rattle.pdh_rx.specs.Meaning.{Meaning}

abbrev pub tail_meaning : ℕ → Meaning
tail_meaning leaf = record { path = None; leaves = λ k. k == leaf; got = λ line k. (if k == leaf then line else []); notes = λ line bit. []; delivered = λ line. 0; counted = λ line. [] }
