-- The runs of a frame of E2, computed by the checker.
use Rattle.std.specs.Prelude.{List, ◌∷◌, replicate, refl}
use Rattle.std.proofs.Common.{lit<}
use Rattle.pdh_eframes.specs.Sets.{set_role}
use Rattle.pdh_eframes.specs.Plans.{e2}
use Rattle.pdh_runs.specs.declared.run.Run.{Run}
use Rattle.pdh_runs.specs.Runs.{AreRuns}

-- G.742, Table 1: 12 slots before the 200 information slots of the first set, and 4 control slots before the information and
-- justifiable slots of each other set
abbrev pub e2_runs : List Run
e2_runs = record { overhead = 12; payload = 200 } ∷ replicate 3 (record { overhead = 4; payload = 208 })

pub e2_has_runs : AreRuns e2 e2_runs
unfolding set_role
e2_has_runs = record { written = refl; maximal = (lit< tt, (lit< tt, (lit< tt, (lit< tt, (lit< tt, (lit< tt, tt)))))) }
