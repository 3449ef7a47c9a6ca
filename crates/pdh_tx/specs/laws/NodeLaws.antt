-- A node's longer line takes no fewer bits.
use Rattle.std.specs.Prelude.{ℕ, suc, ◌/◌, ◌%◌, ◌≤◌, List, map}
use Rattle.pdh_shape.specs.declared.place.Path.{Path}
use Rattle.pdh_shape.specs.Frame.{FrameShape, IsFrame}
use Rattle.pdh_line.specs.Sending.{taken}
use Rattle.pdh_tx.specs.declared.tx.Tx.{Ghosts}
use Rattle.pdh_tx.specs.declared.tributary.Tributary.{Tributary}
use Rattle.pdh_tx.specs.Meaning.{Plan, StaysFree}
use Rattle.pdh_tx.specs.Tributary.{meaning_in}
use Rattle.pdh_tx.specs.Node.{node_meaning}
use Rattle.pdh_tx.specs.laws.Growing.{given_more}
use Rattle.pdh_tx.specs.laws.Longer.{each_longer, steps_clear}
use Rattle.pdh_tx.specs.laws.Stepping.{taken_grows}

pub node_grows : {C : Type 0} (tx : Ghosts C) (grows : (c : C) (plan : Plan) (x k : ℕ) → (tx.meaning c).given plan x k ≤ (tx.meaning c).given plan (suc x) k) (s : FrameShape) → IsFrame s → (path : Path) (ws : List (Tributary C))
    → (plan : Plan) (x k : ℕ) → (node_meaning s path (map (meaning_in tx) ws)).given plan x k ≤ (node_meaning s path (map (meaning_in tx) ws)).given plan (suc x) k
node_grows tx grows s frame path ws plan x k =
    given_more (meaning_in tx) plan ws (λ j. taken s (plan.counts path j) x) (λ j. taken s (plan.counts path j) (suc x)) k (λ w n k. grows w.child plan n k) (λ j. taken_grows s path plan x j frame)

-- longer lists bring nothing into a node's way
pub node_longer : {C : Type 0} (tx : Ghosts C) → ((c : C) → StaysFree (tx.meaning c)) → (s : FrameShape) (path : Path) (ws : List (Tributary C)) → StaysFree (node_meaning s path (map (meaning_in tx) ws))
node_longer tx longer s path ws plan few more x le =
    steps_clear s path plan (map (meaning_in tx) ws) few more (each_longer (meaning_in tx) (λ w. longer w.child) plan few more le ws) (x / s.len) (x % s.len)
