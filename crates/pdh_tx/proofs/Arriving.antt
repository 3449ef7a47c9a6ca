-- What arrives in one slot of a tributary.
use Rattle.std.proofs.Common.{◌≡◌, inl, inr, ℕ, suc, ◌+◌, ◌≤◌, true, false, ◌&&◌, List, [], ◌∷◌, ◌++◌, cond, leb, refl, sym, ap, ◌∙◌, subst, arith, Some, slice_get}
use Rattle.std.proofs.lemmas.Bool.{cases_eq}
use Rattle.pdh_shape.specs.Frame.{FrameShape, IsFrame}
use Rattle.pdh_shape.specs.declared.place.Path.{Path}
use Rattle.pdh_shape.specs.OwnNumbers.{store_size}
use Rattle.pdh_line.specs.Paths.{steps_of}
use Rattle.pdh_line.specs.Sending.{HasStores, Mode, arrives_at, came_before, read_before}
use Rattle.pdh_line.specs.Sending.Mode.{Plain, Slipping}
use Rattle.pdh_line.specs.Events.{overflows}
use Rattle.pdh_line.proofs.SendingLaws.{came_before-suc}
use Rattle.pdh_tx.specs.declared.tx.TxStop.TheVariants.{Overflow}
use Rattle.pdh_tx.specs.Meaning.{Meaning, Plan}
use Rattle.pdh_tx.specs.Held.{stops, slips, slip_if, with_slip, arrival, slips_at_arrival, first_some, some_if}
use Rattle.pdh_tx.specs.Slipping.{slips_over, read_to, arrived_to, arriving_to}
use Rattle.pdh_tx.specs.laws.Carrying.{readout}
use Rattle.pdh_tx.proofs.Advancing.{upto_here, upto_next, upto_other}
use Rattle.pdh_tx.proofs.Readouts.{full_same, IsCount, arrival-by, no-arrival-by, over-told}
use Rattle.pdh_tx.specs.Node.{arrival_at, obstacle_of, slips_below, arrival_slips, place_at}

pub came_arrives : (s : FrameShape) (counts : ℕ → ℕ) (n t : ℕ) → IsFrame s → counts n ≤ s.len → arrives_at s (counts n) t ≡ true → suc (came_before s counts n t) ≡ came_before s counts n (suc t)
came_arrives s counts n t frame fits is =
    let next : came_before s counts n (suc t) ≡ came_before s counts n t + 1 = came_before-suc s counts n t frame fits ∙ ap (λ b. came_before s counts n t + cond b 1 0) is in
    omega (arith, next)

pub came_same : (s : FrameShape) (counts : ℕ → ℕ) (n t : ℕ) → IsFrame s → counts n ≤ s.len → arrives_at s (counts n) t ≡ false → came_before s counts n t ≡ came_before s counts n (suc t)
came_same s counts n t frame fits is =
    let next : came_before s counts n (suc t) ≡ came_before s counts n t + 0 = came_before-suc s counts n t frame fits ∙ ap (λ b. came_before s counts n t + cond b 1 0) is in
    omega (arith, next)

pub no_arrival : (s : FrameShape) (path : Path) (plan : Plan) (ms : List Meaning) (size : ℕ → ℕ) (n t j : ℕ) → arrives_at s (plan.counts path j n) t ≡ false → arrival_at s path plan ms size n t j ≡ []
no_arrival s path plan ms size n t j is =
    ap (λ b. cond b (obstacle_of (slice_get ms j) plan size (came_before s (plan.counts path j) n t) ∷ some_if (stops plan.mode (overflows s j (plan.counts path j) n t)) (Overflow (place_at path j n t)) ∷ []) []) is

full_stops : (s : FrameShape) (counts : ℕ → ℕ) (mode : Mode) (n t j held : ℕ) → arrives_at s (counts n) t ≡ true → IsCount s j counts (readout s j counts mode n t) held (came_before s counts n t) → stops mode (overflows s j counts n t) ≡ stops mode (leb store_size held)
full_stops s counts Plain n t j held is count =
    ap (λ b. b && leb (read_before s j counts n t + store_size) (came_before s counts n t)) is ∙ sym (full_same (read_before s j counts n t) (came_before s counts n t) held count)
full_stops s counts Slipping n t j held is count = refl

-- the arrival of the definitions is that of the tributary
pub arrival_same : (s : FrameShape) (path : Path) (plan : Plan) (ms : List Meaning) (size : ℕ → ℕ) (n t j held : ℕ) (m : Meaning) → arrives_at s (plan.counts path j n) t ≡ true → slice_get ms j ≡ Some m
    → IsCount s j (plan.counts path j) (read_to s path plan n t j) held (came_before s (plan.counts path j) n t)
    → first_some (arrival_at s path plan ms size n t j) ≡ first_some (arrival m plan (place_at path j n t) size (came_before s (plan.counts path j) n t) held)
arrival_same s path plan ms size n t j held m is at count =
    let full = full_stops s (plan.counts path j) plan.mode n t j held is count in
    ap (λ b. first_some (cond b (obstacle_of (slice_get ms j) plan size (came_before s (plan.counts path j) n t) ∷ some_if (stops plan.mode (overflows s j (plan.counts path j) n t)) (Overflow (place_at path j n t)) ∷ []) [])) is
    ∙ ap (λ o. first_some (obstacle_of o plan size (came_before s (plan.counts path j) n t) ∷ some_if (stops plan.mode (overflows s j (plan.counts path j) n t)) (Overflow (place_at path j n t)) ∷ [])) at
    ∙ ap (λ b. first_some (m.obstacle plan size (came_before s (plan.counts path j) n t) ∷ some_if b (Overflow (place_at path j n t)) ∷ [])) full

-- and so are its slips
pub arrival_told : (s : FrameShape) (path : Path) (plan : Plan) (ms : List Meaning) (n t j held : ℕ) (m : Meaning) → HasStores s → arrives_at s (plan.counts path j n) t ≡ true → slice_get ms j ≡ Some m
    → IsCount s j (plan.counts path j) (read_to s path plan n t j) held (came_before s (plan.counts path j) n t)
    → arrival_slips s path plan ms n t j ≡ slips_at_arrival m plan (place_at path j n t) (came_before s (plan.counts path j) n t) held
arrival_told s path plan ms n t j held m stores is at count =
    ap (λ b. cond b (slips_below (slice_get ms j) plan (came_before s (plan.counts path j) n t) ++ slip_if (slips_over s path plan n t j) true (place_at path j n t)) []) is
    ∙ ap (λ o. slips_below o plan (came_before s (plan.counts path j) n t) ++ slip_if (slips_over s path plan n t j) true (place_at path j n t)) at
    ∙ ap (λ b. m.slips plan (came_before s (plan.counts path j) n t) ++ slip_if b true (place_at path j n t)) (over-told s j (plan.counts path j) plan.mode (steps_of path) n t stores ∙ sym (arrival-by s j (plan.counts path j) plan.mode n t held is count))

-- what was read of the store then
pub arrival_out : (s : FrameShape) (path : Path) (plan : Plan) (n t j held : ℕ) → arrives_at s (plan.counts path j n) t ≡ true
    → IsCount s j (plan.counts path j) (read_to s path plan n t j) held (came_before s (plan.counts path j) n t)
    → with_slip (slips plan.mode (leb store_size held)) true (read_to s path plan n t j) ≡ arrived_to s path plan n t j
arrival_out s path plan n t j held is count = ap (λ b. with_slip b true (read_to s path plan n t j)) (arrival-by s j (plan.counts path j) plan.mode n t held is count)

-- and where no bit arrives
pub no_arrival_out : (s : FrameShape) (path : Path) (plan : Plan) (n t j : ℕ) → arrives_at s (plan.counts path j n) t ≡ false → read_to s path plan n t j ≡ arrived_to s path plan n t j
no_arrival_out s path plan n t j none = sym (ap (λ b. with_slip b true (read_to s path plan n t j)) (no-arrival-by s j (plan.counts path j) plan.mode n t none))

-- what was read of each is what it was, where no bit arrives
pub arriving_idle : (s : FrameShape) (path : Path) (plan : Plan) (n t i : ℕ) → arrives_at s (plan.counts path i n) t ≡ false → (j : ℕ) → arriving_to s path plan n t i j ≡ arriving_to s path plan n t (suc i) j
arriving_idle s path plan n t i none j = elim (cases_eq j i) [
  | inl here ↦
      let P : ℕ → Type 0 = λ v. arriving_to s path plan n t i v ≡ arriving_to s path plan n t (suc i) v in
      subst P (sym here) (upto_here (read_to s path plan n t) (arrived_to s path plan n t) i ∙ no_arrival_out s path plan n t i none ∙ sym (upto_next (read_to s path plan n t) (arrived_to s path plan n t) i))
  | inr other ↦ upto_other (read_to s path plan n t) (arrived_to s path plan n t) i j other
]
