-- Where nothing stands in the way of a bit, nothing does where the leaves' lists hold more.
use Rattle.std.specs.Prelude.{◌≡◌, ℕ, zero, suc, ◌≤◌, nat_le, Bool, true, false, ◌==◌, cond, List, [], ◌∷◌, ◌++◌, map, Option, Some, None, flat_map, slice_get}
use Rattle.std.specs.List.{range_with_len}
use Rattle.std.proofs.Common.{refl}
use Rattle.pdh_shape.specs.declared.place.Path.{Path}
use Rattle.pdh_shape.specs.Frame.{FrameShape}
use Rattle.pdh_shape.specs.OwnNumbers.{lead}
use Rattle.pdh_line.specs.Sending.{arrives_at, came_before}
use Rattle.pdh_line.specs.Events.{overflows}
use Rattle.pdh_tx.specs.declared.tx.TxStop.{TxStop}
use Rattle.pdh_tx.specs.declared.tx.TxStop.TheVariants.{NoFrame, Overflow}
use Rattle.pdh_tx.specs.Held.{first_some, some_if, stops}
use Rattle.pdh_tx.specs.Meaning.{Plan, Meaning, StaysFree}
use Rattle.pdh_tx.specs.Node.{obstacle_of, place_at, lead_at, leads, beginning, arrival_at, arrivals, reads, steps}

-- ---- lists of obstacles

-- where none of these is one, none of those is
abbrev pub Clears : {X : Type 0} → List (Option X) → List (Option X) → Type 0
Clears few more = first_some few ≡ None → first_some more ≡ None

module _ {X : Type 0} where
  none_before : (a b : List (Option X)) → first_some (a ++ b) ≡ None → first_some a ≡ None
  none_before [] b h = refl
  none_before (None ∷ a) b h = none_before a b h
  none_before (Some x ∷ a) b h = absurd (cc)

  none_behind : (a b : List (Option X)) → first_some (a ++ b) ≡ None → first_some b ≡ None
  none_behind [] b h = h
  none_behind (None ∷ a) b h = none_behind a b h
  none_behind (Some x ∷ a) b h = absurd (cc)

  none_both : (a b : List (Option X)) → first_some a ≡ None → first_some b ≡ None → first_some (a ++ b) ≡ None
  none_both [] b p q = q
  none_both (None ∷ a) b p q = none_both a b p q
  none_both (Some x ∷ a) b p q = absurd (cc)

  pub clears_then : (a b c d : List (Option X)) → Clears a c → Clears b d → Clears (a ++ b) (c ++ d)
  clears_then a b c d p q h = none_both c d (p (none_before a b h)) (q (none_behind a b h))

  pub clears_next : (o p : Option X) (a b : List (Option X)) → (o ≡ None → p ≡ None) → Clears a b → Clears (o ∷ a) (p ∷ b)
  clears_next None p a b one rest h = rw (one refl) (rest h)
  clears_next (Some x) p a b one rest h = absurd (cc)

  pub clears_if : (b : Bool) (few more : List (Option X)) → Clears few more → Clears (cond b few []) (cond b more [])
  clears_if true few more p = p
  clears_if false few more p = λ h. h

  pub clears_map : (few more : ℕ → Option X) (js : List ℕ) → ((j : ℕ) → few j ≡ None → more j ≡ None) → Clears (map few js) (map more js)
  clears_map few more [] each = λ h. h
  clears_map few more (j ∷ js) each = clears_next (few j) (more j) (map few js) (map more js) (each j) (clears_map few more js each)

  pub clears_flat : (few more : ℕ → List (Option X)) (js : List ℕ) → ((j : ℕ) → Clears (few j) (more j)) → Clears (flat_map few js) (flat_map more js)
  clears_flat few more [] each = λ h. h
  clears_flat few more (j ∷ js) each = clears_then (few j) (flat_map few js) (more j) (flat_map more js) (each j) (clears_flat few more js each)

-- ---- children

-- longer lists bring nothing into a child's way
abbrev pub StaysFreeAt : Option Meaning → Plan → (ℕ → ℕ) → (ℕ → ℕ) → Type 0
StaysFreeAt child plan few more = (x : ℕ) → obstacle_of child plan few x ≡ None → obstacle_of child plan more x ≡ None

pub each_longer : {W : Type 0} (meaning : W → Meaning) → ((w : W) → StaysFree (meaning w)) → (plan : Plan) (few more : ℕ → ℕ) → ((k : ℕ) → few k ≤ more k) → (ws : List W) (j : ℕ) → StaysFreeAt (slice_get (map meaning ws) j) plan few more
each_longer meaning longer plan few more le [] j x h = h
each_longer meaning longer plan few more le (w ∷ ws) zero x h = longer w plan few more x le h
each_longer meaning longer plan few more le (w ∷ ws) (suc j) x h = each_longer meaning longer plan few more le ws j x h

-- ---- a node with stores

module _ (s : FrameShape) (path : Path) (plan : Plan) (ms : List Meaning) (few more : ℕ → ℕ) (each : (j : ℕ) → StaysFreeAt (slice_get ms j) plan few more) where
  lead_clears : (j : ℕ) → Clears (lead_at plan ms few j) (lead_at plan ms more j)
  lead_clears j = clears_map (obstacle_of (slice_get ms j) plan few) (obstacle_of (slice_get ms j) plan more) (range_with_len 0 lead) (each j)

  leads_clear : Clears (leads s plan ms few) (leads s plan ms more)
  leads_clear = clears_flat (lead_at plan ms few) (lead_at plan ms more) (range_with_len 0 s.tribs) lead_clears

  beginning_clears : (n t : ℕ) → Clears (beginning s path plan ms few n t) (beginning s path plan ms more n t)
  beginning_clears n t =
      let missing : Option TxStop = some_if (nat_le (plan.frames path) n) (NoFrame path) in
      let first : List (Option TxStop) → List (Option TxStop) = λ all. cond (n == 0) all [] in
      clears_if (t == 0) (missing ∷ first (leads s plan ms few)) (missing ∷ first (leads s plan ms more))
      (clears_next missing missing (first (leads s plan ms few)) (first (leads s plan ms more)) (λ h. h) (clears_if (n == 0) (leads s plan ms few) (leads s plan ms more) leads_clear))

  arrival_clears : (n t j : ℕ) → Clears (arrival_at s path plan ms few n t j) (arrival_at s path plan ms more n t j)
  arrival_clears n t j =
      let counts : ℕ → ℕ = plan.counts path j in
      let full : List (Option TxStop) = some_if (stops plan.mode (overflows s j counts n t)) (Overflow (place_at path j n t)) ∷ [] in
      let came : ℕ = came_before s counts n t in
      let child : (ℕ → ℕ) → Option TxStop = λ size. obstacle_of (slice_get ms j) plan size came in
      clears_if (arrives_at s (counts n) t) (child few ∷ full) (child more ∷ full) (clears_next (child few) (child more) full full (each j came) (λ h. h))

  pub steps_clear : (n t : ℕ) → Clears (steps s path plan ms few n t) (steps s path plan ms more n t)
  steps_clear n t =
      clears_then (beginning s path plan ms few n t) (arrivals s path plan ms few n t ++ reads s path plan n t) (beginning s path plan ms more n t) (arrivals s path plan ms more n t ++ reads s path plan n t) (beginning_clears n t)
      (clears_then (arrivals s path plan ms few n t) (reads s path plan n t) (arrivals s path plan ms more n t) (reads s path plan n t)
      (clears_flat (arrival_at s path plan ms few n t) (arrival_at s path plan ms more n t) (range_with_len 0 s.tribs) (arrival_clears n t)) (λ h. h))
