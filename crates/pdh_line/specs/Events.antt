-- Overflows and underflows of a node's elastic stores.
use Rattle.std.specs.Prelude.{◌≡◌, ◌<◌, ℕ, suc, ◌+◌, ◌*◌, Bool, false, not, nat_le, ◌&&◌, ◌==◌, if◌then◌else◌, List, [], ◌∷◌, map, filter}
use Rattle.pdh_shape.specs.Frame.{FrameShape}
use Rattle.pdh_shape.specs.Tributary.{reads_from}
use Rattle.pdh_shape.specs.OwnNumbers.{store_size}
use Rattle.pdh_line.specs.Sending.{arrives_at, sends_more, came_before, read_before, Mode, slips_in}
use Rattle.pdh_line.specs.Sending.Mode.{Plain, Slipping}

pub data Kind : Type 0 where
  Overflow Underflow : Kind

-- where an event stands: the node, by the tributaries on the way to it from the top, and its tributary, frame and slot;
-- all are counted from 0
pub record Event : Type 0 where
  pub kind : Kind
  pub path : List ℕ
  pub trib : ℕ
  pub frame : ℕ
  pub slot : ℕ

-- a bit of tributary j arrives in slot t of frame n, and its store is full
abbrev pub overflows : FrameShape → ℕ → (ℕ → ℕ) → ℕ → ℕ → Bool
overflows s j counts n t = arrives_at s (counts n) t && nat_le (read_before s j counts n t + store_size) (came_before s counts n t)

-- slot t of frame n carries a bit of tributary j, and after the slot's arrivals its store is empty
abbrev pub underflows : FrameShape → ℕ → (ℕ → ℕ) → ℕ → ℕ → Bool
underflows s j counts n t =
    reads_from j (sends_more s counts n) (s.role t) && nat_le (came_before s counts n (suc t)) (read_before s j counts n t)

-- the store of tributary j meets no event before slot t of frame n
pub record IsQuiet (s : FrameShape) (j : ℕ) (counts : ℕ → ℕ) (n t : ℕ) : Type 0 where
  pub fits : (m u : ℕ) → u < s.len → m * s.len + u < n * s.len + t → overflows s j counts m u ≡ false
  pub lasts : (m u : ℕ) → u < s.len → m * s.len + u < n * s.len + t → underflows s j counts m u ≡ false

-- the value where the test holds, or nothing
abbrev pub one_if : {X : Type 0} → Bool → X → List X
one_if test x = (if test then x ∷ [] else [])

-- ---- the events of a slot

-- the slip of that kind of tributary j of the node at a path in slot t of frame n, if there is one
abbrev pub slip_at : Kind → FrameShape → List ℕ → ℕ → (ℕ → ℕ) → ℕ → ℕ → List Event
slip_at kind s path j counts n t =
    map (λ slip. record { kind = kind; path = path; trib = j; frame = n; slot = t })
    (filter (λ slip. (slip.slot == t) && is_kind kind slip.over) (slips_in s j counts n (suc t)))
  where
    is_kind : Kind → Bool → Bool
    is_kind Overflow over = over
    is_kind Underflow over = not over

-- the overflow of tributary j of the node at a path in slot t of frame n, if there is one
abbrev pub overflow_at : Mode → FrameShape → List ℕ → ℕ → (ℕ → ℕ) → ℕ → ℕ → List Event
overflow_at Plain s path j counts n t = one_if (overflows s j counts n t) (record { kind = Overflow; path = path; trib = j; frame = n; slot = t })
overflow_at Slipping s path j counts n t = slip_at Overflow s path j counts n t

-- the underflow of tributary j of the node at a path in slot t of frame n, if there is one
abbrev pub underflow_at : Mode → FrameShape → List ℕ → ℕ → (ℕ → ℕ) → ℕ → ℕ → List Event
underflow_at Plain s path j counts n t = one_if (underflows s j counts n t) (record { kind = Underflow; path = path; trib = j; frame = n; slot = t })
underflow_at Slipping s path j counts n t = slip_at Underflow s path j counts n t
