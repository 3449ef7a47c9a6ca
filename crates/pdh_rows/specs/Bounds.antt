-- The two bounds of the tolerance, each as two sums over frames, and the runs of frames that pass a bound.
use Rattle.std.specs.Prelude.{◌≡◌, ℕ, suc, ◌+◌, ◌*◌, ◌<◌, ◌≤◌, nat_lt, nat_le, ◌==◌, ◌&&◌, ◌||◌, Bool, Option, Some, None, if◌then◌else◌}
use Rattle.pdh_line.specs.Progress.{arrived}
use Rattle.pdh_shape.specs.OwnNumbers.{allowance}
use Rattle.pdh_rows.specs.declared.table.TribRow.{TribRow}
use Rattle.pdh_rows.specs.declared.tolerance.Bound.{Bound}
use Rattle.pdh_rows.specs.declared.tolerance.Bound.TheVariants.{Most, Least}
use Rattle.pdh_rows.specs.declared.flow.Flow.{Flow}
use Rattle.pdh_rows.specs.Flows.{flowed, FlowFits}
use Rattle.pdh_rows.specs.declared.tolerance.Span.{Span}

-- What brings a run of so many frames, in which so many bits arrive, nearer to the bound: the bits that arrive, or those
-- that the frames carry at least.
abbrev pub gains_of : Bound → ℕ → ℕ → ℕ → ℕ
gains_of Most low frames bits = bits
gains_of Least low frames bits = low * frames

-- and what takes it away: the bits that the frames carry at most, or those that arrive
abbrev pub losses_of : Bound → ℕ → ℕ → ℕ → ℕ
losses_of Most low frames bits = suc low * frames
losses_of Least low frames bits = bits

-- both over the first n frames
abbrev pub gains : Bound → ℕ → (ℕ → ℕ) → ℕ → ℕ
gains bound low counts n = gains_of bound low n (arrived counts n)

abbrev pub losses : Bound → ℕ → (ℕ → ℕ) → ℕ → ℕ
losses bound low counts n = losses_of bound low n (arrived counts n)

-- a run from one frame up to but without another passes the bound: it gains more than it loses, by more than the allowance
abbrev pub Passes : (ℕ → ℕ) → (ℕ → ℕ) → ℕ → ℕ → Type 0
Passes gains losses from to = gains from + losses to + allowance < gains to + losses from

-- it doesn't
abbrev pub Keeps : (ℕ → ℕ) → (ℕ → ℕ) → ℕ → ℕ → Type 0
Keeps gains losses from to = gains to + losses from ≤ gains from + losses to + allowance

-- no run inside so many frames passes the bound
abbrev pub AllKeep : (ℕ → ℕ) → (ℕ → ℕ) → ℕ → Type 0
AllKeep gains losses frames = (from to : ℕ) → from ≤ to → to ≤ frames → Keeps gains losses from to

-- inside so many frames this is the least end of a run that passes the bound
pub record IsFirstEnd (gains losses : ℕ → ℕ) (frames to : ℕ) : Type 0 where
  pub inside : to ≤ frames
  pub from : ℕ
  pub before : from ≤ to
  pub passes : Passes gains losses from to
  pub least : (m n : ℕ) → m ≤ n → n < to → Keeps gains losses m n

-- this is the run that passes the bound with the least end, and for it the least first frame
pub record IsFirstBreak (gains losses : ℕ → ℕ) (frames : ℕ) (span : Span) : Type 0 where
  pub inside : span.to ≤ frames
  pub before : span.from ≤ span.to
  pub passes : Passes gains losses span.from span.to
  pub least_end : (m n : ℕ) → m ≤ n → n < span.to → Keeps gains losses m n
  pub least_start : (m : ℕ) → m < span.from → Keeps gains losses m span.to

-- this is the least first frame of a run that ends there and passes the bound
pub record IsFirstStart (gains losses : ℕ → ℕ) (to from : ℕ) : Type 0 where
  pub before : from ≤ to
  pub passes : Passes gains losses from to
  pub least : (m : ℕ) → m < from → Keeps gains losses m to

-- over so many frames, in which the bits of a flow arrive: what brings the run nearer to the bound, and what takes it away
abbrev pub flow_gains : Bound → ℕ → Flow → ℕ → ℕ
flow_gains bound low flow n = gains_of bound low n (flowed flow n)

abbrev pub flow_losses : Bound → ℕ → Flow → ℕ → ℕ
flow_losses bound low flow n = losses_of bound low n (flowed flow n)

-- a row begins behind so many frames; the bits of a tributary arrive by its flow, and so many before it
pub record IsTribRow (counts : ℕ → ℕ) (start next : ℕ) (row : TribRow) : Type 0 where
  pub first : row.first ≡ start
  pub ends : next ≡ start + row.frames
  pub arrivals : (n : ℕ) → n ≤ row.frames → arrived counts (start + n) ≡ row.before + flowed row.flow n
  pub bits : row.bits ≡ flowed row.flow row.frames
  pub fits : FlowFits row.frames row.flow

-- one run ends before another, or where it ends and begins no later
abbrev pub is_earlier : Span → Span → Bool
is_earlier a b = nat_lt a.to b.to || (a.to == b.to && nat_le a.from b.from)

abbrev pub earlier : Option Span → Option Span → Option Span
earlier None other = other
earlier (Some span) None = Some span
earlier (Some span) (Some other) = if is_earlier span other then Some span else Some other
