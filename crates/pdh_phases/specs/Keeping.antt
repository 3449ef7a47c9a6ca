-- What phases keep of the bits that they took.
use Rattle.std.specs.Prelude.{◌≡◌, ℕ, suc, ◌%◌, ◌<◌, min, Bool, false, not, nat_le, List, length, drop, get_or, map, replicate, cond}
use Rattle.std.specs.List.{range_with_len}
use Rattle.pdh_shape.specs.Frame.{FrameShape}
use Rattle.pdh_phases.specs.declared.planes.Planes.{Planes}
use Rattle.pdh_phases.specs.Runs.{signal_bits, signal_at, places, run_of}

-- at which of the positions of some bits the signal stands, of those at which all bits of a signal have come
unfoldable pub signals_in : FrameShape → List Bool → List Bool
signals_in s bits = map (signal_at s bits) (range_with_len 0 (places s bits))

-- for each bit of a signal, 64 copies of the other bit
abbrev pub wrong_words : List Bool → List (List Bool)
wrong_words signal = map (λ bit. replicate 64 (not bit)) signal

-- a run with one more position, at which the signal stands or doesn't
abbrev pub longer : ℕ → Bool → ℕ
longer run stands = cond stands (min 3 (suc run)) 0

-- the planes show this run at a phase
pub record Shows (planes : Planes) (phase run : ℕ) : Type 0 where
  pub once : get_or planes.once phase false ≡ nat_le 1 run
  pub twice : get_or planes.twice phase false ≡ nat_le 2 run
  pub thrice : get_or planes.thrice phase false ≡ nat_le 3 run

-- what contracts see of phases
pub record Kept : Type 0 where
  -- the bits that have come from the next position on
  pub last : List Bool
  -- the phase of the next position
  pub phase : ℕ
  -- the run of each phase
  pub planes : Planes

abbrev pub kept_of : List Bool → ℕ → Planes → Kept
kept_of last phase planes = record { last = last; phase = phase; planes = planes }

-- Phases stand for the bits that they took since they were opened or cleared. The next position is the least at which not
-- all bits of a signal have come.
pub record StandsFor (s : FrameShape) (kept : Kept) (bits : List Bool) : Type 0 where
  pub last : kept.last ≡ drop (places s bits) bits
  pub phase : kept.phase ≡ places s bits % s.len
  pub runs : (phase : ℕ) → phase < s.len → Shows kept.planes phase (run_of s bits phase)

-- what holds of the fields between two calls
pub record Keeps (s : FrameShape) (signal : List Bool) (wrong : List (List Bool)) (last : List Bool) (phase : ℕ) (planes : Planes) : Type 0 where
  -- the frame begins with a signal, whose bits are kept and their opposites
  pub some : 0 < s.signal
  pub signal_is : signal ≡ signal_bits s
  pub wrong_is : wrong ≡ wrong_words (signal_bits s)
  -- not all bits of the next position's signal have come
  pub few : length last < s.signal
  pub within : phase < s.len
  -- each phase has a run
  pub whole : length planes.once ≡ s.len
