-- Slips as the program tells them: a line each.
use Rattle.std.specs.Prelude.{◌≡◌, ℕ, ◌+◌, ◌^◌, ◌<◌, Bool, true, false, List, [], ◌∷◌, ◌++◌, flat_map, take, length, codes}
use Rattle.pdh_edge.specs.Counts.{one_more}
use Rattle.pdh_edge.specs.Files.{SinkState, Extends, Sends}
use Rattle.pdh_slips.specs.declared.slip.Slip.{Slip}
use Rattle.pdh_answers.specs.Answer.{place_text}

-- what a slip is called
abbrev pub slip_word : Bool → List ℕ
slip_word true = codes "slip over: "
slip_word false = codes "slip under: "

-- the line of a slip
abbrev pub slip_line : Slip → List ℕ
slip_line slip = slip_word slip.over ++ place_text slip.place ++ codes "\n"

-- the line of each slip, in order
abbrev pub slip_lines : List Slip → List ℕ
slip_lines slips = flat_map slip_line slips

-- The lines of these slips were written, but for that of the last: a prefix of it was written, and the call failed, which is
-- counted once.
pub record BreaksOff (slips : List Slip) (old new : SinkState) : Type 0 where
  pub told : List Slip
  pub last : Slip
  pub all : slips ≡ told ++ last ∷ []
  pub part : ℕ
  pub lines : Extends (slip_lines told ++ take part (slip_line last)) old new
  pub counted : new.faults ≡ one_more old.faults

-- ---- the log of the program

-- its sink, and how many slips it was told of
pub record LogState : Type 0 where
  pub sink : SinkState
  pub told : ℕ

abbrev pub log_state : SinkState → ℕ → LogState
log_state sink told = record { sink = sink; told = told }

-- it was told of these slips: their lines were written, and they were counted, as far as the count goes
pub record TellsLines (old : LogState) (slips : List Slip) (new : LogState) : Type 0 where
  pub sends : Sends (slip_lines slips) old.sink new.sink
  pub counts : old.told + length slips < 2 ^ 64 → new.told ≡ old.told + length slips

-- it failed at the last of these
abbrev pub BreaksLines : LogState → List Slip → LogState → Type 0
BreaksLines old slips new = BreaksOff slips old.sink new.sink
