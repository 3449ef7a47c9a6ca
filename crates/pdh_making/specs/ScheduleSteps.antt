-- The step that reads a schedule: what it finds, and why it stops.
use Rattle.std.specs.Prelude.{◌≡◌, ℕ, ◌≤◌, List, [], length, unwrap_or, ⊤, Some, Result, Err}
use Rattle.pdh_edge.specs.Files.{ShelfState, WhereTold, FailsToRead}
use Rattle.pdh_edge.specs.declared.shelf.Call.TheVariants.{Read as ReadCall}
use Rattle.pdh_edge.specs.Files.Told.{Known}
use Rattle.pdh_clock.specs.Row.{Row}
use Rattle.pdh_chain.specs.declared.chain.Chain.{Chain}
use Rattle.pdh_answers.specs.Names.{schedule_name}
use Rattle.pdh_making.specs.Schedules.{rows_of}
use Rattle.pdh_answers.specs.declared.file.File.TheVariants.{Schedule}
use Rattle.pdh_answers.specs.declared.answer.Stop.{Stop}
use Rattle.pdh_answers.specs.declared.answer.Stop.TheVariants.{Memory, Read, LongSchedule, BadRow, UnknownNode, CountOver}
use Rattle.pdh_shape.specs.OwnNumbers.{most_bytes}

-- where the schedule's text is told, it has these rows, or is refused so
abbrev pub RowsAre : Chain → ShelfState → Result (List Row) Stop → Type 0
RowsAre chain state rows = (text : List ℕ) → state.told schedule_name ≡ Known (Some text) → rows_of chain text ≡ rows

-- why there is no schedule: memory is wanting, the call for its text, which isn't too long, failed, or the text is refused
abbrev pub IsScheduleStop : Chain → ShelfState → ShelfState → Stop → Type 0
IsScheduleStop chain old new Memory = ⊤
IsScheduleStop chain old new (Read file) = (file ≡ Schedule) × FailsToRead ReadCall schedule_name old new × WhereTold (old.told schedule_name) (λ held. length (unwrap_or held []) ≤ most_bytes)
IsScheduleStop chain old new LongSchedule = RowsAre chain old (Err LongSchedule)
IsScheduleStop chain old new (BadRow line) = RowsAre chain old (Err (BadRow line))
IsScheduleStop chain old new (UnknownNode line) = RowsAre chain old (Err (UnknownNode line))
IsScheduleStop chain old new (CountOver line count most) = RowsAre chain old (Err (CountOver line count most))
IsScheduleStop chain old new _ = ⊥
