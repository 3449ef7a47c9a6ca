-- What a cell holds.
use Rattle.std.specs.Prelude.{ℕ, ◌+◌, ◌-◌, ◌/◌, ◌^◌, min, max, Bool, true, false, nat_le, ◌==◌, ◌&&◌, ◌||◌, Some, None, count_by}
use Rattle.std.specs.List.{list_any, find}
use Rattle.std.specs.Option.{option_or}
use Rattle.pdh_spans.specs.Times.{Span}
use Rattle.pdh_timeline.specs.declared.state.State.{State}
use Rattle.pdh_timeline.specs.declared.state.State.TheVariants.{Out, Ais, Alarm}
use Rattle.pdh_cells.specs.declared.cell.Cell.{Cell}
use Rattle.pdh_cells.specs.declared.cell.Code.{Code}
use Rattle.pdh_cells.specs.Lanes.{Lanes}

-- where a count stands
abbrev pub most : ℕ
most = 2 ^ 64 - 1

-- ---- fine cells, each of 2 ^ shift bits

-- the one in which a bit is
abbrev pub fine_cell : ℕ → ℕ → ℕ
fine_cell shift bit = bit / 2 ^ shift

abbrev pub is_at : ℕ → ℕ → ℕ → Bool
is_at shift cell bit = fine_cell shift bit == cell

-- the last bit of a time, which has its first bit at least
abbrev pub last_bit : Span → ℕ
last_bit span = max span.from (span.to - 1)

-- a bit of a time is in a fine cell
abbrev pub shows : ℕ → ℕ → Span → Bool
shows shift cell span = nat_le (fine_cell shift span.from) cell && nat_le cell (fine_cell shift (last_bit span))

-- what a fine cell holds: a state where it has a bit of it, the numbers of errors, and the first code
abbrev pub contents : ℕ → Lanes → ℕ → Cell
contents shift lanes cell = record {
  out = list_any (shows shift cell) lanes.out;
  ais = list_any (shows shift cell) lanes.ais;
  alarm = list_any (shows shift cell) lanes.alarm;
  near = min (count_by (is_at shift cell) lanes.near) most;
  far = min (count_by (is_at shift cell) lanes.far) most;
  code = find (λ code. is_at shift cell code.place) lanes.codes;
}

-- ---- cells together

abbrev pub blank : Cell
blank = record { out = false; ais = false; alarm = false; near = 0; far = 0; code = None }

-- the cell of the bits of two, the first of which lies before the other
abbrev pub joined : Cell → Cell → Cell
joined a b = record {
  out = a.out || b.out;
  ais = a.ais || b.ais;
  alarm = a.alarm || b.alarm;
  near = min (a.near + b.near) most;
  far = min (a.far + b.far) most;
  code = option_or a.code b.code;
}

-- a cell in which one thing came

abbrev pub cell_of_state : State → Cell
cell_of_state Out = record blank { out = true }
cell_of_state Ais = record blank { ais = true }
cell_of_state Alarm = record blank { alarm = true }

abbrev pub cell_of_block : Cell
cell_of_block = record blank { near = 1 }

abbrev pub cell_of_far : Cell
cell_of_far = record blank { far = 1 }

abbrev pub cell_of_code : Code → Cell
cell_of_code code = record blank { code = Some code }
