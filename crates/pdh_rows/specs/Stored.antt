-- The rows of a node as they are stored.
use Rattle.std.specs.Prelude.{◌≡◌, ℕ, ◌+◌, ◌-◌, ◌*◌, ◌<◌, ◌≤◌, List, [], ◌∷◌, length, map, take, drop, sum_by, slice_index}
use Rattle.std.specs.List.{slice_index_or}
use Rattle.pdh_rows.specs.declared.table.Table.{Table}
use Rattle.pdh_rows.specs.declared.flow.Flow.{Flow}
use Rattle.pdh_rows.specs.declared.flow.Says.{Says}
use Rattle.pdh_rows.specs.declared.flow.Says.TheVariants.{Counts}
use Rattle.pdh_rows.specs.Flows.{flowed, each, flow_in, FlowFits}
use Rattle.pdh_rows.specs.Rows.{NodeRow, row_flow}

-- a row, by the flows of its tributaries
abbrev pub flow_row : ℕ → List Flow → NodeRow
flow_row repeat flows = record { repeat = repeat; flows = flows }

-- a row whose frames have the same counts
abbrev pub node_row : ℕ → List ℕ → NodeRow
node_row repeat counts = flow_row repeat (map each counts)

-- a row, by what its numbers say
abbrev pub said_row : Flow → ℕ → Says → List ℕ → NodeRow
said_row ratio repeat says numbers = flow_row repeat (map (flow_in ratio says) numbers)

-- the repeats of the rows, what the numbers of each say, and all their numbers, those of a row behind those of the row before
abbrev pub stored_rows : ℕ → Flow → List ℕ → List Says → List ℕ → List NodeRow
stored_rows tribs ratio [] says numbers = []
stored_rows tribs ratio (repeat ∷ repeats) says numbers =
    said_row ratio repeat (slice_index_or says 0 Counts) (take tribs numbers)
    ∷ stored_rows tribs ratio repeats (drop 1 says) (drop tribs numbers)

abbrev pub rows_of : Table → List NodeRow
rows_of table = stored_rows table.tribs table.ratio table.repeats.items table.says.items table.numbers.items

-- how many frames rows of one node have
abbrev pub row_frames : List NodeRow → ℕ
row_frames rows = sum_by (λ row. row.repeat) rows

-- how many bits of a tributary arrive in the frames of rows of one node
abbrev pub row_bits : List NodeRow → ℕ → ℕ
row_bits rows trib = sum_by (λ row. flowed (row_flow row trib) row.repeat) rows

-- the last sums, of as many tributaries as there are numbers, with the bits of one more row
abbrev pub sum_with : Flow → List ℕ → ℕ → Says → List ℕ → ℕ → ℕ
sum_with ratio sums repeat says numbers trib =
    slice_index sums (length sums - length numbers + trib) + flowed (flow_in ratio says (slice_index numbers trib)) repeat

-- the flow of a tributary in a row, both by their numbers
abbrev pub stored_flow : Table → ℕ → ℕ → Flow
stored_flow table row trib =
    flow_in table.ratio (slice_index_or table.says.items row Counts) (slice_index table.numbers.items (row * table.tribs + trib))

-- each row has its numbers, its flows fit, and it and the end of the rows know the frames and the bits of each tributary before it
pub record IsTable (table : Table) : Type 0 where
  pub says_len : length table.says.items ≡ length table.repeats.items
  pub numbers_len : length table.numbers.items ≡ length table.repeats.items * table.tribs
  pub firsts_len : length table.firsts.items ≡ length table.repeats.items + 1
  pub before_len : length table.before.items ≡ (length table.repeats.items + 1) * table.tribs
  pub fits : (k trib : ℕ) → k < length table.repeats.items → trib < table.tribs
      → FlowFits (slice_index table.repeats.items k) (stored_flow table k trib)
  pub firsts : (k : ℕ) → k ≤ length table.repeats.items
      → slice_index table.firsts.items k ≡ row_frames (take k (rows_of table))
  pub before : (k trib : ℕ) → k ≤ length table.repeats.items → trib < table.tribs
      → slice_index table.before.items (k * table.tribs + trib) ≡ row_bits (take k (rows_of table)) trib
