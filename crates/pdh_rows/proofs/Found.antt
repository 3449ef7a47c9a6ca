-- The row that the search by halves finds for a frame.
use Rattle.std.proofs.Common.{◌≡◌, ℕ, suc, ◌+◌, ◌-◌, ◌*◌, ◌<◌, ◌≤◌, ◌^◌, length, get_or, ap, sym, ◌∙◌, arith, slice_index}
use Rattle.std.proofs.lemmas.List.{get_or_default}
use Rattle.pdh_rows.specs.declared.table.Table.{Table}
use Rattle.pdh_line.specs.Progress.{arrived}
use Rattle.pdh_rows.specs.Flows.{flowed, flow_count}
use Rattle.pdh_rows.specs.Rows.{node_counts}
use Rattle.pdh_rows.specs.Stored.{IsTable, rows_of, stored_flow}
use Rattle.pdh_rows.proofs.FlowLaws.{product-fits}
use Rattle.pdh_rows.proofs.Parts.{next_stored}
use Rattle.pdh_rows.proofs.Tabled.{count_in_row, total_in_row, total_below_next}

-- the row of that number has the frame, and begins with that one
pub record IsFound (t : Table) (frame k first : ℕ) : Type 0 where
  pub row : k < length t.repeats.items
  pub low : slice_index t.firsts.items k ≤ frame
  pub high : frame < slice_index t.firsts.items (k + 1)
  pub first_is : first ≡ slice_index t.firsts.items k

pub found : (t : Table) (frame k first : ℕ) → IsTable t → k + 1 < length t.firsts.items → slice_index t.firsts.items k ≤ frame
    → frame < slice_index t.firsts.items (k + 1) → first ≡ get_or t.firsts.items k first → IsFound t frame k first
found t frame k first h row low high read = record {
  row = omega (arith, row, h.firsts_len);
  low = low;
  high = high;
  first_is = read ∙ get_or_default t.firsts.items k first 0 (omega arith);
}

-- the product that the bits after the frame are counted by
pub product_found : (t : Table) (frame k first trib : ℕ) → IsTable t → trib < t.tribs → IsFound t frame k first
    → suc (frame - first) * (stored_flow t k trib).bits < 2 ^ 127
product_found t frame k first trib h in_range found =
    product-fits (stored_flow t k trib) (slice_index t.repeats.items k) (suc (frame - first)) (h.fits k trib found.row in_range)
    (omega (arith, found.first_is, found.high, found.low, next_stored t k h found.row))

-- the count in the frame
pub count_found : (t : Table) (frame k first trib : ℕ) → IsTable t → trib < t.tribs → IsFound t frame k first
    → flow_count (stored_flow t k trib) (frame - first) ≡ node_counts (rows_of t) trib frame
count_found t frame k first trib h in_range found =
    ap (λ n. flow_count (stored_flow t k trib) (frame - n)) found.first_is
    ∙ sym (count_in_row t k trib frame h found.row in_range found.low found.high)

-- the bits in the frames before it
pub total_found : (t : Table) (frame k first trib : ℕ) → IsTable t → trib < t.tribs → IsFound t frame k first
    → slice_index t.before.items (k * t.tribs + trib) + flowed (stored_flow t k trib) (frame - first) ≡ arrived (node_counts (rows_of t) trib) frame
total_found t frame k first trib h in_range found =
    ap (λ n. slice_index t.before.items (k * t.tribs + trib) + flowed (stored_flow t k trib) (frame - n)) found.first_is
    ∙ sym (total_in_row t k trib frame h found.row in_range found.low (omega (arith, found.high)))

-- they are no more than those before the next row
pub total_found_below : (t : Table) (frame k first trib : ℕ) → IsTable t → trib < t.tribs → IsFound t frame k first
    → slice_index t.before.items (k * t.tribs + trib) + flowed (stored_flow t k trib) (frame - first) ≤ slice_index t.before.items ((k + 1) * t.tribs + trib)
total_found_below t frame k first trib h in_range found =
    omega (
      arith,
      ap (λ n. slice_index t.before.items (k * t.tribs + trib) + flowed (stored_flow t k trib) (frame - n)) found.first_is,
      total_below_next t k trib frame h found.row in_range (omega (arith, found.high)),
    )
