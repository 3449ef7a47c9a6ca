-- What a table knows of its rows.
use Rattle.std.proofs.Common.{◌≡◌, ℕ, suc, ◌+◌, ◌-◌, ◌*◌, ◌<◌, ◌≤◌, [], length, get_or, take, ap, sym, ◌∙◌, arith, slice_index, add-one, suc-mul}
use Rattle.std.specs.List.Sorted.{IsNonDecreasing}
use Rattle.std.proofs.lemmas.List.{take_all, get_or_default}
use Rattle.std.proofs.lemmas.List.Sums.{sum_by_more}
use Rattle.std.proofs.lemmas.List.Sorted.{IsNonDecreasingBy-from_all_adjacent}
use Rattle.std.proofs.Math.Nat.{mul-le-mul_right}
use Rattle.pdh_rows.specs.declared.table.Table.{Table}
use Rattle.pdh_line.specs.Progress.{arrived}
use Rattle.pdh_rows.specs.Flows.{flowed, flow_count}
use Rattle.pdh_rows.specs.Rows.{NodeRow, node_frames, node_frame_count, node_counts, row_flow}
use Rattle.pdh_rows.specs.Stored.{IsTable, rows_of, row_frames, row_bits, stored_flow}
use Rattle.pdh_rows.proofs.FlowLaws.{flowed-grows}
use Rattle.pdh_rows.proofs.Joining.{joined, joined_counts, no_row, HasFlows, node_frames-joined, length-joined, get_or-joined, frame_count, arrived_in_row}
use Rattle.pdh_rows.proofs.Storing.{length-stored_rows, get_or-stored_rows, stored_flow-is}

pub length-rows_of : (t : Table) → length (rows_of t) ≡ length t.repeats.items
length-rows_of t = length-stored_rows t.tribs t.ratio t.repeats.items t.says.items t.numbers.items

pub node_frames-rows_of : (t : Table) → node_frames (rows_of t) ≡ joined (rows_of t)
node_frames-rows_of t = node_frames-joined (rows_of t)

-- the k-th row
abbrev pub row_at : Table → ℕ → NodeRow
row_at t k = get_or (rows_of t) k no_row

pub node_frame_count-row_frames : (t : Table) → node_frame_count (rows_of t) ≡ row_frames (rows_of t)
node_frame_count-row_frames t = ap length (node_frames-rows_of t) ∙ length-joined (rows_of t)

-- the number of all frames stands behind the first frames of the rows
pub node_frame_count-rows_of : (t : Table) → IsTable t → node_frame_count (rows_of t) ≡ slice_index t.firsts.items (length t.repeats.items)
node_frame_count-rows_of t h =
    node_frame_count-row_frames t ∙ ap row_frames (sym (take_all (length t.repeats.items) (rows_of t) (omega (arith, length-rows_of t))))
    ∙ sym (h.firsts (length t.repeats.items) (omega arith))

-- the last sums are those of all rows
pub last_before : (t : Table) (trib : ℕ) → IsTable t → trib < t.tribs
    → slice_index t.before.items (length t.before.items - t.tribs + trib) ≡ row_bits (rows_of t) trib
last_before t trib h m =
    let end : length t.before.items - t.tribs
    ≡ length t.repeats.items * t.tribs = omega
    (arith, h.before_len, add-one (length t.repeats.items), suc-mul (length t.repeats.items) t.tribs) in
    ap (λ n. slice_index t.before.items (n + trib)) end ∙ h.before (length t.repeats.items) trib (omega arith) m
    ∙ ap (λ rows. row_bits rows trib) (take_all (length t.repeats.items) (rows_of t) (omega (arith, length-rows_of t)))

-- the next row begins behind the frames of this one
pub next_first : (t : Table) (k : ℕ) → IsTable t → k < length t.repeats.items
    → slice_index t.firsts.items (k + 1) ≡ slice_index t.firsts.items k + (row_at t k).repeat
next_first t k h l =
    h.firsts (k + 1) (omega arith) ∙ sum_by_more (λ row. row.repeat) (rows_of t) k no_row (omega (arith, length-rows_of t))
    ∙ ap (λ n. n + (row_at t k).repeat) (sym (h.firsts k (omega arith)))

-- a row's frames, as they are stored
pub repeat_at : (t : Table) (k : ℕ) → k < length t.repeats.items → (row_at t k).repeat ≡ slice_index t.repeats.items k
repeat_at t k l = ap (λ row. row.repeat) (get_or-stored_rows t.tribs t.ratio t.repeats.items t.says.items t.numbers.items k l)

-- the flow of a tributary in the k-th row
pub flow_at : (t : Table) (k trib : ℕ) → IsTable t → k < length t.repeats.items → trib < t.tribs → row_flow (row_at t k) trib ≡ stored_flow t k trib
flow_at t k trib h l m =
    let up : k + 1 ≤ length t.repeats.items = omega arith in
    stored_flow-is t.tribs t.ratio t.repeats.items t.says.items t.numbers.items k trib l m (omega (arith, mul-le-mul_right t.tribs up, h.numbers_len))

pub has_flows : (t : Table) (trib : ℕ) → IsTable t → trib < t.tribs → HasFlows (rows_of t) trib
has_flows t trib h m k l =
    let inside : k < length t.repeats.items = omega (arith, l, length-rows_of t) in
    omega (arith, ap (λ flow. flow.frames) (flow_at t k trib h inside m), (h.fits k trib inside m).some)

pub next_before : (t : Table) (k trib : ℕ) → IsTable t → k < length t.repeats.items → trib < t.tribs
    → slice_index t.before.items ((k + 1) * t.tribs + trib)
    ≡ slice_index t.before.items (k * t.tribs + trib) + flowed (stored_flow t k trib) (slice_index t.repeats.items k)
next_before t k trib h l m =
    h.before (k + 1) trib (omega arith) m
    ∙ sum_by_more (λ row. flowed (row_flow row trib) row.repeat) (rows_of t) k no_row (omega (arith, length-rows_of t))
    ∙ ap (λ n. n + flowed (row_flow (row_at t k) trib) (row_at t k).repeat) (sym (h.before k trib (omega arith) m))
    ∙ ap (λ flow. slice_index t.before.items (k * t.tribs + trib) + flowed flow (row_at t k).repeat) (flow_at t k trib h l m)
    ∙ ap (λ n. slice_index t.before.items (k * t.tribs + trib) + flowed (stored_flow t k trib) n) (repeat_at t k l)

pub firsts_rise : (t : Table) → IsTable t → IsNonDecreasing t.firsts.items
firsts_rise t h = IsNonDecreasingBy-from_all_adjacent (λ first. first) t.firsts.items (λ k d l.
    let next = next_first t k h (omega (arith, h.firsts_len)) in
    omega (arith, next, get_or_default t.firsts.items k d 0 (omega arith), get_or_default t.firsts.items (k + 1) d 0 l))

-- the count in a frame of the k-th row
pub count_in_row : (t : Table) (k trib frame : ℕ) → IsTable t → k < length t.repeats.items → trib < t.tribs
    → slice_index t.firsts.items k ≤ frame → frame < slice_index t.firsts.items (k + 1)
    → node_counts (rows_of t) trib frame ≡ flow_count (stored_flow t k trib) (frame - slice_index t.firsts.items k)
count_in_row t k trib frame h l m low high =
    let i = frame - slice_index t.firsts.items k in
    let place : frame ≡ row_frames (take k (rows_of t)) + i = omega (arith, h.firsts k (omega arith)) in
    let within : i < (row_at t k).repeat = omega (arith, next_first t k h l) in
    ap (λ frames. slice_index (get_or frames frame []) trib) (node_frames-rows_of t)
    ∙ ap (λ n. slice_index (get_or (joined (rows_of t)) n []) trib) place
    ∙ ap (λ frame. slice_index frame trib) (get_or-joined (rows_of t) k i (omega (arith, length-rows_of t)) within)
    ∙ frame_count (row_at t k) trib i
    ∙ ap (λ flow. flow_count flow i) (flow_at t k trib h l m)

-- the bits in the first frames, where they end in the k-th row or at its end
pub total_in_row : (t : Table) (k trib frames : ℕ) → IsTable t → k < length t.repeats.items → trib < t.tribs
    → slice_index t.firsts.items k ≤ frames → frames ≤ slice_index t.firsts.items (k + 1)
    → arrived (node_counts (rows_of t) trib) frames
    ≡ slice_index t.before.items (k * t.tribs + trib) + flowed (stored_flow t k trib) (frames - slice_index t.firsts.items k)
total_in_row t k trib frames h l m low high =
    let i = frames - slice_index t.firsts.items k in
    let place : frames ≡ row_frames (take k (rows_of t)) + i = omega (arith, h.firsts k (omega arith)) in
    let within : i ≤ (row_at t k).repeat = omega (arith, next_first t k h l) in
    ap (λ fs. arrived (λ frame. slice_index (get_or fs frame []) trib) frames) (node_frames-rows_of t)
    ∙ ap (arrived (joined_counts (rows_of t) trib)) place
    ∙ arrived_in_row (rows_of t) trib k i (has_flows t trib h m) (omega (arith, length-rows_of t)) within
    ∙ ap (λ n. n + flowed (row_flow (row_at t k) trib) i) (sym (h.before k trib (omega arith) m))
    ∙ ap (λ flow. slice_index t.before.items (k * t.tribs + trib) + flowed flow i) (flow_at t k trib h l m)

-- how many frames of a row stand before a frame
pub frames_so_far : (t : Table) (k frames : ℕ) → IsTable t → k < length t.repeats.items → frames ≤ slice_index t.firsts.items (k + 1)
    → frames - slice_index t.firsts.items k ≤ slice_index t.repeats.items k
frames_so_far t k frames h l high = omega (arith, next_first t k h l, repeat_at t k l)

-- they are no more than those before the next row
pub total_below_next : (t : Table) (k trib frames : ℕ) → IsTable t → k < length t.repeats.items → trib < t.tribs
    → frames ≤ slice_index t.firsts.items (k + 1)
    → slice_index t.before.items (k * t.tribs + trib) + flowed (stored_flow t k trib) (frames - slice_index t.firsts.items k)
    ≤ slice_index t.before.items ((k + 1) * t.tribs + trib)
total_below_next t k trib frames h l m high =
    omega (arith, next_before t k trib h l m, flowed-grows (stored_flow t k trib) (frames - slice_index t.firsts.items k) (slice_index t.repeats.items k) (h.fits k trib l m).some (frames_so_far t k frames h l high))

-- a frame that is scheduled stands before the end of the rows
pub last_first : (t : Table) (frame : ℕ) → IsTable t → frame < node_frame_count (rows_of t)
    → frame < slice_index t.firsts.items (length t.firsts.items - 1)
last_first t frame h scheduled =
    let last : length t.firsts.items - 1 ≡ length t.repeats.items = omega (arith, h.firsts_len) in
    rw last (omega (arith, node_frame_count-rows_of t h))

-- the place of a row's count among all counts
pub place_below : (k n tribs trib : ℕ) → k < n → trib < tribs → k * tribs + trib < n * tribs
place_below k n tribs trib l m = let up : suc k ≤ n = omega arith in omega (arith, mul-le-mul_right tribs up, suc-mul k tribs)
