-- The frames of rows of one node, joined: which row a frame is of, and how many bits came before it.
use Rattle.std.proofs.Common.{◌≡◌, ℕ, zero, suc, ◌+◌, ◌<◌, ◌≤◌, List, [], ◌∷◌, length, get_or, map, take, replicate, refl, ap, sym, ◌∙◌, arith, slice_index, sum_by, add-zero, add-suc, add-one, suc-mul}
use Rattle.std.specs.List.{flat_map, range_with_len}
use Rattle.std.proofs.lemmas.List.FromFn.{get_or-map-range_with_len, length-map-range_with_len}
use Rattle.std.proofs.lemmas.List.Concat.{length-flat_map, get_or-flat_map}
use Rattle.std.proofs.lemmas.List.Sums.{sum_by_more, sum_by-cons}
use Rattle.std.proofs.Math.ListN.{get_or-map}
use Rattle.pdh_line.specs.Progress.{arrived}
use Rattle.pdh_line.proofs.SendingLaws.{arrived-suc}
use Rattle.pdh_rows.specs.declared.flow.Flow.{Flow}
use Rattle.pdh_rows.specs.Flows.{flowed, flow_count, each}
use Rattle.pdh_rows.specs.Rows.{NodeRow, frames_in, node_frames, row_flow}
use Rattle.pdh_rows.specs.Stored.{row_frames, row_bits}
use Rattle.pdh_rows.proofs.FlowLaws.{flowed-each, flowed-none, flowed-grows}

-- the frames of rows one after another
abbrev pub joined : List NodeRow → List (List ℕ)
joined rows = flat_map frames_in rows

pub node_frames-joined : (rows : List NodeRow) → node_frames rows ≡ joined rows
unfolding node_frames
node_frames-joined rows = refl

-- how many bits of a tributary arrive in each of them
abbrev pub joined_counts : List NodeRow → ℕ → ℕ → ℕ
joined_counts rows trib frame = slice_index (get_or (joined rows) frame []) trib

-- a row where there is none
abbrev pub no_row : NodeRow
no_row = record { repeat = 0; flows = [] }

-- the counts of a frame of a row
abbrev pub frame_of : NodeRow → ℕ → List ℕ
frame_of row n = map (λ flow. flow_count flow n) row.flows

pub no_flow : (n : ℕ) → flow_count (each 0) n ≡ 0
no_flow n = omega (arith, flowed-each 0 n, flowed-each 0 (suc n))

pub each_count : (count n : ℕ) → flow_count (each count) n ≡ count
each_count count n = omega (arith, flowed-each count n, flowed-each count (suc n), suc-mul n count)

-- the count of one tributary
pub frame_count : (row : NodeRow) (trib n : ℕ) → slice_index (frame_of row n) trib ≡ flow_count (row_flow row trib) n
frame_count row trib n = ap (λ d. get_or (frame_of row n) trib d) (sym (no_flow n)) ∙ get_or-map (λ flow. flow_count flow n) row.flows trib (each 0)

pub length-frames_in : (row : NodeRow) → length (frames_in row) ≡ row.repeat
length-frames_in row = length-map-range_with_len (frame_of row) 0 row.repeat

sum_by-same : (f g : NodeRow → ℕ) → ((row : NodeRow) → f row ≡ g row) → (rows : List NodeRow) → sum_by f rows ≡ sum_by g rows
sum_by-same f g h [] = refl
sum_by-same f g h (row ∷ rows) = omega (arith, sum_by-cons f row rows, sum_by-cons g row rows, h row, sum_by-same f g h rows)

pub length-joined : (rows : List NodeRow) → length (joined rows) ≡ row_frames rows
length-joined rows = length-flat_map frames_in rows
    ∙ sum_by-same (λ row. length (frames_in row)) (λ row. row.repeat) (λ row. length-frames_in row) rows

-- the k-th row's frames stand behind those of the rows before it
pub get_or-joined : (rows : List NodeRow) (k i : ℕ) → k < length rows → i < (get_or rows k no_row).repeat
    → get_or (joined rows) (row_frames (take k rows) + i) [] ≡ frame_of (get_or rows k no_row) i
get_or-joined rows k i h l =
    let row = get_or rows k no_row in
    let within : i < length (frames_in row) = omega (arith, l, length-frames_in row) in
    ap (λ n. get_or (joined rows) (n + i) []) (sym (length-joined (take k rows)))
    ∙ get_or-flat_map frames_in rows k i no_row [] h within
    ∙ get_or-map-range_with_len (frame_of row) 0 row.repeat i i [] l (omega arith)

-- where the bits of the next frames arrive by a flow
pub arrived_flow : (counts : ℕ → ℕ) (a n : ℕ) (flow : Flow) → 0 < flow.frames → ((i : ℕ) → i < n → counts (a + i) ≡ flow_count flow i)
    → arrived counts (a + n) ≡ arrived counts a + flowed flow n
unfolding arrived
arrived_flow counts a zero flow some h = ap (arrived counts) (add-zero a) ∙ omega (arith, flowed-none flow some)
arrived_flow counts a (suc n) flow some h =
    let before = arrived_flow counts a n flow some (λ i l. h i (omega arith)) in
    let last = h n (omega arith) in
    ap (arrived counts) (add-suc a n) ∙ omega (arith, before, last, arrived-suc counts (a + n), flowed-grows flow n (suc n) some (omega arith))

-- the bits of a tributary arrive by a flow in each row
abbrev pub HasFlows : List NodeRow → ℕ → Type 0
HasFlows rows trib = (k : ℕ) → k < length rows → 0 < (row_flow (get_or rows k no_row) trib).frames

pub arrived-joined : (rows : List NodeRow) (trib k : ℕ) → HasFlows rows trib → k ≤ length rows
    → arrived (joined_counts rows trib) (row_frames (take k rows)) ≡ row_bits (take k rows) trib
unfolding arrived
arrived-joined rows trib zero some h = refl
arrived-joined rows trib (suc k) some h =
    let row = get_or rows k no_row in
    let frames : row_frames (take (suc k) rows)
    ≡ row_frames (take k rows) + row.repeat = ap (λ n. row_frames (take n rows)) (sym (add-one k))
    ∙ sum_by_more (λ row. row.repeat) rows k no_row h in
    let bits : row_bits (take (suc k) rows) trib
    ≡ row_bits (take k rows) trib + flowed (row_flow row trib) row.repeat = ap (λ n. row_bits (take n rows) trib)
    (sym (add-one k)) ∙ sum_by_more (λ row. flowed (row_flow row trib) row.repeat) rows k no_row h in
    let counts = joined_counts rows trib in
    let now = arrived_flow counts (row_frames (take k rows)) row.repeat (row_flow row trib) (some k h)
    (λ i l. ap (λ frame. slice_index frame trib) (get_or-joined rows k i h l) ∙ frame_count row trib i) in
    ap (arrived counts) frames ∙ omega (arith, now, bits, arrived-joined rows trib k some (omega arith))

-- in the k-th row
pub arrived_in_row : (rows : List NodeRow) (trib k i : ℕ) → HasFlows rows trib → k < length rows → i ≤ (get_or rows k no_row).repeat
    → arrived (joined_counts rows trib) (row_frames (take k rows) + i)
    ≡ row_bits (take k rows) trib + flowed (row_flow (get_or rows k no_row) trib) i
arrived_in_row rows trib k i some h l =
    let row = get_or rows k no_row in
    let now = arrived_flow (joined_counts rows trib) (row_frames (take k rows)) i (row_flow row trib) (some k h)
    (λ n m. ap (λ frame. slice_index frame trib) (get_or-joined rows k n h (omega arith)) ∙ frame_count row trib n) in
    omega (arith, now, arrived-joined rows trib k some (omega arith))

-- ---- rows whose frames have the same counts

map_each : (counts : List ℕ) (n : ℕ) → map (λ flow. flow_count flow n) (map each counts) ≡ counts
map_each [] n = refl
map_each (count ∷ counts) n = ap (λ c. c ∷ map (λ flow. flow_count flow n) (map each counts)) (each_count count n) ∙ ap (λ cs. count ∷ cs) (map_each counts n)

same_frames : (repeat first : ℕ) (counts : List ℕ)
    → map (λ n. map (λ flow. flow_count flow n) (map each counts)) (range_with_len first repeat) ≡ replicate repeat counts
same_frames zero first counts = refl
same_frames (suc repeat) first counts =
    ap (λ cs. cs ∷ map (λ n. map (λ flow. flow_count flow n) (map each counts)) (range_with_len (first + 1) repeat)) (map_each counts first)
    ∙ ap (λ frames. counts ∷ frames) (same_frames repeat (first + 1) counts)

-- each of its frames has these counts
pub frames_in-each : (repeat : ℕ) (counts : List ℕ) → frames_in (record { repeat = repeat; flows = map each counts }) ≡ replicate repeat counts
frames_in-each repeat counts = same_frames repeat 0 counts
