-- The rows of longest runs of equal frames, written run by run.
use Rattle.std.proofs.Common.{◌≡◌, ℕ, zero, suc, ◌+◌, ◌-◌, ◌*◌, ◌<◌, ◌≤◌, true, false, cond, List, [], ◌∷◌, ◌++◌, length, get_or, take, drop, replicate, refl, ap, sym, ◌∙◌, arith, slice_index, inl, inr, append_assoc, append-nil, add-one, drop-cons}
use Rattle.std.specs.List.{flat_map}
use Rattle.std.specs.Str.{bytes_eq}
use Rattle.std.proofs.lemmas.Bool.{cases_Bool, cases_eq, eq-eqb, ne_eqb}
use Rattle.std.proofs.lemmas.List.{drop_all, ext_get_or, get_or-take, length-append, length-drop, length-map, length-take-le, replicate-append-replicate, take-append-drop}
use Rattle.std.proofs.lemmas.List.Concat.{flat_map-append}
use Rattle.std.proofs.lemmas.Slice.Eq.{bytes_eq-Decides}
use Rattle.std.proofs.Math.Nat.{mul-le-mul_right, suc-mul}
use Rattle.std.proofs.Math.Seq.{drop-append_seam}
use Rattle.pdh_rows.specs.declared.flow.Says.TheVariants.{Counts}
use Rattle.pdh_rows.specs.declared.table.Table.{Table}
use Rattle.pdh_rows.specs.Flows.{flow_in, flow_count}
use Rattle.pdh_rows.specs.Rows.{NodeRow, frames_in, node_frames, node_counts}
use Rattle.pdh_rows.specs.Stored.{IsTable, rows_of, row_frames}
use Rattle.pdh_rows.proofs.Counted.{said_row-each}
use Rattle.pdh_rows.proofs.Joining.{joined, no_row, length-joined, get_or-joined, frames_in-each}
use Rattle.pdh_rows.proofs.Storing.{get_or-stored_rows}
use Rattle.pdh_rows.proofs.Tabled.{length-rows_of, node_frames-rows_of, next_first, row_at}
use Rattle.pdh_clock.specs.declared.writing.Run.{Run}
use Rattle.pdh_row_text.specs.Form.{Form, counts_form}
use Rattle.pdh_clock.specs.Runs.{run_counts, run_text, text_before, frames_from}
use Rattle.pdh_clock.specs.Written.{with_frame, longest_rows, row_line}

-- ---- one run

-- no row follows, or the next one has other counts
abbrev Differs : List ℕ → List Form → Type 0
Differs frame [] = Unit {0}
Differs frame (row ∷ rows) = bytes_eq frame row.numbers ≡ false

with_frame_new : (path frame : List ℕ) (rows : List Form) → Differs frame rows → with_frame path frame rows ≡ counts_form path 1 frame ∷ rows
with_frame_new path frame [] h = refl
with_frame_new path frame (row ∷ rows) h = rw h refl

with_frame_same : (path frame : List ℕ) (n : ℕ) (rows : List Form)
    → with_frame path frame (counts_form path n frame ∷ rows) ≡ counts_form path (suc n) frame ∷ rows
with_frame_same path frame n rows = let same : bytes_eq frame frame ≡ true = (bytes_eq-Decides frame frame).1 refl in rw same refl

-- the first row of the others has the counts of the first frame
with_frame_differs : (path frame first : List ℕ) (rows : List Form) → bytes_eq frame first ≡ false
    → Differs frame (with_frame path first rows)
with_frame_differs path frame first [] h = h
with_frame_differs path frame first (row ∷ rows) h = elim (cases_Bool (bytes_eq first row.numbers)) [
  | inl is ↦ rw is h
  | inr isnt ↦ rw isnt h
]

longest_same : (path : List ℕ) (n : ℕ) (frame : List ℕ) (frames : List (List ℕ)) → Differs frame (longest_rows path frames)
    → longest_rows path (replicate (suc n) frame ++ frames) ≡ counts_form path (suc n) frame ∷ longest_rows path frames
longest_same path zero frame frames h = with_frame_new path frame (longest_rows path frames) h
longest_same path (suc n) frame frames h =
    ap (with_frame path frame) (longest_same path n frame frames h) ∙ with_frame_same path frame (suc n) (longest_rows path frames)

longest_run : (path : List ℕ) (n : ℕ) (frame : List ℕ) (frames : List (List ℕ)) → (n ≡ 0 → ⊥) → Differs frame (longest_rows path frames)
    → longest_rows path (replicate n frame ++ frames) ≡ counts_form path n frame ∷ longest_rows path frames
longest_run path zero frame frames some h = absurd (some refl)
longest_run path (suc n) frame frames some h = longest_same path n frame frames h

next_differs : (path frame counts : List ℕ) (repeat : ℕ) (frames : List (List ℕ)) → 0 < repeat → bytes_eq frame counts ≡ false
    → Differs frame (longest_rows path (replicate repeat counts ++ frames))
next_differs path frame counts zero frames some h = absurd (omega arith)
next_differs path frame counts (suc repeat) frames some h =
    with_frame_differs path frame counts (longest_rows path (replicate repeat counts ++ frames)) h

abbrev pub longest_text : List ℕ → List (List ℕ) → List ℕ
longest_text path frames = flat_map row_line (longest_rows path frames)

-- a run without frames is written as nothing, and another one as its row
pub run_none : (path text : List ℕ) (run : Run) → run.frames ≡ 0 → text ++ run_text path run ≡ text
run_none path text run none =
    ap (λ b. text ++ cond b [] (row_line (counts_form path run.frames (run_counts run)))) (eq-eqb run.frames 0 none) ∙ append-nil text

pub run_some : (path text : List ℕ) (run : Run) → (run.frames ≡ 0 → ⊥) → text ++ run_text path run ≡ text ++ row_line (counts_form path run.frames (run_counts run))
run_some path text run some = ap (λ b. text ++ cond b [] (row_line (counts_form path run.frames (run_counts run)))) (ne_eqb run.frames 0 some)

-- a run that ends is a row
run_ended : (path text : List ℕ) (run : Run) (frames : List (List ℕ)) → Differs (run_counts run) (longest_rows path frames)
    → (text ++ run_text path run) ++ longest_text path frames ≡ text_before path text run frames
run_ended path text run frames differs = elim (cases_eq run.frames 0) [
  | inl none ↦
      ap (λ front. front ++ longest_text path frames) (run_none path text run none)
      ∙ ap (λ n. text ++ longest_text path (replicate n (run_counts run) ++ frames)) (sym none)
  | inr some ↦
      ap (λ front. front ++ longest_text path frames) (run_some path text run some)
      ∙ append_assoc text (row_line (counts_form path run.frames (run_counts run))) (longest_text path frames)
      ∙ ap (λ rows. text ++ flat_map row_line rows) (sym (longest_run path run.frames (run_counts run) frames some differs))
]

-- frames with other counts follow
pub run_written : (path text : List ℕ) (run : Run) (repeat : ℕ) (counts : List ℕ) (rest : List (List ℕ)) → 0 < repeat → bytes_eq (run_counts run) counts ≡ false
    → (text ++ run_text path run) ++ longest_text path (replicate repeat counts ++ rest) ≡ text_before path text run (replicate repeat counts ++ rest)
run_written path text run repeat counts rest some other =
    run_ended path text run (replicate repeat counts ++ rest) (next_differs path (run_counts run) counts repeat rest some other)

-- no frames follow
pub last_written : (path text : List ℕ) (run : Run) → text ++ run_text path run ≡ text_before path text run []
last_written path text run = sym (append-nil (text ++ run_text path run)) ∙ run_ended path text run [] tt

-- frames with the same counts follow
pub run_grown : (path text counts counts' : List ℕ) (n m : ℕ) (rest : List (List ℕ)) → bytes_eq counts counts' ≡ true
    → text ++ longest_text path (replicate (n + m) counts ++ rest) ≡ text ++ longest_text path (replicate n counts ++ (replicate m counts' ++ rest))
run_grown path text counts counts' n m rest same =
    ap (λ frames. text ++ longest_text path (frames ++ rest)) (sym (replicate-append-replicate n m counts))
    ∙ ap (λ frames. text ++ longest_text path frames) (append_assoc (replicate n counts) (replicate m counts) rest)
    ∙ ap (λ cs. text ++ longest_text path (replicate n counts ++ (replicate m cs ++ rest))) ((bytes_eq-Decides counts counts').0 same)

-- ---- the frames of a table

-- the rows from one on
rows_left : (t : Table) (k : ℕ) → IsTable t → k ≤ length t.repeats.items → frames_from t (slice_index t.firsts.items k) ≡ joined (drop k (rows_of t))
rows_left t k h l =
    let rows = rows_of t in
    let front = joined (take k rows) in
    let here : slice_index t.firsts.items k ≡ length front = h.firsts k l ∙ sym (length-joined (take k rows)) in
    let all : joined rows ≡ front ++ joined (drop k rows) = ap joined (sym (take-append-drop k rows)) ∙ flat_map-append frames_in (take k rows) (drop k rows) in
    ap (drop (slice_index t.firsts.items k)) (node_frames-rows_of t ∙ all) ∙ ap (λ n. drop n (front ++ joined (drop k rows))) here
    ∙ drop-append_seam front (joined (drop k rows))

rows_from : (t : Table) (k : ℕ) → k < length t.repeats.items → drop k (rows_of t) ≡ row_at t k ∷ drop (k + 1) (rows_of t)
rows_from t k l = drop-cons (rows_of t) k no_row (omega (arith, length-rows_of t))
    ∙ ap (λ n. row_at t k ∷ drop n (rows_of t)) (sym (add-one k))

-- the frames of a row of counts, and those behind it
pub counts_left : (t : Table) (k : ℕ) → IsTable t → k < length t.repeats.items → get_or t.says.items k Counts ≡ Counts
    → frames_from t (slice_index t.firsts.items k)
    ≡ replicate (slice_index t.repeats.items k) (take t.tribs (drop (k * t.tribs) t.numbers.items)) ++ frames_from t (slice_index t.firsts.items (k + 1))
counts_left t k h l says =
    let counts = take t.tribs (drop (k * t.tribs) t.numbers.items) in
    let repeat = slice_index t.repeats.items k in
    let row : frames_in (row_at t k) ≡ replicate repeat counts =
    ap frames_in (get_or-stored_rows t.tribs t.ratio t.repeats.items t.says.items t.numbers.items k l ∙ said_row-each t.ratio repeat (get_or t.says.items k Counts) counts says)
    ∙ frames_in-each repeat counts in
    rows_left t k h (omega arith) ∙ ap joined (rows_from t k l)
    ∙ ap (λ frames. frames ++ joined (drop (k + 1) (rows_of t))) row
    ∙ ap (λ frames. replicate repeat counts ++ frames) (sym (rows_left t (k + 1) h (omega arith)))

-- no frames are left behind the last row
pub none_left : (t : Table) (k : ℕ) → IsTable t → k ≡ length t.repeats.items → frames_from t (slice_index t.firsts.items k) ≡ []
none_left t k h end = rows_left t k h (omega arith) ∙ ap joined (drop_all k (rows_of t) (omega (arith, length-rows_of t)))

-- a row has a number for each tributary, and so has each frame a count
pub length-numbers : (t : Table) (k : ℕ) → IsTable t → k < length t.repeats.items → length (take t.tribs (drop (k * t.tribs) t.numbers.items)) ≡ t.tribs
length-numbers t k h l =
    let numbers = drop (k * t.tribs) t.numbers.items in
    let up : suc k ≤ length t.repeats.items = omega arith in
    length-take-le t.tribs numbers (omega (arith, length-drop (k * t.tribs) t.numbers.items, suc-mul k t.tribs, mul-le-mul_right t.tribs up, h.numbers_len))

flows_of_row : (t : Table) (k : ℕ) → IsTable t → k < length t.repeats.items → length (row_at t k).flows ≡ t.tribs
flows_of_row t k h l =
    let numbers = take t.tribs (drop (k * t.tribs) t.numbers.items) in
    ap (λ (row : NodeRow). length row.flows) (get_or-stored_rows t.tribs t.ratio t.repeats.items t.says.items t.numbers.items k l)
    ∙ length-map numbers (flow_in t.ratio (get_or t.says.items k Counts)) ∙ length-numbers t k h l

length-frame : (t : Table) (k frame : ℕ) → IsTable t → k < length t.repeats.items → slice_index t.firsts.items k ≤ frame → frame < slice_index t.firsts.items (k + 1)
    → length (get_or (node_frames (rows_of t)) frame []) ≡ t.tribs
length-frame t k frame h l low high =
    let i = frame - slice_index t.firsts.items k in
    let place : frame ≡ row_frames (take k (rows_of t)) + i = omega (arith, h.firsts k (omega arith)) in
    let within : i < (row_at t k).repeat = omega (arith, next_first t k h l) in
    ap (λ frames. length (get_or frames frame [])) (node_frames-rows_of t)
    ∙ ap (λ n. length (get_or (joined (rows_of t)) n [])) place
    ∙ ap length (get_or-joined (rows_of t) k i (omega (arith, length-rows_of t)) within)
    ∙ length-map (row_at t k).flows (λ flow. flow_count flow i) ∙ flows_of_row t k h l

-- the frames of a row are frames of the node
pub frame_inside : (t : Table) (k frame : ℕ) → IsTable t → k < length t.repeats.items → frame < slice_index t.firsts.items (k + 1) → frame < length (node_frames (rows_of t))
frame_inside t k frame h l high =
    let rows = rows_of t in
    let all : node_frames rows ≡ joined (take (k + 1) rows) ++ joined (drop (k + 1) rows) =
    node_frames-rows_of t ∙ ap joined (sym (take-append-drop (k + 1) rows)) ∙ flat_map-append frames_in (take (k + 1) rows) (drop (k + 1) rows) in
    omega (arith, ap length all, length-append (joined (take (k + 1) rows)) (joined (drop (k + 1) rows)), length-joined (take (k + 1) rows), h.firsts (k + 1) (omega arith))

-- the frames from one on, where its counts were read
pub frame_left : (t : Table) (k frame : ℕ) (counts : List ℕ) → IsTable t → k < length t.repeats.items → slice_index t.firsts.items k ≤ frame → frame < slice_index t.firsts.items (k + 1)
    → t.tribs ≤ length counts → ((trib : ℕ) → trib < t.tribs → slice_index counts trib ≡ node_counts (rows_of t) trib frame)
    → frames_from t frame ≡ take t.tribs counts ∷ frames_from t (frame + 1)
frame_left t k frame counts h l low high long read =
    let frames = node_frames (rows_of t) in
    let len = length-frame t k frame h l low high in
    let few : length (take t.tribs counts) ≡ t.tribs = length-take-le t.tribs counts long in
    let same : take t.tribs counts ≡ get_or frames frame [] = ext_get_or 0 (take t.tribs counts) (get_or frames frame []) (few ∙ sym len)
    (λ i m. get_or-take t.tribs counts i 0 (omega (arith, m, few)) ∙ read i (omega (arith, m, few))) in
    drop-cons frames frame [] (frame_inside t k frame h l high) ∙ ap (λ c. c ∷ drop (suc frame) frames) (sym same) ∙ ap (λ n. take t.tribs counts ∷ drop n frames) (sym (add-one frame))
