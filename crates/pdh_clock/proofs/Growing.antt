-- The rows of a text, line by line, and how much they sum up to.
use Rattle.std.proofs.Common.{◌≡◌, ℕ, zero, suc, ◌+◌, ◌*◌, ◌<◌, ◌≤◌, ◌^◌, false, cond, IsSome, List, [], ◌∷◌, ◌++◌, length, get_or, map, Result, Ok, Err, All, refl, ap, sym, ◌∙◌, subst, arith, add-one, append-nil, suc-mul, mul-suc, inl, inr}
use Rattle.std.specs.List.{flat_map}
use Rattle.std.proofs.lemmas.Bool.{cases_lt, cases_Bool}
use Rattle.std.proofs.lemmas.List.{append_assoc, get_or_past, get_or-map, length-append, length-map}
use Rattle.std.proofs.lemmas.List.Sums.{sum_by-le}
use Rattle.std.proofs.lemmas.List.Elements.{All-nil, All-weaker, All-push, All-filter, filter-append}
use Rattle.std.proofs.Math.Nat.{mul-le-mul_right, mul-le-mul_left, le_of_lt}
use Rattle.pdh_shape.specs.declared.place.Level.{Level}
use Rattle.pdh_rows.specs.declared.flow.Flow.{Flow}
use Rattle.pdh_rows.specs.Flows.{flowed, flow_count, each, FlowFits}
use Rattle.pdh_rows.specs.Rows.{NodeRow, row_flow}
use Rattle.pdh_rows.proofs.FlowLaws.{flowed-each, flowed-grows, flowed-none}
use Rattle.pdh_rows.specs.Stored.{row_frames, row_bits, rows_of}
use Rattle.pdh_clock.specs.declared.fault.ScheduleFault.{ScheduleFault}
use Rattle.pdh_clock.specs.declared.fault.ScheduleFault.TheVariants.{TooLong, BadRow, UnknownNode, CountOver, Memory}
use Rattle.pdh_clock.specs.declared.tree.NodeRows.{NodeRows}
use Rattle.pdh_clock.specs.declared.tree.Tree.{Tree}
use Rattle.pdh_clock.specs.Row.{Row}
use Rattle.pdh_levels.specs.Levels.{longest_frame, IsLevel, level_at, level_stores, len_at, nodes_in, stores_at}
use Rattle.pdh_clock.specs.Contents.{IsRowOf, rows_at, by_nodes, same_path}
use Rattle.pdh_row_text.specs.Text.{lines_of}
use Rattle.pdh_row_text.specs.declared.row.Version.{Version}
use Rattle.pdh_row_text.specs.Text.{is_passed_over}
use Rattle.pdh_clock.specs.Judged.{◌>>=◌, row_judged, rows_judged, versions_judged, lines_judged, Fails}
use Rattle.pdh_clock.specs.Stored.{IsTree, IsSmall, IsSmallRow, at_path, node_path, row_bytes, rows_in, most_node_frames}
use Rattle.pdh_clock.proofs.Trees.{IsNodeAt, rows_at-by_nodes}
use Rattle.pdh_levels.proofs.LevelLaws.{has_level, known, len_is, level_is, stores_count, level_stores_is, has_stores}
use Rattle.pdh_clock.proofs.Laws.{same_path-true}
use Rattle.pdh_shape.specs.OwnNumbers.{most_bytes}

-- ---- sums

abbrev pub IsSmallNodeRow : NodeRow → Type 0
IsSmallNodeRow row = IsSmall row.repeat row.flows

-- what holds of the rows at a node holds as they are stored
pub small_stored : (path : List ℕ) (rows : List NodeRow) → All IsSmallRow (map (at_path path) rows) → All IsSmallNodeRow rows
small_stored path rows h = λ k d l.
    subst IsSmallRow (get_or-map (at_path path) rows k d (at_path path d) l) (h k (at_path path d) (omega (arith, length-map rows (at_path path))))

-- where a frame brings so many bits at most
pub flowed_most : (flow : Flow) (most n : ℕ) → 0 < flow.frames → ((k : ℕ) → flow_count flow k ≤ most) → flowed flow n ≤ n * most
flowed_most flow most zero some h = omega (arith, flowed-none flow some)
flowed_most flow most (suc n) some h =
    omega (arith, flowed_most flow most n some h, h n, flowed-grows flow n (suc n) some (omega arith), suc-mul n most)

-- a row of flows that fit
small_flows : (repeat most : ℕ) (flows : List Flow) → repeat < 10 ^ 9 → most ≤ longest_frame → All (FlowFits repeat) flows
    → All (λ flow. (n : ℕ) → flow_count flow n ≤ most) flows → IsSmall repeat flows
small_flows repeat most flows few longest fits counts = record {
  repeat_is = few;
  bits_are = λ trib. elim (cases_lt trib (length flows)) [
    | inl within ↦
        let bits = flowed_most (get_or flows trib (each 0)) most repeat (fits trib (each 0) within).some (counts trib (each 0) within) in
        let left = mul-le-mul_right most (le_of_lt few) in
        let right = mul-le-mul_left (10 ^ 9) longest in
        omega (arith, bits, left, right)
    | inr past ↦
        let none : flowed (get_or flows trib (each 0)) repeat ≡ repeat * 0 = ap (λ flow. flowed flow repeat) (get_or_past flows trib (each 0) past) ∙ flowed-each 0 repeat in
        omega (arith, none)
  ];
}

-- a row of the levels
pub small_row : (levels : List Level) (row : Row) → All IsLevel levels → IsRowOf levels row → row.repeat < 10 ^ 9 → All (FlowFits row.repeat) row.flows → IsSmallRow row
small_row levels row are sound few fits =
    let has = has_level (level_at levels row.path) sound.node in
    let longest = (level_is levels row.path has.level are has.is).longest in
    small_flows row.repeat (len_at levels row.path) row.flows few (omega (arith, len_is levels row.path has.level has.is)) fits sound.most

-- so few rows have few frames
pub frames_most : (rows : List NodeRow) → All IsSmallNodeRow rows → row_frames rows ≤ 10 ^ 9 * length rows
frames_most rows small =
    let each = All-weaker IsSmallNodeRow (λ row. row.repeat ≤ 10 ^ 9) (λ row h. le_of_lt h.repeat_is) rows small in
    omega (arith, sum_by-le (λ row. row.repeat) (10 ^ 9) rows each)

-- their frames and their bits fit
pub frames_fit : (rows : List NodeRow) (repeat : ℕ) → All IsSmallNodeRow rows → repeat < 10 ^ 9 → length rows ≤ most_bytes
    → row_frames rows + repeat < 2 ^ 64
frames_fit rows repeat small s few = omega (arith, frames_most rows small)

-- and one more row has not too many frames
pub frames_more : (rows : List NodeRow) (row : NodeRow) → All IsSmallNodeRow rows → IsSmallNodeRow row → 3 * length rows ≤ most_bytes
    → row_frames (rows ++ row ∷ []) ≤ most_node_frames
frames_more rows row small s few =
    let all = frames_most (rows ++ row ∷ []) (All-push IsSmallNodeRow rows row small s) in
    omega (arith, all, length-append rows (row ∷ []))

pub bits_fit : (rows : List NodeRow) (row : NodeRow) (trib : ℕ) → All IsSmallNodeRow rows → IsSmallNodeRow row → 11 * length rows ≤ most_bytes
    → row_bits rows trib + flowed (row_flow row trib) row.repeat < 2 ^ 64
bits_fit rows row trib small s few =
    let most = All-weaker IsSmallNodeRow (λ (row : NodeRow). flowed (row_flow row trib) row.repeat ≤ 10 ^ 9 * longest_frame) (λ row h. h.bits_are trib) rows small in
    omega (arith, sum_by-le (λ (row : NodeRow). flowed (row_flow row trib) row.repeat) (10 ^ 9 * longest_frame) rows most, s.bits_are trib)

-- ---- the rows of a node

-- so few rows, by the bytes that each has at least
pub record AreFewRows (rows : List NodeRow) (bytes : ℕ) : Type 0 where
  pub small : All IsSmallNodeRow rows
  pub bytes_are : bytes * length rows ≤ most_bytes
  pub few : 3 * length rows ≤ most_bytes

pub few_rows : (least bytes n : ℕ) → least ≤ bytes → bytes * n ≤ most_bytes → least * n ≤ most_bytes
few_rows least bytes n h few = omega (arith, mul-le-mul_right n h)

pub few_rows_at : (tree : Tree) (path : List ℕ) (node : NodeRows) → IsNodeAt tree path node → All IsSmallRow (rows_at (rows_in tree) path)
    → row_bytes tree.levels.items path * length (rows_at (rows_in tree) path) ≤ most_bytes → AreFewRows (rows_of node.table) (row_bytes tree.levels.items path)
few_rows_at tree path node at small few =
    let rows : length (rows_at (rows_in tree) path) ≡ length (rows_of node.table) = ap length at.rows_are ∙ length-map (rows_of node.table) (at_path (node_path node)) in
    let bytes : row_bytes tree.levels.items path * length (rows_of node.table) ≤ most_bytes = subst (λ n. row_bytes tree.levels.items path * n ≤ most_bytes) rows few in
    record {
      small = small_stored (node_path node) (rows_of node.table) (subst (All IsSmallRow) at.rows_are small);
      bytes_are = bytes;
      few = few_rows 3 (row_bytes tree.levels.items path) (length (rows_of node.table)) (omega arith) bytes;
    }

-- a row with numbers has 11 bytes or more
pub stores_least : (levels : List Level) (path : List ℕ) (trib : ℕ) → All IsLevel levels → trib < stores_at levels path → 11 ≤ row_bytes levels path
stores_least levels path trib each store =
    let has = has_level (level_at levels path) (known levels path trib store) in
    let level = has.level in
    let count : stores_at levels path ≡ level_stores level = stores_count levels path level has.is in
    let all : level_stores level ≡ level.tribs = level_stores_is level (has_stores level trib (omega (arith, count))) in
    let fewest = (level_is levels path level each has.is).fewest in
    omega (arith, count, all)

-- ---- lines

-- what is read, with rows that stand before it
abbrev pub with_front : List Row → Result (List Row) ScheduleFault → Result (List Row) ScheduleFault
with_front front read = read >>= λ rows. Ok (front ++ rows)

-- what the reading keeps: the rows so far, each of which had as many bytes as a row of its node has at least, stand at their
-- nodes; with those that are left they are those of the whole text
pub record IsReading (levels : List Level) (tree : Tree) (version : Version) (number : ℕ) (rest text : List ℕ) : Type 0 where
  pub tree_is : IsTree tree
  pub levels_are : tree.levels.items ≡ levels
  pub seen : List Row
  pub rows : rows_in tree ≡ by_nodes levels seen
  pub same : with_front seen (rows_judged levels version (number + 1) (lines_of rest)) ≡ versions_judged levels (lines_of text)
  pub small : All IsSmallRow seen
  pub bytes : (path : List ℕ) → row_bytes levels path * length (rows_at seen path) + length rest ≤ length text
  pub lines : number + length rest ≤ length text

none_before : (read : Result (List Row) ScheduleFault) → with_front [] read ≡ read
none_before (Ok rows) = refl
none_before (Err fault) = refl

nothing_seen : (nodes : List (List ℕ)) → flat_map (rows_at []) nodes ≡ []
nothing_seen [] = refl
nothing_seen (path ∷ nodes) = nothing_seen nodes

pub reading_begins : (levels : List Level) (tree : Tree) (version : Version) (number : ℕ) (rest text : List ℕ) → IsTree tree → tree.levels.items ≡ levels → rows_in tree ≡ []
    → versions_judged levels (lines_of text) ≡ rows_judged levels version (suc number) (lines_of rest) → number + length rest ≤ length text
    → IsReading levels tree version number rest text
reading_begins levels tree version number rest text h same none judged long = record {
  tree_is = h;
  levels_are = same;
  seen = [];
  rows = none ∙ sym (nothing_seen (nodes_in levels));
  same = none_before (rows_judged levels version (number + 1) (lines_of rest))
      ∙ ap (λ n. rows_judged levels version n (lines_of rest)) (add-one number) ∙ sym judged;
  small = All-nil IsSmallRow;
  bytes = λ path. (let none : row_bytes levels path * 0 ≡ 0 = omega arith in omega (arith, none, long));
  lines = long;
}

with_one_more : (front : List Row) (row : Row) (read : Result (List Row) ScheduleFault)
    → with_front (front ++ row ∷ []) read ≡ with_front front (read >>= λ rows. Ok (row ∷ rows))
with_one_more front row (Ok rows) = ap Ok (append_assoc front (row ∷ []) rows)
with_one_more front row (Err fault) = refl

-- a line that is a row
row_read : (levels : List Level) (version : Version) (number : ℕ) (line : List ℕ) (lines : List (List ℕ)) (front : List Row) (row : Row)
    → is_passed_over line ≡ false → row_judged levels version number line ≡ Ok row
    → with_front (front ++ row ∷ []) (rows_judged levels version (number + 1) lines)
    ≡ with_front front (rows_judged levels version number (line ∷ lines))
row_read levels version number line lines front row kept judged =
    let passed = rows_judged levels version (suc number) lines in
    let reads = λ (answer : Result Row ScheduleFault). answer >>= λ row. passed >>= λ rows. Ok (row ∷ rows) in
    ap (λ n. with_front (front ++ row ∷ []) (rows_judged levels version n lines)) (add-one number) ∙ with_one_more front row passed
    ∙ ap (λ answer. with_front front (reads answer)) (sym judged)
    ∙ ap (λ b. with_front front (cond b passed (reads (row_judged levels version number line)))) (sym kept)

-- the bytes of a line are those of one more row of its node, and of none more of another
bytes_more : (levels : List Level) (seen : List Row) (row : Row) (path : List ℕ) (line rest after text : ℕ) → IsRowOf levels row
    → row_bytes levels path * length (rows_at seen path) + rest ≤ text → line + after ≤ rest → 3 + 2 * length row.flows ≤ line
    → row_bytes levels path * length (rows_at (seen ++ row ∷ []) path) + after ≤ text
bytes_more levels seen row path line rest after text sound bytes lens long =
    let all : rows_at (seen ++ row ∷ []) path ≡ rows_at seen path ++ rows_at (row ∷ []) path = filter-append (λ row. same_path row.path path) seen (row ∷ []) in
    let parts : length (rows_at (seen ++ row ∷ []) path) ≡ length (rows_at seen path) + length (rows_at (row ∷ []) path) =
    ap length all ∙ length-append (rows_at seen path) (rows_at (row ∷ []) path) in
    elim (cases_Bool (same_path row.path path)) [
      | inl is ↦
          let one : length (rows_at (row ∷ []) path) ≡ 1 = rw is refl in
          let flows : length row.flows ≡ stores_at levels path = sound.stores ∙ ap (stores_at levels) (same_path-true row.path path is) in
          let next : length (rows_at (seen ++ row ∷ []) path) ≡ suc (length (rows_at seen path)) = omega (arith, parts, one) in
          let product : row_bytes levels path * suc (length (rows_at seen path)) ≡ row_bytes levels path * length (rows_at seen path) + row_bytes levels path = mul-suc (row_bytes levels path) (length (rows_at seen path)) in
          omega (arith, product, flows, ap (λ n. row_bytes levels path * n) next)
      | inr isnt ↦
          let none : length (rows_at (row ∷ []) path) ≡ 0 = rw isnt refl in
          let same : length (rows_at (seen ++ row ∷ []) path) ≡ length (rows_at seen path) = omega (arith, parts, none) in
          omega (arith, ap (λ n. row_bytes levels path * n) same)
    ]

-- what the rows so far of a node are
pub record AreFew (levels : List Level) (tree : Tree) (path : List ℕ) : Type 0 where
  pub small : All IsSmallRow (rows_at (rows_in tree) path)
  pub few : row_bytes levels path * length (rows_at (rows_in tree) path) ≤ most_bytes

pub few_so_far : (levels : List Level) (tree : Tree) (version : Version) (number : ℕ) (rest text path : List ℕ) → IsReading levels tree version number rest text
    → IsSome (level_at levels path) → length text ≤ most_bytes → AreFew levels tree path
few_so_far levels tree version number rest text path h some short =
    let same : rows_at (rows_in tree) path ≡ rows_at h.seen path = ap (λ rows. rows_at rows path) h.rows ∙ rows_at-by_nodes levels h.seen path some in
    record {
      small = subst (All IsSmallRow) (sym same) (All-filter (λ row. same_path row.path path) IsSmallRow h.seen h.small);
      few = omega (arith, ap (λ rows. row_bytes levels path * length rows) same, h.bytes path);
    }

-- one more row was read
pub reads_row : (levels : List Level) (old new : Tree) (version : Version) (number : ℕ) (line rest after text : List ℕ) (row : Row)
    → IsReading levels old version number rest text
    → lines_of rest ≡ line ∷ lines_of after → length line + length after ≤ length rest → length after < length rest
    → IsRowOf levels row → 3 + 2 * length row.flows ≤ length line
    → is_passed_over line ≡ false → row_judged levels version (number + 1) line ≡ Ok row → IsSmallRow row
    → IsTree new → new.levels.items ≡ old.levels.items
    → ((rows : List Row) → rows_in old ≡ by_nodes old.levels.items rows → rows_in new ≡ by_nodes old.levels.items (rows ++ row ∷ []))
    → IsReading levels new version (number + 1) after text
reads_row levels old new version number line rest after text row h lines lens shorter sound long kept judged small tree same added = record {
  tree_is = tree;
  levels_are = same ∙ h.levels_are;
  seen = h.seen ++ row ∷ [];
  rows = added h.seen (h.rows ∙ ap (λ ls. by_nodes ls h.seen) (sym h.levels_are)) ∙ ap (λ ls. by_nodes ls (h.seen ++ row ∷ [])) h.levels_are;
  same = row_read levels version (number + 1) line (lines_of after) h.seen row kept judged
      ∙ ap (λ ls. with_front h.seen (rows_judged levels version (number + 1) ls)) (sym lines) ∙ h.same;
  small = All-push IsSmallRow h.seen row h.small small;
  bytes = λ path. bytes_more levels h.seen row path (length line) (length rest) (length after) (length text) sound (h.bytes path) lens long;
  lines = omega (arith, h.lines);
}

-- ---- the end of the reading

fails_with : (fault : ScheduleFault) (said : Result Row ScheduleFault) (whole : Result (List Row) ScheduleFault) → (said ≡ Err fault → whole ≡ Err fault)
    → Fails fault said → Fails fault whole
fails_with (TooLong len) said whole same h = same h
fails_with (BadRow line) said whole same h = same h
fails_with (UnknownNode line) said whole same h = same h
fails_with (CountOver line count most) said whole same h = same h
fails_with Memory said whole same h = h

-- a line with a fault
pub reading_fails : (levels : List Level) (tree : Tree) (version : Version) (number : ℕ) (line rest after text : List ℕ) (fault : ScheduleFault)
    → IsReading levels tree version number rest text → lines_of rest ≡ line ∷ lines_of after → is_passed_over line ≡ false
    → Fails fault (row_judged levels version (number + 1) line) → Fails fault (lines_judged levels (lines_of text))
reading_fails levels tree version number line rest after text fault h lines kept fails =
    fails_with fault (row_judged levels version (number + 1) line) (lines_judged levels (lines_of text)) (λ is.
    let passed = rows_judged levels version (suc (number + 1)) (lines_of after) in
    let reads = λ (answer : Result Row ScheduleFault). answer >>= λ row. passed >>= λ rows. Ok (row ∷ rows) in
    let here : rows_judged levels version (number + 1) (lines_of rest) ≡ Err fault =
    ap (rows_judged levels version (number + 1)) lines ∙ ap (λ b. cond b passed (reads (row_judged levels version (number + 1) line))) kept ∙ ap reads is in
    let all : versions_judged levels (lines_of text) ≡ Err fault = sym h.same ∙ ap (with_front h.seen) here in
    ap (λ read. read >>= λ rows. Ok (by_nodes levels rows)) all) fails

-- no line is left
pub reading_ends : (levels : List Level) (tree : Tree) (version : Version) (number : ℕ) (rest text : List ℕ) → IsReading levels tree version number rest text → rest ≡ []
    → lines_judged levels (lines_of text) ≡ Ok (rows_in tree)
reading_ends levels tree version number rest text h none =
    let here : rows_judged levels version (number + 1) (lines_of rest) ≡ Ok [] = ap (λ r. rows_judged levels version (number + 1) (lines_of r)) none in
    let all : versions_judged levels (lines_of text) ≡ Ok h.seen = sym h.same ∙ ap (with_front h.seen) here ∙ ap Ok (append-nil h.seen) in
    ap (λ read. read >>= λ rows. Ok (by_nodes levels rows)) all ∙ ap Ok (sym h.rows)
