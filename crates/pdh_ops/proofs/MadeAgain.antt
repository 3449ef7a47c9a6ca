-- What `smooth` wrote of a line of one multiplexer, `mux` doesn't refuse.
use Rattle.std.proofs.Common.{◌≡◌, ℕ, zero, suc, ◌+◌, ◌-◌, ◌*◌, ◌/◌, ◌<◌, ◌≤◌, ◌^◌, Bool, true, false, cond, List, [], ◌∷◌, All, Option, None, Some, Ok, Err, length, map, refl, ap, sym, subst, ◌∙◌, inl, inr, arith}
use Rattle.std.specs.Prelude.{find, is_none, nat_lt, sum_by, slice_index, unwrap_or}
use Rattle.std.specs.List.{flat_map, range_with_len, slice_index_or}
use Rattle.std.specs.Option.{option_map_or}
use Rattle.std.proofs.lemmas.Bool.{cases_lt, lt-ltb, le-ltb, ne_eqb}
use Rattle.std.proofs.lemmas.List.{append-nil}
use Rattle.std.proofs.lemmas.List.Elements.{All-head}
use Rattle.std.proofs.lemmas.List.FromFn.{length-range_with_len, length-map-range_with_len, get_or-map-range_with_len}
use Rattle.std.proofs.lemmas.List.Sums.{sum_by-cons, count_by-le-length}
use Rattle.std.proofs.lemmas.Nat.{le-div}
use Rattle.std.proofs.Math.Nat.{lt-div-mul-add, mul-le-mul_right}
use Rattle.pdh_bits.specs.Bits.{bits_of, bytes_of}
use Rattle.pdh_bits.proofs.BitsLemmas.{length-bits_of, length-bytes_of}
use Rattle.pdh_shape.specs.OwnNumbers.{lead, most_frames, most_bytes}
use Rattle.pdh_shape.specs.Frame.{FrameShape, slots}
use Rattle.pdh_shape.specs.Tributary.{reads_from}
use Rattle.pdh_shape.specs.declared.place.Level.{Level}
use Rattle.pdh_line.specs.Progress.{FrameNumbers, begun_by, entered_by, arrived}
use Rattle.pdh_line.specs.Nodes.{Counts, entered_at}
use Rattle.pdh_line.specs.Sending.{HasStores, shape_numbers, entered}
use Rattle.pdh_line.specs.Tolerance.{IsWithin, arrived_over}
use Rattle.pdh_line.specs.Events.{Event}
use Rattle.pdh_line.proofs.SendingLaws.{entered-stores}
use Rattle.pdh_levels.specs.Levels.{IsLevel, level_stores, AreLevels, level_at, numbers_of as numbers_in, nodes_in}
use Rattle.pdh_levels.proofs.LevelLaws.{level_in, level_stores_is}
use Rattle.pdh_rows.proofs.OutsideLaws.{none_found}
use Rattle.pdh_nesting.specs.Chains.{AreFrames, ReadEvenly, width, top_len}
use Rattle.pdh_nesting.specs.Sending.{AllWithin, entered_below}
use Rattle.pdh_nesting.proofs.NoEvents.{first_event-none}
use Rattle.pdh_clock.specs.Row.{Row}
use Rattle.pdh_clock.specs.Contents.{Contents, counts, frames_of, frame_count}
use Rattle.pdh_clock.specs.Begun.{Shortage, frames_begun, shortage}
use Rattle.pdh_clock.specs.Judged.{schedule_of}
use Rattle.pdh_clock.specs.Written.{longest_rows, row_line, text_with}
use Rattle.pdh_clock.proofs.Begins.{begun_by_whole, shortage_none}
use Rattle.pdh_clock.proofs.ReadBack.{IsFrame as IsFrameOf, AreWritable, frames_read_back}
use Rattle.pdh_chain.specs.Chains.{shapes_of, levels_of, leaves_of, frame_bytes_of}
use Rattle.pdh_chain.specs.Trees.{AreLevelsOf}
use Rattle.pdh_chain.specs.declared.chain.Chain.{Chain}
use Rattle.pdh_chain.proofs.ChainLaws.{are_frames, read_evenly, are_levels, are_levels_of, whole_bytes, some_bytes}
use Rattle.pdh_chain.proofs.LevelNumbers.{elastic_level}
use Rattle.pdh_desync.specs.FarStore.{FarPiece, pieces_of, reads, reads_more, reads_over, read_in_all, smooth}
use Rattle.pdh_desync.specs.laws.FarBounds.{IsEven, carried-least, carried-most, run-bounds}
use Rattle.pdh_desync.specs.laws.SmoothLaws.{smooth_long}
use Rattle.pdh_desync.proofs.PiecesFit.{pieces_fit}
use Rattle.pdh_smoothing.specs.Again.{reads_in, frames_again, rows_text, schedule_again}
use Rattle.pdh_smoothing.proofs.Single.{single}
use Rattle.pdh_smoothing.proofs.AsciiRows.{each_of, schedule_short}
use Rattle.pdh_answers.specs.Names.{name_of, leaf_name, schedule_name}
use Rattle.pdh_answers.specs.Answer.{Answer, and_then}
use Rattle.pdh_answers.specs.declared.answer.Stop.TheVariants.{Missing, Short, ManyFrames}
use Rattle.pdh_answers.specs.declared.file.File.{File}
use Rattle.pdh_answers.specs.declared.file.File.TheVariants.{Schedule, Leaf}
use Rattle.pdh_runner.specs.Lines.{frames_of as frames_in_line}
use Rattle.pdh_runner.specs.Operation.{Files, all_held, bytes_in}
use Rattle.pdh_making.specs.Schedules.{frames_in, rows_of, rows_or_stop}
use Rattle.pdh_making.specs.Mux.{mux_inputs, short_node, stop_of_shortage, bits_held, bits_needed, short_leaf, event_of, stop_of_event, mux_says, muxed}
use Rattle.pdh_making.specs.Mux.Job.{Plainly}
use Rattle.pdh_recorded.specs.Smooth.{output_in, smooth_output}
use Rattle.pdh_ops.specs.MadeAgain.{AreSmoothed, MakesAgain, frames_made_again}

-- ---- a chain of one multiplexer

-- the one level of a frame with stores
record IsOneLevel (s : FrameShape) (levels : List Level) : Type 0 where
  level : Level
  only : levels ≡ level ∷ []
  len : level.len ≡ s.len
  tribs : level.tribs ≡ s.tribs
  stores : level_stores level ≡ s.tribs

none_below : (rest : List Level) → [] ≡ numbers_in rest → rest ≡ []
none_below [] same = refl
none_below (level ∷ rest) same = absurd (omega (arith, ap (λ (numbers : List FrameNumbers). length numbers) same))

one_level : (s : FrameShape) (levels : List Level) → HasStores s → AreLevelsOf (s ∷ []) levels → IsOneLevel s levels
one_level s [] stores are = absurd are
one_level s (level ∷ rest) stores are = record {
  level = level;
  only = ap (λ (levels : List Level). level ∷ levels) (none_below rest are.1);
  len = are.0.len;
  tribs = are.0.tribs;
  stores = level_stores_is level (elastic_level s level stores are.0) ∙ are.0.tribs;
}

-- its one frame and its one level
record HasOne (chain : Chain) : Type 0 where
  s : FrameShape
  shapes : shapes_of chain ≡ s ∷ []
  even : IsEven s
  stores : HasStores s
  enough : 102 < s.low
  low_few : suc s.low < 2 ^ 64
  top : IsOneLevel s (levels_of chain)
  is_level : IsLevel top.level

has_one : (chain : Chain) → length (levels_of chain) ≡ 1 → HasOne chain
has_one chain alone =
    let is = single chain alone in
    let frames = subst AreFrames is.only (are_frames chain) in
    let evenly = subst ReadEvenly is.only (read_evenly chain) in
    let top = one_level is.shape (levels_of chain) is.stores (subst (λ shapes. AreLevelsOf shapes (levels_of chain)) is.only (are_levels_of chain)) in
    record {
      s = is.shape;
      shapes = is.only;
      even = record { frame = frames.0; has = frames.1; even = evenly.0 is.stores };
      stores = is.stores;
      enough = is.enough;
      low_few = is.low_few;
      top = top;
      is_level = All-head IsLevel top.level [] (subst (All IsLevel) top.only (are_levels chain).each);
    }

leaves_are : (chain : Chain) (one : HasOne chain) → leaves_of chain ≡ one.s.tribs
leaves_are chain one = (let each : one.s.tribs * 1 ≡ one.s.tribs = omega arith in ap width one.shapes ∙ each)

some_tribs : (chain : Chain) (one : HasOne chain) → 0 < one.s.tribs
some_tribs chain one = omega (arith, one.is_level.fewest, one.top.tribs)

-- a frame of it has more slots than it carries bits of a tributary
low_fits : (chain : Chain) (one : HasOne chain) → suc one.s.low ≤ one.top.level.len
low_fits chain one =
    let s = one.s in
    omega (
      arith,
      one.even.has.high 0 (some_tribs chain one),
      count_by-le-length (λ slot. reads_from 0 true (s.role slot)) (slots s),
      length-range_with_len 0 s.len,
      one.top.len,
    )

-- ---- how long the line is

pieces_few : (chain : Chain) (one : HasOne chain) (line : List ℕ) → frames_in_line chain line ≤ most_frames → length (pieces_of one.s (bits_of line)) ≤ most_frames
pieces_few chain one line few =
    let s = one.s in
    let pieces : ℕ = length (pieces_of s (bits_of line)) in
    let len : s.len ≡ 8 * frame_bytes_of chain = sym (ap top_len one.shapes) ∙ whole_bytes chain in
    let all : pieces * s.len ≡ pieces * (8 * frame_bytes_of chain) = ap (λ n. pieces * n) len in
    let fit : pieces * frame_bytes_of chain ≤ length line = omega (arith, pieces_fit s (bits_of line) one.even.frame, length-bits_of line, all) in
    omega (arith, le-div pieces (length line) (frame_bytes_of chain) (some_bytes chain) fit, few)

bits_few : (chain : Chain) (one : HasOne chain) (line : List ℕ) → frames_in_line chain line ≤ most_frames → length (bits_of line) < 2 ^ 63
bits_few chain one line few =
    let bytes : ℕ = frame_bytes_of chain in
    let len : one.s.len ≡ 8 * bytes = sym (ap top_len one.shapes) ∙ whole_bytes chain in
    let floor : length line < length line / bytes * bytes + bytes = lt-div-mul-add (some_bytes chain) in
    let most : length line / bytes * bytes ≤ most_frames * bytes = mul-le-mul_right bytes few in
    omega (arith, floor, most, len, one.top.len, one.is_level.longest, length-bits_of line)

-- ---- what was written

output_is : (chain : Chain) (one : HasOne chain) (line : List ℕ) (k : ℕ)
    → smooth_output chain line k ≡ cond (nat_lt k one.s.tribs) (bytes_of (smooth one.s k (bits_of line))) (schedule_again one.s (bits_of line))
unfolding smooth_output
output_is chain one line k = ap (λ shapes. output_in shapes (bits_of line) k) one.shapes

leaf_bytes : (chain : Chain) (one : HasOne chain) (line : List ℕ) (files : Files) (leaf : ℕ) → AreSmoothed chain line files → leaf < leaves_of chain → bytes_in files (leaf_name leaf) ≡ bytes_of (smooth one.s leaf (bits_of line))
leaf_bytes chain one line files leaf smoothed inside =
    let known : leaf < one.s.tribs = omega (arith, inside, leaves_are chain one) in
    ap (λ (held : Option (List ℕ)). unwrap_or held []) (smoothed.leaves leaf inside)
    ∙ output_is chain one line leaf
    ∙ ap (λ b. cond b (bytes_of (smooth one.s leaf (bits_of line))) (schedule_again one.s (bits_of line))) (lt-ltb leaf one.s.tribs known)

schedule_bytes : (chain : Chain) (one : HasOne chain) (line : List ℕ) (files : Files) → AreSmoothed chain line files → bytes_in files schedule_name ≡ schedule_again one.s (bits_of line)
schedule_bytes chain one line files smoothed =
    let past : one.s.tribs ≤ leaves_of chain = omega (arith, leaves_are chain one) in
    ap (λ (held : Option (List ℕ)). unwrap_or held []) smoothed.schedule
    ∙ output_is chain one line (leaves_of chain)
    ∙ ap (λ b. cond b (bytes_of (smooth one.s (leaves_of chain) (bits_of line))) (schedule_again one.s (bits_of line))) (le-ltb (leaves_of chain) one.s.tribs past)

-- ---- the schedule is read as its frames

-- only the top is a node
no_nodes : (steps : List ℕ) → flat_map (λ (step : ℕ). map (λ (path : List ℕ). step ∷ path) []) steps ≡ []
no_nodes [] = refl
no_nodes (step ∷ steps) = no_nodes steps

one_node : (level : Level) → nodes_in (level ∷ []) ≡ [] ∷ []
one_node level = ap (λ (rest : List (List ℕ)). [] ∷ rest) (no_nodes (range_with_len 1 level.tribs))

at_top : (level : Level) (path : List ℕ) (at : Level) → level_at (level ∷ []) path ≡ Some at → level ≡ at
at_top level [] at is = (let same : Some level ≡ Some at = is in let here : level ≡ at = cc in here)
at_top level (step ∷ path) at is = absurd (omega (arith, (level_in (level ∷ []) (step ∷ path) at is).inside))

text_is : (level : Level) (frames : List (List ℕ)) → rows_text frames ≡ text_with (level ∷ []) (λ path. frames)
unfolding text_with
text_is level frames =
    ap (flat_map row_line) (sym (append-nil (longest_rows [] frames)))
    ∙ ap (λ (nodes : List (List ℕ)). flat_map row_line (flat_map (λ path. longest_rows path frames) nodes)) (sym (one_node level))

-- the reads of a piece are counts of the level
counts_fit : (chain : Chain) (one : HasOne chain) (pieces : List FarPiece) (n : ℕ) → IsFrameOf one.top.level (reads_in one.s pieces n)
counts_fit chain one pieces n =
    let s = one.s in
    let level = one.top.level in
    record {
      number = length-map-range_with_len (λ j. reads s j pieces n) 0 s.tribs ∙ sym one.top.stores;
      most = each_of (λ count. count ≤ level.len) (λ j. reads s j pieces n) (range_with_len 0 s.tribs) (λ j. omega (arith, carried-most s (reads_more s j pieces n), low_fits chain one));
    }

frames_fit : (chain : Chain) (one : HasOne chain) (pieces : List FarPiece) → length pieces ≤ most_frames → AreWritable (one.top.level ∷ []) (λ path. frames_again one.s pieces)
frames_fit chain one pieces few =
    let s = one.s in
    let level = one.top.level in
    let fit : All (IsFrameOf level) (frames_again s pieces) = each_of (IsFrameOf level) (reads_in s pieces) (range_with_len 1 (length pieces - 1)) (counts_fit chain one pieces) in
    record {
      each = λ path at is. subst (λ at. All (IsFrameOf at) (frames_again s pieces)) (at_top level path at is) fit;
      few = λ path some. omega (arith, length-map-range_with_len (reads_in s pieces) 1 (length pieces - 1), few);
    }

-- rows of which the top has the frames of that schedule
record HasFrames (chain : Chain) (one : HasOne chain) (line : List Bool) (text : List ℕ) : Type 0 where
  rows : List Row
  read : schedule_of (levels_of chain) text ≡ Ok rows
  frames : frames_of rows [] ≡ frames_again one.s (pieces_of one.s line)

reads_again : (chain : Chain) (one : HasOne chain) (line : List Bool) → length (pieces_of one.s line) ≤ most_frames → length line < 2 ^ 63 → HasFrames chain one line (schedule_again one.s line)
unfolding schedule_again
reads_again chain one line few short =
    let s = one.s in
    let pieces : List FarPiece = pieces_of s line in
    let levels : AreLevels (one.top.level ∷ []) = subst AreLevels one.top.only (are_levels chain) in
    let tribs : s.tribs ≤ 7 = omega (arith, one.is_level.most, one.top.tribs) in
    let text : length (schedule_again s line) ≤ most_bytes = omega (arith, schedule_short s line one.even.frame tribs one.low_few short, few) in
    let back = frames_read_back (one.top.level ∷ []) (λ path. frames_again s pieces) (schedule_again s line) levels (frames_fit chain one pieces few) (text_is one.top.level (frames_again s pieces)) text in
    record {
      rows = back.0;
      read = ap (λ levels. schedule_of levels (schedule_again s line)) one.top.only ∙ back.1;
      frames = back.2 [] refl;
    }

-- ---- each count of a tributary is how many bits of it are read in a piece

count_again : (s : FrameShape) (rows : List Row) (pieces : List FarPiece) (j n : ℕ) → frames_of rows [] ≡ frames_again s pieces → j < s.tribs → n < length pieces - 1 → counts rows [] j n ≡ reads s j pieces (suc n)
count_again s rows pieces j n same known inside =
    let next : 1 + n ≡ suc n = omega arith in
    ap (λ (frames : List (List ℕ)). slice_index (slice_index_or frames n []) j) same
    ∙ ap (λ (counts : List ℕ). slice_index counts j) (get_or-map-range_with_len (reads_in s pieces) 1 (length pieces - 1) n (suc n) [] inside next)
    ∙ get_or-map-range_with_len (λ j. reads s j pieces (suc n)) 0 s.tribs j j 0 known (omega arith)

sums_again : (f g : ℕ → ℕ) (first run : ℕ) → ((n : ℕ) → first ≤ n → n < first + run → f n ≡ g (suc n)) → sum_by f (range_with_len first run) ≡ sum_by g (range_with_len (suc first) run)
sums_again f g first zero same = refl
sums_again f g first (suc run) same =
    let next : suc (first + 1) ≡ suc first + 1 = omega arith in
    let moved : sum_by g (range_with_len (suc (first + 1)) run) ≡ sum_by g (range_with_len (suc first + 1) run) = ap (λ n. sum_by g (range_with_len n run)) next in
    omega (
      arith,
      sum_by-cons f first (range_with_len (first + 1) run),
      sum_by-cons g (suc first) (range_with_len (suc first + 1) run),
      same first (omega arith) (omega arith),
      sums_again f g (first + 1) run (λ n h less. same n (omega (arith, h)) (omega (arith, less))),
      moved,
    )

over_again : (s : FrameShape) (rows : List Row) (pieces : List FarPiece) (j first run : ℕ) → frames_of rows [] ≡ frames_again s pieces → j < s.tribs → first + run ≤ length pieces - 1
    → arrived_over (counts rows [] j) first run ≡ reads_over s j pieces (suc first) run
over_again s rows pieces j first run same known inside =
    sums_again (counts rows [] j) (reads s j pieces) first run (λ n h less. count_again s rows pieces j n same known (omega (arith, less, inside)))

frames_are : (s : FrameShape) (rows : List Row) (pieces : List FarPiece) → frames_of rows [] ≡ frames_again s pieces → frames_in rows ≡ length pieces - 1
frames_are s rows pieces same = ap (λ (frames : List (List ℕ)). length frames) same ∙ length-map-range_with_len (reads_in s pieces) 1 (length pieces - 1)

-- ---- no event

within_again : (s : FrameShape) (rows : List Row) (pieces : List FarPiece) (j : ℕ) → IsEven s → frames_of rows [] ≡ frames_again s pieces → j < s.tribs → IsWithin s (counts rows [] j) (length pieces - 1)
within_again s rows pieces j even same known = record {
  least = λ first run inside. omega (arith, over_again s rows pieces j first run same known inside, (run-bounds s j pieces (suc first) run even known).0);
  most = λ first run inside. omega (arith, over_again s rows pieces j first run same known inside, (run-bounds s j pieces (suc first) run even known).1);
}

all_within : (shapes : List FrameShape) (s : FrameShape) (counts : Counts) (n : ℕ) → shapes ≡ s ∷ [] → ((j : ℕ) → j < s.tribs → IsWithin s (counts [] j) (begun_by s.len (n * s.len))) → AllWithin shapes counts [] (n * top_len shapes)
unfolding AllWithin
all_within shapes s counts n only within = subst (λ shapes. AllWithin shapes counts [] (n * top_len shapes)) (sym only) (λ j known. (λ stores. within j known, tt))

no_event : (chain : Chain) (one : HasOne chain) (rows : List Row) (pieces : List FarPiece) → frames_of rows [] ≡ frames_again one.s pieces → event_of chain rows ≡ None
unfolding event_of
no_event chain one rows pieces same =
    let s = one.s in
    let n : ℕ = frames_in rows in
    let begun_all : begun_by s.len (n * s.len) ≡ length pieces - 1 = begun_by_whole s.len n one.even.frame.some_slots ∙ frames_are s rows pieces same in
    first_event-none (shapes_of chain) (counts rows) n (are_frames chain) (read_evenly chain)
    (all_within (shapes_of chain) s (counts rows) n one.shapes (λ j known. subst (IsWithin s (counts rows [] j)) (sym begun_all) (within_again s rows pieces j one.even same known)))

-- ---- no node is short

no_shortage : (level : Level) (rows : List Row) → 0 < level.len → shortage (record { levels = level ∷ []; rows = rows }) (frames_in rows) ≡ None
unfolding frames_begun
no_shortage level rows some =
    let schedule : Contents = record { levels = level ∷ []; rows = rows } in
    let nodes : nodes_in (level ∷ []) ≡ [] ∷ [] = one_node level in
    let count : length (nodes_in (level ∷ [])) ≡ 1 = ap (λ (nodes : List (List ℕ)). length nodes) nodes in
    shortage_none schedule (frames_in rows) 1 (omega (arith, count)) (λ k less inside.
    let top : k ≡ 0 = omega (arith, less) in
    let at : slice_index_or (nodes_in (level ∷ [])) k [] ≡ [] = ap (λ (nodes : List (List ℕ)). slice_index_or nodes k []) nodes ∙ ap (λ k. slice_index_or ([] ∷ []) k []) top in
    subst (λ path. frames_begun schedule (frames_in rows) path ≤ frame_count rows path) (sym at) (omega (arith, begun_by_whole level.len (frames_in rows) some)))

no_short_node : (chain : Chain) (one : HasOne chain) (rows : List Row) → short_node chain rows ≡ None
no_short_node chain one rows =
    ap (λ levels. shortage (record { levels = levels; rows = rows }) (frames_in rows)) one.top.only
    ∙ no_shortage one.top.level rows (omega (arith, one.is_level.shortest))

-- ---- no leaf is short

needed_is : (shapes : List FrameShape) (s : FrameShape) (counts : Counts) (n leaf : ℕ) → shapes ≡ s ∷ [] → HasStores s → 0 < s.len → entered_below shapes counts [] (n * top_len shapes) leaf ≡ entered (counts [] leaf) n
unfolding entered_at
needed_is shapes s counts n leaf only stores some =
    ap (λ shapes. entered_below shapes counts [] (n * top_len shapes) leaf) only
    ∙ ap (entered_by (shape_numbers s) (counts [] leaf)) (begun_by_whole s.len n some)
    ∙ entered-stores s (counts [] leaf) n stores

-- The schedule leaves the first piece out, whose reads the far store's first ones and the last bits of the file can't make up for.
enough_held : (s : FrameShape) (rows : List Row) (line : List Bool) (j : ℕ) → IsEven s → 102 < s.low → j < s.tribs → frames_of rows [] ≡ frames_again s (pieces_of s line)
    → entered (counts rows [] j) (frames_in rows) ≤ 8 * length (bytes_of (smooth s j line))
unfolding arrived
enough_held s rows line j even enough known same =
    let pieces : List FarPiece = pieces_of s line in
    let n : ℕ = frames_in rows in
    let count : n ≡ length pieces - 1 = frames_are s rows pieces same in
    elim (cases_lt 0 n) [
      | inl some ↦
          let all : length pieces ≡ suc n = omega (arith, count, some) in
          let arrives : sum_by (counts rows [] j) (range_with_len 0 n) ≡ reads_over s j pieces 1 n = over_again s rows pieces j 0 n same known (omega (arith, count)) in
          let total : read_in_all s j line ≡ reads s j pieces 0 + reads_over s j pieces 1 n = ap (reads_over s j pieces 0) all ∙ sum_by-cons (reads s j pieces) 0 (range_with_len 1 n) in
          let enters : entered (counts rows [] j) n ≡ lead + arrived (counts rows [] j) n = ap (λ b. cond b 0 (lead + arrived (counts rows [] j) n)) (ne_eqb n 0 (λ e. omega (arith, e, some))) in
          omega (
            arith,
            enters,
            arrives,
            total,
            carried-least s (reads_more s j pieces 0),
            smooth_long s j line even known,
            length-bytes_of (smooth s j line),
            enough,
          )
      | inr none ↦
          let nothing : n ≡ 0 = omega (arith, none) in
          subst (λ n. entered (counts rows [] j) n ≤ 8 * length (bytes_of (smooth s j line))) (sym nothing) (omega arith)
    ]

no_short_leaf : (chain : Chain) (one : HasOne chain) (line : List ℕ) (files : Files) (rows : List Row) → AreSmoothed chain line files → frames_of rows [] ≡ frames_again one.s (pieces_of one.s (bits_of line))
    → short_leaf chain files rows ≡ None
unfolding short_leaf
no_short_leaf chain one line files rows smoothed same =
    none_found (λ leaf. nat_lt (bits_held files leaf) (bits_needed chain rows leaf)) 0 (leaves_of chain) (λ leaf inside.
    let s = one.s in
    let here : leaf < leaves_of chain = omega (arith, inside) in
    let known : leaf < s.tribs = omega (arith, here, leaves_are chain one) in
    let held : bits_held files leaf ≡ 8 * length (bytes_of (smooth s leaf (bits_of line))) = ap (λ (bytes : List ℕ). 8 * length bytes) (leaf_bytes chain one line files leaf smoothed here) in
    let needed : bits_needed chain rows leaf ≡ entered (counts rows [] leaf) (frames_in rows) = needed_is (shapes_of chain) s (counts rows) (frames_in rows) leaf one.shapes one.stores one.even.frame.some_slots in
    le-ltb (bits_held files leaf) (bits_needed chain rows leaf) (omega (arith, held, needed, enough_held s rows (bits_of line) leaf one.even one.enough known same)))

-- ---- all inputs are held

no_leaf_missing : (files : Files) (first n : ℕ) → ((leaf : ℕ) → leaf < first + n → is_none (files (leaf_name leaf)) ≡ false) → find (λ file. is_none (files (name_of file))) (map Leaf (range_with_len first n)) ≡ None
no_leaf_missing files first zero held = refl
no_leaf_missing files first (suc n) held = rw (held first (omega arith)) (no_leaf_missing files (first + 1) n (λ leaf less. held leaf (omega (arith, less))))

no_file_missing : (chain : Chain) (line : List ℕ) (files : Files) → AreSmoothed chain line files → find (λ file. is_none (files (name_of file))) (mux_inputs chain) ≡ None
no_file_missing chain line files smoothed =
    let rest = no_leaf_missing files 0 (leaves_of chain) (λ leaf less. ap is_none (smoothed.leaves leaf (omega (arith, less)))) in
    ap (λ b. cond b (Some Schedule) (find (λ file. is_none (files (name_of file))) (map Leaf (range_with_len 0 (leaves_of chain))))) (ap is_none smoothed.schedule) ∙ rest

-- ---- the answer

-- by what refuses it, in order
abbrev by_event : Chain → List Row → Option Event → Answer
by_event chain rows event = option_map_or (λ event. Err (stop_of_event event)) event (Ok (mux_says chain (frames_in rows)))

abbrev by_leaf : Chain → Files → List Row → Option ℕ → Option Event → Answer
by_leaf chain files rows short event = option_map_or (λ leaf. Err (Short (Leaf leaf) (bits_held files leaf) (bits_needed chain rows leaf))) short (by_event chain rows event)

abbrev by_node : Chain → Files → List Row → Option Shortage → Option ℕ → Option Event → Answer
by_node chain files rows node short event = option_map_or (λ node. Err (stop_of_shortage node)) node (by_leaf chain files rows short event)

muxed_whole : (chain : Chain) (feac : Option ℕ) (files : Files) (rows : List Row) → frames_in rows ≤ most_frames → short_node chain rows ≡ None → short_leaf chain files rows ≡ None → event_of chain rows ≡ None
    → muxed chain (Plainly feac) files rows ≡ Ok (mux_says chain (frames_in rows))
muxed_whole chain feac files rows few node short event =
    ap (λ b. cond b (Err (ManyFrames (frames_in rows))) (by_node chain files rows (short_node chain rows) (short_leaf chain files rows) (event_of chain rows))) (le-ltb most_frames (frames_in rows) few)
    ∙ ap (λ o. by_node chain files rows o (short_leaf chain files rows) (event_of chain rows)) node
    ∙ ap (λ o. by_leaf chain files rows o (event_of chain rows)) short
    ∙ ap (by_event chain rows) event

pub made_again : (chain : Chain) (feac : Option ℕ) (line : List ℕ) (files : Files) → MakesAgain chain feac line files
unfolding rows_of
made_again chain feac line files = λ alone few smoothed.
    let one = has_one chain alone in
    let line_bits : List Bool = bits_of line in
    let pieces : List FarPiece = pieces_of one.s line_bits in
    let short = pieces_few chain one line few in
    let again = reads_again chain one line_bits short (bits_few chain one line few) in
    let rows : List Row = again.rows in
    let read : rows_of chain (bytes_in files schedule_name) ≡ Ok rows = ap (rows_of chain) (schedule_bytes chain one line files smoothed) ∙ ap rows_or_stop again.read in
    let held : all_held (mux_inputs chain) files ≡ Ok (tt {0}) = ap (λ (missing : Option File). option_map_or (λ file. Err (Missing file)) missing (Ok (tt {0}))) (no_file_missing chain line files smoothed) in
    let count : frames_in rows ≡ frames_made_again (shapes_of chain) line =
    ap (λ (frames : List (List ℕ)). length frames) again.frames ∙ sym (ap (λ shapes. frames_made_again shapes line) one.shapes) in
    ap (λ held. and_then held (λ _. and_then (rows_of chain (bytes_in files schedule_name)) (muxed chain (Plainly feac) files))) held
    ∙ ap (λ read. and_then read (muxed chain (Plainly feac) files)) read
    ∙ muxed_whole chain feac files rows (omega (arith, frames_are one.s rows pieces again.frames, short)) (no_short_node chain one rows) (no_short_leaf chain one line files rows smoothed again.frames) (no_event chain one rows pieces again.frames)
    ∙ ap (λ n. Ok (mux_says chain n)) count
