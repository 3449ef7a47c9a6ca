-- After status 0 the line of `muxslip` gives a leaf's bits back with the edits of its slips, and within the tolerance it is that of
-- `mux`.
use Rattle.std.proofs.Common.{◌≡◌, ℕ, ◌+◌, ◌*◌, ◌%◌, ◌<◌, ◌≤◌, nat_lt, List, [], ◌++◌, map, Bool, true, false, cond, Option, None, Some, Result, Ok, Err, length, take, drop, slice_index_or, refl, ap, sym, subst, ◌∙◌, inl, inr, arith, lit<}
use Rattle.std.specs.Option.{option_map_or}
use Rattle.std.specs.Result.{result_unwrap_or}
use Rattle.std.proofs.lemmas.Bool.{cases_lt}
use Rattle.std.proofs.lemmas.List.{take-append-drop}
use Rattle.std.proofs.lemmas.Bool.Decides.{nat_tests}
use Rattle.std.proofs.Math.Nat.{mul-le-mul_left, mul-le-mul_right, mul-suc, mul_comm, mul_left_comm}
use Rattle.pdh_bits.specs.Bits.{bits_of, bytes_of}
use Rattle.pdh_bits.proofs.BitsLemmas.{bits_of-bytes_of, length-bits_of}
use Rattle.pdh_edge.specs.Files.{ShelfState, SinkState}
use Rattle.pdh_edge.specs.Ports.{IsPrefix}
use Rattle.pdh_line.specs.Sending.{front}
use Rattle.pdh_line.specs.Sending.Mode.{Plain, Slipping}
use Rattle.pdh_line.proofs.SentFrames.{length-front, take-front}
use Rattle.pdh_line.proofs.Ranges.{map-range_same_on}
use Rattle.pdh_nesting.specs.Chains.{top_len}
use Rattle.pdh_nesting.specs.Receiving.{far}
use Rattle.pdh_nesting.specs.Sending.{chain_line}
use Rattle.pdh_nesting.specs.Slips.{slipped_back}
use Rattle.pdh_nesting.proofs.Given.{given-entered}
use Rattle.pdh_nesting.proofs.SlippedLeaves.{far-edited}
use Rattle.pdh_nesting.proofs.WithoutSlips.{none_meets-within, slips_below-none, line-modes}
use Rattle.pdh_clock.specs.Row.{Row}
use Rattle.pdh_clock.specs.Contents.{counts}
use Rattle.pdh_clock.specs.Begun.{Shortage}
use Rattle.pdh_chain.specs.Saying.{says_of}
use Rattle.pdh_chain.specs.Slipping.{slip_of}
use Rattle.pdh_chain.specs.declared.chain.Chain.{Chain}
use Rattle.pdh_chain.specs.Chains.{shapes_of, leaves_of, frame_bytes_of}
use Rattle.pdh_chain.proofs.ChainLaws.{are_frames, read_evenly, some_bits, whole_bytes}
use Rattle.pdh_chain.proofs.Scheduled.{arrive_singly}
use Rattle.pdh_answers.specs.Names.{schedule_name, leaf_name}
use Rattle.pdh_answers.specs.Answer.{Answer, and_then}
use Rattle.pdh_slips.specs.declared.slip.Slip.{Slip}
use Rattle.pdh_answers.specs.declared.answer.Done.{Done}
use Rattle.pdh_answers.specs.declared.answer.Stop.{Stop}
use Rattle.pdh_answers.specs.declared.answer.Stop.TheVariants.{Short, ManyFrames}
use Rattle.pdh_answers.specs.declared.file.File.TheVariants.{Leaf}
use Rattle.pdh_watch.specs.Monitors.{State}
use Rattle.pdh_shape.specs.OwnNumbers.{most_frames}
use Rattle.pdh_runner.specs.Operation.{all_held, Files, bytes_in}
use Rattle.pdh_runner.specs.Performing.{Performs}
use Rattle.pdh_words.specs.declared.commands.Command.{Command}
use Rattle.pdh_words.specs.declared.commands.Command.TheVariants.{MuxSlip}
use Rattle.pdh_making.specs.Schedules.{rows_of, rows_in, frames_in}
use Rattle.pdh_making.specs.Mux.{mux_inputs, line_len, short_node, short_leaf, leaf_bits, bits_held, bits_needed, stop_of_shortage, muxed, line_bytes, event_of, slipping_bytes, slips_in, slips_where, muxing_slips, muxslip_says}
use Rattle.pdh_making.specs.Mux.Job.{WithSlips}
use Rattle.pdh_ops.specs.Run.{Runs, ToldBy}
use Rattle.pdh_ops.specs.Slips.{slipped_leaf, StandsClear, AreSlipped, IsPlainLine, HasNoSlip}
use Rattle.pdh_ops.specs.Tolerated.{AreWithin}
use Rattle.pdh_making.proofs.MuxComes.{each_long}
use Rattle.pdh_making.proofs.MuxMade.{all_made}
use Rattle.pdh_ops.proofs.MuxGivesBack.{rows_sound, stop_status}
use Rattle.pdh_ops.proofs.MuxTolerated.{all_within, within_none}

-- ---- what holds where the command did its work

-- the frames are made by a schedule in which no node is short and from leaves that are long enough
pub record IsSlipped (chain : Chain) (files : Files) (rows : List Row) : Type 0 where
  pub scheduled : short_node chain rows ≡ None
  pub long : (k : ℕ) → k < leaves_of chain → nat_lt (bits_held files k) (bits_needed chain rows k) ≡ false

slipped_done : (chain : Chain) (files : Files) (rows : List Row) (done : Done) → ◌≡◌ {A = Answer} (Ok done) (muxed chain WithSlips files rows) → IsSlipped chain files rows
slipped_done chain files rows done h = go (nat_lt most_frames (frames_in rows)) (short_node chain rows) (short_leaf chain files rows) refl refl h
  where
    go : (many : Bool) (node : Option Shortage) (short : Option ℕ) → short_node chain rows ≡ node → short_leaf chain files rows ≡ short →
        ◌≡◌ {A = Answer} (Ok done) (cond many (Err (ManyFrames (frames_in rows)))
        (option_map_or (λ short. Err (stop_of_shortage short)) node
        (option_map_or (λ leaf. Err (Short (Leaf leaf) (bits_held files leaf) (bits_needed chain rows leaf))) short (Ok (muxslip_says chain (frames_in rows) (length (slips_in chain rows))))))) → IsSlipped chain files rows
    go true lacking short n s h = absurd (cc)
    go false (Some node) short n s h = absurd (cc)
    go false None (Some leaf) n s h = absurd (cc)
    go false None None n s h = record { scheduled = n; long = λ k low. each_long chain files rows k s low }

-- where the command did its work, the schedule's text has rows, and this holds of them
pub record DidSlip (chain : Chain) (files : Files) : Type 0 where
  pub rows : rows_of chain (bytes_in files schedule_name) ≡ Ok (rows_in chain files)
  pub done : IsSlipped chain files (rows_in chain files)

did_slip : (chain : Chain) (files : Files) (done : Done) → ◌≡◌ {A = Answer} (Ok done) ((muxing_slips chain).comes_to files) → DidSlip chain files
did_slip chain files done h = by_rows (rows_of chain (bytes_in files schedule_name)) refl (by_held (all_held (mux_inputs chain) files) h)
  where
    by_held : (r : Result (Unit {0}) Stop) → ◌≡◌ {A = Answer} (Ok done) (and_then r (λ _. and_then (rows_of chain (bytes_in files schedule_name)) (muxed chain WithSlips files))) → ◌≡◌ {A = Answer} (Ok done) (and_then (rows_of chain (bytes_in files schedule_name)) (muxed chain WithSlips files))
    by_held (Ok u) h = h
    by_held (Err stop) h = absurd (cc)

    by_rows : (r : Result (List Row) Stop) → rows_of chain (bytes_in files schedule_name) ≡ r → ◌≡◌ {A = Answer} (Ok done) (and_then r (muxed chain WithSlips files)) → DidSlip chain files
    by_rows (Ok rows) e h =
        let same : rows ≡ rows_in chain files = sym (ap (λ r. result_unwrap_or r []) e) in
        record { rows = e ∙ ap Ok same; done = subst (IsSlipped chain files) same (slipped_done chain files rows done h) }
    by_rows (Err stop) e h = absurd (cc)

-- ---- the line

abbrev slipping_line : Chain → Files → List Row → ℕ → Bool
slipping_line chain files rows = chain_line Slipping (shapes_of chain) (counts rows) (λ leaf i. slice_index_or (leaf_bits files leaf) i false) (says_of None) [] 0

slipping_bits : (chain : Chain) (files : Files) (rows : List Row) → bits_of (slipping_bytes chain files rows) ≡ front (slipping_line chain files rows) (line_len chain rows)
unfolding slipping_bytes
slipping_bits chain files rows =
    let line = slipping_line chain files rows in
    let eights : line_len chain rows ≡ frames_in rows * (8 * frame_bytes_of chain) = ap (λ len. frames_in rows * len) (whole_bytes chain) in
    let whole : length (front line (line_len chain rows)) % 8 ≡ 0 = omega (arith, length-front line (line_len chain rows), eights, mul_left_comm (frames_in rows) 8 (frame_bytes_of chain)) in
    bits_of-bytes_of (front line (line_len chain rows)) whole

-- the frames of which a receiver has so many bits are among those that were made
frames_there : (chain : Chain) (files : Files) (rows : List Row) (line : List ℕ) (n : ℕ) → line ≡ slipping_bytes chain files rows → top_len (shapes_of chain) * n ≤ length (bits_of line) → n ≤ frames_in rows
frames_there chain files rows line n is few =
    let len : ℕ = top_len (shapes_of chain) in
    let made : bits_of line ≡ front (slipping_line chain files rows) (line_len chain rows) = ap bits_of is ∙ slipping_bits chain files rows in
    let long : len * n ≤ frames_in rows * len = omega (arith, few, ap length made, length-front (slipping_line chain files rows) (line_len chain rows)) in
    elim (cases_lt (frames_in rows) n) [
      | inl more ↦ absurd (omega (arith, long, mul-le-mul_left len more, mul-suc len (frames_in rows), mul_comm (frames_in rows) len, some_bits chain))
      | inr fewer ↦ fewer
    ]

-- ---- a leaf with no slipping node above it

prefix_of : (front bits : List Bool) (m : ℕ) → front ≡ take m bits → IsPrefix front bits
prefix_of front bits m e = (drop m bits, sym (ap (λ f. f ++ drop m bits) e ∙ take-append-drop m bits))

slips_back : (chain : Chain) (files : Files) (line : List ℕ) (leaf n : ℕ) → DidSlip chain files → line ≡ slipping_bytes chain files (rows_in chain files) → leaf < leaves_of chain → top_len (shapes_of chain) * n ≤ length (bits_of line) → StandsClear chain files leaf
    → IsPrefix (far (shapes_of chain) (take (n * top_len (shapes_of chain)) (bits_of line)) leaf) (slipped_leaf chain files leaf)
slips_back chain files line leaf n did is low few clear =
    let rows : List Row = rows_in chain files in
    let shapes = shapes_of chain in
    let x : ℕ = n * top_len shapes in
    let there = frames_there chain files rows line n is few in
    let upto : x ≤ line_len chain rows = mul-le-mul_right (top_len shapes) there in
    let held = length-bits_of (bytes_in files (leaf_name leaf)) in
    let enough : bits_needed chain rows leaf ≤ length (leaf_bits files leaf) = let test = did.done.long leaf low in grind (arith, nat_tests) in
    prefix_of _ (slipped_leaf chain files leaf) (slipped_back shapes (counts rows) [] x leaf)
    (ap (λ bits. far shapes bits leaf) (ap (take x) (ap bits_of is ∙ slipping_bits chain files rows) ∙ take-front (slipping_line chain files rows) x (line_len chain rows) upto)
    ∙ far-edited shapes (counts rows) (leaf_bits files) (says_of None) x (line_len chain rows) leaf (are_frames chain) low upto
    (arrive_singly chain rows (line_len chain rows) (rows_sound chain (bytes_in files schedule_name) rows did.rows)) clear (omega (arith, given-entered shapes (counts rows) [] (line_len chain rows) leaf (are_frames chain), enough)))

-- ---- within the tolerance

no_slips : (chain : Chain) (files : Files) (line : List ℕ) → DidSlip chain files → line ≡ slipping_bytes chain files (rows_in chain files) → AreWithin chain files → IsPlainLine chain files line
unfolding slipping_bytes line_bytes slips_in event_of
no_slips chain files line did is within =
    let rows : List Row = rows_in chain files in
    let shapes = shapes_of chain in
    let meets = none_meets-within shapes (counts rows) [] (line_len chain rows) (are_frames chain) (read_evenly chain) (all_within chain files did.done.scheduled within) in
    let none : slips_in chain rows ≡ [] = ap (map slip_of) (slips_below-none shapes (counts rows) (line_len chain rows) (are_frames chain) meets) in
    let bits : ℕ → ℕ → Bool = λ leaf i. slice_index_or (leaf_bits files leaf) i false in
    let same = map-range_same_on (chain_line Slipping shapes (counts rows) bits (says_of None) [] 0) (chain_line Plain shapes (counts rows) bits (says_of None) [] 0) 0 (line_len chain rows)
    (λ i from low. line-modes shapes (counts rows) bits (says_of None) [] 0 (line_len chain rows) i (are_frames chain) meets (omega (arith, low))) in
    record {
      none = where_none ((muxing_slips chain).comes_to files) (slips_in chain rows) none;
      same = is ∙ ap bytes_of same ∙ ap (λ n. bytes_of (front (chain_line Plain shapes (counts rows) bits (says_of None) [] 0) (n * top_len shapes))) (sym (all_made chain rows (within_none chain files did.done.scheduled within)));
    }
  where
    where_none : (answer : Answer) (slips : List Slip) → slips ≡ [] → slips_where answer slips ≡ []
    where_none (Ok done) slips none = none
    where_none (Err stop) slips none = refl

-- ---- the run

-- the answer, behind its slips
answer_slipped : (chain : Chain) (a b : ShelfState) (w : List State) (k l : SinkState) (status : ℕ) (answer : Answer) → Performs (muxing_slips chain) a b answer → ToldBy (muxing_slips chain).tells (muxing_slips chain) a w answer k l status → AreSlipped (Some (MuxSlip chain)) a b status
answer_slipped chain a b w k l status (Err stop) performs tells files line leaf n told now status_is low few clear = absurd (omega (arith, tells.2.0, stop_status stop, status_is))
answer_slipped chain a b w k l status (Ok done) performs tells files line leaf n told now status_is low few clear =
    let same : Some line ≡ Some (slipping_bytes chain files (rows_in chain files)) = performs.outputs 0 (lit< tt) files told (Some line) now in
    let is : line ≡ slipping_bytes chain files (rows_in chain files) = cc in
    slips_back chain files line leaf n (did_slip chain files done (performs.cause files told)) is low few clear

pub are_slipped : (command : Option Command) (a b : ShelfState) (k l : SinkState) (v w : List State) (status : ℕ) → Runs command a b k l v w status → AreSlipped command a b status
are_slipped (Some (MuxSlip chain)) a b k l v w status runs = answer_slipped chain a b w k l status runs.answer runs.does runs.told
are_slipped _ a b k l v w status runs = tt

answer_plain : (chain : Chain) (a b : ShelfState) (w : List State) (k l : SinkState) (status : ℕ) (answer : Answer) → Performs (muxing_slips chain) a b answer → ToldBy (muxing_slips chain).tells (muxing_slips chain) a w answer k l status → HasNoSlip (Some (MuxSlip chain)) a b status
answer_plain chain a b w k l status (Err stop) performs tells files line told within now status_is = absurd (omega (arith, tells.2.0, stop_status stop, status_is))
answer_plain chain a b w k l status (Ok done) performs tells files line told within now status_is =
    let same : Some line ≡ Some (slipping_bytes chain files (rows_in chain files)) = performs.outputs 0 (lit< tt) files told (Some line) now in
    let is : line ≡ slipping_bytes chain files (rows_in chain files) = cc in
    no_slips chain files line (did_slip chain files done (performs.cause files told)) is within

pub has_no_slip : (command : Option Command) (a b : ShelfState) (k l : SinkState) (v w : List State) (status : ℕ) → Runs command a b k l v w status → HasNoSlip command a b status
has_no_slip (Some (MuxSlip chain)) a b k l v w status runs = answer_plain chain a b w k l status runs.answer runs.does runs.told
has_no_slip _ a b k l v w status runs = tt
