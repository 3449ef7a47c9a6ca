-- After status 0 the line gives each leaf's bits back in order.
use Rattle.std.proofs.Common.{◌≡◌, ℕ, ◌*◌, ◌%◌, ◌<◌, ◌≤◌, nat_lt, List, [], ◌++◌, Bool, true, false, cond, All, Option, None, Some, Result, Ok, Err, length, take, drop, slice_index_or, refl, ap, sym, subst, ◌∙◌, inl, inr, arith, lit<}
use Rattle.std.specs.Option.{option_map_or}
use Rattle.std.specs.Result.{result_unwrap_or}
use Rattle.std.proofs.lemmas.Bool.{cases_lt}
use Rattle.std.proofs.lemmas.List.{take-append-drop}
use Rattle.std.proofs.lemmas.Bool.Decides.{nat_tests}
use Rattle.std.proofs.Math.Nat.{mul-le-mul_left, mul-le-mul_right, mul-suc, mul_comm, mul_left_comm}
use Rattle.pdh_bits.specs.Bits.{bits_of, bytes_of}
use Rattle.pdh_bits.proofs.BitsLemmas.{bits_of-bytes_of, length-bits_of}
use Rattle.pdh_edge.specs.Files.{ShelfState, SinkState}
use Rattle.pdh_line.specs.Sending.{front}
use Rattle.pdh_line.specs.Events.{Event}
use Rattle.pdh_line.proofs.SentFrames.{length-front, take-front}
use Rattle.pdh_nesting.specs.Chains.{top_len}
use Rattle.pdh_nesting.specs.Receiving.{far}
use Rattle.pdh_nesting.proofs.EventParts.{events_below-none_first}
use Rattle.pdh_nesting.proofs.Given.{far-prefix}
use Rattle.pdh_clock.specs.Row.{Row}
use Rattle.pdh_clock.specs.Contents.{IsRowOf, counts}
use Rattle.pdh_clock.specs.Begun.{Shortage}
use Rattle.pdh_clock.specs.Judged.{schedule_of}
use Rattle.pdh_clock.specs.declared.fault.ScheduleFault.{ScheduleFault}
use Rattle.pdh_clock.proofs.Laws.{schedule_of_sound}
use Rattle.pdh_chain.specs.Saying.{says_of}
use Rattle.pdh_chain.specs.declared.chain.Chain.{Chain}
use Rattle.pdh_chain.specs.Chains.{shapes_of, levels_of, leaves_of, frame_bytes_of}
use Rattle.pdh_chain.proofs.ChainLaws.{all_rated, are_frames, some_bits, whole_bytes}
use Rattle.pdh_answers.specs.Names.{schedule_name, leaf_name}
use Rattle.pdh_answers.specs.Answer.{Answer, and_then, status_of}
use Rattle.pdh_making.specs.Schedules.{rows_of, rows_or_stop, rows_in, frames_in}
use Rattle.pdh_making.specs.Mux.{mux_inputs, line_len, short_node, leaf_bits, bits_held, bits_needed, short_leaf, event_of, stop_of_event, stop_of_shortage, muxed, frames_made, mux_line, line_bytes, muxing, mux_says}
use Rattle.pdh_making.specs.Mux.Job.{Plainly}
use Rattle.pdh_watch.specs.Monitors.{State}
use Rattle.pdh_answers.specs.Lines.{IsTold}
use Rattle.pdh_runner.specs.Performing.{Performs}
use Rattle.pdh_ops.specs.Run.{Runs}
use Rattle.pdh_edge.specs.Ports.{IsPrefix}
use Rattle.pdh_ops.specs.GivesBack.{GivesBack}
use Rattle.pdh_words.specs.declared.commands.Command.{Command}
use Rattle.pdh_words.specs.declared.commands.Command.TheVariants.{Mux}
use Rattle.pdh_answers.specs.declared.answer.Done.{Done}
use Rattle.pdh_answers.specs.declared.answer.Stop.{Stop}
use Rattle.pdh_answers.specs.declared.answer.Stop.TheVariants.{Memory, Usage, Read, Write, Missing, LongSchedule, BadRow, UnknownNode, CountOver, ShortNode, Short, Overflow, Underflow, ManyFrames, NoAlignment, NotWhole, LongScript, BadScriptRow, PastEnd, Unheard}
use Rattle.pdh_answers.specs.declared.file.File.TheVariants.{Leaf}
use Rattle.pdh_chain.proofs.Scheduled.{arrive_singly}
use Rattle.pdh_making.proofs.MuxComes.{each_long}
use Rattle.pdh_making.proofs.MuxMade.{all_made}
use Rattle.pdh_shape.specs.OwnNumbers.{most_frames}
use Rattle.pdh_runner.specs.Operation.{all_held, Files, bytes_in}

-- ---- what holds where the command did its work

-- no stop has status 0
pub stop_status : (stop : Stop) → 1 ≤ status_of stop
stop_status Memory = omega arith
stop_status Usage = omega arith
stop_status (Read f) = omega arith
stop_status (Write f) = omega arith
stop_status (Missing f) = omega arith
stop_status LongSchedule = omega arith
stop_status (BadRow l) = omega arith
stop_status (UnknownNode l) = omega arith
stop_status (CountOver l n m) = omega arith
stop_status (ShortNode p h n) = omega arith
stop_status (Short f h n) = omega arith
stop_status (Overflow p) = omega arith
stop_status (Underflow p) = omega arith
stop_status (ManyFrames n) = omega arith
stop_status (NoAlignment n) = omega arith
stop_status (NotWhole n) = omega arith
stop_status LongScript = omega arith
stop_status (BadScriptRow l) = omega arith
stop_status (PastEnd l) = omega arith
stop_status Unheard = omega arith

-- the frames are made without an event, by a schedule in which no node is short and from leaves that are long enough
pub record IsDone (chain : Chain) (files : Files) (rows : List Row) : Type 0 where
  pub none : event_of chain rows ≡ None
  pub scheduled : short_node chain rows ≡ None
  pub long : (k : ℕ) → k < leaves_of chain → nat_lt (bits_held files k) (bits_needed chain rows k) ≡ false

muxed_done : (chain : Chain) (feac : Option ℕ) (files : Files) (rows : List Row) (done : Done) → ◌≡◌ {A = Answer} (Ok done) (muxed chain (Plainly feac) files rows) → IsDone chain files rows
muxed_done chain feac files rows done h = go (nat_lt most_frames (frames_in rows)) (short_node chain rows) (short_leaf chain files rows) (event_of chain rows) refl refl refl h
  where
    go : (many : Bool) (node : Option Shortage) (short : Option ℕ) (event : Option Event) → short_node chain rows ≡ node → short_leaf chain files rows ≡ short → event_of chain rows ≡ event →
        ◌≡◌ {A = Answer} (Ok done) (cond many (Err (ManyFrames (frames_in rows)))
        (option_map_or (λ short. Err (stop_of_shortage short)) node
        (option_map_or (λ leaf. Err (Short (Leaf leaf) (bits_held files leaf) (bits_needed chain rows leaf))) short (option_map_or (λ event. Err (stop_of_event event)) event (Ok (mux_says chain (frames_in rows))))))) → IsDone chain files rows
    go true lacking short event n s e h = absurd (cc)
    go false (Some node) short event n s e h = absurd (cc)
    go false None (Some leaf) event n s e h = absurd (cc)
    go false None None (Some event) n s e h = absurd (cc)
    go false None None None n s e h = record { none = e; scheduled = n; long = λ k low. each_long chain files rows k s low }

-- where the command did its work, the schedule's text has rows, and this holds of them
pub record DidMux (chain : Chain) (files : Files) : Type 0 where
  pub rows : rows_of chain (bytes_in files schedule_name) ≡ Ok (rows_in chain files)
  pub done : IsDone chain files (rows_in chain files)

pub mux_done : (chain : Chain) (feac : Option ℕ) (files : Files) (done : Done) → ◌≡◌ {A = Answer} (Ok done) ((muxing chain feac).comes_to files) → DidMux chain files
mux_done chain feac files done h = by_rows (rows_of chain (bytes_in files schedule_name)) refl (by_held (all_held (mux_inputs chain) files) h)
  where
    by_held : (r : Result (Unit {0}) Stop) → ◌≡◌ {A = Answer} (Ok done) (and_then r (λ _. and_then (rows_of chain (bytes_in files schedule_name)) (muxed chain (Plainly feac) files))) → ◌≡◌ {A = Answer} (Ok done) (and_then (rows_of chain (bytes_in files schedule_name)) (muxed chain (Plainly feac) files))
    by_held (Ok u) h = h
    by_held (Err stop) h = absurd (cc)

    by_rows : (r : Result (List Row) Stop) → rows_of chain (bytes_in files schedule_name) ≡ r → ◌≡◌ {A = Answer} (Ok done) (and_then r (muxed chain (Plainly feac) files)) → DidMux chain files
    by_rows (Ok rows) e h =
        let same : rows ≡ rows_in chain files = sym (ap (λ r. result_unwrap_or r []) e) in
        record { rows = e ∙ ap Ok same; done = subst (IsDone chain files) same (muxed_done chain feac files rows done h) }
    by_rows (Err stop) e h = absurd (cc)

-- ---- the line

pub line_bits : (chain : Chain) (feac : Option ℕ) (files : Files) (rows : List Row) → event_of chain rows ≡ None → bits_of (line_bytes chain feac files rows) ≡ front (mux_line chain feac files rows) (line_len chain rows)
unfolding event_of line_bytes
line_bits chain feac files rows none =
    let line = mux_line chain feac files rows in
    let all : frames_made chain rows * top_len (shapes_of chain) ≡ line_len chain rows = ap (λ n. n * top_len (shapes_of chain)) (all_made chain rows none) in
    let eights : line_len chain rows ≡ frames_in rows * (8 * frame_bytes_of chain) = ap (λ len. frames_in rows * len) (whole_bytes chain) in
    let whole : length (front line (line_len chain rows)) % 8 ≡ 0 = omega (arith, length-front line (line_len chain rows), eights, mul_left_comm (frames_in rows) 8 (frame_bytes_of chain)) in
    ap (λ n. bits_of (bytes_of (front line n))) all ∙ bits_of-bytes_of (front line (line_len chain rows)) whole

-- the frames of which a receiver has so many bits are among those that were made
pub frames_there : (chain : Chain) (feac : Option ℕ) (files : Files) (rows : List Row) (line : List ℕ) (n : ℕ) → IsDone chain files rows → line ≡ line_bytes chain feac files rows → top_len (shapes_of chain) * n ≤ length (bits_of line) → n ≤ frames_in rows
frames_there chain feac files rows line n done is few =
    let len : ℕ = top_len (shapes_of chain) in
    let made : bits_of line ≡ front (mux_line chain feac files rows) (line_len chain rows) = ap bits_of is ∙ line_bits chain feac files rows done.none in
    let long : len * n ≤ frames_in rows * len = omega (arith, ap length made, length-front (mux_line chain feac files rows) (line_len chain rows)) in
    elim (cases_lt (frames_in rows) n) [
      | inl more ↦ absurd (omega (arith, long, mul-le-mul_left len more, mul-suc len (frames_in rows), mul_comm (frames_in rows) len, some_bits chain))
      | inr fewer ↦ fewer
    ]

-- and a receiver of them has the first bits of the line
pub line_front : (chain : Chain) (feac : Option ℕ) (files : Files) (rows : List Row) (line : List ℕ) (n : ℕ) → IsDone chain files rows → line ≡ line_bytes chain feac files rows → n ≤ frames_in rows
    → take (n * top_len (shapes_of chain)) (bits_of line) ≡ front (mux_line chain feac files rows) (n * top_len (shapes_of chain))
line_front chain feac files rows line n done is few =
    ap (take (n * top_len (shapes_of chain))) (ap bits_of is ∙ line_bits chain feac files rows done.none)
    ∙ take-front (mux_line chain feac files rows) (n * top_len (shapes_of chain)) (line_len chain rows) (mul-le-mul_right (top_len (shapes_of chain)) few)

-- a leaf's file has the bits that enter
pub long_there : (chain : Chain) (files : Files) (rows : List Row) (leaf : ℕ) → IsDone chain files rows → leaf < leaves_of chain → bits_needed chain rows leaf ≤ length (leaf_bits files leaf)
long_there chain files rows leaf done low = let test = done.long leaf low in let e = length-bits_of (bytes_in files (leaf_name leaf)) in grind (arith, nat_tests)

-- the rows of a text are of the chain's nodes
pub rows_sound : (chain : Chain) (text : List ℕ) (rows : List Row) → rows_of chain text ≡ Ok rows → All (IsRowOf (levels_of chain)) rows
unfolding rows_of
rows_sound chain text rows h = schedule_of_sound (levels_of chain) text rows (all_rated chain) (judged (schedule_of (levels_of chain) text) h)
  where
    judged : (r : Result (List Row) ScheduleFault) → rows_or_stop r ≡ Ok rows → r ≡ Ok rows
    judged (Ok found) e = cc
    judged (Err fault) e = absurd (cc)

prefix_of : (front bits : List Bool) (m : ℕ) → front ≡ take m bits → IsPrefix front bits
prefix_of front bits m e = (drop m bits, sym (ap (λ f. f ++ drop m bits) e ∙ take-append-drop m bits))

gives : (chain : Chain) (feac : Option ℕ) (files : Files) (line : List ℕ) (leaf n : ℕ) → DidMux chain files → line ≡ line_bytes chain feac files (rows_in chain files) → leaf < leaves_of chain → top_len (shapes_of chain) * n ≤ length (bits_of line) →
    IsPrefix (far (shapes_of chain) (take (n * top_len (shapes_of chain)) (bits_of line)) leaf) (leaf_bits files leaf)
unfolding event_of
gives chain feac files line leaf n did is low few =
    let rows : List Row = rows_in chain files in
    let there = frames_there chain feac files rows line n did.done is few in
    let quiet = events_below-none_first (shapes_of chain) (counts rows) (frames_in rows) did.done.none in
    prefix_of _ (leaf_bits files leaf) _
    (ap (λ bits. far (shapes_of chain) bits leaf) (line_front chain feac files rows line n did.done is there)
    ∙ far-prefix (shapes_of chain) (counts rows) (λ leaf i. slice_index_or (leaf_bits files leaf) i false) (leaf_bits files) (says_of feac) (frames_in rows) n leaf (are_frames chain) (λ k i. refl)
    (arrive_singly chain rows (line_len chain rows) (rows_sound chain (bytes_in files schedule_name) rows did.rows)) quiet (long_there chain files rows leaf did.done low) there (low))

-- ---- the run

answer_gives_back : (chain : Chain) (feac : Option ℕ) (a b : ShelfState) (k l : SinkState) (v : List State) (status : ℕ) (answer : Answer) → Performs (muxing chain feac) a b answer → IsTold v answer k l status → GivesBack (Some (Mux chain feac)) a b status
answer_gives_back chain feac a b k l v status (Err stop) performs tells files line leaf n told now status_is low few = absurd (omega (arith, tells.0, stop_status stop))
answer_gives_back chain feac a b k l v status (Ok done) performs tells files line leaf n told now status_is low few =
    let same : Some line ≡ Some (line_bytes chain feac files (rows_in chain files)) = performs.outputs 0 (lit< tt) files told (Some line) now in
    let is : line ≡ line_bytes chain feac files (rows_in chain files) = cc in
    gives chain feac files line leaf n (mux_done chain feac files done (performs.cause files told)) is low few

pub gives_back : (command : Option Command) (a b : ShelfState) (k l : SinkState) (v w : List State) (status : ℕ) → Runs command a b k l v w status → GivesBack command a b status
gives_back (Some (Mux chain feac)) a b k l v w status runs = answer_gives_back chain feac a b k l w status runs.answer runs.does runs.told
gives_back _ a b k l v w status runs = tt
