-- Within the tolerance `mux` meets no event, and its line gives the leaves' bits back soon.
use Rattle.std.proofs.Common.{◌≡◌, ℕ, ◌+◌, ◌*◌, ◌<◌, ◌≤◌, List, [], Bool, true, false, cond, Option, None, Some, Result, Ok, Err, length, take, slice_index_or, refl, ap, sym, subst, ◌∙◌, inl, inr, arith, lit<}
use Rattle.std.specs.Prelude.{find, is_none, nat_lt}
use Rattle.std.specs.Option.{option_map_or}
use Rattle.std.specs.Result.{result_unwrap_or}
use Rattle.std.proofs.Math.Nat.{mul-le-mul_right}
use Rattle.pdh_bits.specs.Bits.{bits_of}
use Rattle.pdh_edge.specs.Files.{ShelfState, SinkState}
use Rattle.pdh_line.specs.Events.{Event}
use Rattle.pdh_nesting.specs.Chains.{width, top_len}
use Rattle.pdh_nesting.specs.Sending.{entered_below, AllWithin}
use Rattle.pdh_nesting.specs.Receiving.{far, back_below}
use Rattle.pdh_nesting.proofs.RoundTrip.{far-length}
use Rattle.pdh_nesting.proofs.NoEvents.{first_event-none, scheduled-within}
use Rattle.pdh_nesting.proofs.Delay.{delayed}
use Rattle.pdh_clock.specs.Row.{Row}
use Rattle.pdh_clock.specs.Contents.{counts, frame_count}
use Rattle.pdh_clock.specs.Begun.{Shortage}
use Rattle.pdh_clock.specs.Judged.{schedule_of}
use Rattle.pdh_clock.specs.declared.fault.ScheduleFault.{ScheduleFault}
use Rattle.pdh_clock.specs.declared.fault.ScheduleFault.TheVariants.{TooLong, BadRow as RowIsBad, UnknownNode as NodeIsUnknown, CountOver as CountIsOver, Memory as NoMemory}
use Rattle.pdh_chain.specs.Saying.{says_of}
use Rattle.pdh_chain.specs.declared.chain.Chain.{Chain}
use Rattle.pdh_chain.specs.Chains.{shapes_of, levels_of, leaves_of, delay_of}
use Rattle.pdh_chain.proofs.ChainLaws.{are_frames, read_evenly}
use Rattle.pdh_answers.specs.Names.{name_of, schedule_name}
use Rattle.pdh_answers.specs.Answer.{Answer, and_then, status_of, stop_of_fault}
use Rattle.pdh_making.specs.Schedules.{rows_of, rows_or_stop, rows_in, frames_in}
use Rattle.pdh_making.specs.Mux.{mux_inputs, line_len, short_node, stop_of_shortage, leaf_bits, bits_held, bits_needed, short_leaf, event_of, stop_of_event, muxed, line_bytes, muxing, mux_says}
use Rattle.pdh_making.specs.Mux.Job.{Plainly}
use Rattle.pdh_runner.specs.Operation.{AreTold, Files, bytes_in}
use Rattle.pdh_watch.specs.Monitors.{State}
use Rattle.pdh_answers.specs.Lines.{IsTold}
use Rattle.pdh_runner.specs.Performing.{IsCause, Performs}
use Rattle.pdh_ops.specs.Run.{Runs}
use Rattle.pdh_ops.specs.Tolerated.{AreWithin, HasNoEvent, IsDelayed}
use Rattle.pdh_words.specs.declared.commands.Command.{Command}
use Rattle.pdh_words.specs.declared.commands.Command.TheVariants.{Mux}
use Rattle.pdh_answers.specs.declared.file.File.{File}
use Rattle.pdh_answers.specs.declared.file.File.TheVariants.{Leaf}
use Rattle.pdh_answers.specs.declared.answer.Stop.{Stop}
use Rattle.pdh_answers.specs.declared.answer.Stop.TheVariants.{Memory, Usage, Read, Write, Missing, LongSchedule, BadRow, UnknownNode, CountOver, ShortNode, Short, Overflow, Underflow, ManyFrames, NoAlignment, NotWhole, LongScript, BadScriptRow, PastEnd, Unheard}
use Rattle.pdh_chain.proofs.Scheduled.{scheduled-fewer}
use Rattle.pdh_making.proofs.Scheduled.{all_scheduled}
use Rattle.pdh_ops.proofs.MuxGivesBack.{DidMux, mux_done, frames_there, line_front, stop_status}
use Rattle.pdh_shape.specs.OwnNumbers.{most_frames}

-- ---- no event

-- where no node is short, each tributary is within the tolerance over the frames that its node begins
pub all_within : (chain : Chain) (files : Files) → short_node chain (rows_in chain files) ≡ None → AreWithin chain files
    → AllWithin (shapes_of chain) (counts (rows_in chain files)) [] (line_len chain (rows_in chain files))
all_within chain files none within =
    scheduled-within (shapes_of chain) (counts (rows_in chain files)) (frame_count (rows_in chain files)) [] (line_len chain (rows_in chain files)) (all_scheduled chain (rows_in chain files) none) within

pub within_none : (chain : Chain) (files : Files) → short_node chain (rows_in chain files) ≡ None → AreWithin chain files → event_of chain (rows_in chain files) ≡ None
unfolding event_of
within_none chain files none within =
    first_event-none (shapes_of chain) (counts (rows_in chain files)) (frames_in (rows_in chain files)) (are_frames chain) (read_evenly chain) (all_within chain files none within)

-- an answer that names an event
abbrev names_event : Answer → Bool
names_event (Err (Overflow place)) = true
names_event (Err (Underflow place)) = true
names_event answer = false

muxed_none : (chain : Chain) (feac : Option ℕ) (files : Files) (rows : List Row) → (short_node chain rows ≡ None → event_of chain rows ≡ None) → names_event (muxed chain (Plainly feac) files rows) ≡ false
muxed_none chain feac files rows none = go (nat_lt most_frames (frames_in rows)) (short_node chain rows) (short_leaf chain files rows) (event_of chain rows) none
  where
    go : (many : Bool) (node : Option Shortage) (short : Option ℕ) (event : Option Event) → (node ≡ None → event ≡ None) →
        names_event (cond many (Err (ManyFrames (frames_in rows)))
        (option_map_or (λ short. Err (stop_of_shortage short)) node
        (option_map_or (λ leaf. Err (Short (Leaf leaf) (bits_held files leaf) (bits_needed chain rows leaf))) short (option_map_or (λ event. Err (stop_of_event event)) event (Ok (mux_says chain (frames_in rows))))))) ≡ false
    go true lacking short event none = refl
    go false (Some node) short event none = refl
    go false None (Some leaf) event none = refl
    go false None None (Some event) none = absurd (let wrong : Some event ≡ None = none refl in cc)
    go false None None None none = refl

comes_none : (chain : Chain) (feac : Option ℕ) (files : Files) → (short_node chain (rows_in chain files) ≡ None → event_of chain (rows_in chain files) ≡ None) → names_event ((muxing chain feac).comes_to files) ≡ false
unfolding rows_of
comes_none chain feac files none = by_held (find (λ file. is_none (files (name_of file))) (mux_inputs chain))
  where
    by_fault : (fault : ScheduleFault) → names_event (Err (stop_of_fault fault)) ≡ false
    by_fault (TooLong len) = refl
    by_fault (RowIsBad line) = refl
    by_fault (NodeIsUnknown line) = refl
    by_fault (CountIsOver line count most) = refl
    by_fault NoMemory = refl

    by_rows : (r : Result (List Row) ScheduleFault) → (short_node chain (result_unwrap_or (rows_or_stop r) []) ≡ None → event_of chain (result_unwrap_or (rows_or_stop r) []) ≡ None)
        → names_event (and_then (rows_or_stop r) (muxed chain (Plainly feac) files)) ≡ false
    by_rows (Ok rows) e = muxed_none chain feac files rows e
    by_rows (Err fault) e = by_fault fault

    by_held : (missing : Option File) → names_event (and_then (option_map_or (λ file. Err (Missing file)) missing (Ok (tt {0}))) (λ _. and_then (rows_of chain (bytes_in files schedule_name)) (muxed chain (Plainly feac) files))) ≡ false
    by_held (Some file) = refl
    by_held None = by_rows (schedule_of (levels_of chain) (bytes_in files schedule_name)) none

-- status 8 comes of an event alone
no_eight : (chain : Chain) (feac : Option ℕ) (a b : ShelfState) (stop : Stop) (files : Files) → status_of stop ≡ 8 → IsCause (muxing chain feac) a b stop → AreTold (muxing chain feac) a.told files → names_event ((muxing chain feac).comes_to files) ≡ false → ⊥
no_eight chain feac a b (Overflow place) files eight cause told none = let wrong : names_event (Err (Overflow place)) ≡ false = ap names_event (cause files told) ∙ none in cc
no_eight chain feac a b (Underflow place) files eight cause told none = let wrong : names_event (Err (Underflow place)) ≡ false = ap names_event (cause files told) ∙ none in cc
no_eight chain feac a b Memory files eight cause told none = absurd (omega arith)
no_eight chain feac a b Usage files eight cause told none = absurd (omega arith)
no_eight chain feac a b (Read f) files eight cause told none = absurd (omega arith)
no_eight chain feac a b (Write f) files eight cause told none = absurd (omega arith)
no_eight chain feac a b (Missing f) files eight cause told none = absurd (omega arith)
no_eight chain feac a b LongSchedule files eight cause told none = absurd (omega arith)
no_eight chain feac a b (BadRow l) files eight cause told none = absurd (omega arith)
no_eight chain feac a b (UnknownNode l) files eight cause told none = absurd (omega arith)
no_eight chain feac a b (CountOver l n m) files eight cause told none = absurd (omega arith)
no_eight chain feac a b (ShortNode p h n) files eight cause told none = absurd (omega arith)
no_eight chain feac a b (Short f h n) files eight cause told none = absurd (omega arith)
no_eight chain feac a b (ManyFrames n) files eight cause told none = absurd (omega arith)
no_eight chain feac a b (NoAlignment n) files eight cause told none = absurd (omega arith)
no_eight chain feac a b (NotWhole n) files eight cause told none = absurd (omega arith)
no_eight chain feac a b LongScript files eight cause told none = absurd (omega arith)
no_eight chain feac a b (BadScriptRow l) files eight cause told none = absurd (omega arith)
no_eight chain feac a b (PastEnd l) files eight cause told none = absurd (omega arith)
no_eight chain feac a b Unheard files eight cause told none = absurd (omega arith)

answer_no_event : (chain : Chain) (feac : Option ℕ) (a b : ShelfState) (k l : SinkState) (v : List State) (status : ℕ) (answer : Answer) → Performs (muxing chain feac) a b answer → IsTold v answer k l status → HasNoEvent (Some (Mux chain feac)) a status
answer_no_event chain feac a b k l v status (Ok done) performs tells files told within eight = elim tells [ inl sent ↦ absurd (omega (arith, sent.0, eight)) | inr failed ↦ absurd (omega (arith, failed.0, eight)) ]
answer_no_event chain feac a b k l v status (Err stop) performs tells files told within eight =
    no_eight chain feac a b stop files (sym tells.0 ∙ eight) performs.cause told (comes_none chain feac files (λ none. within_none chain files none within))

pub has_no_event : (command : Option Command) (a b : ShelfState) (k l : SinkState) (v w : List State) (status : ℕ) → Runs command a b k l v w status → HasNoEvent command a status
has_no_event (Some (Mux chain feac)) a b k l v w status runs = answer_no_event chain feac a b k l w status runs.answer runs.does runs.told
has_no_event _ a b k l v w status runs = tt

-- ---- the delay

-- a receiver of the first n frames has of each leaf as many bits as come back, and these are all that entered but the delay
behind : (chain : Chain) (feac : Option ℕ) (files : Files) (line : List ℕ) (leaf n : ℕ) → DidMux chain files → line ≡ line_bytes chain feac files (rows_in chain files) → leaf < leaves_of chain → top_len (shapes_of chain) * n ≤ length (bits_of line) → AreWithin chain files
    → entered_below (shapes_of chain) (counts (rows_in chain files)) [] (n * top_len (shapes_of chain)) leaf
    ≤ length (far (shapes_of chain) (take (n * top_len (shapes_of chain)) (bits_of line)) leaf) + delay_of chain
behind chain feac files line leaf n did is low few within =
    let rows : List Row = rows_in chain files in
    let x : ℕ = n * top_len (shapes_of chain) in
    let known : leaf < width (shapes_of chain) = low in
    let there = frames_there chain feac files rows line n did.done is few in
    let got : length (far (shapes_of chain) (take x (bits_of line)) leaf) ≡ back_below (shapes_of chain) (counts rows) [] x leaf =
    ap (λ bits. length (far (shapes_of chain) bits leaf)) (line_front chain feac files rows line n did.done is there)
    ∙ far-length (shapes_of chain) (counts rows) (λ leaf i. slice_index_or (leaf_bits files leaf) i false) (says_of feac) [] 0 x leaf (are_frames chain) known in
    let scheduled = scheduled-fewer (shapes_of chain) (counts rows) (frame_count rows) [] x (line_len chain rows) (are_frames chain) (mul-le-mul_right (top_len (shapes_of chain)) there) (all_scheduled chain rows did.done.scheduled) in
    let short = delayed (shapes_of chain) (counts rows) n leaf (are_frames chain) (scheduled-within (shapes_of chain) (counts rows) (frame_count rows) [] x scheduled within) known in
    subst (λ k. entered_below (shapes_of chain) (counts rows) [] x leaf ≤ k + delay_of chain) (sym got) short

answer_delayed : (chain : Chain) (feac : Option ℕ) (a b : ShelfState) (k l : SinkState) (v : List State) (status : ℕ) (answer : Answer) → Performs (muxing chain feac) a b answer → IsTold v answer k l status → IsDelayed (Some (Mux chain feac)) a b status
answer_delayed chain feac a b k l v status (Err stop) performs tells files line leaf n told within now status_is low few = absurd (omega (arith, tells.0, stop_status stop))
answer_delayed chain feac a b k l v status (Ok done) performs tells files line leaf n told within now status_is low few =
    let same : Some line ≡ Some (line_bytes chain feac files (rows_in chain files)) = performs.outputs 0 (lit< tt) files told (Some line) now in
    let is : line ≡ line_bytes chain feac files (rows_in chain files) = cc in
    behind chain feac files line leaf n (mux_done chain feac files done (performs.cause files told)) is low few within

pub is_delayed : (command : Option Command) (a b : ShelfState) (k l : SinkState) (v w : List State) (status : ℕ) → Runs command a b k l v w status → IsDelayed command a b status
is_delayed (Some (Mux chain feac)) a b k l v w status runs = answer_delayed chain feac a b k l w status runs.answer runs.does runs.told
is_delayed _ a b k l v w status runs = tt
