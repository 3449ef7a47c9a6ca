-- What `mux` and `muxslip` come to, and what their output holds.
use Rattle.std.specs.Prelude.{ℕ, zero, suc, ◌*◌, ◌/◌, Bool, true, false, nat_lt, List, [], ◌∷◌, length, map, find, Option, None, Some, is_some, Ok, Err, if◌then◌else◌, slice_get, ◌++◌, codes, decimal}
use Rattle.std.specs.List.{range_with_len, slice_index_or}
use Rattle.std.specs.Option.{option_map_or}
use Rattle.pdh_bits.specs.Bits.{bits_of, bytes_of}
use Rattle.pdh_shape.specs.declared.place.Place.{Place}
use Rattle.pdh_line.specs.Least.{least_below}
use Rattle.pdh_line.specs.Sending.Mode.{Plain, Slipping}
use Rattle.pdh_line.specs.Sending.{front}
use Rattle.pdh_line.specs.Events.{Event, Kind}
use Rattle.pdh_line.specs.Events.Kind.{Overflow as StoreOverflow, Underflow as StoreUnderflow}
use Rattle.pdh_nesting.specs.Chains.{top_len}
use Rattle.pdh_nesting.specs.Sending.{chain_line, entered_below}
use Rattle.pdh_nesting.specs.Events.{events_in, first_event}
use Rattle.pdh_clock.specs.Row.{Row}
use Rattle.pdh_clock.specs.Contents.{counts}
use Rattle.pdh_clock.specs.Begun.{Shortage, shortage}
use Rattle.pdh_chain.specs.Chains.{shapes_of, leaves_of, name_of as name_of_chain}
use Rattle.pdh_line.specs.Paths.{path_of}
use Rattle.pdh_chain.specs.Saying.{says_of}
use Rattle.pdh_chain.specs.Muxes.{place_of, frames_of_line}
use Rattle.pdh_chain.specs.Slipping.{told_slips}
use Rattle.pdh_slips.specs.declared.slip.Slip.{Slip}
use Rattle.pdh_chain.specs.declared.chain.Chain.{Chain}
use Rattle.pdh_answers.specs.Names.{leaf_name, schedule_name, line_name}
use Rattle.pdh_making.specs.Schedules.{contents_of, frames_in, rows_of, rows_in, is_text_due}
use Rattle.pdh_answers.specs.Answer.{Answer, and_then}
use Rattle.pdh_answers.specs.declared.file.File.{File}
use Rattle.pdh_answers.specs.declared.file.File.TheVariants.{Schedule, Leaf}
use Rattle.pdh_answers.specs.declared.answer.Stop.{Stop}
use Rattle.pdh_answers.specs.declared.answer.Stop.TheVariants.{ShortNode, Short, Overflow, Underflow, ManyFrames}
use Rattle.pdh_shape.specs.OwnNumbers.{most_frames}
use Rattle.pdh_runner.specs.Operation.{Operation, all_held, one_name, reaches_outputs, Files, bytes_in}
use Rattle.pdh_answers.specs.declared.answer.Done.TheVariants.{Line}
use Rattle.pdh_answers.specs.declared.answer.Done.{Done}

-- ---- the inputs

-- the bits of the leaves
abbrev pub leaf_bits : Files → ℕ → List Bool
leaf_bits files leaf = bits_of (bytes_in files (leaf_name leaf))

-- the files that it reads, in order
abbrev pub mux_inputs : Chain → List File
mux_inputs chain = Schedule ∷ map Leaf (range_with_len 0 (leaves_of chain))

-- What a line is made for: for `mux`, as far as its first event, with a code that it sends or none; or for `muxslip`, with all
-- its slips.
pub data Job : Type 0 where
  Plainly : Option ℕ → Job
  WithSlips : Job

-- ---- what is too short

-- the bits of all frames of the line
abbrev pub line_len : Chain → List Row → ℕ
line_len chain rows = frames_in rows * top_len (shapes_of chain)

-- the first node that has fewer frames than it begins
abbrev pub short_node : Chain → List Row → Option Shortage
short_node chain rows = shortage (contents_of chain rows) (frames_in rows)

-- how many bits a leaf's file has, and how many it must have: those of the frames that the leaf's node begins
abbrev pub bits_held : Files → ℕ → ℕ
bits_held files leaf = 8 * length (bytes_in files (leaf_name leaf))

abbrev pub bits_needed : Chain → List Row → ℕ → ℕ
bits_needed chain rows leaf = entered_below (shapes_of chain) (counts rows) [] (line_len chain rows) leaf

-- the first leaf whose file is too short
unfoldable pub short_leaf : Chain → Files → List Row → Option ℕ
short_leaf chain files rows = find (λ leaf. nat_lt (bits_held files leaf) (bits_needed chain rows leaf)) (range_with_len 0 (leaves_of chain))

-- ---- events

-- how an event ends the command
abbrev pub stop_of_kind : Kind → Place → Stop
stop_of_kind StoreOverflow place = Overflow place
stop_of_kind StoreUnderflow place = Underflow place

abbrev pub stop_of_event : Event → Stop
stop_of_event event = stop_of_kind event.kind (place_of event)

-- the first event of the run, if there is one
unfoldable pub event_of : Chain → List Row → Option Event
event_of chain rows = first_event (shapes_of chain) (counts rows) (frames_in rows)

-- ---- slips

-- the slips of the run, in the order of its steps
unfoldable pub slips_in : Chain → List Row → List Slip
slips_in chain rows = told_slips (shapes_of chain) (counts rows) (frames_in rows)

-- ---- its text

-- what it says of so many frames
abbrev pub mux_says : Chain → ℕ → Done
mux_says chain frames = Line (codes "mux " ++ name_of_chain chain ++ codes ": frames " ++ decimal frames ++ codes "\n")

-- what `muxslip` says of so many frames and slips
abbrev pub muxslip_says : Chain → ℕ → ℕ → Done
muxslip_says chain frames slips = Line (codes "muxslip " ++ name_of_chain chain ++ codes ": frames " ++ decimal frames ++ codes " slips " ++ decimal slips ++ codes "\n")

-- ---- the answer

-- what a line that nothing refuses before its run comes to: for `mux` its first event, or all its frames
abbrev pub run_answer : Chain → Job → List Row → Answer
run_answer chain (Plainly feac) rows = option_map_or (λ event. Err (stop_of_event event)) (event_of chain rows) (Ok (mux_says chain (frames_in rows)))
run_answer chain WithSlips rows = Ok (muxslip_says chain (frames_in rows) (length (slips_in chain rows)))

abbrev pub stop_of_shortage : Shortage → Stop
stop_of_shortage short = ShortNode (path_of short.path) short.have short.need

-- the line of so many frames, or the first refusal: too many frames, a short node, a short leaf; and for `mux` an event
abbrev pub muxed : Chain → Job → Files → List Row → Answer
muxed chain job files rows =
    if nat_lt most_frames (frames_in rows) then Err (ManyFrames (frames_in rows))
    else option_map_or (λ short. Err (stop_of_shortage short)) (short_node chain rows)
    (option_map_or (λ leaf. Err (Short (Leaf leaf) (bits_held files leaf) (bits_needed chain rows leaf))) (short_leaf chain files rows) (run_answer chain job rows))

-- ---- the line

-- an event stands in making that bit of the line
abbrev pub has_event : Chain → List Row → ℕ → Bool
has_event chain rows bit = is_some (slice_get (events_in Plain (shapes_of chain) (counts rows) [] bit) 0)

-- the whole frames of the line before the first bit in whose making an event stands, or all
unfoldable pub frames_made : Chain → List Row → ℕ
frames_made chain rows = least_below (line_len chain rows) (has_event chain rows) / top_len (shapes_of chain)

-- the line of the leaves' bits; its top's frames are idle, but for a code that is sent over the far end alarm and control
-- channel, where they have one
abbrev pub mux_line : Chain → Option ℕ → Files → List Row → ℕ → Bool
mux_line chain feac files rows = chain_line Plain (shapes_of chain) (counts rows) (λ leaf i. slice_index_or (leaf_bits files leaf) i false) (says_of feac) [] 0

-- what the line's file holds
unfoldable pub line_bytes : Chain → Option ℕ → Files → List Row → List ℕ
line_bytes chain feac files rows = bytes_of (front (mux_line chain feac files rows) (frames_made chain rows * top_len (shapes_of chain)))

-- what it holds where all slips are told: the line whose stores slip, which sends no code
unfoldable pub slipping_bytes : Chain → Files → List Row → List ℕ
slipping_bytes chain files rows = bytes_of (frames_of_line Slipping (shapes_of chain) (counts rows) (says_of None) (leaf_bits files) (frames_in rows))

abbrev pub job_bytes : Chain → Job → Files → List Row → List ℕ
job_bytes chain (Plainly feac) files rows = line_bytes chain feac files rows
job_bytes chain WithSlips files rows = slipping_bytes chain files rows

-- ---- the command

-- the schedule, and then the leaves
abbrev pub mux_input : ℕ → List ℕ
mux_input zero = schedule_name
mux_input (suc leaf) = leaf_name leaf

abbrev pub mux_comes : Chain → Job → Files → Answer
mux_comes chain job files = and_then (all_held (mux_inputs chain) files) (λ _. and_then (rows_of chain (bytes_in files schedule_name)) (muxed chain job files))

-- the slips of a line that is made, and else none
abbrev pub slips_where : Answer → List Slip → List Slip
slips_where (Ok done) slips = slips
slips_where (Err stop) slips = []

abbrev pub slips_told : Chain → Files → List Slip
slips_told chain files = slips_where (mux_comes chain WithSlips files) (slips_in chain (rows_in chain files))

abbrev pub job_tells : Chain → Job → Option (Files → List Slip)
job_tells chain (Plainly feac) = None
job_tells chain WithSlips = Some (slips_told chain)

-- the leaves are read in the run
abbrev pub mux_in_run : File → Bool
mux_in_run (Leaf leaf) = true
mux_in_run file = false

-- the schedule is read where its text is due, and each leaf where nothing refuses before the outputs
abbrev pub mux_due : Chain → Job → File → Files → Bool
mux_due chain job Schedule files = is_text_due (mux_inputs chain) files
mux_due chain job file files = reaches_outputs (mux_comes chain job files)

-- a chain's line, made for that
abbrev pub making_line : Chain → Job → Operation
making_line chain job = record {
  inputs = record { count = suc (leaves_of chain); name = mux_input };
  outputs = one_name line_name;
  bytes = λ files _. job_bytes chain job files (rows_in chain files);
  comes_to = mux_comes chain job;
  reads_in_run = mux_in_run;
  is_due = mux_due chain job;
  shows = None;
  tells = job_tells chain job;
}

-- `mux` of a chain's line, which sends this code or none
abbrev pub muxing : Chain → Option ℕ → Operation
muxing chain feac = making_line chain (Plainly feac)

-- `muxslip` of a chain's line
abbrev pub muxing_slips : Chain → Operation
muxing_slips chain = making_line chain WithSlips
