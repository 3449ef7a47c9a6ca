-- The steps of `mux`: what each finds, and why it stops.
use Rattle.std.specs.Prelude.{◌≡◌, ℕ, ◌*◌, ◌<◌, ◌≤◌, List, Bool, Option, Some, None, Ok, true, IsTrue, IfSome, All, map, take, slice_index}
use Rattle.std.specs.List.{range_with_len}
use Rattle.std.specs.Option.{option_map}
use Rattle.pdh_edge.specs.Files.{ShelfState}
use Rattle.pdh_edge.specs.Ports.{Inputs}
use Rattle.pdh_blocks.specs.State.{PortState}
use Rattle.pdh_blocks.specs.Lists.{inputs_of, outputs_of}
use Rattle.pdh_shape.specs.declared.place.Path.{Path}
use Rattle.pdh_chain.specs.Chains.{leaves_of, levels_of}
use Rattle.pdh_chain.specs.declared.chain.Chain.{Chain}
use Rattle.pdh_clock.specs.Row.{Row}
use Rattle.pdh_clock.specs.Contents.{IsRowOf}
use Rattle.pdh_answers.specs.Names.{schedule_name, leaf_name}
use Rattle.pdh_runner.specs.Reading.{HasLength}
use Rattle.pdh_making.specs.Schedules.{rows_of, frames_in}
use Rattle.pdh_making.specs.Mux.{mux_inputs, leaf_bits, short_node, stop_of_shortage, bits_needed, Job, run_answer, muxing, making_line}
use Rattle.pdh_runner.specs.Operation.{OfInputs, all_held, Files, bytes_in}
use Rattle.pdh_runner.specs.PortFiles.{HasBits, IsOpenFor}
use Rattle.pdh_answers.specs.declared.file.File.TheVariants.{Leaf}
use Rattle.pdh_making.specs.declared.muxing.InputSizes.{InputSizes}
use Rattle.pdh_making.specs.declared.muxing.Plan.{Plan}
use Rattle.pdh_runner.specs.declared.port.Input.{Input}
use Rattle.pdh_answers.specs.declared.answer.Stop.{Stop}
use Rattle.pdh_answers.specs.declared.answer.Stop.TheVariants.{ShortNode, Short, ManyFrames}
use Rattle.pdh_shape.specs.OwnNumbers.{most_frames}

-- the sizes of the inputs
pub record AreSizes (chain : Chain) (sizes : InputSizes) (state : ShelfState) : Type 0 where
  pub schedule : HasLength schedule_name sizes.schedule state
  pub leaf : (k : ℕ) → k < leaves_of chain → HasLength (leaf_name k) (slice_index sizes.leaves k) state

-- all inputs are held; they are the same whatever code is sent
abbrev pub AllHeld : Chain → ShelfState → Type 0
AllHeld chain state = OfInputs (muxing chain None) state (λ files. all_held (mux_inputs chain) files ≡ Ok tt)

-- the schedule has these rows
abbrev pub HasRows : Chain → ShelfState → List Row → Type 0
HasRows chain state rows = OfInputs (muxing chain None) state (λ files. rows_of chain (bytes_in files schedule_name) ≡ Ok rows)

-- leaf k has as many bits as must enter, at least
abbrev pub IsLong : Chain → List Row → InputSizes → ℕ → Type 0
IsLong chain rows sizes k = bits_needed chain rows k ≤ 8 * slice_index sizes.leaves k

-- there are no more frames than a line may have, each node has those that it begins, and the leaves are long enough
pub record AreEnough (chain : Chain) (rows : List Row) (sizes : InputSizes) (frames : ℕ) : Type 0 where
  pub frames_are : frames ≡ frames_in rows
  pub few : frames ≤ most_frames
  pub scheduled : short_node chain rows ≡ None
  pub long : (k : ℕ) → k < leaves_of chain → IsLong chain rows sizes k

-- this node is the first that has fewer frames than it begins
pub record IsShortNode (chain : Chain) (rows : List Row) (node : Path) (have need : ℕ) : Type 0 where
  pub few : frames_in rows ≤ most_frames
  pub first : option_map stop_of_shortage (short_node chain rows) ≡ Some (ShortNode node have need)

-- leaf k is the first that is too short
pub record IsShort (chain : Chain) (rows : List Row) (sizes : InputSizes) (k have need : ℕ) : Type 0 where
  pub leaf : k < leaves_of chain
  pub few : frames_in rows ≤ most_frames
  pub scheduled : short_node chain rows ≡ None
  pub have_is : have ≡ 8 * slice_index sizes.leaves k
  pub need_is : need ≡ bits_needed chain rows k
  pub short : have < need
  pub before : (i : ℕ) → i < k → IsLong chain rows sizes i

-- why the frames or the leaves are refused
abbrev pub IsEnoughStop : Chain → List Row → InputSizes → Stop → Type 0
IsEnoughStop chain rows sizes (ManyFrames n) = (n ≡ frames_in rows) × (most_frames < n)
IsEnoughStop chain rows sizes (ShortNode node have need) = IsShortNode chain rows node have need
IsEnoughStop chain rows sizes (Short (Leaf k) have need) = IsShort chain rows sizes k have need
IsEnoughStop chain rows sizes _ = ⊥

-- A port can send so many frames of the line: they are those of the schedule, each node has those that it begins, and each
-- leaf's list has as many bits as must enter.
pub record CanSend (chain : Chain) (rows : List Row) (frames : ℕ) (inputs : Inputs) : Type 0 where
  pub frames_are : frames ≡ frames_in rows
  pub scheduled : short_node chain rows ≡ None
  pub holds : (k : ℕ) → k < leaves_of chain → IsTrue (inputs.holds k)
  pub long : (k : ℕ) → k < leaves_of chain → bits_needed chain rows k ≤ inputs.left k

-- ---- the port

-- each leaf gives the bits that enter
abbrev pub AreLeafInputs : Chain → List Row → List Input → Type 0
AreLeafInputs chain rows reads = reads ≡ map (λ k. record { file = Leaf k; bits = bits_needed chain rows k }) (range_with_len 0 (leaves_of chain))

-- A plan has a schedule of the chain, and as many frames as it has: no more than a line may have, and each node has those that
-- it begins.
pub record IsScheduled (chain : Chain) (plan : Plan) : Type 0 where
  pub levels_are : plan.clock.levels ≡ levels_of chain
  pub sound : All (IsRowOf (levels_of chain)) plan.clock.rows
  pub frames_are : plan.frames ≡ frames_in plan.clock.rows
  pub few : plan.frames ≤ most_frames
  pub enough : short_node chain plan.clock.rows ≡ None

-- What the line is made by, where no step refuses the inputs: the schedule's rows, for which each leaf's file has the bits that
-- enter.
pub record IsPlanned (chain : Chain) (plan : Plan) (state : ShelfState) : Type 0 where
  pub scheduled : IsScheduled chain plan
  pub held : AllHeld chain state
  pub rows_are : HasRows chain state plan.clock.rows
  pub leaves_have : (k : ℕ) → k < leaves_of chain → HasBits (leaf_name k) (bits_needed chain plan.clock.rows k) state

-- the bits of leaf k's file that enter
abbrev pub entering : Chain → List Row → Files → ℕ → List Bool
entering chain rows files k = take (bits_needed chain rows k) (leaf_bits files k)

-- a port is open for making a line of these rows: its lists give the bits that enter
pub record IsMuxPort (chain : Chain) (job : Job) (rows : List Row) (old : ShelfState) (port : PortState) : Type 0 where
  pub open_for : IsOpenFor (making_line chain job) old port
  pub rows_are : HasRows chain old rows
  pub comes : OfInputs (making_line chain job) old (λ files. (making_line chain job).comes_to files ≡ run_answer chain job rows)
  pub gives : OfInputs (making_line chain job) old (λ files. (k : ℕ) → k < leaves_of chain → (inputs_of port).told k ≡ Some (entering chain rows files k))

-- a fresh port can send the line of a plan with this code, and has a list for it
pub record CanMake (chain : Chain) (feac : Option ℕ) (plan : Plan) (port : PortState) : Type 0 where
  pub fresh : port.fresh ≡ true
  pub levels : plan.clock.levels ≡ levels_of chain
  pub few : plan.frames ≤ most_frames
  pub code : IfSome feac (λ code. code < 64)
  pub sends : CanSend chain plan.clock.rows plan.frames (inputs_of port)
  pub line : IsTrue ((outputs_of port).holds 0)
