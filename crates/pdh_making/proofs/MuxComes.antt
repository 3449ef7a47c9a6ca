-- What the steps of `mux` before its outputs come to.
use Rattle.std.proofs.Common.{◌≡◌, ℕ, suc, zero, ◌*◌, ◌<◌, ◌≤◌, nat_lt, List, [], Option, None, Some, Ok, Err, true, false, length, refl, ap, sym, ◌∙◌, subst, arith}
use Rattle.std.specs.Prelude.{is_none, unwrap_or, slice_index, find}
use Rattle.std.specs.Option.{option_map, option_map_or}
use Rattle.std.specs.List.{range_with_len}
use Rattle.std.proofs.lemmas.Bool.Decides.{nat_tests}
use Rattle.pdh_bits.specs.Bits.{bits_of}
use Rattle.pdh_edge.specs.Files.{ShelfState, Counts, Told, Looks, Holds}
use Rattle.pdh_edge.specs.Files.Told.{Known}
use Rattle.pdh_clock.specs.Row.{Row}
use Rattle.pdh_shape.specs.declared.place.Path.{Path}
use Rattle.pdh_clock.specs.Begun.{Shortage}
use Rattle.pdh_chain.specs.Chains.{leaves_of}
use Rattle.pdh_answers.specs.Names.{schedule_name, leaf_name, name_of}
use Rattle.pdh_answers.specs.Answer.{Answer, and_then}
use Rattle.pdh_runner.specs.Reading.{HasLength, IsSizeStop}
use Rattle.pdh_making.specs.Schedules.{rows_of, frames_in}
use Rattle.pdh_making.specs.Mux.{mux_inputs, leaf_bits, bits_held, bits_needed, short_node, stop_of_shortage, short_leaf, Job, muxed, making_line}
use Rattle.pdh_runner.specs.Operation.{AreTold, OfInputs, AreHeld, all_held, Files, bytes_in}
use Rattle.pdh_runner.specs.Performing.{with_stop}
use Rattle.pdh_runner.specs.Refusing.{Refuses}
use Rattle.pdh_making.specs.ScheduleSteps.{RowsAre}
use Rattle.pdh_making.proofs.Firsts.{first_of_range, none_of_range, each_fails, find-map}
use Rattle.pdh_runner.proofs.Refusing.{size_refuses}
use Rattle.pdh_making.proofs.ScheduleComes.{Begins, HasSchedule, text_due}
use Rattle.pdh_making.specs.MuxSteps.{AreSizes, AllHeld, HasRows, IsLong, IsShortNode, IsShort, IsEnoughStop}
use Rattle.pdh_answers.specs.declared.file.File.{File}
use Rattle.pdh_answers.specs.declared.file.File.TheVariants.{Schedule, Leaf}
use Rattle.pdh_making.specs.declared.muxing.InputSizes.{InputSizes}
use Rattle.pdh_answers.specs.declared.answer.Stop.{Stop}
use Rattle.pdh_answers.specs.declared.answer.Stop.TheVariants.{Read, Write, Missing, ShortNode, Short, ManyFrames}
use Rattle.pdh_runner.proofs.Touching.{has_length_still}
use Rattle.pdh_runner.proofs.Lengths.{is_held, length_is}
use Rattle.pdh_chain.specs.declared.chain.Chain.{Chain}
use Rattle.pdh_shape.specs.OwnNumbers.{most_frames}

-- ---- the inputs as they are told

schedule_told : (chain : Chain) (job : Job) (state : ShelfState) (files : Files) → AreTold (making_line chain job) state.told files → state.told schedule_name ≡ Known (files schedule_name)
schedule_told chain job state files told = told 0 (omega arith)

pub leaf_told : (chain : Chain) (job : Job) (state : ShelfState) (files : Files) (k : ℕ) → k < leaves_of chain → AreTold (making_line chain job) state.told files → state.told (leaf_name k) ≡ Known (files (leaf_name k))
leaf_told chain job state files k low told = told (suc k) (omega arith)

-- what holds of inputs as they were told holds of them as they are told now
pub of_inputs_since : (chain : Chain) (job : Job) (P : Files → Type 0) (a b : ShelfState) → Looks a b → OfInputs (making_line chain job) a P → OfInputs (making_line chain job) b P
of_inputs_since chain job P a b looks holds files told = holds files (subst (λ (t : List ℕ → Told). AreTold (making_line chain job) t files) looks.told told)

-- ---- inputs that aren't held

held_files : (chain : Chain) (job : Job) (state : ShelfState) (files : Files) (n k : ℕ) → AreTold (making_line chain job) state.told files → k < leaves_of chain → HasLength (leaf_name k) n state → is_none (files (leaf_name k)) ≡ false
held_files chain job state files n k told low known = is_held state (leaf_name k) n (files (leaf_name k)) known (leaf_told chain job state files k low told)

no_schedule : (chain : Chain) (files : Files) → files schedule_name ≡ None → all_held (mux_inputs chain) files ≡ Err (Missing Schedule)
no_schedule chain files none = let e : is_none (files schedule_name) ≡ true = ap is_none none in rw e refl

-- what the leaves' files come to, where the schedule is held
held_by_leaves : (chain : Chain) (files : Files) (missing : Option ℕ) → is_none (files schedule_name) ≡ false → find (λ leaf. is_none (files (leaf_name leaf))) (range_with_len 0 (leaves_of chain)) ≡ missing
    → all_held (mux_inputs chain) files ≡ option_map_or (λ file. Err (Missing file)) (option_map Leaf missing) (Ok tt)
held_by_leaves chain files missing first found =
    let at : find (λ file. is_none (files (name_of file))) (mux_inputs chain) ≡ option_map Leaf missing =
    rw first (find-map (λ file. is_none (files (name_of file))) Leaf (range_with_len 0 (leaves_of chain)) ∙ ap (option_map Leaf) found) in
    ap (λ (o : Option File). option_map_or (λ file. Err (Missing file)) o (Ok tt)) at

no_leaf : (chain : Chain) (files : Files) (k : ℕ) → k < leaves_of chain → is_none (files schedule_name) ≡ false → ((i : ℕ) → i < k → is_none (files (leaf_name i)) ≡ false) → is_none (files (leaf_name k)) ≡ true →
    all_held (mux_inputs chain) files ≡ Err (Missing (Leaf k))
no_leaf chain files k low first before here =
    held_by_leaves chain files (Some k) first (first_of_range (λ leaf. is_none (files (leaf_name leaf))) 0 (leaves_of chain) k (omega arith) (omega arith) (λ i h h'. before i h') here)

every_leaf : (chain : Chain) (files : Files) → is_none (files schedule_name) ≡ false → ((i : ℕ) → i < leaves_of chain → is_none (files (leaf_name i)) ≡ false) → all_held (mux_inputs chain) files ≡ Ok tt
every_leaf chain files first each =
    held_by_leaves chain files None first (none_of_range (λ leaf. is_none (files (leaf_name leaf))) 0 (leaves_of chain) (λ i h h'. each i (omega arith)))

comes_held : (chain : Chain) (job : Job) (files : Files) (stop : Stop) → all_held (mux_inputs chain) files ≡ Err stop → ◌≡◌ {A = Answer} (Err stop) ((making_line chain job).comes_to files)
comes_held chain job files stop e = sym (ap (λ r. and_then r (λ _. and_then (rows_of chain (bytes_in files schedule_name)) (muxed chain job files))) e)

pub schedule_size_refuses : (chain : Chain) (job : Job) (a b : ShelfState) (stop : Stop) → IsSizeStop Schedule a b stop → Refuses (making_line chain job) a b stop
schedule_size_refuses chain job a b stop cause =
    size_refuses (making_line chain job) Schedule 0 a b stop (omega arith) refl (λ files told i h. absurd (omega arith))
    (λ missing files told. comes_held chain job files (Missing Schedule) (no_schedule chain files (missing (files schedule_name) (schedule_told chain job a files told)))) cause

-- the schedule and the leaves before one are held
held_before : (chain : Chain) (job : Job) (a : ShelfState) (schedule k : ℕ) (leaf : ℕ → ℕ) → k ≤ leaves_of chain → HasLength schedule_name schedule a → ((i : ℕ) → i < k → HasLength (leaf_name i) (leaf i) a) → OfInputs (making_line chain job) a (AreHeld (making_line chain job) (suc k))
held_before chain job a schedule k leaf upto first before files told zero h = is_held a schedule_name schedule (files schedule_name) first (schedule_told chain job a files told)
held_before chain job a schedule k leaf upto first before files told (suc i) h = held_files chain job a files (leaf i) i told (omega arith) (before i (omega arith))

pub leaf_size_refuses : (chain : Chain) (job : Job) (a b : ShelfState) (schedule k : ℕ) (leaf : ℕ → ℕ) (stop : Stop) → k < leaves_of chain → HasLength schedule_name schedule a → ((i : ℕ) → i < k → HasLength (leaf_name i) (leaf i) a) →
    IsSizeStop (Leaf k) a b stop → Refuses (making_line chain job) a b stop
leaf_size_refuses chain job a b schedule k leaf stop low first before cause =
    size_refuses (making_line chain job) (Leaf k) (suc k) a b stop (omega arith) refl (held_before chain job a schedule k leaf (omega arith) first before)
    (λ missing files told.
    comes_held chain job files (Missing (Leaf k)) (no_leaf chain files k low (is_held a schedule_name schedule (files schedule_name) first (schedule_told chain job a files told))
    (λ i h. held_files chain job a files (leaf i) i told (omega arith) (before i h)) (ap is_none (missing (files (leaf_name k)) (leaf_told chain job a files k low told)))))
    cause

pub all_are_held : (chain : Chain) (job : Job) (sizes : InputSizes) (a : ShelfState) → AreSizes chain sizes a → AllHeld chain a
all_are_held chain job sizes a are files told = every_leaf chain files (is_held a schedule_name sizes.schedule (files schedule_name) are.schedule (schedule_told chain job a files told))
    (λ i h. held_files chain job a files (slice_index sizes.leaves i) i told h (are.leaf i h))

pub has_schedule : (chain : Chain) (job : Job) (sizes : InputSizes) (a : ShelfState) → AreSizes chain sizes a → HasSchedule (making_line chain job) 0 a
has_schedule chain job sizes a are = record {
  known = omega arith;
  named = refl;
  due = λ files told short. text_due (mux_inputs chain) files (all_are_held chain job sizes a are files told) short;
  early = refl;
}

-- ---- the schedule

-- the file that is held has these bytes
text_held : (held : Option (List ℕ)) (bytes : ℕ) → Some bytes ≡ option_map length held → (text : List ℕ) × (held ≡ Some text)
text_held None bytes e = absurd (cc)
text_held (Some text) bytes e = (text, refl)

-- what `mux` comes to, by its schedule
pub mux_begins : (chain : Chain) (job : Job) (a : ShelfState) (bytes : ℕ) → AllHeld chain a → HasLength schedule_name bytes a → Begins chain (making_line chain job) (muxed chain job) a
mux_begins chain job a bytes held known files told =
    let t = text_held (files schedule_name) bytes (known.told (files schedule_name) (schedule_told chain job a files told)) in (
      t.0,
      schedule_told chain job a files told ∙ ap Known t.1,
      ap (λ r. and_then r (λ _. and_then (rows_of chain (bytes_in files schedule_name)) (muxed chain job files))) (held files told)
          ∙ ap (λ (h : Option (List ℕ)). and_then (rows_of chain (unwrap_or h [])) (muxed chain job files)) t.1,
    )

pub has_rows : (chain : Chain) (job : Job) (a : ShelfState) (bytes : ℕ) (rows : List Row) → HasLength schedule_name bytes a → RowsAre chain a (Ok rows) → HasRows chain a rows
has_rows chain job a bytes rows known are files told =
    let t = text_held (files schedule_name) bytes (known.told (files schedule_name) (schedule_told chain job a files told)) in
    ap (λ (h : Option (List ℕ)). rows_of chain (unwrap_or h [])) t.1 ∙ are t.0 (schedule_told chain job a files told ∙ ap Known t.1)

-- ---- too many frames, or a leaf that is too short

pub comes_muxed : (chain : Chain) (job : Job) (a : ShelfState) (rows : List Row) (files : Files) → AllHeld chain a → HasRows chain a rows → AreTold (making_line chain job) a.told files → (making_line chain job).comes_to files ≡ muxed chain job files rows
comes_muxed chain job a rows files held are told =
    ap (λ r. and_then r (λ _. and_then (rows_of chain (bytes_in files schedule_name)) (muxed chain job files))) (held files told) ∙ ap (λ r. and_then r (muxed chain job files)) (are files told)

held_is : (chain : Chain) (job : Job) (sizes : InputSizes) (a : ShelfState) (files : Files) (k : ℕ) → k < leaves_of chain → AreSizes chain sizes a → AreTold (making_line chain job) a.told files → bits_held files k ≡ 8 * slice_index sizes.leaves k
held_is chain job sizes a files k low are told = ap (λ n. 8 * n) (length_is a (leaf_name k) (slice_index sizes.leaves k) files (are.leaf k low) (leaf_told chain job a files k low told))

-- leaf k is the first that is too short
pub is_short_leaf : (chain : Chain) (files : Files) (rows : List Row) (k : ℕ) → k < leaves_of chain → ((i : ℕ) → i < k → nat_lt (bits_held files i) (bits_needed chain rows i) ≡ false)
    → nat_lt (bits_held files k) (bits_needed chain rows k) ≡ true → short_leaf chain files rows ≡ Some k
unfolding short_leaf
is_short_leaf chain files rows k low before here =
    first_of_range (λ leaf. nat_lt (bits_held files leaf) (bits_needed chain rows leaf)) 0 (leaves_of chain) k (omega arith) (omega arith) (λ i h h'. before i h') here

pub no_short_leaf : (chain : Chain) (files : Files) (rows : List Row) → ((i : ℕ) → i < leaves_of chain → nat_lt (bits_held files i) (bits_needed chain rows i) ≡ false) → short_leaf chain files rows ≡ None
unfolding short_leaf
no_short_leaf chain files rows each =
    none_of_range (λ leaf. nat_lt (bits_held files leaf) (bits_needed chain rows leaf)) 0 (leaves_of chain) (λ i h h'. each i (omega arith))

-- where none is too short
pub each_long : (chain : Chain) (files : Files) (rows : List Row) (k : ℕ) → short_leaf chain files rows ≡ None → k < leaves_of chain → nat_lt (bits_held files k) (bits_needed chain rows k) ≡ false
unfolding short_leaf
each_long chain files rows k none low =
    each_fails (λ leaf. nat_lt (bits_held files leaf) (bits_needed chain rows leaf)) 0 (leaves_of chain) k none (omega arith) (omega arith)

pub long_enough : (chain : Chain) (job : Job) (sizes : InputSizes) (a : ShelfState) (rows : List Row) (files : Files) (k : ℕ) → k < leaves_of chain → AreSizes chain sizes a → AreTold (making_line chain job) a.told files → IsLong chain rows sizes k → nat_lt (bits_held files k) (bits_needed chain rows k) ≡ false
long_enough chain job sizes a rows files k low are told long = let e = held_is chain job sizes a files k low are told in grind (arith, nat_tests)

short_comes : (chain : Chain) (job : Job) (sizes : InputSizes) (a : ShelfState) (rows : List Row) (k have need : ℕ) (files : Files) → AreSizes chain sizes a → AreTold (making_line chain job) a.told files → IsShort chain rows sizes k have need →
    muxed chain job files rows ≡ Err (Short (Leaf k) have need)
short_comes chain job sizes a rows k have need files are told short =
    let few : nat_lt most_frames (frames_in rows) ≡ false = let f = short.few in grind (arith, nat_tests) in
    let e = held_is chain job sizes a files k short.leaf are told in
    let have_is : bits_held files k ≡ have = e ∙ sym short.have_is in
    let here : nat_lt (bits_held files k) (bits_needed chain rows k) ≡ true = let f = short.short in let n = short.need_is in grind (arith, nat_tests) in
    let first = is_short_leaf chain files rows k short.leaf (λ i h. long_enough chain job sizes a rows files i (omega (arith, short.leaf)) are told (short.before i h)) here in
    rw (few, short.scheduled, first) (ap (λ n. Err (Short (Leaf k) n (bits_needed chain rows k))) have_is ∙ ap (λ n. Err (Short (Leaf k) have n)) (sym short.need_is))

-- a node is the first that is too short
node_comes : (chain : Chain) (job : Job) (rows : List Row) (node : Path) (have need : ℕ) (files : Files) → IsShortNode chain rows node have need → muxed chain job files rows ≡ Err (ShortNode node have need)
node_comes chain job rows node have need files short =
    let few : nat_lt most_frames (frames_in rows) ≡ false = let f = short.few in grind (arith, nat_tests) in
    rw few (stops (short_node chain rows) _ short.first)
  where
    stops : (first : Option Shortage) (rest : Answer) → option_map stop_of_shortage first ≡ Some (ShortNode node have need) → option_map_or (λ short. Err (stop_of_shortage short)) first rest ≡ Err (ShortNode node have need)
    stops None rest e = absurd (cc)
    stops (Some first) rest e = cc

many_comes : (chain : Chain) (job : Job) (rows : List Row) (files : Files) → most_frames < frames_in rows → muxed chain job files rows ≡ Err (ManyFrames (frames_in rows))
many_comes chain job rows files h = let many : nat_lt most_frames (frames_in rows) ≡ true = grind (arith, nat_tests) in rw many refl

pub enough_refuses : (chain : Chain) (job : Job) (sizes : InputSizes) (rows : List Row) (a b : ShelfState) (stop : Stop) → AreSizes chain sizes a → HasRows chain a rows → IsEnoughStop chain rows sizes stop → Refuses (making_line chain job) a b stop
enough_refuses chain job sizes rows a b (ManyFrames n) are has cause = λ files told.
    ap (λ m. Err (ManyFrames m)) cause.0 ∙ sym (comes_muxed chain job a rows files (all_are_held chain job sizes a are) has told ∙ many_comes chain job rows files (subst (λ m. most_frames < m) cause.0 cause.1))
enough_refuses chain job sizes rows a b (ShortNode node have need) are has cause = λ files told.
    sym (comes_muxed chain job a rows files (all_are_held chain job sizes a are) has told ∙ node_comes chain job rows node have need files cause)
enough_refuses chain job sizes rows a b (Short (Leaf k) have need) are has cause = λ files told.
    sym (comes_muxed chain job a rows files (all_are_held chain job sizes a are) has told ∙ short_comes chain job sizes a rows k have need files are told cause)
enough_refuses chain job sizes rows a b stop are has cause = absurd cause

-- they count nothing
pub enough_counts : (chain : Chain) (rows : List Row) (sizes : InputSizes) (x y : Counts) (stop : Stop) → IsEnoughStop chain rows sizes stop → y ≡ x → y ≡ with_stop stop x
enough_counts chain rows sizes x y (Read f) cause same = absurd cause
enough_counts chain rows sizes x y (Write f) cause same = absurd cause
enough_counts chain rows sizes x y (Missing f) cause same = absurd cause
enough_counts chain rows sizes x y stop cause same = same

-- the bytes of a leaf's file that were read give its bits
pub bits_are : (chain : Chain) (job : Job) (a : ShelfState) (k : ℕ) (bytes : List ℕ) (files : Files) → k < leaves_of chain → Holds (a.told (leaf_name k)) bytes → AreTold (making_line chain job) a.told files → leaf_bits files k ≡ bits_of bytes
bits_are chain job a k bytes files low holds told = ap (λ (h : Option (List ℕ)). bits_of (unwrap_or h [])) (holds (files (leaf_name k)) (leaf_told chain job a files k low told))

-- sizes that were answered are known after the files were looked at again
pub sizes_since : (chain : Chain) (sizes : InputSizes) (a b : ShelfState) → Looks a b → AreSizes chain sizes a → AreSizes chain sizes b
sizes_since chain sizes a b looks are = record {
  schedule = has_length_still schedule_name a b _ looks are.schedule;
  leaf = λ k h. has_length_still (leaf_name k) a b _ looks (are.leaf k h);
}
