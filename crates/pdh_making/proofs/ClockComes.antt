-- What `clock check` and `clock make` come to.
use Rattle.std.proofs.Common.{◌≡◌, ℕ, zero, suc, ◌+◌, ◌∷◌, get_or, ◌<◌, ◌≤◌, nat_lt, List, [], Option, None, Some, Ok, Err, true, false, length, refl, ap, sym, ◌∙◌, subst, inl, inr, arith, lit<}
use Rattle.std.specs.Prelude.{is_none, unwrap_or}
use Rattle.std.specs.Option.{option_map}
use Rattle.std.specs.List.{range_with_len}
use Rattle.std.proofs.lemmas.Bool.{cases_eq}
use Rattle.std.proofs.lemmas.Bool.Decides.{nat_tests}
use Rattle.pdh_edge.specs.Files.{ShelfState, Told, Looks, Touches, Starts, Appends}
use Rattle.pdh_edge.specs.Files.Told.{Known}
use Rattle.pdh_clock.specs.declared.bias.Bias.{Bias}
use Rattle.pdh_shape.specs.declared.place.Level.{Level}
use Rattle.pdh_shape.specs.declared.place.Path.{Path}
use Rattle.pdh_levels.specs.Levels.{nodes_in, level_at, stores_at}
use Rattle.pdh_line.specs.Paths.{steps_of}
use Rattle.pdh_clock.specs.Row.{Row}
use Rattle.pdh_clock.specs.Contents.{Contents, frames_of}
use Rattle.pdh_clock.specs.Made.{made}
use Rattle.pdh_clock.specs.Written.{text_of, text_with}
use Rattle.pdh_rows.specs.Outside.{Run}
use Rattle.pdh_runner.specs.Writing.{IsStartStop, IsAppendStop}
use Rattle.pdh_answers.specs.Names.{schedule_name}
use Rattle.pdh_answers.specs.Answer.{Answer, and_then}
use Rattle.pdh_runner.specs.Reading.{HasLength, IsSizeStop}
use Rattle.pdh_making.specs.Schedules.{rows_of, contents_of}
use Rattle.pdh_making.specs.Clock.{check_inputs, run_outside, outside_at, outside_of, first_outside_of, first_of, checked, made_text, rows_in_text, clock_made, checking, making, inside_says, outside_says, make_says}
use Rattle.pdh_runner.specs.Operation.{Files, AreTold, IsOutput, reaches_outputs, all_held}
use Rattle.pdh_runner.specs.Performing.{with_stop, Performs, GoesOn}
use Rattle.pdh_runner.specs.Refusing.{Refuses}
use Rattle.pdh_making.specs.ScheduleSteps.{RowsAre, IsScheduleStop}
use Rattle.pdh_answers.specs.declared.file.File.TheVariants.{Schedule}
use Rattle.pdh_making.specs.declared.clock.OutOfTolerance.{OutOfTolerance}
use Rattle.pdh_answers.specs.declared.answer.Stop.{Stop}
use Rattle.pdh_answers.specs.declared.answer.Stop.TheVariants.{Memory, Missing, ManyFrames}
use Rattle.pdh_runner.proofs.Touching.{looks_then, looks_none, counted_since}
use Rattle.pdh_runner.proofs.Causes.{looks_others}
use Rattle.pdh_runner.proofs.Refusing.{refuses_since, refuses_performs, size_refuses}
use Rattle.pdh_making.proofs.ScheduleComes.{Begins, HasSchedule, text_due, schedule_refuses, comes_on}
use Rattle.pdh_runner.proofs.OneOutput.{HasOutput, Writes, start_refused, append_refused, writing_done}
use Rattle.pdh_chain.specs.declared.chain.Chain.{Chain}
use Rattle.pdh_chain.specs.Chains.{levels_of}
use Rattle.pdh_levels.proofs.LevelLaws.{stores_is, stores_count, no_stores_is}
use Rattle.pdh_shape.specs.OwnNumbers.{most_frames}

-- ---- the check

check_told : (chain : Chain) (a : ShelfState) (files : Files) → AreTold (checking chain) a.told files → a.told schedule_name ≡ Known (files schedule_name)
check_told chain a files told = told 0 (lit< tt)

not_held : (chain : Chain) (files : Files) → files schedule_name ≡ None → ◌≡◌ {A = Answer} (Err (Missing Schedule)) ((checking chain).comes_to files)
not_held chain files none = let e : is_none (files schedule_name) ≡ true = ap is_none none in rw e refl

pub check_size_refuses : (chain : Chain) (a b : ShelfState) (stop : Stop) → IsSizeStop Schedule a b stop → Refuses (checking chain) a b stop
check_size_refuses chain a b stop cause =
    size_refuses (checking chain) Schedule 0 a b stop (omega arith) refl (λ files told i h. absurd (omega arith))
    (λ missing files told. not_held chain files (missing (files schedule_name) (check_told chain a files told))) cause

known_held : (bytes : ℕ) (held : Option (List ℕ)) → Some bytes ≡ option_map length held → is_none held ≡ false
known_held bytes None e = absurd (cc)
known_held bytes (Some text) e = refl

check_held : (files : Files) → is_none (files schedule_name) ≡ false → all_held check_inputs files ≡ Ok tt
check_held files held = rw held refl

check_schedule : (chain : Chain) (a : ShelfState) (bytes : ℕ) → HasLength schedule_name bytes a → HasSchedule (checking chain) 0 a
check_schedule chain a bytes known = record {
  known = omega arith;
  named = refl;
  due = λ files told short. text_due check_inputs files (check_held files (known_held bytes (files schedule_name) (known.told (files schedule_name) (check_told chain a files told)))) short;
  early = refl;
}

begins_held : (chain : Chain) (files : Files) (held : Option (List ℕ)) (bytes : ℕ) → Some bytes ≡ option_map length held → files schedule_name ≡ held →
    (text : List ℕ) × (held ≡ Some text) × ((checking chain).comes_to files ≡ and_then (rows_of chain text) (λ rows. Ok (checked chain rows)))
begins_held chain files None bytes e same = absurd (cc)
begins_held chain files (Some text) bytes e same =
    let held : is_none (files schedule_name) ≡ false = ap is_none same in
    (text, refl, rw held (ap (λ (h : Option (List ℕ)). and_then (rows_of chain (unwrap_or h [])) (λ rows. Ok (checked chain rows))) same))

-- what the check comes to, by its schedule
pub check_begins : (chain : Chain) (a : ShelfState) (bytes : ℕ) → HasLength schedule_name bytes a → Begins chain (checking chain) (λ files rows. Ok (checked chain rows)) a
check_begins chain a bytes known files told =
    let t = begins_held chain files (files schedule_name) bytes (known.told (files schedule_name) (check_told chain a files told)) refl in
    (t.0, check_told chain a files told ∙ ap Known t.1, t.2)

-- the tributaries of a node before this one are within the tolerance, and this one isn't
outside_from : (clock : Contents) (path : List ℕ) (a n k : ℕ) (run : Run) → a ≤ k → k < a + n → ((i : ℕ) → a ≤ i → i < k → run_outside clock path i ≡ None) → run_outside clock path k ≡ Some run
    → outside_of clock path (range_with_len a n) ≡ Some (outside_at path k run)
outside_from clock path a zero k run from below before here = absurd (omega arith)
outside_from clock path a (suc n) k run from below before here = elim (cases_eq k a) [
  | inl same ↦ let found : run_outside clock path a ≡ Some run = ap (run_outside clock path) (sym same) ∙ here in rw found (ap (λ i. Some (outside_at path i run)) (sym same))
  | inr other ↦
      let none : run_outside clock path a ≡ None = before a (omega arith) (omega arith) in
      rw none (outside_from clock path (a + 1) n k run (omega arith) (omega arith) (λ i h h'. before i (omega arith) h') here)
]

inside_from : (clock : Contents) (path : List ℕ) (a n : ℕ) → ((i : ℕ) → a ≤ i → i < a + n → run_outside clock path i ≡ None) → outside_of clock path (range_with_len a n) ≡ None
inside_from clock path a zero each = refl
inside_from clock path a (suc n) each =
    let none : run_outside clock path a ≡ None = each a (omega arith) (omega arith) in
    rw none (inside_from clock path (a + 1) n (λ i h h'. each i (omega arith) (omega arith)))

pub tributary_outside : (clock : Contents) (path : List ℕ) (n k : ℕ) (run : Run) → stores_at clock.levels path ≡ n → k < n → ((i : ℕ) → i < k → run_outside clock path i ≡ None) → run_outside clock path k ≡ Some run
    → first_outside_of clock path ≡ Some (outside_at path k run)
unfolding first_outside_of
tributary_outside clock path n k run stores low before here =
    ap (λ n. outside_of clock path (range_with_len 0 n)) stores ∙ outside_from clock path 0 n k run (omega arith) (omega arith) (λ i h h'. before i h') here

pub tributaries_inside : (clock : Contents) (path : List ℕ) (n : ℕ) → stores_at clock.levels path ≡ n → ((i : ℕ) → i < n → run_outside clock path i ≡ None) → first_outside_of clock path ≡ None
unfolding first_outside_of
tributaries_inside clock path n stores each =
    ap (λ n. outside_of clock path (range_with_len 0 n)) stores ∙ inside_from clock path 0 n (λ i h h'. each i (omega arith))

-- a node of a chain has as many stores as its level has tributaries, or none
pub stores_of_node : (chain : Chain) (clock : Contents) (levels : List Level) (path : List ℕ) (level : Level) → clock.levels ≡ levels_of chain → levels ≡ levels_of chain → level_at levels path ≡ Some level
    → level.locked ≡ false → stores_at clock.levels path ≡ level.tribs
stores_of_node chain clock levels path level own same at elastic =
    ap (λ ls. stores_at ls path) own
    ∙ stores_is (levels_of chain) path level elastic (ap (λ ls. level_at ls path) (sym same) ∙ at)

pub no_stores_outside : (chain : Chain) (clock : Contents) (levels : List Level) (path : List ℕ) (level : Level) → clock.levels ≡ levels_of chain → levels ≡ levels_of chain → level_at levels path ≡ Some level
    → level.locked ≡ true → first_outside_of clock path ≡ None
no_stores_outside chain clock levels path level own same at locked =
    let none : stores_at clock.levels path ≡ 0 =
    ap (λ ls. stores_at ls path) own ∙ stores_count (levels_of chain) path level (ap (λ ls. level_at ls path) (sym same) ∙ at) ∙ no_stores_is level locked in
    tributaries_inside clock path 0 none (λ i h. absurd (omega arith))

-- the same of the nodes
node_found : (chain : Chain) (clock : Contents) (nodes : List (List ℕ)) (k : ℕ) (out : OutOfTolerance) → k < length nodes → ((i : ℕ) → i < k → first_outside_of clock (get_or nodes i []) ≡ None)
    → first_outside_of clock (get_or nodes k []) ≡ Some out → first_of chain clock nodes ≡ outside_says chain out
node_found chain clock [] k out low before here = absurd (omega arith)
node_found chain clock (path ∷ paths) zero out low before here = rw here refl
node_found chain clock (path ∷ paths) (suc k) out low before here =
    let none : first_outside_of clock path ≡ None = before 0 (omega arith) in
    rw none (node_found chain clock paths k out (omega arith) (λ i h. before (suc i) (omega arith)) here)

nodes_inside : (chain : Chain) (clock : Contents) (nodes : List (List ℕ)) → ((i : ℕ) → i < length nodes → first_outside_of clock (get_or nodes i []) ≡ None) → first_of chain clock nodes ≡ inside_says chain
nodes_inside chain clock [] each = refl
nodes_inside chain clock (path ∷ paths) each =
    let none : first_outside_of clock path ≡ None = each 0 (omega arith) in
    rw none (nodes_inside chain clock paths (λ i h. each (suc i) (omega arith)))

pub first_outside_is : (chain : Chain) (rows : List Row) (k : ℕ) (out : OutOfTolerance) → k < length (nodes_in (levels_of chain))
    → ((i : ℕ) → i < k → first_outside_of (contents_of chain rows) (get_or (nodes_in (levels_of chain)) i []) ≡ None)
    → first_outside_of (contents_of chain rows) (get_or (nodes_in (levels_of chain)) k []) ≡ Some out → checked chain rows ≡ outside_says chain out
unfolding checked
first_outside_is chain rows k out low before here = node_found chain (contents_of chain rows) (nodes_in (levels_of chain)) k out low before here

pub all_inside : (chain : Chain) (rows : List Row) → ((i : ℕ) → i < length (nodes_in (levels_of chain)) → first_outside_of (contents_of chain rows) (get_or (nodes_in (levels_of chain)) i []) ≡ None) → checked chain rows ≡ inside_says chain
unfolding checked
all_inside chain rows each = nodes_inside chain (contents_of chain rows) (nodes_in (levels_of chain)) each

-- what the schedule answers of a node
pub outside_now : (chain : Chain) (clock : Contents) (levels : List Level) (k : ℕ) (node : Path) (out : Option OutOfTolerance) → clock.levels ≡ levels_of chain → levels ≡ levels_of chain
    → steps_of node ≡ get_or (nodes_in levels) k [] → out ≡ first_outside_of clock (steps_of node) → first_outside_of (contents_of chain clock.rows) (get_or (nodes_in (levels_of chain)) k []) ≡ out
outside_now chain clock levels k node out own same steps said =
    ap (first_outside_of (contents_of chain clock.rows)) (sym (steps ∙ ap (λ ls. get_or (nodes_in ls) k []) same))
    ∙ ap (λ l. first_outside_of (record { levels = l; rows = clock.rows }) (steps_of node)) (sym own) ∙ sym said

-- what was read is what the command comes to
pub check_done : (chain : Chain) (a s b : ShelfState) (bytes : ℕ) (rows : List Row) → Looks a s → s.counts ≡ a.counts → HasLength schedule_name bytes s → Looks s b → b.counts ≡ s.counts → RowsAre chain s (Ok rows) → Performs (checking chain) a b (Ok (checked chain rows))
check_done chain a s b bytes rows first same known second same' are = record {
  cause = λ files told.
      sym (comes_on chain (checking chain) (λ files rows. Ok (checked chain rows)) s rows files (check_begins chain s bytes known) are (subst (λ (t : List ℕ → Told). AreTold (checking chain) t files) (sym first.told) told));
  outputs = λ i low. absurd (omega arith);
  others = looks_others (IsOutput (checking chain)) a b (looks_then a s b first second);
  counted = same' ∙ same;
}

pub check_schedule_refused : (chain : Chain) (a s b : ShelfState) (bytes : ℕ) (stop : Stop) → Looks a s → s.counts ≡ a.counts → HasLength schedule_name bytes s → Looks s b → b.counts ≡ with_stop stop s.counts → IsScheduleStop chain s b stop → Performs (checking chain) a b (Err stop)
check_schedule_refused chain a s b bytes stop first same known second counted cause =
    refuses_performs (checking chain) a b stop (looks_then a s b first second)
    (refuses_since (checking chain) a s b stop first same (schedule_refuses chain (checking chain) (λ files rows. Ok (checked chain rows)) 0 s b stop (check_begins chain s bytes known) (check_schedule chain s bytes known) cause))
    (counted_since _ _ _ stop same counted)

pub check_size_refused : (chain : Chain) (a b : ShelfState) (stop : Stop) → Looks a b → b.counts ≡ with_stop stop a.counts → IsSizeStop Schedule a b stop → Performs (checking chain) a b (Err stop)
check_size_refused chain a b stop looks counted cause = refuses_performs (checking chain) a b stop looks (check_size_refuses chain a b stop cause) counted

-- ---- the making

-- the text of a schedule that was made
pub made_text_is : (chain : Chain) (schedule : Contents) (frames : ℕ) (bias : Bias) (text : List ℕ) → schedule.levels ≡ (levels_of chain) → ((path : List ℕ) → frames_of schedule.rows path ≡ made (levels_of chain) bias frames path) → text ≡ text_of schedule →
    text ≡ made_text chain frames bias
unfolding made_text
made_text_is chain schedule frames bias text same each said =
    said ∙ ap (λ (l : List Level). text_with l (frames_of schedule.rows)) same ∙ ap (text_with (levels_of chain)) (λ i path. each path i)

made_few : (chain : Chain) (frames : ℕ) (bias : Bias) → frames ≤ most_frames → clock_made chain frames bias ≡ Ok (make_says chain (rows_in_text (made_text chain frames bias)))
made_few chain frames bias few = let test : nat_lt most_frames frames ≡ false = grind (arith, nat_tests) in rw test refl

pub many_refused : (chain : Chain) (a : ShelfState) (frames : ℕ) (bias : Bias) → most_frames < frames → Performs (making chain frames bias) a a (Err (ManyFrames frames))
many_refused chain a frames bias many = record {
  cause = λ files told. let test : nat_lt most_frames frames ≡ true = grind (arith, nat_tests) in rw test refl;
  outputs = refl;
  others = looks_others (IsOutput (making chain frames bias)) a a (looks_none a);
  counted = refl;
}

pub make_no_memory : (chain : Chain) (a : ShelfState) (frames : ℕ) (bias : Bias) → Performs (making chain frames bias) a a (Err Memory)
make_no_memory chain a frames bias = refuses_performs (making chain frames bias) a a Memory (looks_none a) tt refl

make_output : (chain : Chain) (frames : ℕ) (bias : Bias) → HasOutput (making chain frames bias) Schedule
make_output chain frames bias = record { count = refl; name = refl }

make_goes_on : (chain : Chain) (a : ShelfState) (frames : ℕ) (bias : Bias) → frames ≤ most_frames → GoesOn (making chain frames bias) a
make_goes_on chain a frames bias few files told = ap reaches_outputs (made_few chain frames bias few)

make_writes : (chain : Chain) (a : ShelfState) (frames : ℕ) (bias : Bias) (bytes : List ℕ) → frames ≤ most_frames → bytes ≡ made_text chain frames bias → Writes (making chain frames bias) a a bytes
make_writes chain a frames bias bytes few same = record { looks = looks_none a; same = refl; goes_on = make_goes_on chain a frames bias few; content = λ files told. same }

pub make_start_refused : (chain : Chain) (a c : ShelfState) (frames : ℕ) (bias : Bias) (stop : Stop) → frames ≤ most_frames → Touches schedule_name a c → IsStartStop Schedule a c stop → Performs (making chain frames bias) a c (Err stop)
make_start_refused chain a c frames bias stop few touches cause =
    start_refused (making chain frames bias) Schedule a a c stop (make_output chain frames bias) (looks_none a) refl (make_goes_on chain a frames bias few) touches cause

pub make_append_refused : (chain : Chain) (a c d : ShelfState) (frames : ℕ) (bias : Bias) (bytes : List ℕ) (stop : Stop) → frames ≤ most_frames → bytes ≡ made_text chain frames bias → Touches schedule_name a c → Starts schedule_name a c → Touches schedule_name c d →
    IsAppendStop Schedule bytes c d stop → Performs (making chain frames bias) a d (Err stop)
make_append_refused chain a c d frames bias bytes stop few same starts started appends cause =
    append_refused (making chain frames bias) Schedule a a c d bytes stop (make_output chain frames bias) (make_writes chain a frames bias bytes few same) starts started appends cause

pub make_done : (chain : Chain) (a c d : ShelfState) (frames : ℕ) (bias : Bias) (bytes : List ℕ) → frames ≤ most_frames → bytes ≡ made_text chain frames bias → Touches schedule_name a c → Starts schedule_name a c → Touches schedule_name c d →
    Appends schedule_name bytes c d → Performs (making chain frames bias) a d (Ok (make_says chain (rows_in_text bytes)))
make_done chain a c d frames bias bytes few same starts started touches appends =
    writing_done (making chain frames bias) Schedule a a c d bytes (make_says chain (rows_in_text bytes)) (make_output chain frames bias) (make_writes chain a frames bias bytes few same) starts started touches appends
    (λ files told. ap (λ (text : List ℕ). Ok (make_says chain (rows_in_text text))) same ∙ sym (made_few chain frames bias few))
