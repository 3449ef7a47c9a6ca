-- How a command over a port ends, by how its work came out.
use Rattle.std.proofs.Common.{◌≡◌, ◌⊎◌, ℕ, true, false, List, map, Option, None, Some, Ok, Err, ap, sym, subst, ◌∙◌, inl, inr, arith}
use Rattle.std.proofs.lemmas.Simd.{map-map}
use Rattle.pdh_edge.specs.Counts.{one_more}
use Rattle.pdh_edge.specs.Files.{ShelfState, TellsFailed}
use Rattle.pdh_edge.specs.Ports.{PutsPart, nothing}
use Rattle.pdh_blocks.specs.Leaves.{Leaf}
use Rattle.pdh_blocks.specs.State.{PortState, Origin, leaf_name, origin_of}
use Rattle.pdh_blocks.specs.Lists.{outputs_of}
use Rattle.pdh_blocks.specs.Held.{IsPort}
use Rattle.pdh_blocks.specs.Kept.{Keeps, Feeds, Drains}
use Rattle.pdh_blocks.specs.Opened.{IsWritten}
use Rattle.pdh_blocks.specs.laws.PortLaws.{keeps_join, keeps_ready}
use Rattle.pdh_watch.specs.Monitors.{State}
use Rattle.pdh_answers.specs.Names.{name_of}
use Rattle.pdh_answers.specs.Answer.{Answer}
use Rattle.pdh_answers.specs.declared.file.File.{File}
use Rattle.pdh_answers.specs.declared.answer.Stop.{Stop}
use Rattle.pdh_answers.specs.declared.answer.Stop.TheVariants.{Memory, Read, Overflow, Underflow, NoAlignment, Unheard}
use Rattle.pdh_runner.specs.Operation.{Operation, View, IsOutput, reaches_outputs}
use Rattle.pdh_runner.specs.Operation.View.{EventsOfFile, EventsOfAll}
use Rattle.pdh_runner.specs.Performing.{Comes, AreWhole, AreBegun, ChangesOnly, Performs, WatchedBy, IsWatched}
use Rattle.pdh_runner.specs.PortFiles.{HasFiles, IsOpenFor, IsStopOf, PutsFront}
use Rattle.pdh_runner.specs.Running.{IsAlone, IsGiven, AreStarted, IsDone, IsUnstarted, StopsReading, StopsWriting, StopsTelling, IsSeen}
use Rattle.pdh_runner.specs.declared.port.Input.{Input}
use Rattle.pdh_runner.specs.declared.running.Outcome.TheVariants.{Whole, Memory as NoMemory, Failed, Unheard as LogFailed}
use Rattle.pdh_runner.proofs.PortRun.{others, unfailed, whole, begun, out_of_memory, read_failed, reading_stops, write_failed, writing_stops, front_of_all, front_still, all_still}

-- ---- files

origin_names : (leaves : List Leaf) → map (λ (origin : Origin). origin.name) (map origin_of leaves) ≡ map leaf_name leaves
origin_names leaves = map-map (λ (origin : Origin). origin.name) origin_of leaves

-- a port has lists for the same files after any calls
pub files_kept : (reads : List Input) (writes : List File) {p q : PortState} → Keeps p q → HasFiles reads writes p → HasFiles reads writes q
files_kept reads writes {p} {q} kept files = record {
  reads_are = sym (origin_names q.leaves) ∙ ap (map (λ (origin : Origin). origin.name)) kept.origins ∙ origin_names p.leaves ∙ files.reads_are;
  writes_are = kept.outputs ∙ files.writes_are;
}

-- ---- an answer behind the outputs

ends : (operation : Operation) (a b : ShelfState) (answer : Answer) → AreWhole operation a b → ChangesOnly (IsOutput operation) a b → b.counts ≡ a.counts → Comes operation a answer → reaches_outputs answer ≡ true → Performs operation a b answer
ends operation a b (Ok done) all others same comes behind = record { cause = comes; outputs = all; others = others; counted = same }
ends operation a b (Err (Overflow place)) all others same comes behind = record { cause = comes; outputs = all; others = others; counted = same }
ends operation a b (Err (Underflow place)) all others same comes behind = record { cause = comes; outputs = all; others = others; counted = same }
ends operation a b (Err (NoAlignment bits)) all others same comes behind = record { cause = comes; outputs = all; others = others; counted = same }
ends operation a b (Err stop) all others same comes behind = absurd (let wrong : false ≡ true = behind in cc)

one_fault : (n : ℕ) → n ≡ 0 → one_more n ≡ 1
one_fault n e = ap one_more e

-- ---- the end

-- `p` was open for the command, and its work has made `q` of it.
module _ {operation : Operation} {a : ShelfState} {reads : List Input} {p q : PortState} (given : IsGiven operation a reads p) (kept : Keeps p q) where
  -- memory was wanting
  pub memory_ends : IsPort q → IsUnstarted p q → Performs operation a q.shelf (Err Memory)
  memory_ends port is = out_of_memory operation a p q given.open_for port kept is.fresh (is.unread ∙ given.open_for.unread)

  are_begun : IsPort q → AreStarted operation q → PutsFront operation a (outputs_of q) → AreBegun operation a q.shelf
  are_begun port started puts = elim started [
    | inl ready ↦ begun operation a p q given.open_for port kept ready puts
    | inr none ↦ λ i low. absurd (omega (arith, low, none))
  ]

  -- the log failed
  pub unheard_ends : IsPort q → StopsTelling operation a p q → Performs operation a q.shelf (Err Unheard)
  unheard_ends port stops = record {
    cause = (given.open_for.goes_on, stops.tells);
    outputs = are_begun port stops.started stops.puts;
    others = others operation a p q given.open_for port kept;
    counted = unfailed operation a p q given.open_for port kept (stops.unread ∙ given.open_for.unread) (stops.unwritten ∙ given.open_for.unwritten);
  }

  -- a call failed
  pub failed_ends : (writes : List File) (stop : Stop) → IsPort q → HasFiles reads writes q → IsStopOf reads writes q stop → StopsReading operation a p q ⊎ StopsWriting operation a p q → Performs operation a q.shelf (Err stop)
  failed_ends writes stop port files is (inl stops) =
      reading_stops operation a p q given.open_for port kept reads writes stop files is given.due (stops.failed ∙ one_fault p.feed_faults given.open_for.unread) (stops.unwritten ∙ given.open_for.unwritten)
      (are_begun port stops.started stops.puts)
  failed_ends writes stop port files is (inr stops) =
      writing_stops operation a p q given.open_for port kept reads writes stop files is (stops.unread ∙ given.open_for.unread) (stops.failed ∙ one_fault p.drain_faults given.open_for.unwritten)
      (inl (elim stops.left [ inl ready ↦ inl (ready, stops.puts) | inr refused ↦ inr refused ]))

  -- and what the monitors saw then
  failed_seen : (writes : List File) (view : Option View) (before after : List State) (stop : Stop) → IsAlone view operation reads → IsPort q → HasFiles reads writes q → IsStopOf reads writes q stop → StopsReading operation a p q ⊎ StopsWriting operation a p q
      → IsSeen view operation a q Failed before after → WatchedBy view operation a q.shelf (Err stop) before after
  failed_seen writes None before after stop alone port files is stops seen = seen
  failed_seen writes (Some (EventsOfAll events_of)) before after stop alone port files is stops seen = seen
  failed_seen writes (Some (EventsOfFile shown events_of)) before after stop alone port files is (inl stops) seen =
      let found = read_failed operation a p q given.open_for port kept reads writes stop files is (stops.failed ∙ one_fault p.feed_faults given.open_for.unread) (stops.unwritten ∙ given.open_for.unwritten) in
      let same : found.1.file ≡ shown = alone.1 found.0 found.1 found.2 in
      subst (λ stop. WatchedBy (Some (EventsOfFile shown events_of)) operation a q.shelf (Err stop) before after) (sym found.3) (inr (record {
        bits = seen.bits;
        range = seen.range;
        block = seen.block;
        fails = record { fails = found.4; asked = subst (λ file. TellsFailed (q.shelf.tells_name (name_of file)) seen.range q.shelf.failed_range) (sym same) seen.asked };
        seen = seen.seen;
      }))
  failed_seen writes (Some (EventsOfFile shown events_of)) before after stop alone port files is (inr stops) seen =
      let found = write_failed operation a p q given.open_for port kept reads writes stop files is (stops.unread ∙ given.open_for.unread) (stops.failed ∙ one_fault p.drain_faults given.open_for.unwritten) in
      absurd (omega (arith, found.5, alone.0))

  pub failed_watched : (writes : List File) (before after : List State) (stop : Stop) → IsPort q → HasFiles reads writes q → IsStopOf reads writes q stop → StopsReading operation a p q ⊎ StopsWriting operation a p q
      → IsSeen operation.shows operation a q Failed before after → IsWatched operation a q.shelf (Err stop) before after
  failed_watched writes before after stop port files is stops seen = failed_seen writes operation.shows before after stop given.alone port files is stops seen

  -- the work was done, and `finish` made `r` of the port
  module _ {r : PortState} (port : IsPort r) (drains : Drains q r) (answer : Answer) (done : IsDone operation a p q answer) where
    keeps : Keeps p r
    keeps = keeps_join kept drains.keeps

    none_read : r.feed_faults ≡ 0
    none_read = drains.feed_faults ∙ done.unread ∙ given.open_for.unread

    -- it wrote what waited
    pub whole_ends : r.drain_faults ≡ q.drain_faults → outputs_of r ≡ outputs_of q → IsWritten r → Performs operation a r.shelf answer
    whole_ends written_all same written =
        let all : AreWhole operation a r.shelf = elim done.started [
          | inl ready ↦ whole operation a p r given.open_for port keeps (keeps_ready drains.keeps ready) written (all_still operation a (outputs_of q) (outputs_of r) same done.puts)
          | inr none ↦ λ i low. absurd (omega (arith, low, none))
        ] in
        ends operation a r.shelf answer all (others operation a p r given.open_for port keeps)
        (unfailed operation a p r given.open_for port keeps none_read (written_all ∙ done.unwritten ∙ given.open_for.unwritten)) done.comes done.behind

    -- or a call for it failed
    module _ (writes : List File) (stop : Stop) (files : HasFiles reads writes r) (is : IsStopOf reads writes r stop) (failed : r.drain_faults ≡ one_more q.drain_faults) where
      one_written : r.drain_faults ≡ 1
      one_written = failed ∙ one_fault q.drain_faults (done.unwritten ∙ given.open_for.unwritten)

      pub append_ends : PutsPart nothing (outputs_of q) (outputs_of r) → Performs operation a r.shelf (Err stop)
      append_ends part =
          let front : PutsFront operation a (outputs_of q) = front_of_all operation a (outputs_of q) done.puts in
          writing_stops operation a p r given.open_for port keeps reads writes stop files is none_read one_written
          (elim done.started [
            | inl ready ↦ inl (inl (keeps_ready drains.keeps ready, front_still operation a (outputs_of q) (outputs_of r) part front))
            | inr none ↦ inr none
          ])

      append_seen : (view : Option View) (before after : List State) → IsAlone view operation reads → IsSeen view operation a q (Whole answer) before after → WatchedBy view operation a r.shelf (Err stop) before after
      append_seen None before after alone seen = seen
      append_seen (Some (EventsOfFile shown events_of)) before after alone seen =
          let found = write_failed operation a p r given.open_for port keeps reads writes stop files is none_read one_written in
          absurd (omega (arith, found.5, alone.0))
      append_seen (Some (EventsOfAll events_of)) before after alone seen =
          let found = write_failed operation a p r given.open_for port keeps reads writes stop files is none_read one_written in
          absurd (omega (arith, found.5, alone))

      pub append_watched : (before after : List State) → IsSeen operation.shows operation a q (Whole answer) before after → IsWatched operation a r.shelf (Err stop) before after
      append_watched before after seen = append_seen operation.shows before after given.alone seen

-- ---- work that only reads

-- `p` was open for a command without outputs, and calls that only give bits have made `q` of it.
module _ {operation : Operation} {a : ShelfState} {p q : PortState} (open_for : IsOpenFor operation a p) (none : operation.outputs.count ≡ 0) (fed : Feeds p q) where
  pub fed_done : (answer : Answer) → q.feed_faults ≡ p.feed_faults → Comes operation a answer → reaches_outputs answer ≡ true → IsDone operation a p q answer
  fed_done answer unread comes behind = record { unread = unread; unwritten = fed.drain_faults; started = inr none; puts = λ k list low. absurd (omega (arith, low, none)); comes = comes; behind = behind }

  pub fed_unstarted : q.feed_faults ≡ p.feed_faults → IsUnstarted p q
  fed_unstarted unread = record { fresh = fed.fresh ∙ open_for.fresh; unread = unread }

  pub fed_stops : q.feed_faults ≡ one_more p.feed_faults → StopsReading operation a p q
  fed_stops failed = record { failed = failed; unwritten = fed.drain_faults; started = inr none; puts = λ k list low. absurd (omega (arith, low, none)) }

-- ---- what the monitors saw

-- of work that was done
whole_seen : (view : Option View) (operation : Operation) (a b : ShelfState) (q : PortState) (answer : Answer) (before after : List State) → reaches_outputs answer ≡ true → IsSeen view operation a q (Whole answer) before after → WatchedBy view operation a b answer before after
whole_seen None operation a b q answer before after behind seen = seen
whole_seen (Some (EventsOfFile shown events_of)) operation a b q (Ok done) before after behind seen = seen
whole_seen (Some (EventsOfFile shown events_of)) operation a b q (Err (Read file)) before after behind seen = absurd (let wrong : false ≡ true = behind in cc)
whole_seen (Some (EventsOfFile shown events_of)) operation a b q (Err stop) before after behind seen = seen
whole_seen (Some (EventsOfAll events_of)) operation a b q (Ok done) before after behind seen = seen
whole_seen (Some (EventsOfAll events_of)) operation a b q (Err stop) before after behind seen = seen

pub whole_watched : (operation : Operation) (a b : ShelfState) (q : PortState) (answer : Answer) (before after : List State) → reaches_outputs answer ≡ true → IsSeen operation.shows operation a q (Whole answer) before after → IsWatched operation a b answer before after
whole_watched operation a b q answer before after behind seen = whole_seen operation.shows operation a b q answer before after behind seen

-- none where memory was wanting
memory_seen : (view : Option View) (operation : Operation) (a b : ShelfState) (q : PortState) (before after : List State) → IsSeen view operation a q NoMemory before after → WatchedBy view operation a b (Err Memory) before after
memory_seen None operation a b q before after seen = seen
memory_seen (Some (EventsOfFile shown events_of)) operation a b q before after seen = seen
memory_seen (Some (EventsOfAll events_of)) operation a b q before after seen = seen

pub memory_watched : (operation : Operation) (a b : ShelfState) (q : PortState) (before after : List State) → IsSeen operation.shows operation a q NoMemory before after → IsWatched operation a b (Err Memory) before after
memory_watched operation a b q before after seen = memory_seen operation.shows operation a b q before after seen

-- or the log failed
unheard_seen : (view : Option View) (operation : Operation) (a b : ShelfState) (q : PortState) (before after : List State) → IsSeen view operation a q LogFailed before after → WatchedBy view operation a b (Err Unheard) before after
unheard_seen None operation a b q before after seen = seen
unheard_seen (Some (EventsOfFile shown events_of)) operation a b q before after seen = seen
unheard_seen (Some (EventsOfAll events_of)) operation a b q before after seen = seen

pub unheard_watched : (operation : Operation) (a b : ShelfState) (q : PortState) (before after : List State) → IsSeen operation.shows operation a q LogFailed before after → IsWatched operation a b (Err Unheard) before after
unheard_watched operation a b q before after seen = unheard_seen operation.shows operation a b q before after seen

-- and a command that never had a port shows nothing
same_seen : (view : Option View) (operation : Operation) (a b : ShelfState) (before after : List State) → after ≡ before → WatchedBy view operation a b (Err Memory) before after
same_seen None operation a b before after same = same
same_seen (Some (EventsOfFile shown events_of)) operation a b before after same = same
same_seen (Some (EventsOfAll events_of)) operation a b before after same = same

pub unopened_watched : (operation : Operation) (a b : ShelfState) (before after : List State) → after ≡ before → IsWatched operation a b (Err Memory) before after
unopened_watched operation a b before after same = same_seen operation.shows operation a b before after same

-- the same of an equal end
pub watched_so : (operation : Operation) (a b c : ShelfState) (x y : Answer) (before after : List State) → b ≡ c → x ≡ y → IsWatched operation a c y before after → IsWatched operation a b x before after
watched_so operation a b c x y before after state answer watched =
    subst (λ b. IsWatched operation a b x before after) (sym state) (subst (λ x. IsWatched operation a c x before after) (sym answer) watched)
