-- A command that gives all bits of one file to a machine: what was put, and how the command ends.
use Rattle.std.proofs.Common.{◌≡◌, ◌≢◌, ℕ, ◌+◌, zero, suc, Bool, true, List, length, Err, ap, sym, ◌∙◌, subst, inl, inr, arith}
use Rattle.pdh_bits.specs.Bits.{bits_of, bytes_of}
use Rattle.pdh_edge.specs.Files.{ShelfState}
use Rattle.pdh_edge.specs.Ports.{Takes, PrefixOf, IsPrefix, for_leaf}
use Rattle.pdh_blocks.specs.State.{PortState}
use Rattle.pdh_blocks.specs.Lists.{inputs_of, outputs_of}
use Rattle.pdh_blocks.specs.Kept.{IsReady, IsRefused}
use Rattle.pdh_answers.specs.Answer.{Answer}
use Rattle.pdh_runner.specs.Operation.{Operation, OfInputs, Files, bytes_in, reaches_outputs}
use Rattle.pdh_runner.specs.PortFiles.{PutsAll, PutsFront}
use Rattle.pdh_runner.specs.Running.{IsDone, ComesOut}
use Rattle.pdh_runner.specs.declared.running.Outcome.TheVariants.{Failed}
use Rattle.pdh_runner.proofs.PortRun.{given_begins, all_given, put_is, put_begins}
use Rattle.pdh_streams.specs.Steps.{IsStreamPort}
use Rattle.pdh_streams.specs.Streaming.{Streams, StreamsPart, IsLeft, streamed_reads, streamed_writes}
use Rattle.pdh_streams.specs.declared.streaming.StreamStop.{StreamStop}
use Rattle.pdh_streams.specs.declared.streaming.StreamStop.TheVariants.{Unread, Unwritten}

module _ (operation : Operation) (name : List ℕ) (far : List Bool → List Bool) (next : List ℕ → Answer) (bits : ℕ) (a : ShelfState) (p q : PortState) (is : IsStreamPort operation name far next bits a p) where
  -- the bits of the file
  abbrev file_bits : Files → List Bool
  file_bits files = bits_of (bytes_in files name)

  -- all of them were given
  pub all_of_file : (given : List Bool) → length given ≡ bits → Takes (for_leaf 0 given) (inputs_of p) (inputs_of q) → OfInputs operation a (λ files. given ≡ bits_of (bytes_in files name))
  all_of_file given count takes files told = all_given ((inputs_of q).told 0) given (file_bits files) (sym (is.gives files told) ∙ takes.bits 0) (count ∙ sym (is.long files told))

  -- and what they give was put
  puts_all : (stands : List Bool → Type 0) → Streams far stands bits (inputs_of p) (inputs_of q) (outputs_of p) (outputs_of q) → PutsAll operation a (outputs_of q)
  puts_all stands streams zero list low here files told =
      ap bytes_of (put_is operation a p is.open_for (outputs_of q) 0 (far streams.given) list here (streams.puts 0) ∙ ap far (all_of_file streams.given streams.count streams.takes files told)) ∙ sym (is.bytes files told)
  puts_all stands streams (suc k) list low here files told = absurd (omega (arith, low, is.one))

  -- or a part of it was
  puts_front : StreamsPart far (inputs_of p) (inputs_of q) (outputs_of p) (outputs_of q) → PutsFront operation a (outputs_of q)
  puts_front part zero list low here files told =
      let begins : IsPrefix part.given (file_bits files) = given_begins ((inputs_of q).told 0) part.given (file_bits files) (sym (is.gives files told) ∙ part.takes.bits 0) in
      let put : PrefixOf (far (file_bits files)) ((outputs_of p).told 0) ((outputs_of q).told 0) = subst (λ (all : List Bool). PrefixOf (far all) ((outputs_of p).told 0) ((outputs_of q).told 0)) (sym begins.1) (part.puts begins.0 0) in (
        far (file_bits files),
        put_begins operation a p is.open_for (outputs_of q) 0 (far (file_bits files)) list here put,
        sym (is.bytes files told),
      )
  puts_front part (suc k) list low here files told = absurd (omega (arith, low, is.one))

  -- ---- how the work comes out

  -- all bits were given, and the answer follows of them
  pub streamed : (stands : List Bool → Type 0) (answer : Answer) → Streams far stands bits (inputs_of p) (inputs_of q) (outputs_of p) (outputs_of q) → q.feed_faults ≡ p.feed_faults → q.drain_faults ≡ p.drain_faults → IsReady q
      → reaches_outputs answer ≡ true → ((content : List ℕ) → length (bits_of content) ≡ bits → stands (bits_of content) → answer ≡ next content) → IsDone operation a p q answer
  streamed stands answer streams reads writes ready reaches says = record {
    unread = reads;
    unwritten = writes;
    started = inl ready;
    puts = puts_all stands streams;
    comes = λ files told.
        says (bytes_in files name) (is.long files told) (subst stands (all_of_file streams.given streams.count streams.takes files told) streams.stood) ∙ sym (is.comes files told);
    behind = reaches;
  }

  -- or a call failed
  pub stopped : (stop : StreamStop) → StreamsPart far (inputs_of p) (inputs_of q) (outputs_of p) (outputs_of q) → q.feed_faults ≡ streamed_reads {T = Unit {0}} (Err stop) p.feed_faults → q.drain_faults ≡ streamed_writes {T = Unit {0}} (Err stop) p.drain_faults
      → IsLeft {T = Unit {0}} (IsReady q) (IsRefused q) (Err stop) → ComesOut operation a p q Failed
  stopped Unread part reads writes left = inl (record { failed = reads; unwritten = writes; started = inl left; puts = puts_front part })
  stopped Unwritten part reads writes left = inr (record { unread = reads; failed = writes; left = left; puts = puts_front part })

-- a call that failed was counted
pub stop_counted : (stop : StreamStop) (reads reads_now writes writes_now : ℕ) → reads_now ≡ streamed_reads {T = Unit {0}} (Err stop) reads → writes_now ≡ streamed_writes {T = Unit {0}} (Err stop) writes → reads_now + writes_now ≢ 0
stop_counted Unread reads reads_now writes writes_now read wrote none = omega (arith, read, none)
stop_counted Unwritten reads reads_now writes writes_now read wrote none = omega (arith, wrote, none)
