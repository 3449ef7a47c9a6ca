-- What `mux` wrote is a line that the chain sent.
use Rattle.std.proofs.Common.{◌≡◌, ℕ, List, [], Option, ap, ◌∙◌, arith}
use Rattle.pdh_bits.specs.Bits.{bits_of}
use Rattle.pdh_nesting.proofs.EventParts.{events_below-none_first, events_below-each}
use Rattle.pdh_nesting.proofs.Given.{given-entered, none-empty}
use Rattle.pdh_clock.specs.Row.{Row}
use Rattle.pdh_clock.specs.Contents.{counts}
use Rattle.pdh_chain.specs.declared.chain.Chain.{Chain}
use Rattle.pdh_chain.specs.Chains.{shapes_of}
use Rattle.pdh_chain.proofs.ChainLaws.{are_frames}
use Rattle.pdh_chain.proofs.Scheduled.{arrive_singly}
use Rattle.pdh_answers.specs.Names.{schedule_name}
use Rattle.pdh_making.specs.Schedules.{rows_in, frames_in}
use Rattle.pdh_runner.specs.Operation.{Files, bytes_in}
use Rattle.pdh_making.specs.Mux.{line_len, event_of, line_bytes}
use Rattle.pdh_ops.specs.Rejoined.{IsSentLine}
use Rattle.pdh_ops.proofs.MuxGivesBack.{DidMux, line_bits, long_there, rows_sound}

pub sent_line : (chain : Chain) (feac : Option ℕ) (files : Files) (line : List ℕ) → DidMux chain files → line ≡ line_bytes chain feac files (rows_in chain files) → IsSentLine chain feac files line
unfolding event_of
sent_line chain feac files line did is =
    let rows : List Row = rows_in chain files in
    let bits : ℕ = line_len chain rows in
    let none = events_below-none_first (shapes_of chain) (counts rows) (frames_in rows) did.done.none in
    record {
      none_empty = none-empty (shapes_of chain) (counts rows) [] bits (are_frames chain) (arrive_singly chain rows bits (rows_sound chain (bytes_in files schedule_name) rows did.rows))
          (λ y h. events_below-each (shapes_of chain) (counts rows) bits y none h);
      held = λ leaf low. omega (arith, given-entered (shapes_of chain) (counts rows) [] bits leaf (are_frames chain), long_there chain files rows leaf did.done low);
      bits = ap bits_of is ∙ line_bits chain feac files rows did.done.none;
    }
