-- `inspect` reads one line, and what an inspection of a chain's line comes to.
use Rattle.std.proofs.Common.{◌≡◌, ℕ, List, Bool, Ok, ap, ◌∙◌, refl, subst, lit<}
use Rattle.pdh_bits.specs.Bits.{bits_of}
use Rattle.pdh_chain.specs.Chains.{shapes_of}
use Rattle.pdh_chain.specs.Demuxes.{top_delivered}
use Rattle.pdh_chain.specs.declared.chain.Chain.{Chain}
use Rattle.pdh_inspect.specs.Seen.{line_bits_events, events_counted, SeesLine}
use Rattle.pdh_inspect.specs.declared.line.LineSeen.{LineSeen}
use Rattle.pdh_watch.specs.Monitors.{State}
use Rattle.pdh_recorded.specs.Demux.{frames_received}
use Rattle.pdh_recorded.specs.Inspect.{inspected, inspect_says, inspecting}
use Rattle.std.proofs.lemmas.Option.{same_Some}
use Rattle.pdh_answers.specs.declared.file.Bits.{Bits}
use Rattle.pdh_answers.specs.Names.{line_file}
use Rattle.pdh_runner.specs.LineSteps.{ReadsLine}
use Rattle.pdh_runner.specs.Operation.{IsOfFile}

-- it reads the line whole
pub inspect_reads : (chain : Chain) (bits : Bits) → ReadsLine (inspecting chain bits) (line_file bits) chain (inspected chain)
unfolding inspected
inspect_reads chain bits = record {
  begins = record { some = lit< tt; first = refl; missing = refl; comes = λ files. refl; due = λ files on. on; reaches = λ line. refl };
  in_run = refl;
  no_outputs = refl;
  shows = λ view e. subst (IsOfFile (line_file bits)) (same_Some _ view e) refl;
  tells = refl;
}

-- what was seen of all bits is what it comes to
pub line_comes : (chain : Chain) (bytes : List ℕ) (given : List Bool) (old new : List State) (seen : LineSeen) → given ≡ bits_of bytes → SeesLine chain given old new seen → Ok (inspect_says chain seen.frames seen.events) ≡ inspected chain bytes
unfolding inspected
line_comes chain bytes given old new seen same sees =
    ap (λ (n : ℕ). Ok (inspect_says chain n seen.events)) (sees.frames_are ∙ ap (top_delivered (shapes_of chain)) same)
    ∙ ap (λ (n : ℕ). Ok (inspect_says chain (frames_received chain bytes) n)) (sees.events_are ∙ ap (λ l. events_counted (line_bits_events chain l)) same)
