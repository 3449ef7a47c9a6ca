-- What an inspection of a framed line comes to.
use Rattle.std.proofs.Common.{◌≡◌, ℕ, List, [], ◌∷◌, Bool, Ok, refl, ap, subst, ◌∙◌}
use Rattle.std.proofs.lemmas.Option.{same_Some}
use Rattle.pdh_bits.specs.Bits.{bits_of}
use Rattle.pdh_edge.specs.Files.{ShelfState}
use Rattle.pdh_g706.specs.Tracking.{multiframes_in, counted}
use Rattle.pdh_g706.specs.Events.{e1_events}
use Rattle.pdh_inspect.specs.Seen.{events_counted, SeesFramed}
use Rattle.pdh_inspect.specs.declared.framed.FramedSeen.{FramedSeen}
use Rattle.pdh_watch.specs.Monitors.{State}
use Rattle.pdh_answers.specs.declared.file.File.{File}
use Rattle.pdh_answers.specs.declared.file.File.TheVariants.{E1Line}
use Rattle.pdh_runner.specs.LineSteps.{CanRead, IsLinePort}
use Rattle.pdh_runner.specs.Operation.{IsOfFile}
use Rattle.pdh_runner.specs.Running.{ArePrepared}
use Rattle.pdh_runner.specs.declared.port.Input.{Input}
use Rattle.pdh_runner.proofs.LineRun.{ReadsWhole, line_prepared}
use Rattle.pdh_streams.specs.Codecs.{framed_of}
use Rattle.pdh_streams.specs.E1.{e1_codec}
use Rattle.pdh_streams.specs.Inspect.{e1_inspected, inspecting_e1, inspect_e1_says}
use Rattle.pdh_streams.specs.Steps.{IsFramedLine}
use Rattle.pdh_streams.proofs.InspectFiles.{framed_begins}
use Rattle.pdh_streams.proofs.UnpackingLaws.{whole_framed}

framed_reads : (line : Input) (b : ShelfState) → IsFramedLine e1_codec line b → ReadsWhole inspecting_e1 E1Line (framed_of e1_codec) e1_inspected line b
framed_reads line b is = record {
  begins = framed_begins;
  in_run = refl;
  no_outputs = refl;
  shows = λ view e. subst (IsOfFile E1Line) (same_Some _ view e) refl;
  file_is = is.file_is;
  bytes = is.octets;
  bits_are = is.bits_are;
  few = is.short;
  long = is.long;
  serves = whole_framed e1_codec is.octets is.few;
}

pub framed_prepared : (line : Input) (reads : List Input) → reads ≡ line ∷ [] → (writes : List File) → writes ≡ [] → (b : ShelfState) → IsFramedLine e1_codec line b
    → ArePrepared inspecting_e1 (CanRead line.bits) (IsLinePort inspecting_e1 E1Line e1_inspected line) b reads writes
framed_prepared line reads one writes none b is = line_prepared inspecting_e1 E1Line (framed_of e1_codec) e1_inspected line b (framed_reads line b is) reads one writes none

pub framed_comes : (octets : List ℕ) (given : List Bool) (old new : List State) (seen : FramedSeen) → given ≡ bits_of octets → SeesFramed given old new seen → Ok (inspect_e1_says seen.multiframes seen.events) ≡ e1_inspected octets
unfolding e1_inspected
framed_comes octets given old new seen same sees =
    ap (λ (n : ℕ). Ok (inspect_e1_says n seen.events)) (sees.multiframes_are ∙ ap (λ l. counted (multiframes_in l)) same)
    ∙ ap (λ (n : ℕ). Ok (inspect_e1_says (counted (multiframes_in (bits_of octets))) n)) (sees.events_are ∙ ap (λ l. events_counted (e1_events l)) same)
