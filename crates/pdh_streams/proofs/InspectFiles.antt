-- What the steps of `inspect e1` before its run come to.
use Rattle.std.proofs.Common.{List, Err, refl, sym, inl, inr, lit<}
use Rattle.std.proofs.lemmas.Bool.{false≢true}
use Rattle.pdh_edge.specs.Files.{ShelfState}
use Rattle.pdh_answers.specs.declared.file.File.TheVariants.{E1Line}
use Rattle.pdh_watch.specs.Monitors.{State}
use Rattle.pdh_answers.specs.declared.answer.Stop.{Stop}
use Rattle.pdh_answers.specs.declared.answer.Stop.TheVariants.{Read}
use Rattle.pdh_runner.specs.LineSteps.{BeginsWith}
use Rattle.pdh_runner.specs.Refusing.{Refuses}
use Rattle.pdh_runner.specs.Performing.{IsWatched}
use Rattle.pdh_streams.specs.Codecs.{framed_of}
use Rattle.pdh_streams.specs.E1.{e1_codec}
use Rattle.pdh_streams.specs.Steps.{RefusesFramed}
use Rattle.pdh_streams.specs.Inspect.{e1_inspected, inspecting_e1}

pub framed_begins : BeginsWith inspecting_e1 E1Line (framed_of e1_codec) e1_inspected
unfolding e1_inspected
framed_begins = record { some = lit< tt; first = refl; missing = refl; comes = λ files. refl; due = λ files on. on; reaches = λ line. refl }

-- where the framed line is refused, so is its inspection
pub inspecting_refused : (a b : ShelfState) (stop : Stop) → RefusesFramed e1_codec a b stop → Refuses inspecting_e1 a b stop
inspecting_refused a b stop refused = refused inspecting_e1 e1_inspected framed_begins

-- and the monitors saw nothing
pub inspecting_unseen : (a b : ShelfState) (stop : Stop) (states : List State) → RefusesFramed e1_codec a b stop → IsWatched inspecting_e1 a b (Err stop) states states
inspecting_unseen a b (Read file) states refused = elim (inspecting_refused a b (Read file) refused).1 [
  | inl size ↦ inl (size, refl)
  | inr early ↦ absurd (false≢true (sym early))
]
inspecting_unseen a b stop states refused = refl
