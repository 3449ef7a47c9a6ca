-- What the fields of a recorded DS1 line stand for.
use Rattle.std.specs.Prelude.{◌≡◌, ◌⊎◌, ℕ, Bool, Option, None, List, [], ◌∷◌}
use Rattle.pdh_shape.specs.declared.role.Role.{Role}
use Rattle.pdh_shape.specs.Frame.{FrameShape}
use Rattle.pdh_line.specs.Paths.{top}
use Rattle.pdh_line.specs.Tracking.{track}
use Rattle.pdh_align.specs.Aligning.{Held, StandsFor, Waits, Passes}
use Rattle.pdh_events.specs.Telling.{next_bit}
use Rattle.pdh_events.specs.Keeping.{OnesRun, CountsOnes}
use Rattle.pdh_judging.specs.declared.judged.Judged.{Judged}
use Rattle.pdh_judging.specs.Judged.{Judges}
use Rattle.pdh_rx.specs.Node.{frames_counted, counts_of}
use Rattle.pdh_ds1.specs.declared.plan.SuperframePlan.{SuperframePlan}
use Rattle.pdh_ds1.specs.Superframe.{in_superframe}
use Rattle.pdh_placed.specs.Lines.{LineMeaning}
use Rattle.pdh_ds1_events.specs.Events.{superframe_events}
use Rattle.pdh_ds1_events.specs.Checking.{word_behind_all}

-- it stands for these bits
pub record LineStands (f_bits : List Role) (plan : SuperframePlan) (aligner : Held) (ais : OnesRun) (word : Option ℕ) (bits superframes : ℕ) (judged : Judged) (line : List Bool) : Type 0 where
  pub aligner_is : StandsFor (in_superframe f_bits plan) aligner line
  pub long_is : ais.long ≡ plan.len
  pub ones_are : CountsOnes ais line
  pub word_is : word ≡ word_behind_all plan None (track (in_superframe f_bits plan) line)
  pub bits_are : bits ≡ next_bit line
  pub superframes_are : superframes ≡ frames_counted (in_superframe f_bits plan) line
  pub judges : Judges (in_superframe f_bits plan) judged line

-- bits by which no frame is gained: none of them is judged, or each one is a position more of a gap
abbrev pub Idles : FrameShape → Held → List Bool → List Bool → Type 0
Idles s held bits line = Waits s held bits line ⊎ Passes s held bits line

-- its events, and what is counted of it: superframes
abbrev pub superframe_meaning : List Role → SuperframePlan → LineMeaning
superframe_meaning f_bits plan = record {
  notes = superframe_events f_bits plan;
  counted = λ line. counts_of (in_superframe f_bits plan) top line ∷ [];
}
