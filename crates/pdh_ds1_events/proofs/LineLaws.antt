-- What a recorded DS1 line stands for with one more bit, or with bits that show nothing.
use Rattle.std.proofs.Common.{◌≡◌, ℕ, ◌+◌, ◌-◌, ◌^◌, ◌≤◌, Bool, false, List, [], ◌∷◌, ◌++◌, length, map, take, sym, ap, ◌∙◌, subst, arith, length-append}
use Rattle.std.specs.Prelude.{Option, None, is_some, min, count_by}
use Rattle.std.proofs.lemmas.List.{take-append-le, take_all, length_push}
use Rattle.pdh_shape.specs.declared.role.Role.{Role}
use Rattle.pdh_shape.specs.Frame.{FrameShape, IsFrame}
use Rattle.pdh_line.specs.Tracking.{Piece, track, is_delivered, frames_delivered}
use Rattle.pdh_line.specs.Tracking.Piece.{Gap, Delivered}
use Rattle.pdh_line.proofs.DeliveredLaws.{count_append, count_gap}
use Rattle.pdh_line.proofs.RightLines.{track-short}
use Rattle.pdh_align.specs.declared.step.Step.{Step}
use Rattle.pdh_align.specs.Aligning.{Held, StandsFor, Tracks, Waits, Passes}
use Rattle.pdh_events.specs.Telling.{next_bit}
use Rattle.pdh_events.specs.Duties.{last_frame}
use Rattle.pdh_events.specs.Keeping.{OnesRun, CountsOnes}
use Rattle.pdh_events.specs.laws.KeepingLaws.{last_gap}
use Rattle.pdh_events.specs.laws.QuietLaws.{IsQuiet, IsCalm}
use Rattle.pdh_judging.specs.declared.judged.Judged.{Judged}
use Rattle.pdh_judging.specs.Judged.{after_step}
use Rattle.pdh_judging.proofs.Steps.{judges_step, judges_none, judges_waits, judges_passes}
use Rattle.pdh_rx.specs.Node.{frames_counted, frames_after}
use Rattle.pdh_rx.proofs.NodeSteps.{frames_go}
use Rattle.pdh_ds1.specs.declared.plan.SuperframePlan.{SuperframePlan}
use Rattle.pdh_ds1.specs.Superframe.{in_superframe, IsSuperframePlan}
use Rattle.pdh_ds1_events.specs.Events.{superframe_events}
use Rattle.pdh_ds1_events.specs.Checking.{checked, word_behind_all, word_after}
use Rattle.pdh_ds1_events.specs.Line.{LineStands}
use Rattle.pdh_ds1_events.proofs.CheckLaws.{words_go, checked_behind_gap, word_behind_gap, quiet_bits}

-- ---- a line of no bit

no_frames : (s : FrameShape) → IsFrame s → 0 ≡ frames_counted s []
unfolding frames_counted frames_delivered
no_frames s shape =
    let none : track s [] ≡ Gap 0 ∷ [] = track-short s [] (omega (arith, shape.some_slots)) in
    sym (ap (λ p. min (count_by is_delivered p) (2 ^ 64 - 1)) none ∙ ap (λ n. min n (2 ^ 64 - 1)) (count_gap 0))

pub stands_empty : (f_bits : List Role) (plan : SuperframePlan) (aligner : Held) (ais : OnesRun) → IsFrame (in_superframe f_bits plan) → StandsFor (in_superframe f_bits plan) aligner [] → ais.long ≡ plan.len → CountsOnes ais []
    → LineStands f_bits plan aligner ais None 0 0 (record { frames = 0; right = 0 }) []
stands_empty f_bits plan aligner ais shape stands long ones =
    let s : FrameShape = in_superframe f_bits plan in
    let none : track s [] ≡ [] ++ Gap 0 ∷ [] = track-short s [] (omega (arith, shape.some_slots)) in
    record {
      aligner_is = stands;
      long_is = long;
      ones_are = ones;
      word_is = sym (ap (word_behind_all plan None) none ∙ word_behind_gap plan [] 0);
      bits_are = (let e : 0 ≡ next_bit [] = omega arith in e);
      superframes_are = no_frames s shape;
      judges = judges_none s shape;
    }

-- ---- one more bit

pub stands_push : (f_bits : List Role) (plan : SuperframePlan) {aligner aligner' : Held} {ais ais' : OnesRun} {word word' : Option ℕ} {bits bits' superframes superframes' : ℕ} {judged judged' : Judged} {step : Step} (line : List Bool) (bit : Bool)
    → LineStands f_bits plan aligner ais word bits superframes judged line → Tracks (in_superframe f_bits plan) aligner aligner' bit step line
    → ais'.long ≡ ais.long → CountsOnes ais' (line ++ bit ∷ []) → word' ≡ word_after plan word step (map Delivered aligner'.ready) → bits' ≡ min (bits + 1) (2 ^ 64 - 1)
    → superframes' ≡ frames_after step superframes → judged' ≡ after_step (in_superframe f_bits plan) judged step aligner'.ready
    → LineStands f_bits plan aligner' ais' word' bits' superframes' judged' (line ++ bit ∷ [])
stands_push f_bits plan {aligner} {aligner'} {ais} {ais'} {word} {word'} {bits} {bits'} {superframes} {superframes'} {judged} {judged'} {step} line bit told tracks long ones word_is bits_are superframes_are judged_is =
    let s : FrameShape = in_superframe f_bits plan in
    record {
      aligner_is = tracks.stands;
      long_is = long ∙ told.long_is;
      ones_are = ones;
      word_is = word_is ∙ words_go plan word step aligner'.ready (track s line) (track s (line ++ bit ∷ [])) tracks.grows told.word_is;
      bits_are = (let more : length (line ++ bit ∷ []) ≡ length line + 1 = length_push line bit in omega (arith, bits_are, told.bits_are, more));
      superframes_are = superframes_are ∙ frames_go s step aligner'.ready line (line ++ bit ∷ []) superframes told.superframes_are tracks.grows;
      judges = judges_step s judged judged' step aligner'.ready line (line ++ bit ∷ []) told.judges tracks.grows judged_is;
    }

-- ---- bits that show nothing

-- a prefix of them
front_of : (bits front rest : List Bool) → bits ≡ front ++ rest → take (length front) bits ≡ front
front_of bits front rest e = ap (take (length front)) e ∙ take-append-le (length front) front rest (omega arith) ∙ take_all (length front) front (omega arith)

module _ (f_bits : List Role) (plan : SuperframePlan) (fits : IsSuperframePlan plan) {aligner : Held} {ais : OnesRun} {word : Option ℕ} {bits superframes : ℕ} {judged : Judged} (line piece : List Bool)
    (told : LineStands f_bits plan aligner ais word bits superframes judged line) (calm : IsCalm ais.long line piece) where
  calm_line : IsCalm plan.len line piece
  calm_line = subst (λ (n : ℕ). IsCalm n line piece) told.long_is calm

  counted_more : {bits' : ℕ} → bits' ≡ min (bits + length piece) (2 ^ 64 - 1) → bits' ≡ next_bit (line ++ piece)
  counted_more counts = let more : length (line ++ piece) ≡ length line + length piece = length-append line piece in omega (arith, counts, told.bits_are, more)

  -- no piece is gained
  counted_same : {aligner' : Held} → Waits (in_superframe f_bits plan) aligner' piece line → superframes ≡ frames_counted (in_superframe f_bits plan) (line ++ piece)
  unfolding frames_counted frames_delivered
  counted_same waits = told.superframes_are ∙ sym (ap (λ p. min (count_by is_delivered p) (2 ^ 64 - 1)) waits.same)

  pub waits_stands : {aligner' : Held} {ais' : OnesRun} {bits' : ℕ} → Waits (in_superframe f_bits plan) aligner' piece line → bits' ≡ min (bits + length piece) (2 ^ 64 - 1) → ais'.long ≡ ais.long → CountsOnes ais' (line ++ piece)
      → LineStands f_bits plan aligner' ais' word bits' superframes judged (line ++ piece)
  waits_stands {aligner'} waits counts long ones = record {
    aligner_is = waits.stands;
    long_is = long ∙ told.long_is;
    ones_are = ones;
    word_is = told.word_is ∙ sym (ap (word_behind_all plan None) waits.same);
    bits_are = counted_more counts;
    superframes_are = counted_same waits;
    judges = judges_waits (in_superframe f_bits plan) aligner' judged line piece waits told.judges;
  }

  pub waits_quiet : {aligner' : Held} → Waits (in_superframe f_bits plan) aligner' piece line → IsQuiet (superframe_events f_bits plan) line piece
  waits_quiet waits =
      let s : FrameShape = in_superframe f_bits plan in
      quiet_bits f_bits plan line piece (is_some (last_frame (track s line))) (checked plan None (track s line)) fits calm_line
      (λ front rest e.
      (let same : track s (line ++ front) ≡ track s line = ap (λ (x : List Bool). track s (line ++ x)) (sym (front_of piece front rest e)) ∙ waits.each (length front) in
      record { aligned_is = ap (λ (p : List Piece). is_some (last_frame p)) same; verdicts_stay = ap (checked plan None) same }))

  -- the gap at the end grows
  counted_passed : {aligner' : Held} → Passes (in_superframe f_bits plan) aligner' piece line → superframes ≡ frames_counted (in_superframe f_bits plan) (line ++ piece)
  unfolding frames_counted frames_delivered
  counted_passed passes =
      let s : FrameShape = in_superframe f_bits plan in
      let a = ap (count_by is_delivered) passes.was ∙ count_append passes.others (Gap passes.gap ∷ []) in
      let b = ap (count_by is_delivered) passes.is ∙ count_append passes.others (Gap (passes.gap + length piece) ∷ []) in
      let same : count_by is_delivered (track s line) ≡ count_by is_delivered (track s (line ++ piece)) = omega (arith, a, b, count_gap passes.gap, count_gap (passes.gap + length piece)) in
      told.superframes_are ∙ ap (λ n. min n (2 ^ 64 - 1)) same

  pub passes_stands : {aligner' : Held} {ais' : OnesRun} {bits' : ℕ} → Passes (in_superframe f_bits plan) aligner' piece line → bits' ≡ min (bits + length piece) (2 ^ 64 - 1) → ais'.long ≡ ais.long → CountsOnes ais' (line ++ piece)
      → LineStands f_bits plan aligner' ais' word bits' superframes judged (line ++ piece)
  passes_stands {aligner'} passes counts long ones = record {
    aligner_is = passes.stands;
    long_is = long ∙ told.long_is;
    ones_are = ones;
    word_is = told.word_is ∙ ap (word_behind_all plan None) passes.was ∙ word_behind_gap plan passes.others passes.gap
        ∙ sym (ap (word_behind_all plan None) passes.is ∙ word_behind_gap plan passes.others (passes.gap + length piece));
    bits_are = counted_more counts;
    superframes_are = counted_passed passes;
    judges = judges_passes (in_superframe f_bits plan) aligner' judged line piece passes told.judges;
  }

  pub passes_quiet : {aligner' : Held} → Passes (in_superframe f_bits plan) aligner' piece line → IsQuiet (superframe_events f_bits plan) line piece
  passes_quiet passes =
      let s : FrameShape = in_superframe f_bits plan in
      quiet_bits f_bits plan line piece false (checked plan None passes.others) fits calm_line
      (λ front rest e.
      (let few : length front ≤ length piece = omega (arith, ap length e, length-append front rest) in
      let here : track s (line ++ front) ≡ passes.others ++ Gap (passes.gap + length front) ∷ [] =
      ap (λ (x : List Bool). track s (line ++ x)) (sym (front_of piece front rest e)) ∙ passes.each (length front) few in
      record {
        aligned_is = ap (λ (p : List Piece). is_some (last_frame p)) here ∙ ap is_some (last_gap passes.others (passes.gap + length front));
        verdicts_stay = ap (checked plan None) here ∙ checked_behind_gap plan passes.others (passes.gap + length front);
      }))
