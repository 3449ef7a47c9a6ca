-- One more received bit of a demultiplexer that tells events.
use Rattle.std.proofs.Common.{◌≡◌, ℕ, ◌+◌, ◌-◌, ◌^◌, ◌<◌, min, Bool, List, [], ◌∷◌, ◌++◌, length, map, sym, ◌∙◌, ap, subst, arith, length-append}
use Rattle.std.proofs.lemmas.List.{append-nil, length-map}
use Rattle.pdh_edge.specs.Ports.{Outputs}
use Rattle.pdh_shape.specs.declared.place.Path.{Path}
use Rattle.pdh_shape.specs.Frame.{FrameShape, IsFrame}
use Rattle.pdh_watch.specs.declared.event.Event.{Event}
use Rattle.pdh_watch.specs.Seen.{SawPart}
use Rattle.pdh_line.specs.Tracking.{Piece, track}
use Rattle.pdh_line.specs.Tracking.Piece.{Gap}
use Rattle.pdh_align.specs.declared.step.Step.{Step}
use Rattle.pdh_align.specs.Aligning.{Held, Tracks}
use Rattle.pdh_events.specs.Telling.{next_bit, tell, ais_kinds}
use Rattle.pdh_events.specs.Keeping.{OnesRun, CountsOnes, Kept, Remembers}
use Rattle.pdh_events.specs.Acts.{Act, bit_acts, acts_events}
use Rattle.pdh_events.specs.Acts.Act.{Note}
use Rattle.pdh_events.specs.laws.ActsLaws.{bits_to}
use Rattle.pdh_judging.specs.declared.judged.Judged.{Judged}
use Rattle.pdh_judging.specs.Judged.{after_step}
use Rattle.pdh_judging.proofs.Steps.{judges_step, judges_none}
use Rattle.pdh_rx.specs.Meaning.{Meaning, Gains, GainsPart}
use Rattle.pdh_rx.specs.Node.{received_lines, child_notes, node_meaning, Gives, Plays, PlaysPart, gap_after, frames_after, step_bits, step_acts, step_pieces, NodeTracks, NodeStands}
use Rattle.pdh_rx.specs.laws.NodeLaws.{AllSound}
use Rattle.pdh_rx.proofs.Gains.{gives_below, part_below}
use Rattle.pdh_rx.proofs.Playing.{SawJoins, plays_notes, plays_join, plays_part}
use Rattle.pdh_rx.proofs.StepActs.{bit_acts_are, bits_are, remembers_after}
use Rattle.pdh_rx.proofs.NodeSteps.{node_tracks, tracks_taken, node_gains, node_part, track_none}

next_goes : (line : List Bool) (bit : Bool) (n : ℕ) → n ≡ next_bit line → min (n + 1) (2 ^ 64 - 1) ≡ next_bit (line ++ bit ∷ [])
next_goes line bit n is = let more : length (line ++ bit ∷ []) ≡ length line + 1 = length-append line (bit ∷ []) in omega (arith, is, more)

module _ {C W : Type 0} {stands : C → List Bool → Type 0} (saw : W → List Event → W → Type 0) (joins : SawJoins saw) {meaning : C → Meaning} {s : FrameShape} (path : Path) (shape : IsFrame s) {children : List C} {held held' : Held} {gap frames : ℕ} {judged : Judged} {bits : ℕ} {ais : OnesRun} {kept : Kept} {step : Step} {bit : Bool} {line : List Bool}
    (told : NodeStands stands meaning s children held gap frames judged bits ais kept line) (tracks : Tracks s held held' bit step line) {gap' : ℕ} (now : gap' ≡ gap_after s step gap)
    (was heard is : W) (noted : saw was (tell path bits (ais_kinds ais.long line bit)) heard) where
  abbrev own : List Event
  own = tell path bits (ais_kinds ais.long line bit)

  abbrev acts : List Act
  acts = step_acts s path bits (track s line) step held'.ready gap'

  -- the acts of the step are those that the bit brings
  acts_are : bit_acts s path line bit ≡ map Note own ++ acts
  acts_are =
      let number = next_bit line in
      bit_acts_are s path line bit step held'.ready gap shape told.node.gap_is tracks.grows
      ∙ ap (λ v. map Note (tell path number (ais_kinds s.len line bit)) ++ step_acts s path number (track s line) step held'.ready v) (sym now)
      ∙ ap (λ v. map Note (tell path number (ais_kinds v line bit)) ++ step_acts s path number (track s line) step held'.ready gap') (sym told.long_is)
      ∙ ap (λ v. map Note (tell path v (ais_kinds ais.long line bit)) ++ step_acts s path v (track s line) step held'.ready gap') (sym told.bits_are)

  count_is : length (map meaning children) ≡ s.tribs
  count_is = length-map children meaning ∙ told.node.count

  bits_same : (j : ℕ) → j < length (map meaning children) → step_bits s step held'.ready gap' j ≡ bits_to acts j
  bits_same j inside = sym (bits_are s path bits (track s line) step held'.ready gap' j (omega (arith, inside, count_is)))

  step_gives : (new : List C) (o p : Outputs) → map meaning new ≡ map meaning children → Gives stands (map meaning children) (bits_to acts) children new o p → Gives stands (map meaning children) (step_bits s step held'.ready gap') children new o p
  step_gives new o p same gives =
      gives_below stands (map meaning children) (bits_to acts) (step_bits s step held'.ready gap') children new o p (sym (length-map new meaning) ∙ ap length same) bits_same gives

  pub node_stands : (new : List C) (frames' : ℕ) (judged' : Judged) (bits' : ℕ) (ais' : OnesRun) (kept' : Kept) (o p : Outputs) → frames' ≡ frames_after step frames → judged' ≡ after_step s judged step held'.ready → bits' ≡ min (bits + 1) (2 ^ 64 - 1) → ais'.long ≡ ais.long → CountsOnes ais' (line ++ bit ∷ [])
      → Remembers s kept' (step_pieces step held'.ready (track s line)) → map meaning new ≡ map meaning children → Plays stands saw (map meaning children) acts children new o p heard is
      → NodeStands stands meaning s new held' gap' frames' judged' bits' ais' kept' (line ++ bit ∷ [])
  node_stands new frames' judged' bits' ais' kept' o p delivers judges counts long ones remembers same played = record {
    node = node_tracks stands meaning s path shape children held held' gap frames step bit line told.node tracks gap' now new frames' o p delivers same (step_gives new o p same played.gives);
    judges = judges_step s judged judged' step held'.ready line (line ++ bit ∷ []) told.judges tracks.grows judges;
    bits_are = counts ∙ next_goes line bit bits told.bits_are;
    long_is = long ∙ told.long_is;
    ones_are = ones;
    remembers = remembers_after s kept' step held'.ready (track s line) (track s (line ++ bit ∷ [])) tracks.grows remembers;
  }

  pub told_gains : (new : List C) (o p : Outputs) → map meaning new ≡ map meaning children → Plays stands saw (map meaning children) acts children new o p heard is
      → Gains ((node_meaning s path (map meaning children)).got line) ((node_meaning s path (map meaning children)).got (line ++ bit ∷ [])) o p
  told_gains new o p same played = node_gains stands meaning s path shape children held held' gap frames step bit line told.node tracks gap' now new o p (step_gives new o p same played.gives)

  pub told_part : (o p : Outputs) → PlaysPart stands saw (map meaning children) acts children o p heard is
      → GainsPart ((node_meaning s path (map meaning children)).got line) ((node_meaning s path (map meaning children)).got (line ++ bit ∷ [])) o p
  told_part o p played =
      node_part stands meaning s path shape children held held' gap frames step bit line told.node tracks gap' now o p
      (part_below stands (map meaning children) (bits_to acts) (step_bits s step held'.ready gap') children o p bits_same played.gives)

  pub told_sees : (new : List C) (o p : Outputs) → Plays stands saw (map meaning children) acts children new o p heard is → saw was ((node_meaning s path (map meaning children)).notes line bit) is
  told_sees new o p played =
      let ms = map meaning children in
      let P : List Act → Type 0 = λ a. saw was (acts_events (child_notes ms) (received_lines s line) a) is in
      let whole = plays_join stands saw ms joins (map Note own) acts children children new o o p was heard is (plays_notes stands saw ms own children o was heard noted) played in
      subst P (sym acts_are) (whole.sees (received_lines s line) told.node.each)

  pub told_sees_part : AllSound (map meaning children) → (o p : Outputs) → PlaysPart stands saw (map meaning children) acts children o p heard is → SawPart saw was ((node_meaning s path (map meaning children)).notes line bit) is
  told_sees_part sound o p played =
      let ms = map meaning children in
      let P : List Act → Type 0 = λ a. SawPart saw was (acts_events (child_notes ms) (received_lines s line) a) is in
      let whole = plays_part stands saw ms joins sound (map Note own) acts [] (map Note own ++ acts) children children o o p was heard is (sym (append-nil (map Note own ++ acts))) (plays_notes stands saw ms own children o was heard noted) played in
      subst P (sym acts_are) (whole.sees (received_lines s line) told.node.each)

-- an aligner of which ready frames were taken is what it was to the node
pub stands_taken : {C : Type 0} (stands : C → List Bool → Type 0) (meaning : C → Meaning) (s : FrameShape) (children : List C) (held now : Held) (gap frames : ℕ) (judged : Judged) (bits : ℕ) (ais : OnesRun) (kept : Kept) (line : List Bool)
    → now ≡ record held { ready = now.ready } → NodeStands stands meaning s children held gap frames judged bits ais kept line → NodeStands stands meaning s children now gap frames judged bits ais kept line
stands_taken stands meaning s children held now gap frames judged bits ais kept line is h =
    record {
      node = tracks_taken stands meaning s children held now gap frames line is h.node;
      judges = h.judges;
      bits_are = h.bits_are;
      long_is = h.long_is;
      ones_are = h.ones_are;
      remembers = h.remembers;
    }

-- ---- the start

-- no bit is a gap of no positions, of which as much is kept as of no piece
remembers_none : (s : FrameShape) (kept : Kept) → Remembers s kept [] → Remembers s kept (Gap 0 ∷ [])
remembers_none s kept r = record { alarm_is = r.alarm_is; odd_is = r.odd_is; channel_is = r.channel_is }

pub opened_stands : {C : Type 0} (stands : C → List Bool → Type 0) (meaning : C → Meaning) (s : FrameShape) → IsFrame s → (children : List C) (held : Held) (ais : OnesRun) (kept : Kept) → NodeTracks stands meaning s children held 0 0 []
    → ais.long ≡ s.len → CountsOnes ais [] → Remembers s kept [] → NodeStands stands meaning s children held 0 0 (record { frames = 0; right = 0 }) 0 ais kept []
opened_stands stands meaning s shape children held ais kept node long ones remembers = record {
  node = node;
  judges = judges_none s shape;
  bits_are = (let e : 0 ≡ next_bit [] = omega arith in e);
  long_is = long;
  ones_are = ones;
  remembers = (let P : List Piece → Type 0 = Remembers s kept in subst P (sym (track_none s shape)) (remembers_none s kept remembers));
}
