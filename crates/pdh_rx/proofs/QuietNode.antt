-- Bits at which a demultiplexer does nothing: its alignment gains nothing by any of them, or passes over positions of a gap short of
-- a whole frame's length, and AIS neither begins nor ends.
use Rattle.std.proofs.Common.{◌≡◌, ℕ, suc, ◌+◌, ◌<◌, ◌≤◌, ◌==◌, Bool, cond, List, [], ◌∷◌, ◌++◌, length, map, take, drop, min, ◌-◌, ◌^◌, length-append, refl, sym, ap, ◌∙◌, subst, arith, append_assoc}
use Rattle.std.proofs.lemmas.List.{append-nil, take-take, take-append-drop}
use Rattle.std.proofs.lemmas.Bool.{ne_eqb}
use Rattle.pdh_shape.specs.declared.place.Path.{Path}
use Rattle.pdh_shape.specs.Frame.{FrameShape, IsFrame}
use Rattle.pdh_line.specs.Tracking.{Piece, track}
use Rattle.pdh_line.specs.Tracking.Piece.{Gap}
use Rattle.pdh_align.specs.declared.step.Step.TheVariants.{Nothing, Rejected}
use Rattle.pdh_align.specs.Aligning.{Held, Grows, Waits, Passes}
use Rattle.pdh_watch.specs.declared.kind.Kind.{Kind}
use Rattle.pdh_edge.specs.Ports.{Outputs}
use Rattle.pdh_events.specs.laws.KeepingLaws.{remembers_gap}
use Rattle.pdh_events.specs.Telling.{next_bit, tell, ais_kinds}
use Rattle.pdh_events.specs.Keeping.{OnesRun, CountsOnes, Kept, Remembers}
use Rattle.pdh_events.specs.Acts.{Act, rounds_acts, bit_acts, acts_events}
use Rattle.pdh_events.specs.Acts.Act.{Note}
use Rattle.pdh_events.specs.laws.QuietLaws.{IsQuiet, IsCalm, quiet_join}
use Rattle.pdh_judging.specs.declared.judged.Judged.{Judged}
use Rattle.pdh_judging.proofs.Steps.{judges_waits, judges_passes}
use Rattle.pdh_rx.specs.Meaning.{Meaning, TakesBits, TakesQuietly}
use Rattle.pdh_rx.specs.laws.NodeLaws.{got_by_same}
use Rattle.pdh_rx.specs.Node.{received_lines, child_notes, node_meaning, gap_after, step_acts, IsGap, NodeTracks, NodeStands}
use Rattle.pdh_rx.proofs.NodeSteps.{gap_goes, node_waits, node_passed, received_same, received_passed}
use Rattle.pdh_rx.proofs.Gains.{gains_nothing}
use Rattle.pdh_rx.proofs.StepActs.{bit_acts_are}

module _ (s : FrameShape) (path : Path) (ms : List Meaning) (shape : IsFrame s) where
  -- what a bit that shows nothing of AIS makes a node do is what its step does
  acts_calm : (line : List Bool) (bit : Bool) (acts : List Act) → ais_kinds s.len line bit ≡ [] → bit_acts s path line bit ≡ map Note (tell path (next_bit line) (ais_kinds s.len line bit)) ++ acts → acts ≡ [] → bit_acts s path line bit ≡ []
  acts_calm line bit acts calm are none =
      let P : List Kind → List Act = λ kinds. map Note (tell path (next_bit line) kinds) ++ acts in
      are ∙ ap P calm ∙ none

  -- the alignment gains nothing
  pub quiet_waits : (gap : ℕ) (line bits : List Bool) → IsGap s gap (track s line) → IsCalm s.len line bits → ((k : ℕ) → track s (line ++ take k bits) ≡ track s line) → IsQuiet (node_meaning s path ms).notes line bits
  quiet_waits gap line [] is calm each = tt
  quiet_waits gap line (bit ∷ bits) is calm each =
      let same : track s (line ++ bit ∷ []) ≡ track s line = each 1 in
      let acts : bit_acts s path line bit ≡ [] = acts_calm line bit _ calm.0 (bit_acts_are s path line bit Nothing [] gap shape is (refl, same)) refl in
      let P : List Piece → Type 0 = IsGap s gap in (
        ap (acts_events (child_notes ms) (received_lines s line)) acts,
        quiet_waits gap (line ++ bit ∷ []) bits (subst P (sym same) is) calm.1 (λ k. ap (track s) (append_assoc line (bit ∷ []) (take k bits)) ∙ each (suc k) ∙ sym same),
      )

  -- positions of a gap are passed over, and no frame's length of it is whole
  pub quiet_passes : (gap n : ℕ) (others : List Piece) (line bits : List Bool) → gap + length bits < s.len → IsGap s gap (track s line) → IsCalm s.len line bits
      → ((k : ℕ) → k ≤ length bits → track s (line ++ take k bits) ≡ others ++ Gap (n + k) ∷ []) → IsQuiet (node_meaning s path ms).notes line bits
  quiet_passes gap n others line [] short is calm each = tt
  quiet_passes gap n others line (bit ∷ bits) short is calm each =
      let none : n + 0 ≡ n = omega arith in
      let one : n + 1 ≡ suc n = omega arith in
      let was : track s line ≡ others ++ Gap n ∷ [] = ap (track s) (sym (append-nil line)) ∙ each 0 (omega arith) ∙ ap (λ v. others ++ Gap v ∷ []) none in
      let now : track s (line ++ bit ∷ []) ≡ others ++ Gap (suc n) ∷ [] = each 1 (omega arith) ∙ ap (λ v. others ++ Gap v ∷ []) one in
      let grows : Grows Rejected [] (track s line) (track s (line ++ bit ∷ [])) = (others, n, refl, was, now) in
      let inside : suc gap < s.len = omega (arith, short) in
      let goes : gap_after s Rejected gap ≡ suc gap = ap (λ b. cond b 0 (suc gap)) (ne_eqb (suc gap) s.len (λ e. omega (arith, e, inside))) in
      let A : ℕ → List Act = λ v. cond (v == 0) (rounds_acts s s.low) [] in
      let nothing : step_acts s path (next_bit line) (track s line) Rejected [] (gap_after s Rejected gap) ≡ [] = ap A goes ∙ ap (λ b. cond b (rounds_acts s s.low) []) (ne_eqb (suc gap) 0 (λ e. omega (arith, e))) in
      let acts : bit_acts s path line bit ≡ [] = acts_calm line bit _ calm.0 (bit_acts_are s path line bit Rejected [] gap shape is grows) nothing in
      let P : ℕ → Type 0 = λ v. IsGap s v (track s (line ++ bit ∷ [])) in (
        ap (acts_events (child_notes ms) (received_lines s line)) acts,
        quiet_passes (suc gap) (suc n) others (line ++ bit ∷ []) bits (omega (arith, short)) (subst P goes (gap_goes s Rejected [] (track s line) (track s (line ++ bit ∷ [])) gap shape is grows)) calm.1
            (λ k le. (let more : n + suc k ≡ suc n + k = omega arith in ap (track s) (append_assoc line (bit ∷ []) (take k bits)) ∙ each (suc k) (omega (arith, le)) ∙ ap (λ v. others ++ Gap v ∷ []) more)),
      )

-- ---- fewer bits that show nothing of AIS

calm_front : (long : ℕ) (line a b : List Bool) → IsCalm long line (a ++ b) → IsCalm long line a
calm_front long line [] b h = tt
calm_front long line (bit ∷ a) b h = (h.0, calm_front long (line ++ bit ∷ []) a b h.1)

pub calm_fewer : (long n k : ℕ) (line bits : List Bool) → k ≤ n → IsCalm long line (take n bits) → IsCalm long line (take k bits)
calm_fewer long n k line bits le h =
    let parts : take k (take n bits) ++ drop k (take n bits) ≡ take n bits = take-append-drop k (take n bits) in
    let P : List Bool → Type 0 = λ v. IsCalm long line v in
    subst P (take-take k n bits le) (calm_front long line (take k (take n bits)) (drop k (take n bits)) (subst P (sym parts) h))

-- ---- what a node stands for after such bits

module _ {C : Type 0} (stands : C → List Bool → Type 0) (meaning : C → Meaning) (s : FrameShape) (path : Path) (shape : IsFrame s) (children : List C) (held held' : Held) (gap frames : ℕ) (judged : Judged) (bits : ℕ) (ais : OnesRun) (kept : Kept) (piece line : List Bool)
    (told : NodeStands stands meaning s children held gap frames judged bits ais kept line) (waits : Waits s held' piece line) (calm : IsCalm ais.long line piece) where
  pub wait_quiet : IsQuiet (node_meaning s path (map meaning children)).notes line piece
  wait_quiet =
      let P : ℕ → Type 0 = λ n. IsCalm n line piece in
      quiet_waits s path (map meaning children) shape gap line piece told.node.gap_is (subst P told.long_is calm) waits.each

  pub wait_same : (k : ℕ) → (node_meaning s path (map meaning children)).got (line ++ piece) k ≡ (node_meaning s path (map meaning children)).got line k
  wait_same k = got_by_same (map meaning children) _ _ (received_same stands meaning s children held held' gap frames piece line told.node waits) k

  pub wait_stands : (bits' : ℕ) (ais' : OnesRun) → bits' ≡ min (bits + length piece) (2 ^ 64 - 1) → ais'.long ≡ ais.long → CountsOnes ais' (line ++ piece) → NodeStands stands meaning s children held' gap frames judged bits' ais' kept (line ++ piece)
  wait_stands bits' ais' counts long ones =
      let R : List Piece → Type 0 = Remembers s kept in
      record {
        node = node_waits stands meaning s children held held' gap frames piece line told.node waits;
        judges = judges_waits s held' judged line piece waits told.judges;
        bits_are = (let more : length (line ++ piece) ≡ length line + length piece = length-append line piece in omega (arith, counts, told.bits_are, more));
        long_is = long ∙ told.long_is;
        ones_are = ones;
        remembers = subst R (sym waits.same) told.remembers;
      }

module _ {C : Type 0} (stands : C → List Bool → Type 0) (meaning : C → Meaning) (s : FrameShape) (path : Path) (shape : IsFrame s) (children : List C) (held held' : Held) (gap frames : ℕ) (judged : Judged) (bits : ℕ) (ais : OnesRun) (kept : Kept) (piece line : List Bool)
    (told : NodeStands stands meaning s children held gap frames judged bits ais kept line) (passes : Passes s held' piece line) (short : gap + length piece < s.len) (calm : IsCalm ais.long line piece) where
  pub pass_quiet : IsQuiet (node_meaning s path (map meaning children)).notes line piece
  pass_quiet =
      let P : ℕ → Type 0 = λ n. IsCalm n line piece in
      quiet_passes s path (map meaning children) shape gap passes.gap passes.others line piece short told.node.gap_is (subst P told.long_is calm) passes.each

  pub pass_same : (k : ℕ) → (node_meaning s path (map meaning children)).got (line ++ piece) k ≡ (node_meaning s path (map meaning children)).got line k
  pass_same k = got_by_same (map meaning children) _ _ (received_passed stands meaning s shape children held held' gap frames piece line told.node passes short) k

  pub pass_stands : (gap' bits' : ℕ) (ais' : OnesRun) → gap' ≡ gap + length piece → bits' ≡ min (bits + length piece) (2 ^ 64 - 1) → ais'.long ≡ ais.long → CountsOnes ais' (line ++ piece) → NodeStands stands meaning s children held' gap' frames judged bits' ais' kept (line ++ piece)
  pass_stands gap' bits' ais' goes counts long ones =
      let N : ℕ → Type 0 = λ g. NodeTracks stands meaning s children held' g frames (line ++ piece) in
      let R : List Piece → Type 0 = Remembers s kept in
      record {
        node = subst N (sym goes) (node_passed stands meaning s shape children held held' gap frames piece line told.node passes short);
        judges = judges_passes s held' judged line piece passes told.judges;
        bits_are = (let more : length (line ++ piece) ≡ length line + length piece = length-append line piece in omega (arith, counts, told.bits_are, more));
        long_is = long ∙ told.long_is;
        ones_are = ones;
        remembers = subst R (sym passes.is) (remembers_gap s kept passes.others passes.gap (passes.gap + length piece) (subst R passes.was told.remembers));
      }

-- these bits and then those
pub quietly_join : (m now : Meaning) (a b all : List Bool) (was is next : List Bool → Type 0) → now ≡ m → all ≡ a ++ b → TakesQuietly m a was is → TakesQuietly now b is next → TakesQuietly m all was next
quietly_join m now a b all was is next same e f g' =
    let Q : Meaning → Type 0 = λ m. TakesQuietly m b is next in
    let g : TakesQuietly m b is next = subst Q same g' in
    let line_is : (line : List Bool) → (line ++ a) ++ b ≡ line ++ all = λ line. append_assoc line a b ∙ ap (λ v. line ++ v) (sym e) in
    record {
      stands = λ line h. subst next (line_is line) (g.stands (line ++ a) (f.stands line h));
      same = λ line h k. ap (λ v. m.got v k) (sym (line_is line)) ∙ g.same (line ++ a) (f.stands line h) k ∙ f.same line h k;
      quiet = λ line h. (let P : List Bool → Type 0 = IsQuiet m.notes line in subst P (sym e) (quiet_join m.notes a b line (f.quiet line h) (g.quiet (line ++ a) (f.stands line h))));
    }

pub quietly_none : (m : Meaning) (was : List Bool → Type 0) → TakesQuietly m [] was was
quietly_none m was = record { stands = λ line h. subst was (sym (append-nil line)) h; same = λ line h k. ap (λ v. m.got v k) (append-nil line); quiet = λ line h. tt }

-- leaves gained nothing
pub quietly_takes : (m : Meaning) (bits : List Bool) (was is : List Bool → Type 0) (o : Outputs) → TakesQuietly m bits was is → TakesBits m bits was is o o
quietly_takes m bits was is o f = record { stands = f.stands; gains = λ line h. gains_nothing (m.got line) (m.got (line ++ bits)) o (f.same line h) }
