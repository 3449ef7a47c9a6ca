-- Bits that gain nothing: what is held after them, and that nothing shows.
use Rattle.std.proofs.Common.{◌≡◌, ◌≢◌, ℕ, ◌+◌, ◌-◌, ◌%◌, ◌<◌, ◌≤◌, Bool, false, List, [], ◌∷◌, ◌++◌, length, drop, refl, sym, ap, ◌∙◌, subst, arith, append_assoc, length-append, length-drop}
use Rattle.std.specs.Prelude.{◌^◌, min}
use Rattle.std.proofs.lemmas.List.{append-nil, length_push, drop-append-le, drop-drop}
use Rattle.pdh_line.specs.Paths.{top}
use Rattle.pdh_watch.specs.declared.kind.Kind.{Kind}
use Rattle.pdh_events.specs.Telling.{next_bit, tell}
use Rattle.pdh_events.specs.Keeping.{OnesRun, CountsOnes}
use Rattle.pdh_events.specs.laws.QuietLaws.{IsQuiet, IsCalm}
use Rattle.pdh_g706.specs.declared.align.E1Align.{E1Align}
use Rattle.pdh_g706.specs.declared.counts.Group.{Group}
use Rattle.pdh_g706.specs.declared.stage.Stage.{Stage}
use Rattle.pdh_g706.specs.declared.stage.Stage.TheVariants as stages
use Rattle.pdh_g706.specs.Frames.{is_confirmed}
use Rattle.pdh_g706.specs.Tracking.{Signs, Share, e1_far, multiframes_in, blocks_in, errors_in, signs_in, counted}
use Rattle.pdh_g706.specs.Events.{alarm_after, ais_length, e1_bit_events}
use Rattle.pdh_g706.specs.Machine.{Phase, Holds, Grows, Turn, nothing, still, added_kinds, last_bits, search_turn, turn, Waits, held_on}
use Rattle.pdh_g706.specs.Machine.Phase.{Searching, Aligned, Framed}
use Rattle.pdh_g706.specs.View.{phase_of, phase, StandsFor}
use Rattle.pdh_g706.proofs.SignLaws.{add_no_signs}
use Rattle.pdh_g706.proofs.HoldsLaws.{holds_turn}
use Rattle.pdh_g706.proofs.EventLaws.{events_turn}
use Rattle.pdh_g706.proofs.AlignSteps.{search_short, search_long, turn_part, still_kinds}

-- ---- which bits gain nothing

-- a bit that only is held, and then others
waits_step : (before next now : Phase) (bit : Bool) (bits : List Bool) → turn before bit ≡ still next → Waits next bits now → Waits before (bit ∷ bits) now
waits_step before next now bit bits e w = (ap (λ (t : Turn). t.gained) e, subst (λ (p : Phase). Waits p bits now) (sym (ap (λ (t : Turn). t.phase) e)) w)

-- no frame ends with them
waits_part : (stage : Stage) (held bits : List Bool) (group : Group) → (stage ≡ stages.Searching → ⊥) → length held % 256 + length bits < 256 → Waits (phase_of stage held group) bits (phase_of stage (held ++ bits) group)
waits_part stage held [] group other few = ap (λ (x : List Bool). phase_of stage x group) (append-nil held)
waits_part stage held (bit ∷ bits) group other few =
    let long : length (held ++ bit ∷ []) ≡ length held + 1 = length_push held bit in
    let part : length (held ++ bit ∷ []) % 256 ≢ 0 = omega arith in
    let rest : length (held ++ bit ∷ []) % 256 + length bits < 256 = omega arith in
    let all : (held ++ bit ∷ []) ++ bits ≡ held ++ bit ∷ bits = append_assoc held (bit ∷ []) bits in
    waits_step (phase_of stage held group) (phase_of stage (held ++ bit ∷ []) group) (phase_of stage (held ++ bit ∷ bits) group) bit bits (turn_part stage held (held ++ bit ∷ []) group bit other refl part)
    (subst (λ (x : List Bool). Waits (phase_of stage (held ++ bit ∷ []) group) bits (phase_of stage x group)) all (waits_part stage (held ++ bit ∷ []) bits group other rest))

turn_search : (held : List Bool) (bit : Bool) → turn (Searching held) bit ≡ search_turn (held ++ bit ∷ [])
unfolding turn
turn_search held bit = refl

-- a search has fewer than three frames with them
waits_few : (held bits : List Bool) → length held + length bits < 768 → Waits (Searching held) bits (Searching (held ++ bits))
waits_few held [] few = ap Searching (append-nil held)
waits_few held (bit ∷ bits) few =
    let long : length (held ++ bit ∷ []) ≡ length held + 1 = length_push held bit in
    let all : (held ++ bit ∷ []) ++ bits ≡ held ++ bit ∷ bits = append_assoc held (bit ∷ []) bits in
    waits_step (Searching held) (Searching (held ++ bit ∷ [])) (Searching (held ++ bit ∷ bits)) bit bits (turn_search held bit ∙ search_short (held ++ bit ∷ []) (omega arith))
    (subst (λ (x : List Bool). Waits (Searching (held ++ bit ∷ [])) bits (Searching x)) all (waits_few (held ++ bit ∷ []) bits (omega arith)))

-- a search has three frames less a bit, and each bit makes a position whole that can't be confirmed; some have come so
waits_rejected : (held before bits : List Bool) → length held ≡ 767 → length before + length bits ≤ 64 → ((p : ℕ) → p < length before + length bits → (more : List Bool) → is_confirmed (drop p held ++ more) ≡ false)
    → Waits (Searching (drop (length before) (held ++ before))) bits (Searching (drop (length (before ++ bits)) (held ++ (before ++ bits))))
waits_rejected held before [] full few none = ap (λ (x : List Bool). Searching (drop (length x) (held ++ x))) (append-nil before)
waits_rejected held before (bit ∷ bits) full few none =
    let n : ℕ = length before in
    let more : length (before ++ bit ∷ []) ≡ n + 1 = length_push before bit in
    let apart : drop n (held ++ before) ≡ drop n held ++ before = drop-append-le n held before (omega arith) in
    let now : drop n (held ++ before) ++ bit ∷ [] ≡ drop n held ++ (before ++ bit ∷ []) = ap (λ (x : List Bool). x ++ bit ∷ []) apart ∙ append_assoc (drop n held) before (bit ∷ []) in
    let same : drop n held ++ (before ++ bit ∷ []) ≡ drop n (held ++ (before ++ bit ∷ [])) = sym (drop-append-le n held (before ++ bit ∷ []) (omega arith)) in
    let whole : 768 ≤ length (drop n (held ++ before) ++ bit ∷ []) = omega (arith, length_push (drop n (held ++ before)) bit, length-drop n (held ++ before), length-append held before) in
    let wrong : false ≡ is_confirmed (drop n (held ++ before) ++ bit ∷ []) = sym (ap is_confirmed now ∙ none n (omega arith) (before ++ bit ∷ [])) in
    let next : drop 1 (drop n (held ++ before) ++ bit ∷ []) ≡ drop (length (before ++ bit ∷ [])) (held ++ (before ++ bit ∷ [])) =
    ap (drop 1) (now ∙ same) ∙ drop-drop 1 n (held ++ (before ++ bit ∷ [])) ∙ ap (λ (k : ℕ). drop k (held ++ (before ++ bit ∷ []))) (sym more) in
    let step : turn (Searching (drop n (held ++ before))) bit ≡ still (Searching (drop (length (before ++ bit ∷ [])) (held ++ (before ++ bit ∷ [])))) =
    turn_search (drop n (held ++ before)) bit ∙ search_long (drop n (held ++ before) ++ bit ∷ []) false whole wrong ∙ ap (λ (x : List Bool). still (Searching x)) next in
    let all : (before ++ bit ∷ []) ++ bits ≡ before ++ bit ∷ bits = append_assoc before (bit ∷ []) bits in
    waits_step (Searching (drop n (held ++ before))) (Searching (drop (length (before ++ bit ∷ [])) (held ++ (before ++ bit ∷ [])))) (Searching (drop (length (before ++ bit ∷ bits)) (held ++ (before ++ bit ∷ bits)))) bit bits step
    (subst (λ (x : List Bool). Waits (Searching (drop (length (before ++ bit ∷ [])) (held ++ (before ++ bit ∷ [])))) bits (Searching (drop (length x) (held ++ x)))) all
    (waits_rejected held (before ++ bit ∷ []) bits full (omega arith) (λ p lt m. none p (omega arith) m)))

-- ---- what is held then

pub held_in_frames : (stage : Stage) (held bits now : List Bool) (group : Group) → (stage ≡ stages.Searching → ⊥) → now ≡ held ++ bits → phase_of stage now group ≡ held_on (phase_of stage held group) bits
held_in_frames stages.Searching held bits now group other is = absurd (other refl)
held_in_frames stages.Aligned held bits now group other is = ap Aligned is
held_in_frames stages.Framed held bits now group other is = ap (λ (x : List Bool). Framed x group.judged group.errored) is

pub held_in_search : (stage : Stage) (held bits now : List Bool) (group : Group) → stage ≡ stages.Searching → now ≡ last_bits 767 (held ++ bits) → phase_of stage now group ≡ held_on (phase_of stage held group) bits
held_in_search stage held bits now group e is =
    subst (λ (s : Stage). phase_of s now group ≡ held_on (phase_of s held group) bits) (sym e) (ap Searching is)

pub idle_part : (stage : Stage) (held bits : List Bool) (group : Group) → (stage ≡ stages.Searching → ⊥) → length held % 256 + length bits < 256 → Waits (phase_of stage held group) bits (held_on (phase_of stage held group) bits)
idle_part stage held bits group other few =
    subst (Waits (phase_of stage held group) bits) (held_in_frames stage held bits (held ++ bits) group other refl) (waits_part stage held bits group other few)

pub idle_few : (stage : Stage) (held bits : List Bool) (group : Group) → stage ≡ stages.Searching → length held + length bits < 768 → Waits (phase_of stage held group) bits (held_on (phase_of stage held group) bits)
idle_few stage held bits group e few =
    let none : length (held ++ bits) - 767 ≡ 0 = omega (arith, length-append held bits) in
    let all : held ++ bits ≡ last_bits 767 (held ++ bits) = ap (λ (k : ℕ). drop k (held ++ bits)) (sym none) in
    subst (λ (s : Stage). Waits (phase_of s held group) bits (held_on (phase_of s held group) bits)) (sym e)
    (subst (λ (x : List Bool). Waits (Searching held) bits (Searching x)) all (waits_few held bits few))

pub idle_rejected : (stage : Stage) (held bits : List Bool) (group : Group) (n : ℕ) → stage ≡ stages.Searching → length held ≡ 767 → length bits ≤ n → n ≤ 64 → ((p : ℕ) → p < n → (more : List Bool) → is_confirmed (drop p held ++ more) ≡ false)
    → Waits (phase_of stage held group) bits (held_on (phase_of stage held group) bits)
idle_rejected stage held bits group n e full few most none =
    let over : length (held ++ bits) - 767 ≡ length bits = omega (arith, length-append held bits) in
    let last : drop (length bits) (held ++ bits) ≡ last_bits 767 (held ++ bits) = ap (λ (k : ℕ). drop k (held ++ bits)) (sym over) in
    let first : drop 0 (held ++ []) ≡ held = append-nil held in
    let waits = waits_rejected held [] bits full (omega arith) (λ p lt m. none p (omega arith) m) in
    subst (λ (s : Stage). Waits (phase_of s held group) bits (held_on (phase_of s held group) bits)) (sym e)
    (subst (λ (x : List Bool). Waits (Searching held) bits (Searching x)) last (subst (λ (x : List Bool). Waits (Searching x) bits (Searching (drop (length bits) (held ++ bits)))) first waits))

-- ---- what the line gives and shows

-- a line with more bits gives what it gave before
record Unchanged (line now : List Bool) : Type 0 where
  far_is : e1_far now ≡ e1_far line
  multiframes_are : multiframes_in now ≡ multiframes_in line
  blocks_are : blocks_in now ≡ blocks_in line
  errored_are : errors_in now ≡ errors_in line
  signs_are : signs_in now ≡ signs_in line

unchanged_by : (gained : Share) (line now end : List Bool) → gained ≡ nothing → Grows gained line now → Unchanged now end → Unchanged line end
unchanged_by gained line now end none grows rest =
    let g : Grows nothing line now = subst (λ (s : Share). Grows s line now) none grows in
    record {
      far_is = rest.far_is ∙ g.payload_is ∙ append-nil (e1_far line);
      multiframes_are = omega (arith, rest.multiframes_are, g.multiframes_are);
      blocks_are = omega (arith, rest.blocks_are, g.blocks_are);
      errored_are = omega (arith, rest.errored_are, g.errored_are);
      signs_are = rest.signs_are ∙ g.signs_are ∙ add_no_signs (signs_in line);
    }

waited : (before now : Phase) (line bits : List Bool) → Holds before line → Waits before bits now → Holds now (line ++ bits) × Unchanged line (line ++ bits)
waited before now line [] h w =
    let same : line ≡ line ++ [] = sym (append-nil line) in (
      subst (Holds now) same (subst (λ (p : Phase). Holds p line) (sym w) h),
      subst (Unchanged line) same (record { far_is = refl; multiframes_are = refl; blocks_are = refl; errored_are = refl; signs_are = refl }),
    )
waited before now line (bit ∷ bits) h w =
    let one = holds_turn before line bit h in
    let rest = waited (turn before bit).phase now (line ++ bit ∷ []) bits one.0 w.1 in
    let all : (line ++ bit ∷ []) ++ bits ≡ line ++ bit ∷ bits = append_assoc line (bit ∷ []) bits in
    (subst (Holds now) all rest.0, subst (Unchanged line) all (unchanged_by (turn before bit).gained line (line ++ bit ∷ []) ((line ++ bit ∷ []) ++ bits) w.0 one.1 rest.1))

quiet_waits : (before now : Phase) (line bits : List Bool) → Holds before line → Waits before bits now → IsCalm ais_length line bits → IsQuiet e1_bit_events line bits
quiet_waits before now line [] h w calm = tt
quiet_waits before now line (bit ∷ bits) h w calm =
    let alarm : Bool = alarm_after false (signs_in line).frames in
    let none : added_kinds alarm (turn before bit).gained.signs ≡ [] = ap (λ (s : Share). added_kinds alarm s.signs) w.0 ∙ still_kinds alarm in (
      events_turn before line bit h ∙ ap (λ (k : List Kind). tell top (next_bit line) (k ++ added_kinds alarm (turn before bit).gained.signs)) calm.0 ∙ ap (tell top (next_bit line)) none,
      quiet_waits (turn before bit).phase now (line ++ bit ∷ []) bits (holds_turn before line bit h).0 w.1 calm.1,
    )

-- ---- the machine

pub waits_far : (old : E1Align) (now : Phase) (line bits : List Bool) → Waits (phase old) bits now → StandsFor old line → e1_far (line ++ bits) ≡ e1_far line
waits_far old now line bits w h = (waited (phase old) now line bits h.holds w).1.far_is

pub waits_quiet : (old : E1Align) (now : Phase) (line bits : List Bool) → Waits (phase old) bits now → (CountsOnes old.ais line → IsCalm old.ais.long line bits) → StandsFor old line → IsQuiet e1_bit_events line bits
waits_quiet old now line bits w calm h = quiet_waits (phase old) now line bits h.holds w (subst (λ (n : ℕ). IsCalm n line bits) h.long (calm h.ones))

pub waits_stands : (old out : E1Align) (ones : OnesRun) (number : ℕ) (line bits : List Bool) → out ≡ record old { ais = ones; held = out.held } → out.held.capacity ≡ old.held.capacity → Waits (phase old) bits (phase out)
    → number ≡ min (old.bits + length bits) (2 ^ 64 - 1) → ones.long ≡ old.ais.long → (CountsOnes old.ais line → CountsOnes ones (line ++ bits)) → StandsFor old line → StandsFor (record out { bits = number }) (line ++ bits)
waits_stands old out ones number line bits same room w next long counts h =
    let facts = waited (phase old) (phase out) line bits h.holds w in
    let grown = facts.1 in
    let ais : out.ais ≡ ones = ap (λ (a : E1Align). a.ais) same in
    record {
      holds = facts.0;
      counts = record {
        multiframes_are = ap (λ (a : E1Align). a.counts.multiframes) same ∙ h.counts.multiframes_are ∙ ap counted (sym grown.multiframes_are);
        blocks_are = ap (λ (a : E1Align). a.counts.blocks) same ∙ h.counts.blocks_are ∙ ap counted (sym grown.blocks_are);
        errored_are = ap (λ (a : E1Align). a.counts.errored) same ∙ h.counts.errored_are ∙ ap counted (sym grown.errored_are);
      };
      room = room ∙ h.room;
      number = omega (arith, next, h.number, length-append line bits);
      long = ap (λ (o : OnesRun). o.long) ais ∙ long ∙ h.long;
      ones = subst (λ (o : OnesRun). CountsOnes o (line ++ bits)) (sym ais) (counts h.ones);
      alarm = ap (λ (a : E1Align). a.alarm) same ∙ h.alarm ∙ ap (λ (s : Signs). alarm_after false s.frames) (sym grown.signs_are);
    }
