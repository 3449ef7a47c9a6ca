-- Lines that are written one after another.
use Rattle.std.proofs.Common.{◌≡◌, ℕ, ◌+◌, ◌<◌, inl, inr, Result, Ok, Err, OnErr, List, [], ◌∷◌, ◌++◌, length, map, get_or, take, drop, refl, sym, ap, subst, ◌∙◌, arith}
use Rattle.std.proofs.lemmas.Grind.{flat_map-append}
use Rattle.std.proofs.lemmas.Bool.{cases_lt}
use Rattle.std.proofs.lemmas.List.{append-nil, map-append, take-append-drop, take-append-le, take_all, take_more}
use Rattle.std.proofs.Math.Seq.{take-append-add, take-append_seam}
use Rattle.pdh_edge.specs.Counts.{one_more}
use Rattle.pdh_edge.specs.Files.{SinkState, Extends, Sends, FailsToSend}
use Rattle.pdh_watch.specs.Monitors.{State}
use Rattle.pdh_answers.specs.Lines.{monitor_line, monitor_lines}
use Rattle.pdh_slips.specs.declared.slip.Slip.{Slip}
use Rattle.pdh_answers.specs.SlipLines.{slip_line, slip_lines, BreaksOff}
use Rattle.pdh_answers.specs.laws.SlipLineLaws.{extends_join, sends_join}

-- ---- what was sent

-- a part was sent, and then a call failed
fails_then : (a b : List ℕ) (x y z : SinkState) → Sends a x y → FailsToSend b y z → FailsToSend (a ++ b) x z
fails_then a b x y z f g = record {
  told = (length a + g.told.0, subst (λ bytes. Extends bytes x z) (sym (take-append-add a b g.told.0)) (extends_join a (take g.told.0 b) x y z f.told g.told.1));
  faults = g.faults ∙ ap one_more f.faults;
}

-- a call failed, and more was to come
fails_before : (a b : List ℕ) (x y : SinkState) → FailsToSend a x y → FailsToSend (a ++ b) x y
fails_before a b x y f = record {
  told = elim (cases_lt (length a) f.told.0) [
    | inl past ↦ (length a, subst (λ bytes. Extends bytes x y) (take_all f.told.0 a (omega (arith, past)) ∙ sym (take-append_seam a b)) f.told.1)
    | inr within ↦ (f.told.0, subst (λ bytes. Extends bytes x y) (sym (take-append-le f.told.0 a b (omega (arith, within)))) f.told.1)
  ];
  faults = f.faults;
}

-- ---- lines

-- the lines of one monitor more
pub lines_more : {X : Type 0} → (state : X → State) (xs : List X) (i : ℕ) (d : X) → i < length xs → monitor_lines (map state (take (i + 1) xs)) ≡ monitor_lines (map state (take i xs)) ++ monitor_line (state (get_or xs i d))
lines_more {X = X} state xs i d low =
    let x : X = get_or xs i d in
    ap (λ ys. monitor_lines (map state ys)) (take_more xs i d low) ∙ ap monitor_lines (map-append state (take i xs) (x ∷ []))
    ∙ flat_map-append monitor_line (map state (take i xs)) (state x ∷ [])
    ∙ ap (λ text. monitor_lines (map state (take i xs)) ++ text) (append-nil (monitor_line (state x)))

-- those of some monitors, and then those of the rest
pub lines_split : {X : Type 0} → (state : X → State) (xs : List X) (i : ℕ) → monitor_lines (map state xs) ≡ monitor_lines (map state (take i xs)) ++ monitor_lines (map state (drop i xs))
lines_split state xs i =
    ap (λ ys. monitor_lines (map state ys)) (sym (take-append-drop i xs)) ∙ ap monitor_lines (map-append state (take i xs) (drop i xs))
    ∙ flat_map-append monitor_line (map state (take i xs)) (map state (drop i xs))

-- a part more was sent
pub sends_more : (a b all : List ℕ) (x y z : SinkState) → all ≡ a ++ b → Sends a x y → Sends b y z → Sends all x z
sends_more a b all x y z is f g = subst (λ text. Sends text x z) (sym is) (sends_join a b x y z f g)

-- a call failed at a part, and the rest was to come
pub fails_within : (a b rest last all : List ℕ) (x y z : SinkState) → all ≡ (a ++ b) ++ rest → Sends a x y → FailsToSend b y z → FailsToSend (all ++ last) x z
fails_within a b rest last all x y z is f g =
    subst (λ text. FailsToSend (text ++ last) x z) (sym is) (fails_before ((a ++ b) ++ rest) last x z (fails_before (a ++ b) rest x z (fails_then a b x y z f g)))

-- a call failed at the last part
pub fails_last : (a last all : List ℕ) (x y z : SinkState) → all ≡ a → Sends a x y → FailsToSend last y z → FailsToSend (all ++ last) x z
fails_last a last all x y z is f g = subst (λ text. FailsToSend (text ++ last) x z) (sym is) (fails_then a last x y z f g)

-- what holds of a failure
pub on_err : {T E P : Type 0} → (r : Result T E) → P → OnErr r P
on_err (Ok x) p = tt
on_err (Err e) p = p

pub on_err_map : {T E P Q : Type 0} → (r : Result T E) → (P → Q) → OnErr r P → OnErr r Q
on_err_map (Ok x) f p = tt
on_err_map (Err e) f p = f p

-- ---- slips

-- a line of a slip failed, and more were to come
pub breaks_fails : (front rest all : List Slip) (x y : SinkState) → front ++ rest ≡ all → BreaksOff front x y → FailsToSend (slip_lines all) x y
breaks_fails front rest all x y is b =
    let line : FailsToSend (slip_lines b.told ++ slip_line b.last) x y = record {
      told = (length (slip_lines b.told) + b.part, subst (λ bytes. Extends bytes x y) (sym (take-append-add (slip_lines b.told) (slip_line b.last) b.part)) b.lines);
      faults = b.counted;
    } in
    let lines : slip_lines front ≡ slip_lines b.told ++ slip_line b.last =
    ap slip_lines b.all ∙ flat_map-append slip_line b.told (b.last ∷ []) ∙ ap (λ l. slip_lines b.told ++ l) (append-nil (slip_line b.last)) in
    subst (λ bytes. FailsToSend bytes x y) (sym (flat_map-append slip_line front rest) ∙ ap slip_lines is)
    (fails_before (slip_lines front) (slip_lines rest) x y (subst (λ bytes. FailsToSend bytes x y) (sym lines) line))

-- the line of one slip failed
pub breaks_one : (slip : Slip) (x y : SinkState) → FailsToSend (slip_line slip) x y → BreaksOff (slip ∷ []) x y
breaks_one slip x y f = record { told = []; last = slip; all = refl; part = f.told.0; lines = f.told.1; counted = f.faults }
