-- What was written to a sink joins, and so do the lines of slips.
use Rattle.std.proofs.Common.{◌≡◌, ◌≤◌, ℕ, ◌+◌, ◌-◌, ◌^◌, min, List, [], ◌++◌, take, Option, None, Some, refl, sym, ap, subst, ◌∙◌, arith, append_assoc}
use Rattle.std.proofs.lemmas.Grind.{flat_map-append}
use Rattle.std.specs.Option.{option_map}
use Rattle.std.proofs.lemmas.List.{append-nil, length-append}
use Rattle.pdh_edge.specs.Counts.{one_more}
use Rattle.pdh_edge.specs.Files.{SinkState, Extends, Sends}
use Rattle.pdh_slips.specs.declared.slip.Slip.{Slip}
use Rattle.pdh_answers.specs.SlipLines.{slip_line, slip_lines, BreaksOff, LogState, TellsLines, BreaksLines}

-- ---- what was sent

twice : (a b : List ℕ) (o : Option (List ℕ)) → option_map (λ before. before ++ b) (option_map (λ before. before ++ a) o) ≡ option_map (λ before. before ++ (a ++ b)) o
twice a b None = refl
twice a b (Some before) = ap Some (append_assoc before a b)

pub extends_join : (a b : List ℕ) (x y z : SinkState) → Extends a x y → Extends b y z → Extends (a ++ b) x z
extends_join a b x y z f g = g ∙ ap (option_map (λ before. before ++ b)) f ∙ twice a b x.written

same : (o : Option (List ℕ)) → o ≡ option_map (λ before. before ++ []) o
same None = refl
same (Some before) = ap Some (sym (append-nil before))

pub sends_nothing : (x : SinkState) → Sends [] x x
sends_nothing x = record { told = same x.written; faults = refl }

pub sends_join : (a b : List ℕ) (x y z : SinkState) → Sends a x y → Sends b y z → Sends (a ++ b) x z
sends_join a b x y z f g = record { told = extends_join a b x y z f.told g.told; faults = g.faults ∙ f.faults }

-- ---- lines of slips

pub told_nothing : (a : LogState) → TellsLines a [] a
told_nothing a = record { sends = sends_nothing a.sink; counts = λ few. omega arith }

pub told_join : (a b c : LogState) (xs ys : List Slip) → TellsLines a xs b → TellsLines b ys c → TellsLines a (xs ++ ys) c
told_join a b c xs ys p q = record {
  sends = subst (λ bytes. Sends bytes a.sink c.sink) (sym (flat_map-append slip_line xs ys)) (sends_join (slip_lines xs) (slip_lines ys) a.sink b.sink c.sink p.sends q.sends);
  counts = λ few.
      let long = length-append xs ys in
      let first = p.counts (omega (arith, few, long)) in
      let then_ = q.counts (omega (arith, few, long, first)) in
      omega (arith, long, first, then_);
}

breaks_join : (a b c : SinkState) (xs ys : List Slip) → Sends (slip_lines xs) a b → BreaksOff ys b c → BreaksOff (xs ++ ys) a c
breaks_join a b c xs ys p q = record {
  told = xs ++ q.told;
  last = q.last;
  all = ap (λ l. xs ++ l) q.all ∙ sym (append_assoc xs q.told _);
  part = q.part;
  lines = subst (λ bytes. Extends bytes a c)
      (sym (append_assoc (slip_lines xs) (slip_lines q.told) (take q.part (slip_line q.last))) ∙ ap (λ l. l ++ take q.part (slip_line q.last)) (sym (flat_map-append slip_line xs q.told)))
      (extends_join (slip_lines xs) (slip_lines q.told ++ take q.part (slip_line q.last)) a b c p.told q.lines);
  counted = q.counted ∙ ap one_more p.faults;
}

-- ---- faults

-- the faults of a sink as a number of the type that counts them
abbrev pub faults_of : LogState → ℕ
faults_of log = min log.sink.faults (2 ^ 64 - 1)

pub told_count : (a b : LogState) (xs : List Slip) → TellsLines a xs b → faults_of a ≤ faults_of b
told_count a b xs p = omega (arith, p.sends.faults)

pub breaks_count : (a b : LogState) (xs : List Slip) → BreaksLines a xs b → faults_of a ≤ faults_of b
breaks_count a b xs p = omega (arith, p.counted)

pub breaks_behind : (a b c : LogState) (xs ys : List Slip) → TellsLines a xs b → BreaksLines b ys c → BreaksLines a (xs ++ ys) c
breaks_behind a b c xs ys p q = breaks_join a.sink b.sink c.sink xs ys p.sends q
