-- What becomes of the seconds that wait.
use Rattle.std.proofs.Common.{◌≡◌, ℕ, suc, ◌+◌, ◌<◌, ◌≤◌, Bool, true, false, not, cond, List, [], ◌∷◌, ◌++◌, length, map, refl, ap, sym, ◌∙◌, arith, append_assoc, zero-add}
use Rattle.std.specs.Prelude.{if◌then◌else◌}
use Rattle.std.specs.Bool.{beq}
use Rattle.std.specs.List.{prefix_len}
use Rattle.std.proofs.lemmas.Bool.{le-leb, lt-leb}
use Rattle.std.proofs.lemmas.List.{map_push}
use Rattle.pdh_seconds.specs.declared.second.Second.{Second}
use Rattle.pdh_seconds.specs.Availability.{has_severity, begins_ten, is_unavailable, Told, told_as, told_after}
use Rattle.pdh_seconds.specs.Standing.{AreAlike}

-- the choice that makes a second unavailable
abbrev chosen : Bool → Bool → Bool → Bool
chosen ten other before = (if ten then true else (if other then false else before))

kept_available : (other : Bool) → (if other then false else false) ≡ false
kept_available true = refl
kept_available false = refl

begun : (ten : Bool) → (if ten then true else true) ≡ true
begun true = refl
begun false = refl

-- no run of a kind begins with a second of the other kind
no_run : (severe : Bool) (second : Second) (later : List Second) → second.severe ≡ not severe → prefix_len (has_severity severe) (second ∷ later) ≡ 0
no_run true second later is = ap (λ (s : Bool). cond (beq s true) (1 + prefix_len (has_severity true) later) 0) is
no_run false second later is = ap (λ (s : Bool). cond (beq s false) (1 + prefix_len (has_severity false) later) 0) is

-- a run of a kind is as long as the seconds of that kind in front of what ends it
run_of : (severe : Bool) (waiting later : List Second) → AreAlike severe waiting
    → prefix_len (has_severity severe) (waiting ++ later) ≡ length waiting + prefix_len (has_severity severe) later
run_of severe [] later alike = sym (zero-add (prefix_len (has_severity severe) later))
run_of true (second ∷ waiting) later alike =
    let longer : prefix_len (has_severity true) (second ∷ (waiting ++ later)) ≡ 1 + prefix_len (has_severity true) (waiting ++ later) =
    ap (λ (s : Bool). cond (beq s true) (1 + prefix_len (has_severity true) (waiting ++ later)) 0) alike.0 in
    let rest : prefix_len (has_severity true) (waiting ++ later) ≡ length waiting + prefix_len (has_severity true) later = run_of true waiting later alike.1 in
    omega (arith, longer, rest)
run_of false (second ∷ waiting) later alike =
    let longer : prefix_len (has_severity false) (second ∷ (waiting ++ later)) ≡ 1 + prefix_len (has_severity false) (waiting ++ later) =
    ap (λ (s : Bool). cond (beq s false) (1 + prefix_len (has_severity false) (waiting ++ later)) 0) alike.0 in
    let rest : prefix_len (has_severity false) (waiting ++ later) ≡ length waiting + prefix_len (has_severity false) later = run_of false waiting later alike.1 in
    omega (arith, longer, rest)

ten_of : (severe : Bool) (seconds : List Second) (n : ℕ) → prefix_len (has_severity severe) seconds ≡ n → 10 ≤ n → begins_ten severe seconds ≡ true
ten_of severe seconds n is most = le-leb 10 (prefix_len (has_severity severe) seconds) (omega (arith, is, most))

no_ten : (severe : Bool) (seconds : List Second) (n : ℕ) → prefix_len (has_severity severe) seconds ≡ n → n < 10 → begins_ten severe seconds ≡ false
no_ten severe seconds n is few = lt-leb 10 (prefix_len (has_severity severe) seconds) (omega (arith, is, few))

-- where no ten begin, a second is as the time before it
as_before : (before : Bool) (seconds : List Second) → begins_ten true seconds ≡ false → begins_ten false seconds ≡ false → is_unavailable before seconds ≡ before
as_before before seconds no_severe no_other =
    ap (λ (ten : Bool). chosen ten (begins_ten false seconds) before) no_severe ∙ ap (λ (ten : Bool). chosen false ten before) no_other

-- a second of the kind of the time before it goes on with it
goes_on : (before : Bool) (second : Second) (later : List Second) → second.severe ≡ before → is_unavailable before (second ∷ later) ≡ before
goes_on true second later is =
    ap (λ (ten : Bool). chosen (begins_ten true (second ∷ later)) ten true) (no_ten false (second ∷ later) 0 (no_run false second later is) (omega arith))
    ∙ begun (begins_ten true (second ∷ later))
goes_on false second later is =
    ap (λ (ten : Bool). chosen ten (begins_ten false (second ∷ later)) false) (no_ten true (second ∷ later) 0 (no_run true second later is) (omega arith))
    ∙ kept_available (begins_ten false (second ∷ later))

-- ten of the other kind turn it
turns : (before : Bool) (second : Second) (later : List Second) → second.severe ≡ not before → begins_ten (not before) (second ∷ later) ≡ true
    → is_unavailable before (second ∷ later) ≡ not before
turns true second later is ten =
    ap (λ (severe : Bool). chosen severe (begins_ten false (second ∷ later)) true) (no_ten true (second ∷ later) 0 (no_run true second later is) (omega arith))
    ∙ ap (λ (other : Bool). chosen false other true) ten
turns false second later is ten = ap (λ (severe : Bool). chosen severe (begins_ten false (second ∷ later)) false) ten

-- fewer of the other kind don't
stays : (before : Bool) (second : Second) (later : List Second) → second.severe ≡ not before → begins_ten (not before) (second ∷ later) ≡ false
    → is_unavailable before (second ∷ later) ≡ before
stays true second later is few = as_before true (second ∷ later) (no_ten true (second ∷ later) 0 (no_run true second later is) (omega arith)) few
stays false second later is few = as_before false (second ∷ later) few (no_ten false (second ∷ later) 0 (no_run false second later is) (omega arith))

-- what is told of a second goes by whether it is unavailable
told_next : (before now : Bool) (second : Second) (later : List Second) → is_unavailable before (second ∷ later) ≡ now
    → told_after before (second ∷ later) ≡ told_as now second ∷ told_after now later
told_next before now second later is = ap (λ (state : Bool). told_as state second ∷ told_after state later) is

-- seconds of the kind of the time before them
pub told_alike : (state : Bool) (seconds later : List Second) → AreAlike state seconds
    → told_after state (seconds ++ later) ≡ map (told_as state) seconds ++ told_after state later
told_alike state [] later alike = refl
told_alike state (second ∷ seconds) later alike =
    told_next state state second (seconds ++ later) (goes_on state second (seconds ++ later) alike.0)
    ∙ ap (λ (all : List Told). told_as state second ∷ all) (told_alike state seconds later alike.1)

-- seconds that wait, and what ends their run
pub told_short : (state : Bool) (waiting later : List Second) → AreAlike (not state) waiting → length waiting < 10
    → prefix_len (has_severity (not state)) later ≡ 0 → told_after state (waiting ++ later) ≡ map (told_as state) waiting ++ told_after state later
told_short state [] later alike few ended = refl
told_short state (second ∷ waiting) later alike few ended =
    let run = run_of (not state) (second ∷ waiting) later alike in
    let short : begins_ten (not state) (second ∷ (waiting ++ later)) ≡ false =
    no_ten (not state) (second ∷ (waiting ++ later)) (length (second ∷ waiting) + prefix_len (has_severity (not state)) later) run (omega (arith, few, ended)) in
    told_next state state second (waiting ++ later) (stays state second (waiting ++ later) alike.0 short)
    ∙ ap (λ (all : List Told). told_as state second ∷ all) (told_short state waiting later alike.1 (omega (arith, few)) ended)

-- the time before a second that ends a run
pub run_ended : (state : Bool) (second : Second) (later : List Second) → second.severe ≡ state → prefix_len (has_severity (not state)) (second ∷ later) ≡ 0
run_ended true second later is = no_run false second later is
run_ended false second later is = no_run true second later is

-- seconds that wait, and one that ends their run
pub told_broken : (state : Bool) (waiting : List Second) (second : Second) (later : List Second) → AreAlike (not state) waiting → length waiting < 10
    → second.severe ≡ state → told_after state (waiting ++ second ∷ later) ≡ map (told_as state) (waiting ++ second ∷ []) ++ told_after state later
told_broken state waiting second later alike few is =
    told_short state waiting (second ∷ later) alike few (run_ended state second later is)
    ∙ ap (λ (all : List Told). map (told_as state) waiting ++ all) (told_next state state second later (goes_on state second later is))
    ∙ sym (append_assoc (map (told_as state) waiting) (told_as state second ∷ []) (told_after state later))
    ∙ ap (λ (all : List Told). all ++ told_after state later) (sym (map_push (told_as state) waiting second))

-- ten seconds that waited
pub told_turned : (state : Bool) (waiting later : List Second) → AreAlike (not state) waiting → length waiting ≡ 10
    → told_after state (waiting ++ later) ≡ map (told_as (not state)) waiting ++ told_after (not state) later
told_turned state [] later alike ten = absurd (omega (arith, ten))
told_turned state (second ∷ waiting) later alike ten =
    let run = run_of (not state) (second ∷ waiting) later alike in
    let long : begins_ten (not state) (second ∷ (waiting ++ later)) ≡ true =
    ten_of (not state) (second ∷ (waiting ++ later)) (length (second ∷ waiting) + prefix_len (has_severity (not state)) later) run (omega (arith, ten)) in
    told_next state (not state) second (waiting ++ later) (turns state second (waiting ++ later) alike.0 long)
    ∙ ap (λ (all : List Told). told_as (not state) second ∷ all) (told_alike (not state) waiting later alike.1)

-- one more of a kind
pub alike_push : (severe : Bool) (waiting : List Second) (second : Second) → AreAlike severe waiting → second.severe ≡ severe → AreAlike severe (waiting ++ second ∷ [])
alike_push severe [] second alike is = (is, tt)
alike_push severe (first ∷ waiting) second alike is = (alike.0, alike_push severe waiting second alike.1 is)

-- each second is told
pub told_length : (before : Bool) (seconds : List Second) → length (told_after before seconds) ≡ length seconds
told_length before [] = refl
told_length before (second ∷ later) = ap suc (told_length (is_unavailable before (second ∷ later)) later)
