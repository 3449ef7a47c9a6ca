-- What is judged of a line with one bit more, or with bits by which no frame is judged.
use Rattle.std.proofs.Common.{◌≡◌, inl, inr, ℕ, suc, ◌+◌, ◌≤◌, Bool, true, false, ◌&&◌, List, [], ◌∷◌, ◌++◌, length, map, refl, ap, sym, ◌∙◌, subst, arith, append_assoc, add_assoc, zero-add, add-zero}
use Rattle.std.specs.Prelude.{nat_le, if◌then◌else◌, fold}
use Rattle.std.proofs.lemmas.Bool.{le-leb}
use Rattle.std.proofs.lemmas.List.Sums.{fold-append}
use Rattle.pdh_shape.specs.Frame.{FrameShape, IsFrame, is_right}
use Rattle.pdh_line.specs.Tracking.{Piece, track}
use Rattle.pdh_line.specs.Tracking.Piece.{Gap, Delivered}
use Rattle.pdh_line.proofs.RightLines.{track-short}
use Rattle.pdh_align.specs.declared.step.Step.{Step}
use Rattle.pdh_align.specs.declared.step.Step.TheVariants.{Nothing, Rejected, Aligned, Frame, Lost}
use Rattle.pdh_align.specs.Aligning.{Held, StandsFor, Grows, Waits, Passes}
use Rattle.pdh_judging.specs.declared.judged.Judged.{Judged}
use Rattle.pdh_judging.specs.Judged.{run_with, run_of, count_judged, is_any, is_right_frame, capped, judged_of, judged_in, with_frame, after_step, IsRun, Judges, Glides}

-- ---- pieces that are added

count-append : (test : Piece → Bool) (run : ℕ) (xs ys : List Piece) → count_judged test run (xs ++ ys) ≡ count_judged test run xs + count_judged test (fold run_with run xs) ys
count-append test run [] ys = sym (zero-add (count_judged test run ys))
count-append test run (x ∷ xs) ys =
    ap (λ n. (if nat_le 3 run && test x then 1 else 0) + n) (count-append test (run_with run x) xs ys)
    ∙ sym (add_assoc (if nat_le 3 run && test x then 1 else 0) (count_judged test (run_with run x) xs) (count_judged test (fold run_with (run_with run x) xs) ys))

-- one piece
count_push : (test : Piece → Bool) (pieces : List Piece) (piece : Piece)
    → count_judged test 0 (pieces ++ piece ∷ []) ≡ count_judged test 0 pieces + (if nat_le 3 (run_of pieces) && test piece then 1 else 0)
count_push test pieces piece =
    let all : count_judged test 0 (pieces ++ piece ∷ []) ≡ count_judged test 0 pieces + ((if nat_le 3 (run_of pieces) && test piece then 1 else 0) + 0) = count-append test 0 pieces (piece ∷ []) in
    all ∙ ap (λ n. count_judged test 0 pieces + n) (add-zero (if nat_le 3 (run_of pieces) && test piece then 1 else 0))

run_push : (pieces : List Piece) (piece : Piece) → run_of (pieces ++ piece ∷ []) ≡ run_with (run_of pieces) piece
run_push pieces piece = fold-append run_with 0 pieces (piece ∷ [])

-- a gap that grows
gap_count : (test : Piece → Bool) (others : List Piece) (m n : ℕ) → test (Gap m) ≡ test (Gap n) → count_judged test 0 (others ++ Gap m ∷ []) ≡ count_judged test 0 (others ++ Gap n ∷ [])
gap_count test others m n same =
    count_push test others (Gap m)
    ∙ ap (λ (b : Bool). count_judged test 0 others + (if nat_le 3 (run_of others) && b then 1 else 0)) same
    ∙ sym (count_push test others (Gap n))

judged_is : (s : FrameShape) (a b : List Piece) → count_judged is_any 0 a ≡ count_judged is_any 0 b → count_judged (is_right_frame s) 0 a ≡ count_judged (is_right_frame s) 0 b
    → judged_of s a ≡ judged_of s b
judged_is s a b frames right = λ i. record { frames = capped (frames i); right = capped (right i) }

gap_judged : (s : FrameShape) (others : List Piece) (m n : ℕ) → judged_of s (others ++ Gap m ∷ []) ≡ judged_of s (others ++ Gap n ∷ [])
gap_judged s others m n = judged_is s (others ++ Gap m ∷ []) (others ++ Gap n ∷ []) (gap_count is_any others m n refl) (gap_count (is_right_frame s) others m n refl)

gap_run : (others : List Piece) (n : ℕ) → run_of (others ++ Gap n ∷ []) ≡ 0
gap_run others n = run_push others (Gap n)

-- ---- the runs of delivered frames

-- those that end with a delivered frame end with three
three_of : (others : List Piece) (last : List Bool) → IsRun (run_of (others ++ Delivered last ∷ [])) → 3 ≤ run_of (others ++ Delivered last ∷ [])
three_of others last run = elim run [
  | inl none ↦ let some : run_of (others ++ Delivered last ∷ []) ≡ suc (run_of others) = run_push others (Delivered last) in absurd (omega (arith, some, none))
  | inr three ↦ three
]

-- ---- the steps

-- the three frames that confirm an alignment aren't judged
three_count : (test : Piece → Bool) (pieces : List Piece) (ready : List (List Bool)) → length ready ≡ 3 → run_of pieces ≡ 0
    → count_judged test 0 (pieces ++ map Delivered ready) ≡ count_judged test 0 pieces
three_count test pieces (a ∷ b ∷ c ∷ []) three none =
    let all : count_judged test 0 (pieces ++ map Delivered (a ∷ b ∷ c ∷ [])) ≡ count_judged test 0 pieces + count_judged test (run_of pieces) (map Delivered (a ∷ b ∷ c ∷ [])) =
    count-append test 0 pieces (map Delivered (a ∷ b ∷ c ∷ [])) in
    let nothing : count_judged test (run_of pieces) (map Delivered (a ∷ b ∷ c ∷ [])) ≡ 0 = ap (λ run. count_judged test run (map Delivered (a ∷ b ∷ c ∷ []))) none in
    omega (arith, all, nothing)
three_count test pieces [] three none = absurd (omega (arith, three))
three_count test pieces (a ∷ []) three none = absurd (omega (arith, three))
three_count test pieces (a ∷ b ∷ []) three none = absurd (omega (arith, three))
three_count test pieces (a ∷ b ∷ c ∷ d ∷ ready) three none = absurd (omega (arith, three))

three_run : (pieces : List Piece) (ready : List (List Bool)) → length ready ≡ 3 → 3 ≤ run_of (pieces ++ map Delivered ready)
three_run pieces (a ∷ b ∷ c ∷ []) three =
    let all : run_of (pieces ++ map Delivered (a ∷ b ∷ c ∷ [])) ≡ suc (suc (suc (run_of pieces))) = fold-append run_with 0 pieces (map Delivered (a ∷ b ∷ c ∷ [])) in
    omega (arith, all)
three_run pieces [] three = absurd (omega (arith, three))
three_run pieces (a ∷ []) three = absurd (omega (arith, three))
three_run pieces (a ∷ b ∷ []) three = absurd (omega (arith, three))
three_run pieces (a ∷ b ∷ c ∷ d ∷ ready) three = absurd (omega (arith, three))

-- a piece behind three
fourth_count : (test : Piece → Bool) (pieces : List Piece) (piece : Piece) → 3 ≤ run_of pieces
    → count_judged test 0 (pieces ++ piece ∷ []) ≡ count_judged test 0 pieces + (if test piece then 1 else 0)
fourth_count test pieces piece three =
    count_push test pieces piece
    ∙ ap (λ (b : Bool). count_judged test 0 pieces + (if b && test piece then 1 else 0)) (le-leb 3 (run_of pieces) three)

-- one more of a count that may stand
capped_more : (n : ℕ) → capped (n + 1) ≡ capped (capped n + 1)
capped_more n = omega arith

capped_if : (n : ℕ) (b : Bool) → capped (n + (if b then 1 else 0)) ≡ (if b then capped (capped n + 1) else capped n)
capped_if n true = capped_more n
capped_if n false = omega arith

fourth_judged : (s : FrameShape) (pieces : List Piece) (piece : Piece) → 3 ≤ run_of pieces
    → judged_of s (pieces ++ piece ∷ []) ≡ with_frame (judged_of s pieces) (is_right_frame s piece)
fourth_judged s pieces piece three =
    let all : ℕ = count_judged is_any 0 pieces in
    let right : ℕ = count_judged (is_right_frame s) 0 pieces in
    let more : capped (count_judged is_any 0 (pieces ++ piece ∷ [])) ≡ capped (capped all + 1) = ap capped (fourth_count is_any pieces piece three) ∙ capped_more all in
    let more_right : capped (count_judged (is_right_frame s) 0 (pieces ++ piece ∷ [])) ≡ (if is_right_frame s piece then capped (capped right + 1) else capped right) =
    ap capped (fourth_count (is_right_frame s) pieces piece three) ∙ capped_if right (is_right_frame s piece) in
    λ i. record { frames = more i; right = more_right i }

-- the judged frames and the run after a step, by what the pieces gained
record Goes (s : FrameShape) (step : Step) (ready : List (List Bool)) (before after : List Piece) : Type 0 where
  pub judged : judged_of s after ≡ after_step s (judged_of s before) step ready
  pub run : IsRun (run_of after)

goes : (s : FrameShape) (step : Step) (ready : List (List Bool)) (before after : List Piece) → IsRun (run_of before) → Grows step ready before after → Goes s step ready before after
goes s Nothing ready before after run g = record { judged = ap (judged_of s) g.1; run = subst (λ (p : List Piece). IsRun (run_of p)) (sym g.1) run }
goes s Rejected ready before after run g = record {
  judged = ap (judged_of s) g.4 ∙ gap_judged s g.0 (suc g.1) g.1 ∙ ap (judged_of s) (sym g.3);
  run = inl (ap run_of g.4 ∙ gap_run g.0 (suc g.1));
}
goes s Aligned ready before after run g =
    let none : run_of before ≡ 0 = ap run_of g.3 ∙ gap_run g.0 g.1 in
    record {
      judged = ap (judged_of s) g.4
          ∙ judged_is s (before ++ map Delivered ready) before (three_count is_any before ready g.2 none) (three_count (is_right_frame s) before ready g.2 none);
      run = inr (subst (λ (p : List Piece). 3 ≤ run_of p) (sym g.4) (three_run before ready g.2));
    }
goes s Frame [] before after run g = absurd (omega (arith, g.2))
goes s Frame (frame ∷ []) before after run g =
    let three : 3 ≤ run_of before = subst (λ (p : List Piece). 3 ≤ run_of p) (sym g.3) (three_of g.0 g.1 (subst (λ (p : List Piece). IsRun (run_of p)) g.3 run)) in
    let more : run_of after ≡ suc (run_of before) = ap run_of g.4 ∙ run_push before (Delivered frame) in
    record {
      judged = ap (judged_of s) g.4 ∙ fourth_judged s before (Delivered frame) three;
      run = inr (omega (arith, more, three));
    }
goes s Frame (frame ∷ next ∷ ready) before after run g = absurd (omega (arith, g.2))
goes s Lost ready before after run g =
    let three : 3 ≤ run_of before = subst (λ (p : List Piece). 3 ≤ run_of p) (sym g.3) (three_of g.0 g.1 (subst (λ (p : List Piece). IsRun (run_of p)) g.3 run)) in
    record {
      judged = ap (judged_of s) g.4 ∙ fourth_judged s before (Gap 0) three;
      run = inl (ap run_of g.4 ∙ gap_run before 0);
    }

-- a bit that makes a step
pub judges_step : (s : FrameShape) (judged now : Judged) (step : Step) (ready : List (List Bool)) (before after : List Bool) → Judges s judged before
    → Grows step ready (track s before) (track s after) → now ≡ after_step s judged step ready → Judges s now after
unfolding judged_in
judges_step s judged now step ready before after judges grows is =
    let gone = goes s step ready (track s before) (track s after) judges.run grows in
    record {
      judged_is = is ∙ ap (λ (j : Judged). after_step s j step ready) judges.judged_is ∙ sym gone.judged;
      run = gone.run;
    }

-- a line of no bit
pub judges_none : (s : FrameShape) → IsFrame s → Judges s (record { frames = 0; right = 0 }) []
unfolding judged_in
judges_none s shape =
    let none : track s [] ≡ Gap 0 ∷ [] = track-short s [] (omega (arith, shape.some_slots)) in
    record {
      judged_is = sym (ap (judged_of s) none);
      run = inl (ap run_of none);
    }

-- ---- bits that are taken or passed over

pub judges_waits : (s : FrameShape) (after : Held) (judged : Judged) (line bits : List Bool) → Waits s after bits line → Judges s judged line → Judges s judged (line ++ bits)
unfolding judged_in
judges_waits s after judged line bits waits judges = record {
  judged_is = judges.judged_is ∙ ap (judged_of s) (sym waits.same);
  run = subst (λ (p : List Piece). IsRun (run_of p)) (sym waits.same) judges.run;
}

pub judges_passes : (s : FrameShape) (after : Held) (judged : Judged) (line bits : List Bool) → Passes s after bits line → Judges s judged line → Judges s judged (line ++ bits)
unfolding judged_in
judges_passes s after judged line bits passes judges =
    let gap = passes.gap + length bits in
    record {
      judged_is = judges.judged_is ∙ ap (judged_of s) passes.was ∙ gap_judged s passes.others passes.gap gap ∙ ap (judged_of s) (sym passes.is);
      run = inl (ap run_of passes.is ∙ gap_run passes.others gap);
    }

pub glides_waits : (s : FrameShape) (after : Held) (line bits : List Bool) → Waits s after bits line → Glides s after line bits
glides_waits s after line bits waits = record { stands = waits.stands; judges = λ judged judges. judges_waits s after judged line bits waits judges }

pub glides_passes : (s : FrameShape) (after : Held) (line bits : List Bool) → Passes s after bits line → Glides s after line bits
glides_passes s after line bits passes = record { stands = passes.stands; judges = λ judged judges. judges_passes s after judged line bits passes judges }

pub glides_join : (s : FrameShape) (between after : Held) (line a b all : List Bool) → a ++ b ≡ all → Glides s between line a → Glides s after (line ++ a) b → Glides s after line all
glides_join s between after line a b all is first second =
    let whole : (line ++ a) ++ b ≡ line ++ all = append_assoc line a b ∙ ap (λ (l : List Bool). line ++ l) is in
    record {
      stands = subst (λ (l : List Bool). StandsFor s after l) whole second.stands;
      judges = λ judged judges. subst (λ (l : List Bool). Judges s judged l) whole (second.judges judged (first.judges judged judges));
    }
