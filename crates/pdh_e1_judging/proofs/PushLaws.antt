-- What a machine stands for that judges a line, with one more bit of it, or with bits that deliver no multiframe.
use Rattle.std.proofs.Common.{◌≡◌, ℕ, suc, ◌+◌, ◌-◌, ◌*◌, ◌^◌, ◌<◌, ◌≤◌, Bool, true, false, List, [], ◌∷◌, ◌++◌, length, get_or, map, take, drop, refl, sym, ap, ◌∙◌, subst, inl, inr, arith, length-append, length-drop}
use Rattle.std.specs.Prelude.{min}
use Rattle.std.specs.List.{range_with_len}
use Rattle.std.proofs.lemmas.Bool.{cases_Bool}
use Rattle.std.proofs.lemmas.List.{take_more, take-append-drop, take-append-le, drop-append-le, length-take-le}
use Rattle.std.proofs.lemmas.List.FromFn.{get_or-map-range_with_len}
use Rattle.std.proofs.Math.Seq.{take-add}
use Rattle.pdh_judging.specs.declared.judged.Judged.{Judged}
use Rattle.pdh_g706.specs.declared.align.E1Align.{E1Align}
use Rattle.pdh_g706.specs.declared.counts.Group.{Group}
use Rattle.pdh_g706.specs.declared.stage.Stage.{Stage}
use Rattle.pdh_g706.specs.declared.stage.Stage.TheVariants as stages
use Rattle.pdh_g706.specs.Frames.{frames_of}
use Rattle.pdh_g706.specs.Tracking.{Share, one_search, e1_far, multiframes_in, counted}
use Rattle.pdh_g706.specs.Machine.{Phase, turn, Waits}
use Rattle.pdh_g706.specs.View as view
use Rattle.pdh_g706.specs.View.{phase_of, phase}
use Rattle.pdh_g706.proofs.PayloadLaws.{payload_fits}
use Rattle.pdh_e1_judging.specs.Judged.{multiframes_of, with_multiframes, e1_judged_in}
use Rattle.pdh_e1_judging.specs.Judging.{is_framed, more_bits, Follows, JudgingStands}
use Rattle.pdh_e1_judging.proofs.ShareLaws.{judged_more, judged_same, still_confirms, one_more}
use Rattle.pdh_e1_judging.proofs.TurnShares.{StandsIn, Delivers, delivers}
use Rattle.pdh_e1_judging.proofs.FollowsLaws.{held_last, Goes, goes, none_came, at_line, in_phase, waited}

-- whether multiframe alignment holds is told by the stage
pub framed_is : (stage : Stage) (held : List Bool) (group : Group) → is_framed (phase_of stage held group) ≡ view.is_framed stage
framed_is stages.Searching held group = refl
framed_is stages.Aligned held group = refl
framed_is stages.Framed held group = refl

-- of those that confirm there are two
pub few_before : (align : E1Align) (came before : ℕ) → came ≤ 2 → (is_framed (phase align) ≡ true → before ≡ came) → (is_framed (phase align) ≡ false → before ≡ 0) → before ≤ 2
few_before align came before few framed unframed = elim (cases_Bool (is_framed (phase align))) [
  | inl holds ↦ omega (arith, few, framed holds)
  | inr other ↦ omega (arith, unframed other)
]

-- what a bit delivers, and what it does
pub delivers_here : (ph : Phase) (line : List Bool) (bit : Bool) → Follows ph line → Delivers (turn ph bit) (line ++ bit ∷ []) (more_bits ph)
delivers_here ph line bit h = let last = held_last ph line h in delivers ph last.0 line bit h.fits last.1

pub goes_here : (ph : Phase) (line : List Bool) (bit : Bool) (h : Follows ph line) → Goes ph line bit h
goes_here ph line bit h = let d = delivers_here ph line bit h in goes ph line bit h d.sized d.pays

-- the count of multiframes doesn't stand yet
pub exact : (ph : Phase) (line : List Bool) (bit : Bool) → Follows ph line → length line + 1 < 2 ^ 64 → multiframes_in line + (turn ph bit).gained.multiframes < 2 ^ 64 - 1
exact ph line bit h short =
    let g = goes_here ph line bit h in
    let long : length (line ++ bit ∷ []) ≡ length line + 1 = length-append line (bit ∷ []) in
    omega (arith, g.counts, g.follows.few, payload_fits (line ++ bit ∷ []), long, short)

-- ---- the multiframes that a bit of a list of bits delivers

abbrev pub delivered_by : E1Align → List Bool → ℕ → List (List (List Bool))
delivered_by align bits place = multiframes_of (turn (phase align) (get_or bits place false)).gained

-- one of them stands in the line
pub in_line : (bits : List Bool) (place start : ℕ) → place < length bits → start + 4096 ≤ place + 1 → take 4096 (drop start (take (place + 1) bits)) ≡ take 4096 (drop start bits)
in_line bits place start inside within =
    let front : List Bool = take (place + 1) bits in
    let size : length front ≡ place + 1 = length-take-le (place + 1) bits (omega arith) in
    sym (
    ap (λ (x : List Bool). take 4096 (drop start x)) (sym (take-append-drop (place + 1) bits))
    ∙ ap (take 4096) (drop-append-le start front (drop (place + 1) bits) (omega arith))
    ∙ take-append-le 4096 (drop start front) (drop (place + 1) bits) (omega (arith, length-drop start front))
    )

-- a bit more was taken
pub next_line : (bits : List Bool) (place : ℕ) → place < length bits → take place bits ++ get_or bits place false ∷ [] ≡ take (place + 1) bits
next_line bits place inside = sym (take_more bits place false inside)

module _ (align : E1Align) (came : ℕ) (judged : Judged) (bits : List Bool) (place : ℕ) (inside : place < length bits) (stands : JudgingStands align came judged (take place bits)) where
  abbrev gained_here : Share
  gained_here = (turn (phase align) (get_or bits place false)).gained

  -- where the multiframe of this number begins
  pub within_line : (m : ℕ) → m < gained_here.multiframes → more_bits (phase align) + 4096 * gained_here.multiframes ≤ place + 1
  within_line m lt =
      let d = delivers_here (phase align) (take place bits) (get_or bits place false) stands.follows in
      let one = d.stand m lt in
      omega (arith, one.within, ap length (next_line bits place inside), length-take-le (place + 1) bits (omega arith))

  pub stands_at : (m : ℕ) → m < gained_here.multiframes
      → get_or (delivered_by align bits place) m [] ≡ frames_of (take 4096 (drop (place + 1 - more_bits (phase align) - 4096 * (gained_here.multiframes - m)) bits))
  stands_at m lt =
      let d = delivers_here (phase align) (take place bits) (get_or bits place false) stands.follows in
      let one = d.stand m lt in
      let more : ℕ = more_bits (phase align) in
      let count : ℕ = gained_here.multiframes in
      let now : List Bool = take place bits ++ get_or bits place false ∷ [] in
      let same : now ≡ take (place + 1) bits = next_line bits place inside in
      let long : length now ≡ place + 1 = ap length same ∙ length-take-le (place + 1) bits (omega arith) in
      get_or-map-range_with_len (λ k. take 16 (drop (16 * k) gained_here.signs.frames)) 0 count m m [] lt (omega arith)
      ∙ one.is
      ∙ ap (λ k. frames_of (take 4096 (drop (k - more - 4096 * (count - m)) now))) long
      ∙ ap (λ (x : List Bool). frames_of (take 4096 (drop (place + 1 - more - 4096 * (count - m)) x))) same
      ∙ ap frames_of (in_line bits place (place + 1 - more - 4096 * (count - m)) inside (omega (arith, within_line m lt, lt)))

  -- the machine stands for the line with the bit, where these multiframes were judged behind those that confirm
  pub judging_push : (now : E1Align) (before after : ℕ) (judged' : Judged) → phase now ≡ (turn (phase align) (get_or bits place false)).phase → now.held.capacity ≡ 16384
      → now.counts.multiframes ≡ counted (multiframes_in (take place bits) + gained_here.multiframes) → (is_framed (phase align) ≡ true → before ≡ came) → (is_framed (phase align) ≡ false → before ≡ 0)
      → after ≡ min 2 (before + gained_here.multiframes) → judged' ≡ with_multiframes judged (drop (2 - before) (delivered_by align bits place))
      → JudgingStands now after judged' (take (place + 1) bits)
  judging_push now before after judged' phase_is room counts framed unframed after_is judged_are =
      let line : List Bool = take place bits in
      let bit : Bool = get_or bits place false in
      let g = goes_here (phase align) line bit stands.follows in
      let m : ℕ = (one_search stands.follows.since).multiframes in
      let same : line ++ bit ∷ [] ≡ take (place + 1) bits = next_line bits place inside in
      let before_is : before ≡ min 2 m = elim (cases_Bool (is_framed (phase align))) [
        | inl holds ↦ framed holds ∙ stands.came_is holds
        | inr other ↦ (let none : m ≡ 0 = none_came (phase align) line stands.follows other in omega (arith, unframed other, none))
      ] in
      record {
        follows = at_line (phase now) (line ++ bit ∷ []) (take (place + 1) bits) same (in_phase (turn (phase align) bit).phase (phase now) (line ++ bit ∷ []) (sym phase_is) g.follows);
        room = room;
        counts = counts ∙ ap counted (sym g.counts ∙ ap multiframes_in same);
        came_is = λ holds. (let grown = g.came (ap is_framed (sym phase_is) ∙ holds) in omega (arith, grown, after_is, before_is));
        few_came = omega (arith, after_is);
        judged_is = judged_are ∙ ap (λ n. with_multiframes judged (drop (2 - n) (delivered_by align bits place))) before_is
            ∙ judged_more line (line ++ bit ∷ []) (drop (2 - min 2 m) (delivered_by align bits place)) judged stands.judged_is g.judged ∙ ap e1_judged_in same;
      }

-- bits that deliver none were taken
pub judging_skip : (align : E1Align) (came : ℕ) (judged : Judged) (bits : List Bool) (place : ℕ) → JudgingStands align came judged (take place bits) → (now : E1Align) (count : ℕ)
    → Waits (phase align) (take count (drop place bits)) (phase now) → now.held.capacity ≡ 16384 → now.counts.multiframes ≡ align.counts.multiframes
    → JudgingStands now came judged (take (place + count) bits)
judging_skip align came judged bits place stands now count waits room counts =
    let line : List Bool = take place bits in
    let piece : List Bool = take count (drop place bits) in
    let w = waited (phase align) (phase now) line piece stands.follows waits in
    let same : line ++ piece ≡ take (place + count) bits = sym (take-add place count bits) in
    record {
      follows = at_line (phase now) (line ++ piece) (take (place + count) bits) same w.follows;
      room = room;
      counts = counts ∙ stands.counts ∙ ap counted (sym w.counts ∙ ap multiframes_in same);
      came_is = λ holds. (let was = w.came holds in stands.came_is was.0 ∙ ap (min 2) (sym was.1));
      few_came = stands.few_came;
      judged_is = judged_same line (line ++ piece) judged stands.judged_is w.judged ∙ ap e1_judged_in same;
    }
