-- The delivered frames of a line with one bit more, or with bits by which no frame is delivered.
use Rattle.std.proofs.Common.{◌≡◌, ℕ, suc, ◌+◌, ◌-◌, ◌<◌, Bool, List, [], ◌∷◌, ◌++◌, length, map, take, refl, ap, sym, ◌∙◌, subst, arith, append_assoc, append-nil}
use Rattle.std.specs.Prelude.{fold}
use Rattle.std.specs.List.{slice_index_or}
use Rattle.std.proofs.lemmas.List.{take_more, map-append}
use Rattle.std.proofs.lemmas.List.Sums.{fold-append}
use Rattle.pdh_shape.specs.Frame.{FrameShape, IsFrame}
use Rattle.pdh_line.specs.Tracking.{Piece, track}
use Rattle.pdh_line.specs.Tracking.Piece.{Gap, Delivered}
use Rattle.pdh_line.proofs.RightLines.{track-short}
use Rattle.pdh_align.specs.declared.step.Step.{Step}
use Rattle.pdh_align.specs.declared.step.Step.TheVariants.{Nothing, Rejected, Aligned, Frame, Lost}
use Rattle.pdh_align.specs.Aligning.{Held, StandsFor, Grows, Waits, Passes, frame_back}
use Rattle.pdh_delivered.specs.Deliveries.{Delivery, deliveries_behind, deliveries, last_with, last_of, gained, Glides}

-- ---- pieces that are added

behind-append : (last : List Bool) (xs ys : List Piece) → deliveries_behind last (xs ++ ys) ≡ deliveries_behind last xs ++ deliveries_behind (last_of last xs) ys
behind-append last [] ys = refl
behind-append last (Gap n ∷ xs) ys = behind-append [] xs ys
behind-append last (Delivered frame ∷ xs) ys = ap (λ (rest : List Delivery). record { before = last; frame = frame } ∷ rest) (behind-append frame xs ys)

-- a gap that grows
gap_same : (others : List Piece) (m n : ℕ) → deliveries_behind [] (others ++ Gap m ∷ []) ≡ deliveries_behind [] (others ++ Gap n ∷ [])
gap_same others m n = behind-append [] others (Gap m ∷ []) ∙ sym (behind-append [] others (Gap n ∷ []))

gap_last : (others : List Piece) (n : ℕ) → last_of [] (others ++ Gap n ∷ []) ≡ []
gap_last others n = fold-append last_with [] others (Gap n ∷ [])

-- what came is what came before and what a step brought
pub record Gains (step : Step) (ready : List (List Bool)) (before after : List Piece) : Type 0 where
  pub frames : deliveries_behind [] after ≡ deliveries_behind [] before ++ deliveries_behind (last_of [] before) (gained step ready)
  pub last : last_of [] after ≡ last_of (last_of [] before) (gained step ready)

-- pieces that are appended
appended : (step : Step) (ready : List (List Bool)) (before after : List Piece) → after ≡ before ++ gained step ready → Gains step ready before after
appended step ready before after is = record {
  frames = ap (deliveries_behind []) is ∙ behind-append [] before (gained step ready);
  last = ap (last_of []) is ∙ fold-append last_with [] before (gained step ready);
}

pub gains : (step : Step) (ready : List (List Bool)) (before after : List Piece) → Grows step ready before after → Gains step ready before after
gains Nothing ready before after g = appended Nothing ready before after (g.1 ∙ sym (append-nil before))
gains Rejected ready before after g = record {
  frames = ap (deliveries_behind []) g.4 ∙ gap_same g.0 (suc g.1) g.1 ∙ ap (deliveries_behind []) (sym g.3) ∙ sym (append-nil (deliveries_behind [] before));
  last = ap (last_of []) g.4 ∙ gap_last g.0 (suc g.1) ∙ sym (gap_last g.0 g.1) ∙ ap (last_of []) (sym g.3);
}
gains Aligned ready before after g = appended Aligned ready before after g.4
gains Frame ready before after g = appended Frame ready before after g.4
gains Lost ready before after g = appended Lost ready before after g.4

-- ---- lines

-- a line of no bit
pub none_behind : (s : FrameShape) → IsFrame s → track s [] ≡ Gap 0 ∷ []
none_behind s shape = track-short s [] (omega (arith, shape.some_slots))

pub no_deliveries : (s : FrameShape) → IsFrame s → deliveries s [] ≡ []
unfolding deliveries
no_deliveries s shape = ap (deliveries_behind []) (none_behind s shape)

-- a visitor that is shown what a step brought
pub shown_more : {V : Type 0} (s : FrameShape) (shown : V → Delivery → V) (first was is : V) (step : Step) (ready : List (List Bool)) (last : List Bool) (line more : List Bool)
    → Gains step ready (track s line) (track s more) → last ≡ last_of [] (track s line) → was ≡ fold shown first (deliveries s line)
    → is ≡ fold shown was (deliveries_behind last (gained step ready)) → is ≡ fold shown first (deliveries s more)
unfolding deliveries
shown_more {V} s shown first was is step ready last line more gains last_is was_is shown_is =
    shown_is
    ∙ ap (λ (l : List Bool). fold shown was (deliveries_behind l (gained step ready))) last_is
    ∙ ap (λ (v : V). fold shown v (deliveries_behind (last_of [] (track s line)) (gained step ready))) was_is
    ∙ sym (fold-append shown first (deliveries_behind [] (track s line)) (deliveries_behind (last_of [] (track s line)) (gained step ready)))
    ∙ ap (fold shown first) (sym gains.frames)

-- ---- bits that are taken or passed over

pub glides_waits : (s : FrameShape) (after : Held) (line bits : List Bool) → Waits s after bits line → Glides s after line bits
unfolding deliveries
glides_waits s after line bits waits = record { stands = waits.stands; same = ap (deliveries_behind []) waits.same; last = ap (last_of []) waits.same }

pub glides_passes : (s : FrameShape) (after : Held) (line bits : List Bool) → Passes s after bits line → Glides s after line bits
unfolding deliveries
glides_passes s after line bits passes = record {
  stands = passes.stands;
  same = ap (deliveries_behind []) passes.is ∙ gap_same passes.others (passes.gap + length bits) passes.gap ∙ ap (deliveries_behind []) (sym passes.was);
  last = ap (last_of []) passes.is ∙ gap_last passes.others (passes.gap + length bits) ∙ sym (gap_last passes.others passes.gap) ∙ ap (last_of []) (sym passes.was);
}

pub glides_join : (s : FrameShape) (between after : Held) (line a b all : List Bool) → a ++ b ≡ all → Glides s between line a → Glides s after (line ++ a) b → Glides s after line all
glides_join s between after line a b all is first second =
    let whole : (line ++ a) ++ b ≡ line ++ all = append_assoc line a b ∙ ap (λ (l : List Bool). line ++ l) is in
    record {
      stands = subst (λ (l : List Bool). StandsFor s after l) whole second.stands;
      same = ap (λ (l : List Bool). deliveries s l) (sym whole) ∙ second.same ∙ first.same;
      last = ap (λ (l : List Bool). last_of [] (track s l)) (sym whole) ∙ second.last ∙ first.last;
    }

-- ---- ready frames, one by one

one_more : (ready : List (List Bool)) (n back : ℕ) → n < length ready → length ready - suc back ≡ n
    → map Delivered (take (n + 1) ready) ≡ map Delivered (take n ready) ++ Delivered (frame_back ready back) ∷ []
one_more ready n back inside is =
    ap (map Delivered) (take_more ready n [] inside) ∙ map-append Delivered (take n ready) (slice_index_or ready n [] ∷ [])
    ∙ ap (λ k. map Delivered (take n ready) ++ Delivered (slice_index_or ready k []) ∷ []) (sym is)

-- with the next of them
pub next_shown : {V : Type 0} (shown : V → Delivery → V) (first was is : V) (last front : List Bool) (ready : List (List Bool)) (n back : ℕ)
    → n < length ready → length ready - suc back ≡ n
    → was ≡ fold shown first (deliveries_behind last (map Delivered (take n ready))) → front ≡ last_of last (map Delivered (take n ready))
    → is ≡ shown was (record { before = front; frame = frame_back ready back }) → is ≡ fold shown first (deliveries_behind last (map Delivered (take (n + 1) ready)))
next_shown {V} shown first was is last front ready n back inside place was_is front_is shown_is =
    let some : List Piece = map Delivered (take n ready) in
    let one : List Piece = Delivered (frame_back ready back) ∷ [] in
    shown_is
    ∙ ap (λ (l : List Bool). shown was (record { before = l; frame = frame_back ready back })) front_is
    ∙ ap (λ (v : V). shown v (record { before = last_of last some; frame = frame_back ready back })) was_is
    ∙ sym (fold-append shown first (deliveries_behind last some) (deliveries_behind (last_of last some) one))
    ∙ ap (fold shown first) (sym (behind-append last some one) ∙ ap (deliveries_behind last) (sym (one_more ready n back inside place)))

pub next_last : (last front : List Bool) (ready : List (List Bool)) (n back : ℕ) → n < length ready → length ready - suc back ≡ n
    → front ≡ frame_back ready back → front ≡ last_of last (map Delivered (take (n + 1) ready))
next_last last front ready n back inside place is =
    is ∙ sym (fold-append last_with last (map Delivered (take n ready)) (Delivered (frame_back ready back) ∷ []))
    ∙ ap (last_of last) (sym (one_more ready n back inside place))
