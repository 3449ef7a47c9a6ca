-- What the machine holds stands for the received bits, and a turn gains what their tracking gains.
use Rattle.std.proofs.Common.{◌≡◌, ℕ, ◌+◌, Bool, false, List, [], ◌∷◌, ◌++◌, refl, sym, ap, ◌∙◌, subst, inl, inr, arith, append_assoc}
use Rattle.std.specs.Prelude.{flat_map}
use Rattle.std.specs.List.{sum_by}
use Rattle.std.proofs.lemmas.List.{append-nil}
use Rattle.std.proofs.lemmas.List.Sums.{sum_by-append, sum_by-cons}
use Rattle.std.proofs.lemmas.Grind.{flat_map-append}
use Rattle.pdh_edge.specs.Ports.{IsPrefix}
use Rattle.pdh_g706.specs.Frames.{is_found}
use Rattle.pdh_g706.specs.Tracking.{Signs, Share, is_over, one_search, after_search, track, e1_far, multiframes_in, blocks_in, errors_in, signs_in, counted}
use Rattle.pdh_g706.specs.Machine.{Phase, Describes, Holds, Grows, no_signs, nothing, add_signs, turn}
use Rattle.pdh_g706.specs.Machine.Phase.{Searching, Aligned, Framed}
use Rattle.pdh_g706.proofs.GrowthLaws.{add, share_same}
use Rattle.pdh_g706.proofs.SignLaws.{signs_same, add_signs_assoc}
use Rattle.pdh_g706.proofs.SearchLaws.{short_search}
use Rattle.pdh_g706.proofs.TrackLaws.{not_over, track_open, track_over-append}
use Rattle.pdh_g706.proofs.TurnLaws.{turn_next, one_search_none, describes_short, add_nothing}

-- ---- totals

abbrev totals_shown : List Share → Signs
totals_shown shares = record {
  alignments = sum_by (λ (s : Share). s.signs.alignments) shares;
  losses = sum_by (λ (s : Share). s.signs.losses) shares;
  false_alignments = sum_by (λ (s : Share). s.signs.false_alignments) shares;
  verdicts = flat_map (λ (s : Share). s.signs.verdicts) shares;
  frames = flat_map (λ (s : Share). s.signs.frames) shares;
}

abbrev totals : List Share → Share
totals shares = record {
  payload = flat_map (λ (s : Share). s.payload) shares;
  multiframes = sum_by (λ (s : Share). s.multiframes) shares;
  blocks = sum_by (λ (s : Share). s.blocks) shares;
  errored = sum_by (λ (s : Share). s.errored) shares;
  signs = totals_shown shares;
}

-- one more share
total_more : (field : Share → ℕ) (xs : List Share) (s : Share) → sum_by field (xs ++ s ∷ []) ≡ sum_by field xs + field s
total_more field xs s = sum_by-append field xs (s ∷ []) ∙ ap (λ n. sum_by field xs + n) (sum_by-cons field s [] ∙ omega arith)

list_more : {X : Type 0} (field : Share → List X) (xs : List Share) (s : Share) → flat_map field (xs ++ s ∷ []) ≡ flat_map field xs ++ field s
list_more field xs s = flat_map-append field xs (s ∷ []) ∙ ap (λ x. flat_map field xs ++ x) (append-nil (field s))

shown_more : (xs : List Share) (s : Share) → totals_shown (xs ++ s ∷ []) ≡ add_signs (totals_shown xs) s.signs
shown_more xs s =
    signs_same _ _ _ _ _ _ (flat_map (λ (s : Share). s.signs.verdicts) (xs ++ s ∷ [])) (flat_map (λ (s : Share). s.signs.verdicts) xs ++ s.signs.verdicts)
    (flat_map (λ (s : Share). s.signs.frames) (xs ++ s ∷ [])) (flat_map (λ (s : Share). s.signs.frames) xs ++ s.signs.frames)
    (total_more (λ (s : Share). s.signs.alignments) xs s) (total_more (λ (s : Share). s.signs.losses) xs s) (total_more (λ (s : Share). s.signs.false_alignments) xs s)
    (list_more (λ (s : Share). s.signs.verdicts) xs s) (list_more (λ (s : Share). s.signs.frames) xs s)

totals_more : (xs : List Share) (s : Share) → totals (xs ++ s ∷ []) ≡ add (totals xs) s
totals_more xs s =
    share_same (flat_map (λ (s : Share). s.payload) (xs ++ s ∷ [])) (flat_map (λ (s : Share). s.payload) xs ++ s.payload) _ _ _ _ _ _ (totals_shown (xs ++ s ∷ [])) (add_signs (totals_shown xs) s.signs)
    (list_more (λ (s : Share). s.payload) xs s)
    (total_more (λ (s : Share). s.multiframes) xs s) (total_more (λ (s : Share). s.blocks) xs s) (total_more (λ (s : Share). s.errored) xs s) (shown_more xs s)

add_assoc : (a b c : Share) → add (add a b) c ≡ add a (add b c)
add_assoc a b c =
    share_same ((a.payload ++ b.payload) ++ c.payload) (a.payload ++ (b.payload ++ c.payload)) _ _ _ _ _ _ (add_signs (add_signs a.signs b.signs) c.signs) (add_signs a.signs (add_signs b.signs c.signs)) (append_assoc a.payload b.payload c.payload)
    (sums a.multiframes b.multiframes c.multiframes) (sums a.blocks b.blocks c.blocks) (sums a.errored b.errored c.errored) (add_signs_assoc a.signs b.signs c.signs)
  where
    sums : (x y z : ℕ) → x + y + z ≡ x + (y + z)
    sums x y z = omega arith

-- shares that grow by what was gained
grows_from : (before after : List Bool) (g : Share) → totals (track after) ≡ add (totals (track before)) g → Grows g before after
unfolding e1_far multiframes_in blocks_in errors_in signs_in
grows_from before after g e = record {
  payload_is = ap (λ (s : Share). s.payload) e;
  multiframes_are = ap (λ (s : Share). s.multiframes) e;
  blocks_are = ap (λ (s : Share). s.blocks) e;
  errored_are = ap (λ (s : Share). s.errored) e;
  signs_are = ap (λ (s : Share). s.signs) e;
}

-- ---- the settled searches and the last one

-- the search that the machine is in isn't over
open_phase : (phase : Phase) (since : List Bool) → Describes phase since → is_over since ≡ false
open_phase (Searching held) since d = not_over since d.found
open_phase (Aligned held) since d = d.0.kept_on
open_phase (Framed held group wrong) since d = d.0.kept_on

stands_now : (phase : Phase) (line : List Bool) (h : Holds phase line) → track line ≡ h.settled ++ one_search h.since ∷ []
stands_now phase line h =
    ap track (sym (append-nil line)) ∙ h.splits [] ∙ ap (λ (x : List Bool). h.settled ++ track x) (append-nil h.since)
    ∙ ap (λ (x : List Share). h.settled ++ x) (track_open h.since (open_phase phase h.since h.describes))

stands_push : (phase : Phase) (line : List Bool) (h : Holds phase line) (bit : Bool) (more : List Bool)
    → track (line ++ bit ∷ [] ++ more) ≡ h.settled ++ track (h.since ++ bit ∷ [] ++ more)
stands_push phase line h bit more =
    ap track (append_assoc line (bit ∷ []) more) ∙ h.splits (bit ∷ more) ∙ ap (λ (x : List Bool). h.settled ++ track x) (sym (append_assoc h.since (bit ∷ []) more))

-- a machine that has taken no bit
pub holds_empty : Holds (Searching []) []
holds_empty = record {
  settled = [];
  since = [];
  splits = λ more. refl;
  describes = describes_short [] (omega arith);
  fits = omega arith;
}

-- the totals with a bit more, by those before it
gained : (phase : Phase) (line : List Bool) (bit : Bool) (g : Share) (h : Holds phase line) → one_search (h.since ++ bit ∷ []) ≡ add (one_search h.since) g
    → add (totals h.settled) (one_search (h.since ++ bit ∷ [])) ≡ add (totals (track line)) g
gained phase line bit g h grows =
    ap (add (totals h.settled)) grows ∙ sym (add_assoc (totals h.settled) (one_search h.since) g)
    ∙ ap (λ (x : Share). add x g) (sym (ap totals (stands_now phase line h) ∙ totals_more h.settled (one_search h.since)))

pub holds_turn : (phase : Phase) (line : List Bool) (bit : Bool) → Holds phase line → Holds (turn phase bit).phase (line ++ bit ∷ []) × Grows (turn phase bit).gained line (line ++ bit ∷ [])
holds_turn phase line bit h =
    let next = turn_next phase h.since bit h.describes h.fits in
    let since' : List Bool = h.since ++ bit ∷ [] in
    let now : track (line ++ bit ∷ []) ≡ h.settled ++ track since' = h.splits (bit ∷ []) in
    let more : add (totals h.settled) (one_search since') ≡ add (totals (track line)) (turn phase bit).gained = gained phase line bit (turn phase bit).gained h next.grows in
    elim next.way [
      | inl on ↦ (
        record { settled = h.settled; since = since'; splits = stands_push phase line h bit; describes = on.1; fits = next.fits },
        grows_from line (line ++ bit ∷ []) (turn phase bit).gained
            (ap totals (now ∙ ap (λ (x : List Share). h.settled ++ x) (track_open since' on.0)) ∙ totals_more h.settled (one_search since') ∙ more),
      )
      | inr over ↦
          let rest : List Bool = after_search since' in
          let pieces : List Share = h.settled ++ one_search since' ∷ [] in
          let split : (m : List Bool) → track (line ++ bit ∷ [] ++ m) ≡ pieces ++ track (rest ++ m) = λ m.
          stands_push phase line h bit m ∙ ap (λ (x : List Share). h.settled ++ x) (track_over-append since' m over.0) ∙ sym (append_assoc h.settled (one_search since' ∷ []) (track (rest ++ m))) in
          let none : is_found rest ≡ false = short_search rest over.2 in
          let last : track rest ≡ nothing ∷ [] = track_open rest (not_over rest none) ∙ ap (λ (x : Share). x ∷ []) (one_search_none rest none) in
          let all : track (line ++ bit ∷ []) ≡ pieces ++ nothing ∷ [] =
          ap track (sym (append-nil (line ++ bit ∷ []))) ∙ split [] ∙ ap (λ (x : List Bool). pieces ++ track x) (append-nil rest) ∙ ap (λ (x : List Share). pieces ++ x) last in (
            record { settled = pieces; since = rest; splits = split; describes = over.1; fits = next.fits },
            grows_from line (line ++ bit ∷ []) (turn phase bit).gained
                (ap totals all ∙ totals_more pieces nothing ∙ add_nothing (totals pieces) ∙ totals_more h.settled (one_search since') ∙ more),
          )
    ]

-- nothing is counted in no bits
pub empty_counts : (0 ≡ counted (multiframes_in [])) × (0 ≡ counted (blocks_in [])) × (0 ≡ counted (errors_in []))
unfolding multiframes_in blocks_in errors_in
empty_counts =
    let none : track [] ≡ nothing ∷ [] = track_open [] (not_over [] (short_search [] (omega arith))) ∙ ap (λ (x : Share). x ∷ []) (one_search_none [] (short_search [] (omega arith))) in (
      sym (ap (λ (x : List Share). counted (sum_by (λ (s : Share). s.multiframes) x)) none),
      sym (ap (λ (x : List Share). counted (sum_by (λ (s : Share). s.blocks) x)) none),
      sym (ap (λ (x : List Share). counted (sum_by (λ (s : Share). s.errored) x)) none),
    )

-- nothing is shown by no bits
pub empty_signs : signs_in [] ≡ no_signs
unfolding signs_in
empty_signs =
    let none : track [] ≡ nothing ∷ [] = track_open [] (not_over [] (short_search [] (omega arith))) ∙ ap (λ (x : Share). x ∷ []) (one_search_none [] (short_search [] (omega arith))) in
    ap totals_shown none

-- ---- what a longer line gives begins with what the shorter one gave

-- some machine stands for each line
holds_more : (phase : Phase) (line more : List Bool) → Holds phase line → (p : Phase) × Holds p (line ++ more) × IsPrefix (e1_far line) (e1_far (line ++ more))
holds_more phase line [] h = (phase, subst (Holds phase) (sym (append-nil line)) h, ([], ap e1_far (append-nil line) ∙ sym (append-nil (e1_far line))))
holds_more phase line (bit ∷ more) h =
    let one = holds_turn phase line bit h in
    let rest = holds_more (turn phase bit).phase (line ++ bit ∷ []) more one.0 in
    let same : line ++ bit ∷ [] ++ more ≡ line ++ bit ∷ more = append_assoc line (bit ∷ []) more in
    let got : List Bool = (turn phase bit).gained.payload in (
      rest.0,
      subst (Holds rest.0) same rest.1,
      (
        got ++ rest.2.0,
        ap e1_far (sym same) ∙ rest.2.1 ∙ ap (λ (x : List Bool). x ++ rest.2.0) one.1.payload_is ∙ append_assoc (e1_far line) got rest.2.0,
      ),
    )

pub e1_far_grows : (line more : List Bool) → IsPrefix (e1_far line) (e1_far (line ++ more))
e1_far_grows line more =
    let here = holds_more (Searching []) [] line holds_empty in
    (holds_more here.0 line more here.1).2
