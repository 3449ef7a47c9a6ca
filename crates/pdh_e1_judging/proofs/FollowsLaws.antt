-- What one more bit does to what was judged, and bits that gain nothing.
use Rattle.std.proofs.Common.{◌≡◌, ℕ, suc, ◌+◌, ◌-◌, ◌*◌, ◌<◌, ◌≤◌, Bool, true, false, List, [], ◌∷◌, ◌++◌, length, map, take, drop, refl, sym, ap, ◌∙◌, subst, inl, inr, arith, append_assoc, length-append}
use Rattle.std.specs.Prelude.{min, flat_map}
use Rattle.std.proofs.lemmas.List.{append-nil, take-append-drop}
use Rattle.std.proofs.lemmas.Bool.{false≢true}
use Rattle.std.proofs.lemmas.Grind.{flat_map-append}
use Rattle.std.proofs.Math.Seq.{drop-nil}
use Rattle.pdh_g706.specs.Frames.{gap_of, is_found, aligned}
use Rattle.pdh_g706.specs.Alignment.{loses, up_to_end, resumes}
use Rattle.pdh_g706.specs.Tracking.{Share, share_of, found_frames, is_over, one_search, after_search, track, e1_far, multiframes_in}
use Rattle.pdh_g706.specs.Machine.{Phase, last_begin, Describes, Fits, Holds, Grows, nothing, turn, Waits}
use Rattle.pdh_g706.specs.Machine.Phase.{Searching, Aligned, Framed}
use Rattle.pdh_g706.proofs.AlignmentLaws.{kept_open}
use Rattle.pdh_g706.proofs.GrowthLaws.{share_none}
use Rattle.pdh_g706.proofs.SearchLaws.{short_search}
use Rattle.pdh_g706.proofs.TrackLaws.{not_over, one_search_is, after_search_is, track_open, track_over-append}
use Rattle.pdh_g706.proofs.TurnLaws.{turn_next, one_search_none, describes_short}
use Rattle.pdh_g706.proofs.HoldsLaws.{holds_turn, empty_counts}
use Rattle.pdh_e1_judging.specs.Judged.{multiframes_of, judged_of, judged_multiframes, with_multiframes, e1_judged_in}
use Rattle.pdh_e1_judging.specs.Judging.{is_framed, Follows}
use Rattle.pdh_e1_judging.proofs.ShareLaws.{judged-add, none_judged, judged_is}
use Rattle.pdh_e1_judging.proofs.TurnShares.{held_in, framed_stays}

-- ---- a line and its searches

-- the search that the machine is in isn't over
open_phase : (phase : Phase) (since : List Bool) → Describes phase since → is_over since ≡ false
open_phase (Searching held) since d = not_over since d.found
open_phase (Aligned held) since d = d.0.kept_on
open_phase (Framed held group wrong) since d = d.0.kept_on

-- where multiframe alignment holds, it found its alignment
framed_found : (phase : Phase) (since : List Bool) → Describes phase since → is_framed phase ≡ true → is_found since ≡ true
framed_found (Searching held) since d framed = absurd (false≢true framed)
framed_found (Aligned held) since d framed = absurd (false≢true framed)
framed_found (Framed held group wrong) since d framed = d.0.found

-- the bits that are held in an alignment are the last of the line
pub held_last : (phase : Phase) (line : List Bool) (h : Follows phase line) → (front : List Bool) × (line ≡ front ++ held_in phase)
held_last (Searching held) line h = (line, sym (append-nil line))
held_last (Aligned held) line h = last_of (gap_of h.since) h.front h.since held line h.parts h.describes.1
  where
    last_of : (n : ℕ) (front since held line : List Bool) → line ≡ front ++ since → held ≡ drop n since → (f : List Bool) × (line ≡ f ++ held)
    last_of n front since held line parts is =
        (front ++ take n since, parts ∙ ap (λ (x : List Bool). front ++ x) (sym (take-append-drop n since)) ∙ sym (append_assoc front (take n since) (drop n since)) ∙ ap (λ (x : List Bool). (front ++ take n since) ++ x) (sym is))
held_last (Framed held group wrong) line h = last_in (gap_of h.since) (256 * last_begin (found_frames h.since)) h.front h.since held line h.parts h.describes.1
  where
    last_in : (n m : ℕ) (front since held line : List Bool) → line ≡ front ++ since → held ≡ drop m (drop n since) → (f : List Bool) × (line ≡ f ++ held)
    last_in n m front since held line parts is =
        let inner : List Bool = drop n since in (
          (front ++ take n since) ++ take m inner,
          parts ∙ ap (λ (x : List Bool). front ++ x) (sym (take-append-drop n since)) ∙ sym (append_assoc front (take n since) inner)
              ∙ ap (λ (x : List Bool). (front ++ take n since) ++ x) (sym (take-append-drop m inner)) ∙ sym (append_assoc (front ++ take n since) (take m inner) (drop m inner))
              ∙ ap (λ (x : List Bool). ((front ++ take n since) ++ take m inner) ++ x) (sym is),
        )

track_now : (phase : Phase) (line : List Bool) (h : Follows phase line) → track line ≡ h.settled ++ one_search h.since ∷ []
track_now phase line h =
    ap track (sym (append-nil line)) ∙ h.splits [] ∙ ap (λ (x : List Bool). h.settled ++ track x) (append-nil h.since)
    ∙ ap (λ (x : List Share). h.settled ++ x) (track_open h.since (open_phase phase h.since h.describes))

-- what is judged of some shares and one more
shares_judged : (shares : List Share) (last : Share) → flat_map judged_of (shares ++ last ∷ []) ≡ flat_map judged_of shares ++ judged_of last
shares_judged shares last = flat_map-append judged_of shares (last ∷ []) ∙ ap (λ (x : List (List (List Bool))). flat_map judged_of shares ++ x) (append-nil (judged_of last))

judged_tracked : (line : List Bool) (shares : List Share) (last : Share) → track line ≡ shares ++ last ∷ [] → judged_multiframes line ≡ flat_map judged_of shares ++ judged_of last
unfolding judged_multiframes
judged_tracked line shares last is = ap (flat_map judged_of) is ∙ shares_judged shares last

-- more bits
splits_push : (phase : Phase) (line : List Bool) (h : Follows phase line) (bit : Bool) (more : List Bool) → track (line ++ bit ∷ [] ++ more) ≡ h.settled ++ track (h.since ++ bit ∷ [] ++ more)
splits_push phase line h bit more =
    ap track (append_assoc line (bit ∷ []) more) ∙ h.splits (bit ∷ more) ∙ ap (λ (x : List Bool). h.settled ++ track x) (sym (append_assoc h.since (bit ∷ []) more))

holds_of : (phase : Phase) (line : List Bool) → Follows phase line → Holds phase line
holds_of phase line h = record { settled = h.settled; since = h.since; splits = h.splits; describes = h.describes; fits = h.fits }

-- ---- one more bit

pub record Goes (phase : Phase) (line : List Bool) (bit : Bool) (h : Follows phase line) : Type 0 where
  pub follows : Follows (turn phase bit).phase (line ++ bit ∷ [])
  pub judged : judged_multiframes (line ++ bit ∷ []) ≡ judged_multiframes line ++ drop (2 - min 2 (one_search h.since).multiframes) (multiframes_of (turn phase bit).gained)
  pub counts : multiframes_in (line ++ bit ∷ []) ≡ multiframes_in line + (turn phase bit).gained.multiframes
  pub came : is_framed (turn phase bit).phase ≡ true → (one_search follows.since).multiframes ≡ (one_search h.since).multiframes + (turn phase bit).gained.multiframes

-- a search that found nothing gives no multiframe
none_found : (l : List Bool) → length l < 768 → one_search l ≡ nothing
none_found l short = one_search_none l (short_search l short)

pub goes : (phase : Phase) (line : List Bool) (bit : Bool) (h : Follows phase line) → length (turn phase bit).gained.signs.frames ≡ 16 * (turn phase bit).gained.multiframes
    → (turn phase bit).gained.multiframes ≤ length (turn phase bit).gained.payload → Goes phase line bit h
goes phase line bit h sized pays =
    let next = turn_next phase h.since bit h.describes h.fits in
    let g : Share = (turn phase bit).gained in
    let s : Share = one_search h.since in
    let now : List Bool = line ++ bit ∷ [] in
    let since' : List Bool = h.since ++ bit ∷ [] in
    let more : List (List (List Bool)) = drop (2 - min 2 s.multiframes) (multiframes_of g) in
    let grows : Grows g line now = (holds_turn phase line bit (holds_of phase line h)).1 in
    let few : multiframes_in now ≤ length (e1_far now) = omega (arith, grows.multiframes_are, ap length grows.payload_is, length-append (e1_far line) g.payload, h.few, pays) in
    let frames : length (one_search since').signs.frames ≡ length s.signs.frames + length g.signs.frames = ap (λ (x : Share). length x.signs.frames) next.grows ∙ length-append s.signs.frames g.signs.frames in
    let count : (one_search since').multiframes ≡ s.multiframes + g.multiframes = ap (λ (x : Share). x.multiframes) next.grows in
    let last : judged_of (one_search since') ≡ judged_of s ++ more = ap judged_of next.grows ∙ judged-add s g (2 - min 2 s.multiframes) h.whole refl in
    let was : judged_multiframes line ≡ flat_map judged_of h.settled ++ judged_of s = judged_tracked line h.settled s (track_now phase line h) in
    let joined : flat_map judged_of h.settled ++ judged_of (one_search since') ≡ judged_multiframes line ++ more =
    ap (λ (x : List (List (List Bool))). flat_map judged_of h.settled ++ x) last ∙ sym (append_assoc (flat_map judged_of h.settled) (judged_of s) more) ∙ ap (λ (x : List (List (List Bool))). x ++ more) (sym was) in
    let parts : now ≡ h.front ++ since' = ap (λ (l : List Bool). l ++ bit ∷ []) h.parts ∙ append_assoc h.front h.since (bit ∷ []) in
    elim next.way [
      | inl on ↦
          record {
            follows = record {
              settled = h.settled;
              front = h.front;
              since = since';
              parts = parts;
              splits = splits_push phase line h bit;
              describes = on.1;
              fits = next.fits;
              whole = omega (arith, frames, count, h.whole, sized);
              few = few;
            };
            judged = judged_tracked now h.settled (one_search since')
                (ap track (sym (append-nil now)) ∙ splits_push phase line h bit [] ∙ ap (λ (x : List Bool). h.settled ++ track x) (append-nil since') ∙ ap (λ (x : List Share). h.settled ++ x) (track_open since' on.0))
                ∙ joined;
            counts = grows.multiframes_are;
            came = λ framed. count;
          }
      | inr over ↦
          let rest : List Bool = after_search since' in
          let n : ℕ = gap_of since' in
          let r : ℕ = resumes (found_frames since') in
          let pieces : List Share = h.settled ++ one_search since' ∷ [] in
          let split : (m : List Bool) → track (now ++ m) ≡ pieces ++ track (rest ++ m) = λ m.
          splits_push phase line h bit m ∙ ap (λ (x : List Share). h.settled ++ x) (track_over-append since' m over.0) ∙ sym (append_assoc h.settled (one_search since' ∷ []) (track (rest ++ m))) in
          let none : one_search rest ≡ nothing = none_found rest over.2 in
          let all : track now ≡ pieces ++ nothing ∷ [] =
          ap track (sym (append-nil now)) ∙ split [] ∙ ap (λ (x : List Bool). pieces ++ track x) (append-nil rest) ∙ ap (λ (x : List Share). pieces ++ x) (track_open rest (not_over rest (short_search rest over.2)) ∙ ap (λ (x : Share). x ∷ []) none) in
          let inner : List Bool = drop n since' in
          record {
            follows = record {
              settled = pieces;
              front = (h.front ++ take n since') ++ take r inner;
              since = rest;
              parts = parts ∙ ap (λ (x : List Bool). h.front ++ x) (sym (take-append-drop n since')) ∙ sym (append_assoc h.front (take n since') inner)
                  ∙ ap (λ (x : List Bool). (h.front ++ take n since') ++ x) (sym (take-append-drop r inner)) ∙ sym (append_assoc (h.front ++ take n since') (take r inner) (drop r inner))
                  ∙ ap (λ (x : List Bool). ((h.front ++ take n since') ++ take r inner) ++ x) (sym (after_search_is since'));
              splits = split;
              describes = over.1;
              fits = next.fits;
              whole = ap (λ (x : Share). length x.signs.frames) none ∙ sym (ap (λ (x : Share). 16 * x.multiframes) none);
              few = few;
            };
            judged = judged_tracked now pieces nothing all ∙ append-nil (flat_map judged_of pieces) ∙ shares_judged h.settled (one_search since') ∙ joined;
            counts = grows.multiframes_are;
            came = λ framed. absurd (false≢true (sym (short_search rest over.2) ∙ framed_found (turn phase bit).phase rest over.1 framed));
          }
    ]

-- where multiframe alignment doesn't hold, no multiframe of the last alignment came
pub none_came : (phase : Phase) (line : List Bool) (h : Follows phase line) → is_framed phase ≡ false → (one_search h.since).multiframes ≡ 0
none_came (Searching held) line h other = ap (λ (s : Share). s.multiframes) (one_search_none h.since h.describes.found)
none_came (Aligned held) line h other =
    let frames : List (List Bool) = found_frames h.since in
    ap (λ (s : Share). s.multiframes)
    (one_search_is h.since ∙ ap (share_of (loses (up_to_end frames))) (kept_open frames h.describes.0.kept_on) ∙ share_none (loses (up_to_end frames)) frames h.describes.0.reached_is)
none_came (Framed held group wrong) line h other = absurd (false≢true (sym other))

-- ---- bits that gain nothing

-- the same of an equal line
abbrev pub at_line : (phase : Phase) (a b : List Bool) → a ≡ b → Follows phase a → Follows phase b
at_line phase a b e h = record {
  settled = h.settled;
  front = h.front;
  since = h.since;
  parts = sym e ∙ h.parts;
  splits = λ more. ap (λ (l : List Bool). track (l ++ more)) (sym e) ∙ h.splits more;
  describes = h.describes;
  fits = h.fits;
  whole = h.whole;
  few = subst (λ (l : List Bool). multiframes_in l ≤ length (e1_far l)) e h.few;
}

-- and in an equal phase
abbrev pub in_phase : (a b : Phase) (line : List Bool) → a ≡ b → Follows a line → Follows b line
in_phase a b line e h = record {
  settled = h.settled;
  front = h.front;
  since = h.since;
  parts = h.parts;
  splits = h.splits;
  describes = subst (λ (p : Phase). Describes p h.since) e h.describes;
  fits = subst Fits e h.fits;
  whole = h.whole;
  few = h.few;
}

pub record Waited (before now : Phase) (line bits : List Bool) (h : Follows before line) : Type 0 where
  pub follows : Follows now (line ++ bits)
  pub judged : judged_multiframes (line ++ bits) ≡ judged_multiframes line
  pub counts : multiframes_in (line ++ bits) ≡ multiframes_in line
  pub came : is_framed now ≡ true → (is_framed before ≡ true) × ((one_search follows.since).multiframes ≡ (one_search h.since).multiframes)

pub waited : (before now : Phase) (line bits : List Bool) (h : Follows before line) → Waits before bits now → Waited before now line bits h
waited before now line [] h w = record {
  follows = at_line now line (line ++ []) (sym (append-nil line)) (in_phase before now line (sym w) h);
  judged = ap judged_multiframes (append-nil line);
  counts = ap multiframes_in (append-nil line);
  came = λ framed. (ap is_framed (sym w) ∙ framed, refl);
}
waited before now line (bit ∷ bits) h w =
    let t = turn before bit in
    let sized : length t.gained.signs.frames ≡ 16 * t.gained.multiframes = ap (λ (s : Share). length s.signs.frames) w.0 ∙ sym (ap (λ (s : Share). 16 * s.multiframes) w.0) in
    let zero_gained : t.gained.multiframes ≡ 0 = ap (λ (s : Share). s.multiframes) w.0 in
    let one = goes before line bit h sized (omega (arith, zero_gained)) in
    let rest = waited t.phase now (line ++ bit ∷ []) bits one.follows w.1 in
    let all : (line ++ bit ∷ []) ++ bits ≡ line ++ bit ∷ bits = append_assoc line (bit ∷ []) bits in
    let none : drop (2 - min 2 (one_search h.since).multiframes) (multiframes_of t.gained) ≡ [] =
    ap (λ (s : Share). drop (2 - min 2 (one_search h.since).multiframes) (multiframes_of s)) w.0 ∙ drop-nil (2 - min 2 (one_search h.since).multiframes) in
    record {
      follows = at_line now ((line ++ bit ∷ []) ++ bits) (line ++ bit ∷ bits) all rest.follows;
      judged = ap judged_multiframes (sym all) ∙ rest.judged ∙ one.judged ∙ ap (λ (x : List (List (List Bool))). judged_multiframes line ++ x) none ∙ append-nil (judged_multiframes line);
      counts = (let same : multiframes_in ((line ++ bit ∷ []) ++ bits) ≡ multiframes_in (line ++ bit ∷ bits) = ap multiframes_in all in omega (arith, same, rest.counts, one.counts, zero_gained));
      came = λ framed.
          let later = rest.came framed in
          (framed_stays before bit w.0 later.0, omega (arith, later.1, one.came later.0, zero_gained));
    }

-- ---- a line of no bit

pub follows_empty : Follows (Searching []) []
follows_empty =
    let none : one_search [] ≡ nothing = none_found [] (omega arith) in
    record {
      settled = [];
      front = [];
      since = [];
      parts = refl;
      splits = λ more. refl;
      describes = describes_short [] (omega arith);
      fits = omega arith;
      whole = ap (λ (x : Share). length x.signs.frames) none ∙ sym (ap (λ (x : Share). 16 * x.multiframes) none);
      few = omega (arith, empty_counts.0);
    }

pub judged_empty : none_judged ≡ e1_judged_in []
judged_empty =
    let alone : track [] ≡ nothing ∷ [] = track_open [] (not_over [] (short_search [] (omega arith))) ∙ ap (λ (x : Share). x ∷ []) (none_found [] (omega arith)) in
    let none : judged_multiframes [] ≡ [] = judged_tracked [] [] nothing alone in
    sym (judged_is [] ∙ ap (with_multiframes none_judged) none)
