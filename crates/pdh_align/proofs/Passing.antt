-- Positions of a search that are given up, one at each bit.
use Rattle.std.proofs.Common.{◌≡◌, ℕ, suc, ◌+◌, ◌*◌, ◌<◌, ◌≤◌, Bool, true, false, List, [], ◌∷◌, ◌++◌, length, take, drop, refl, sym, ap, ◌∙◌, subst, arith, append_assoc, length-append, length-drop}
use Rattle.std.proofs.lemmas.List.{append-nil, drop-append-le, drop-drop, length-take-le}
use Rattle.std.proofs.lemmas.Bool.{false≢true}
use Rattle.pdh_shape.specs.declared.role.Marks.{Marks}
use Rattle.pdh_shape.specs.Frame.{FrameShape, IsFrame}
use Rattle.pdh_line.specs.Tracking.{is_confirmed, positions, track}
use Rattle.pdh_line.specs.Tracking.Piece.{Gap}
use Rattle.pdh_align.specs.Searching.{Sought, Searches, Takes, GivesUp, IsRejected}
use Rattle.pdh_align.specs.Aligning.{Held, Follows, StandsFor, Passes}
use Rattle.pdh_align.specs.Aligning.Phase.{Searching}
use Rattle.pdh_align.specs.View.{held_of}
use Rattle.pdh_align.proofs.AligningLaws.{Began, track_searching, search_long, search_rejected, stands_now, keeps}

-- one position
pass_one : (s : FrameShape) (held line : List Bool) (bit : Bool) → IsFrame s → (h : Follows s (Searching held) line) → 3 * s.len ≤ length (held ++ bit ∷ []) → is_confirmed s (held ++ bit ∷ []) ≡ false
    → (next : Follows s (Searching (drop 1 (held ++ bit ∷ []))) (line ++ bit ∷ [])) × (next.settled ≡ h.settled) × (next.since ≡ h.since ++ bit ∷ []) × (positions s next.since ≡ suc (positions s h.since))
pass_one s held line bit shape h long rejected =
    let is : held ≡ drop (positions s h.since) h.since = h.describes.1 in
    let long' : 3 * s.len ≤ length (drop (positions s h.since) h.since ++ bit ∷ []) = rw (← is) long in
    let rejected' : is_confirmed s (drop (positions s h.since) h.since ++ bit ∷ []) ≡ false = rw (← is) rejected in
    let facts = search_rejected s h.since bit shape h.describes.0 long' rejected' in (
      keeps s (Searching held) (Searching (drop 1 (held ++ bit ∷ []))) line bit h (facts.0, ap (λ x. drop 1 (x ++ bit ∷ [])) is ∙ facts.1),
      refl,
      refl,
      (search_long s h.since bit shape h.describes.0 long').0,
    )

-- a position that isn't confirmed whatever bits follow is the one before, once a position is given up
rejected_next : (s : FrameShape) (held : List Bool) (bit : Bool) (i : ℕ) → IsRejected s held (suc i) → IsRejected s (drop 1 (held ++ bit ∷ [])) i
rejected_next s held bit i rejected more =
    let next : 1 + i ≡ suc i = omega arith in
    let some : 1 ≤ length (held ++ bit ∷ []) = omega (arith, length-append held (bit ∷ [])) in
    let moved : drop i (drop 1 (held ++ bit ∷ []) ++ more) ≡ drop (suc i) (held ++ bit ∷ more) =
    ap (drop i) (sym (drop-append-le 1 (held ++ bit ∷ []) more some)) ∙ drop-drop i 1 (held ++ bit ∷ [] ++ more) ∙ ap (λ n. drop n (held ++ bit ∷ [] ++ more)) next
    ∙ ap (drop (suc i)) (append_assoc held (bit ∷ []) more) in
    ap (is_confirmed s) moved ∙ rejected (bit ∷ more)

-- the positions that are rejected
pass_all : (s : FrameShape) (held line bits : List Bool) → IsFrame s → (h : Follows s (Searching held) line) → 3 * s.len ≡ length held + 1 → ((i : ℕ) → i < length bits → IsRejected s held i)
    → Began s (drop (length bits) (held ++ bits)) (h.since ++ bits) (line ++ bits) × (track s (line ++ bits) ≡ h.settled ++ Gap (positions s h.since + length bits) ∷ [])
pass_all s held line [] shape h full rejected =
    let none : positions s h.since ≡ positions s h.since + 0 = omega arith in (
      subst (λ x. Began s x (h.since ++ []) (line ++ [])) (sym (append-nil held)) (subst (λ x. Began s held (h.since ++ []) x) (sym (append-nil line)) (h, sym (append-nil h.since))),
      ap (track s) (append-nil line) ∙ stands_now s (Searching held) line h ∙ ap (λ x. h.settled ++ x) (track_searching s h.since h.describes.0) ∙ ap (λ n. h.settled ++ Gap n ∷ []) none,
    )
pass_all s held line (bit ∷ bits) shape h full rejected =
    let count : length (held ++ bit ∷ []) ≡ length held + 1 = length-append held (bit ∷ []) in
    let one = pass_one s held line bit shape h (omega (arith, full, count)) (rejected 0 (omega arith) (bit ∷ [])) in
    let left : length (drop 1 (held ++ bit ∷ [])) ≡ length held = omega (arith, length-drop 1 (held ++ bit ∷ []), count) in
    let rest = pass_all s (drop 1 (held ++ bit ∷ [])) (line ++ bit ∷ []) bits shape one.0 (omega (arith, full, left)) (λ i lt. rejected_next s held bit i (rejected (suc i) (omega (arith, lt)))) in
    let line_is : line ++ bit ∷ [] ++ bits ≡ line ++ bit ∷ bits = append_assoc line (bit ∷ []) bits in
    let since_is : (one.0).since ++ bits ≡ h.since ++ bit ∷ bits = ap (λ x. x ++ bits) one.2 ∙ append_assoc h.since (bit ∷ []) bits in
    let next : 1 + length bits ≡ suc (length bits) = omega arith in
    let now : List Bool = drop (length bits) (drop 1 (held ++ bit ∷ []) ++ bits) in
    let held_is : now ≡ drop (suc (length bits)) (held ++ bit ∷ bits) =
    ap (drop (length bits)) (sym (drop-append-le 1 (held ++ bit ∷ []) bits (omega (arith, count)))) ∙ drop-drop (length bits) 1 (held ++ bit ∷ [] ++ bits)
    ∙ ap (λ n. drop n (held ++ bit ∷ [] ++ bits)) next ∙ ap (drop (suc (length bits))) (append_assoc held (bit ∷ []) bits) in
    let more : positions s (one.0).since + length bits ≡ positions s h.since + suc (length bits) = omega (arith, one.3) in
    let began : Began s now (h.since ++ bit ∷ bits) (line ++ bit ∷ [] ++ bits) = subst (λ x. Began s now x (line ++ bit ∷ [] ++ bits)) since_is rest.0 in (
      subst (λ x. Began s x (h.since ++ bit ∷ bits) (line ++ bit ∷ bits)) held_is (subst (Began s now (h.since ++ bit ∷ bits)) line_is began),
      ap (track s) (sym line_is) ∙ rest.1 ∙ ap (λ x. x ++ Gap (positions s (one.0).since + length bits) ∷ []) one.1 ∙ ap (λ n. h.settled ++ Gap n ∷ []) more,
    )

-- the fields, once so many positions were given up
pub takes_pass : (s : FrameShape) (len : ℕ) (searching fresh : Bool) (before : List Marks) (items now bits : List Bool) (search between after : Sought) (old : Held) (line : List Bool) → IsFrame s → s.len ≡ len
    → held_of len searching fresh before items search ≡ old → searching ≡ true → 3 * len ≡ length items + 1 → length bits ≤ length items → ((i : ℕ) → i < length bits → IsRejected s items i)
    → now ≡ drop (length bits) items ++ bits → Takes s search between bits → GivesUp s between after (length bits)
    → StandsFor s old line → Passes s (held_of len searching fresh before now after) bits line
takes_pass s len false fresh before items now bits search between after old line shape same view is full few rejected now_is takes gives h = absurd (false≢true is)
takes_pass s len true fresh before items now bits search between after old line shape same view is full few rejected now_is takes gives h =
    let here : StandsFor s (held_of len true fresh before items search) line = subst (λ (x : Held). StandsFor s x line) (sym view) h in
    let facts = pass_all s items line bits shape here.follows (omega (arith, full, same)) rejected in
    let held_is : drop (length bits) (items ++ bits) ≡ now = drop-append-le (length bits) items bits few ∙ sym now_is in
    let began = subst (λ x. Began s x (here.follows.since ++ bits) (line ++ bits)) held_is facts.0 in
    let kept : Searches s after (drop (length bits) (items ++ bits)) (here.follows.since ++ bits) =
    gives (items ++ bits) (here.follows.since ++ bits) (omega (arith, length-append items bits)) (takes items here.follows.since here.searches) in
    record {
      stands = record { follows = began.0; searches = subst (λ x. Searches s after now x) (sym began.1) (subst (λ x. Searches s after x (here.follows.since ++ bits)) held_is kept) };
      others = here.follows.settled;
      gap = positions s here.follows.since;
      was = stands_now s (Searching items) line here.follows ∙ ap (λ x. here.follows.settled ++ x) (track_searching s here.follows.since here.follows.describes.0);
      is = facts.1;
      each = λ k le.
          let count : length (take k bits) ≡ k = length-take-le k bits le in
          (pass_all s items line (take k bits) shape here.follows (omega (arith, full, same)) (λ i lt. rejected i (omega (arith, lt, count, le)))).1
          ∙ ap (λ n. here.follows.settled ++ Gap (positions s here.follows.since + n) ∷ []) count;
    }

-- what the search keeps, once so many positions were given up
pub begun_pass : (s : FrameShape) (search between after : Sought) (items now bits : List Bool) → length bits ≤ length items → now ≡ drop (length bits) items ++ bits → Takes s search between bits → GivesUp s between after (length bits)
    → (since : List Bool) × Searches s search items since → (since : List Bool) × Searches s after now since
begun_pass s search between after items now bits few now_is takes gives (since, h) =
    let held_is : drop (length bits) (items ++ bits) ≡ now = drop-append-le (length bits) items bits few ∙ sym now_is in
    (since ++ bits, subst (λ x. Searches s after x (since ++ bits)) held_is (gives (items ++ bits) (since ++ bits) (omega (arith, length-append items bits)) (takes items since h)))
