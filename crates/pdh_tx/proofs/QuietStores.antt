-- Frames in which a store surely stays away from both its ends, as it stands before a slot: they have no event, in either mode.
use Rattle.std.proofs.Common.{◌≡◌, ℕ, zero, suc, ◌+◌, ◌-◌, ◌*◌, ◌<◌, ◌≤◌, Bool, true, false, not, ◌&&◌, leb, List, [], ◌∷◌, refl, sym, ap, ◌∙◌, subst, arith}
use Rattle.std.proofs.lemmas.Bool.{lt-leb}
use Rattle.pdh_shape.specs.Frame.{FrameShape, IsFrame}
use Rattle.pdh_shape.specs.Tributary.{reads_from, reads_below, HasTributaries, ReadsEvenly}
use Rattle.pdh_shape.specs.OwnNumbers.{lead, threshold}
use Rattle.pdh_line.specs.Edits.{Edit}
use Rattle.pdh_line.specs.Events.{overflow_at, underflow_at, one_if}
use Rattle.pdh_line.specs.Events.Kind.{Overflow, Underflow}
use Rattle.pdh_line.specs.Progress.{arrived}
use Rattle.pdh_line.specs.Sending.{HasStores, Mode, arrives_at, arrived_in, carried, carriage, came_before, start_of, carries_at, edits_to}
use Rattle.pdh_line.specs.Sending.Mode.{Plain, Slipping}
use Rattle.pdh_line.specs.Tolerance.{KeepsInside, fill_next, fill_from, StaysInside}
use Rattle.pdh_line.proofs.FrameBounds.{reads-few, arrivals-few_any}
use Rattle.pdh_line.proofs.Inside.{no_event}
use Rattle.pdh_line.proofs.SendingLaws.{arrived-suc, came_before-start, came_before_grows, reads_below-all}
use Rattle.pdh_line.proofs.WithinTolerance.{and_false}
use Rattle.pdh_tx.specs.Held.{gone_with, put_with}
use Rattle.pdh_tx.specs.Slipping.{has_any, is_full, is_empty}
use Rattle.pdh_tx.specs.Quiet.{HoldsFrom}
use Rattle.pdh_tx.specs.laws.Carrying.{edits-frame, sent-frame}
use Rattle.pdh_tx.proofs.Readouts.{readout, overs, unders, over-told, under-told, calm-by, more-by, IsCount}
use Rattle.pdh_tx.proofs.SlipSteps.{gone-more, put-more}

no_any : {X : Type 0} (xs : List X) → has_any xs ≡ false → xs ≡ []
no_any [] h = refl
no_any (x ∷ xs) h = absurd (cc h)

-- at a frame's start its store holds what it holds
pub start_holds : (s : FrameShape) (j : ℕ) (counts : ℕ → ℕ) (mode : Mode) (n fill : ℕ) → IsFrame s → HasStores s → IsCount s j counts (readout s j counts mode n 0) fill (came_before s counts n 0) → HoldsFrom mode s j counts n 0 fill
start_holds s j counts mode n fill frame stores count =
    let c = carriage mode s j counts in
    let none : reads_below s j (c.more n) 0 ≡ 0 = refl in
    let read : c.sent n ≡ c.sent n + reads_below s j (c.more n) 0 = omega (arith, none) in
    record {
      held = ap (λ r. gone_with (c.edits n 0) r + fill) read ∙ count ∙ ap (put_with (c.edits n 0)) (came_before-start s counts n frame);
      more = more-by s j counts mode n fill frame stores count;
    }

module _ (s : FrameShape) (j : ℕ) (counts : ℕ → ℕ) (frame : IsFrame s) (has : HasTributaries s) (stores : HasStores s) (even : ReadsEvenly s) (known : j < s.tribs) where
  abbrev more : ℕ → Bool
  more n = carries_at s counts n (start_of s j counts n)

  abbrev sent_by : ℕ → ℕ
  sent_by n = (start_of s j counts n).sent

  -- ---- one frame in slip mode, from slot t on

  module _ (n t fill : ℕ) (from : HoldsFrom Slipping s j counts n t fill) (keeps : KeepsInside s.low (counts n) fill) where
    abbrev E : List Edit
    E = edits_to s j counts n t

    -- by a slot by which no slip has come
    module _ (x : ℕ) (same : edits_to s j counts n x ≡ E) (h : x < s.len) where
      abbrev gone : ℕ
      gone = gone_with (edits_to s j counts n x) (sent_by n + reads_below s j (more n) x)

      gone_is : gone ≡ gone_with E (sent_by n) + reads_below s j (more n) x
      gone_is = ap (λ e. gone_with e (sent_by n + reads_below s j (more n) x)) same ∙ gone-more E (sent_by n) (reads_below s j (more n) x)

      put_is : (u : ℕ) → put_with (edits_to s j counts n x) (came_before s counts n u) ≡ put_with E (lead + arrived counts n) + arrived_in s (counts n) u
      put_is u = ap (λ e. put_with e (came_before s counts n u)) same ∙ put-more E (lead + arrived counts n) (arrived_in s (counts n) u)

      not_full : overs s j counts Slipping n x ≡ false
      not_full =
          let e : ℕ = counts n - suc s.low in
          let most : counts n ≤ suc s.low + e = omega arith in
          let came = arrivals-few_any s j (counts n) e x (more n) frame has even known most h in
          let few : fill + e ≤ 89 = omega (arith, keeps.most_before, keeps.most_after) in
          and_false (arrives_at s (counts n) x) (is_full (readout s j counts Slipping n x) (came_before s counts n x))
          (lt-leb _ _ (omega (arith, came, from.held, few, gone_is, put_is x, came_before_grows s counts n x frame)))

      not_empty : unders s j counts Slipping n x ≡ false
      not_empty =
          let d : ℕ = s.low - counts n in
          let least : s.low ≤ counts n + d = omega arith in
          let few = reads-few s j (counts n) d x (more n) frame has even known least (omega (arith, h)) in
          let enough : d + 4 ≤ fill = omega (arith, keeps.least_before, keeps.least_after) in
          and_false (not (overs s j counts Slipping n x)) (reads_from j (more n) (s.role x) && is_empty (readout s j counts Slipping n x) (came_before s counts n (suc x)))
          (and_false (reads_from j (more n) (s.role x)) (is_empty (readout s j counts Slipping n x) (came_before s counts n (suc x)))
          (lt-leb _ _ (omega (arith, few, from.held, enough, gone_is, put_is (suc x), came_before_grows s counts n x frame))))

    -- so none comes
    no_slip : (i : ℕ) → t + i ≤ s.len → edits_to s j counts n (t + i) ≡ E
    no_slip zero h = (let e : t + 0 ≡ t = omega arith in ap (edits_to s j counts n) e)
    no_slip (suc i) h =
        let e : t + suc i ≡ suc (t + i) = omega arith in
        let before = no_slip i (omega (arith, h)) in
        let less : t + i < s.len = omega (arith, h) in
        ap (edits_to s j counts n) e ∙ calm-by s j counts Slipping n (t + i) stores (not_full (t + i) before less) (not_empty (t + i) before less) ∙ before

    frame_calm : (path : List ℕ) (u : ℕ) → t ≤ u → u < s.len → (overflow_at Slipping s path j counts n u ≡ []) × (underflow_at Slipping s path j counts n u ≡ [])
    frame_calm path u later h =
        let e : t + (u - t) ≡ u = omega (arith, later) in
        let same : edits_to s j counts n u ≡ E = ap (edits_to s j counts n) (sym e) ∙ no_slip (u - t) (omega (arith, e, h)) in (
          no_any (overflow_at Slipping s path j counts n u) (over-told s j counts Slipping path n u stores ∙ not_full u same h),
          no_any (underflow_at Slipping s path j counts n u) (under-told s j counts Slipping path n u stores ∙ not_empty u same h),
        )

    -- and what the store holds at the next frame's start
    next_holds : t ≤ s.len → HoldsFrom Slipping s j counts (suc n) 0 (fill_next s.low (counts n) fill)
    next_holds within = start_holds s j counts Slipping (suc n) (fill_next s.low (counts n) fill) frame stores (go (leb threshold fill) (ap (carried s) from.more))
      where
        end : t + (s.len - t) ≡ s.len
        end = omega (arith, within)

        same : edits_to s j counts (suc n) 0 ≡ E
        same = sym (edits-frame s j counts stores n) ∙ ap (edits_to s j counts n) (sym end) ∙ no_slip (s.len - t) (omega (arith, end))

        read : sent_by (suc n) + reads_below s j (more (suc n)) 0 ≡ sent_by n + carried s (more n)
        read = sym (sent-frame s j counts stores has known n) ∙ ap (λ k. sent_by n + k) (reads_below-all s j (more n) has known)

        gone_then : gone_with (edits_to s j counts (suc n) 0) (sent_by (suc n) + reads_below s j (more (suc n)) 0) ≡ gone_with E (sent_by n) + carried s (more n)
        gone_then = ap (λ e. gone_with e (sent_by (suc n) + reads_below s j (more (suc n)) 0)) same ∙ ap (gone_with E) read ∙ gone-more E (sent_by n) (carried s (more n))

        came : came_before s counts (suc n) 0 ≡ lead + arrived counts n + counts n
        came = came_before-start s counts (suc n) frame ∙ omega (arith, arrived-suc counts n)

        put_then : put_with (edits_to s j counts (suc n) 0) (came_before s counts (suc n) 0) ≡ put_with E (lead + arrived counts n) + counts n
        put_then = ap (λ e. put_with e (came_before s counts (suc n) 0)) same ∙ ap (put_with E) came ∙ put-more E (lead + arrived counts n) (counts n)

        go : (b : Bool) → carried s b ≡ carried s (more n)
            → gone_with (edits_to s j counts (suc n) 0) (sent_by (suc n) + reads_below s j (more (suc n)) 0) + (fill + counts n - carried s b) ≡ put_with (edits_to s j counts (suc n) 0) (came_before s counts (suc n) 0)
        go true e = omega (arith, e, gone_then, put_then, from.held, keeps.least_after)
        go false e = omega (arith, e, gone_then, put_then, from.held, keeps.least_after)

  -- ---- some frames

  -- behind the first of them each is whole
  abbrev slot_in : ℕ → ℕ → ℕ
  slot_in t zero = t
  slot_in t (suc k) = 0

  slot_within : (t k : ℕ) → t ≤ s.len → slot_in t k ≤ s.len
  slot_within t zero h = h
  slot_within t (suc k) h = omega arith

  later_holds : (n t fill k : ℕ) → t ≤ s.len → HoldsFrom Slipping s j counts n t fill → StaysInside s.low counts n fill k → HoldsFrom Slipping s j counts (n + k) (slot_in t k) (fill_from s.low counts n fill k)
  unfolding fill_from
  later_holds n t fill zero within from inside = (let e : n ≡ n + 0 = omega arith in subst (λ m. HoldsFrom Slipping s j counts m t fill) e from)
  later_holds n t fill (suc k) within from inside =
      let e : suc (n + k) ≡ n + suc k = omega arith in
      subst (λ m. HoldsFrom Slipping s j counts m 0 (fill_next s.low (counts (n + k)) (fill_from s.low counts n fill k))) e
      (next_holds (n + k) (slot_in t k) (fill_from s.low counts n fill k) (later_holds n t fill k within from (λ i h. inside i (omega (arith, h)))) (inside k (omega arith)) (slot_within t k within))

  slot_before : (n t m u k : ℕ) → u < s.len → n * s.len + t ≤ m * s.len + u → n + k ≡ m → slot_in t k ≤ u
  slot_before n t m u zero h from is = (let e : n ≡ m = omega (arith, is) in let whole : n * s.len ≡ m * s.len = ap (λ v. v * s.len) e in omega (arith, from, whole))
  slot_before n t m u (suc k) h from is = omega arith

  -- none of their slots has an event
  pub calm : (mode : Mode) (path : List ℕ) (n t fill k m u : ℕ) → t < s.len → HoldsFrom mode s j counts n t fill → StaysInside s.low counts n fill k → n ≤ m → m < n + k → u < s.len → n * s.len + t ≤ m * s.len + u
      → (overflow_at mode s path j counts m u ≡ []) × (underflow_at mode s path j counts m u ≡ [])
  calm Plain path n t fill k m u within from inside first last h behind =
      let none = no_event s j counts frame has stores even known n fill k m u from.held inside first last h in (
        ap (λ b. one_if b (record { kind = Overflow; path = path; trib = j; frame = m; slot = u })) none.0,
        ap (λ b. one_if b (record { kind = Underflow; path = path; trib = j; frame = m; slot = u })) none.1,
      )
  calm Slipping path n t fill k m u within from inside first last h behind =
      let i : ℕ = m - n in
      let e : n + i ≡ m = omega (arith, first) in
      let now : ℕ = fill_from s.low counts n fill i in
      let there = later_holds n t fill i (omega (arith, within)) from (λ v l. inside v (omega (arith, l, last, e))) in
      let keeps : KeepsInside s.low (counts (n + i)) now = inside i (omega (arith, last, e)) in
      subst (λ v. (overflow_at Slipping s path j counts v u ≡ []) × (underflow_at Slipping s path j counts v u ≡ [])) e
      (frame_calm (n + i) (slot_in t i) now there keeps path u (slot_before n t m u i h behind e) h)
