-- What a store holds in slip mode is a number of bits: no more are gone from it than were put in. So each edit of its tributary's
-- bits fits a list that holds what was taken.
use Rattle.std.proofs.Common.{◌≡◌, ℕ, zero, suc, ◌+◌, ◌-◌, ◌<◌, ◌≤◌, Bool, true, false, not, ◌&&◌, ◌||◌, cond, eqb, leb, List, [], ◌∷◌, ◌++◌, map, refl, sym, ap, ◌∙◌, subst, arith}
use Rattle.std.specs.Prelude.{flat_map}
use Rattle.std.specs.List.{range_with_len}
use Rattle.std.proofs.lemmas.Bool.{leb-true, leb-false}
use Rattle.std.proofs.lemmas.Grind.{flat_map-append}
use Rattle.std.proofs.lemmas.List.{append-nil}
use Rattle.pdh_shape.specs.Frame.{FrameShape, IsFrame}
use Rattle.pdh_shape.specs.Tributary.{reads_from, reads_below, HasTributaries}
use Rattle.pdh_shape.specs.OwnNumbers.{lead, store_size}
use Rattle.pdh_line.specs.Progress.{arrived}
use Rattle.pdh_line.specs.Edits.{half_store, Edit}
use Rattle.pdh_line.specs.Sending.{HasStores, arrived_in, arrives_at, carried, came_before, Slip, slips_from, slips_in, shifted, carries_at, start_of, edits_in, edits_to}
use Rattle.pdh_line.proofs.Ranges.{and_true, range_push}
use Rattle.pdh_line.proofs.SendingLaws.{arrived_in-zero, arrived_in-all, arrived-suc, came_before_grows, reads_below-suc, reads_below-all}
use Rattle.pdh_nesting.proofs.FrameSlips.{over, emptied, one, put_in, gone_in, rest_of, dropped-next, added-next, shifted-some}
use Rattle.pdh_nesting.proofs.EditedLists.{Fits, edited_len, fits-append, edited_len-append}

-- ---- a frame

module _ (s : FrameShape) (j count : ℕ) (more : Bool) (frame : IsFrame s) where
  abbrev arr : ℕ → ℕ
  arr t = arrived_in s count t

  arr-suc : (t : ℕ) → arr t ≤ arr (suc t)
  arr-suc t = (let grows = came_before_grows s (λ n. count) 0 t frame in omega (arith, grows))

  arr-upto : (left t : ℕ) → arr t ≤ arr (t + left)
  arr-upto zero t = (let same : t + 0 ≡ t = omega arith in omega (arith, ap arr same))
  arr-upto (suc left) t = (let next : suc t + left ≡ t + suc left = omega arith in omega (arith, arr-suc t, arr-upto left (suc t), ap arr next))

  abbrev read_one : ℕ → ℕ
  read_one t = one s j count more t

  one-few : (t : ℕ) → read_one t ≤ 1
  one-few t = go (reads_from j more (s.role t))
    where
      go : (b : Bool) → cond b 1 0 ≤ 1
      go true = omega arith
      go false = omega arith

  -- a full store holds more than its size
  full-holds : (t put gone : ℕ) → over s j count more t put gone ≡ true → gone + store_size ≤ put + arr t
  full-holds t put gone o = leb-true _ _ (and_true (arrives_at s count t) (leb (gone + store_size) (put + arr t)) o).1

  -- a slot leaves no less in the store than nothing
  slot-left : (t put gone : ℕ) → gone ≤ put + arr t → gone_in s j count more t put gone ≤ put_in s j count more t put gone + arr (suc t)
  slot-left t put gone held = go (over s j count more t put gone) (emptied s j count more t put gone) refl refl
    where
      go : (o e : Bool) → over s j count more t put gone ≡ o → emptied s j count more t put gone ≡ e
          → gone + cond o half_store 0 + read_one t ≤ put + cond (not o && e) half_store 0 + arr (suc t)
      go true e is_over is_empty = omega (arith, full-holds t put gone is_over, one-few t, arr-suc t)
      go false true is_over is_empty = omega (arith, held, one-few t, arr-suc t)
      go false false is_over is_empty = some (reads_from j more (s.role t)) refl
        where
          some : (r : Bool) → reads_from j more (s.role t) ≡ r → gone + 0 + cond r 1 0 ≤ put + 0 + arr (suc t)
          some true reads =
              let left : leb (put + arr (suc t)) gone ≡ false = ap (λ b. b && leb (put + arr (suc t)) gone) (sym reads) ∙ is_empty in
              omega (arith, leb-false _ _ left)
          some false passed = omega (arith, held, arr-suc t)

  -- nor do some slots
  slots-left : (left t put gone reads : ℕ) → gone ≤ put + arr t
      → gone + shifted true (slips_from s j count more left t put gone reads) + reads_below s j more (t + left)
      ≤ put + shifted false (slips_from s j count more left t put gone reads) + arr (t + left) + reads_below s j more t
  slots-left zero t put gone reads held = (let same : t + 0 ≡ t = omega arith in omega (arith, held, ap arr same, ap (reads_below s j more) same))
  slots-left (suc left) t put gone reads held =
      let next : suc t + left ≡ t + suc left = omega arith in
      omega (
        arith,
        slots-left left (suc t) (put_in s j count more t put gone) (gone_in s j count more t put gone) (reads + read_one t) (slot-left t put gone held),
        dropped-next s j count more left t put gone reads,
        added-next s j count more left t put gone reads,
        reads_below-suc s j more t,
        ap arr next,
        ap (reads_below s j more) next,
      )

  -- ---- the edits of its slips, where `base` bits of the tributary were read before it

  abbrev as_edit : ℕ → Slip → Edit
  as_edit base slip = record { over = slip.over; place = base + slip.reads }

  -- they fit a list of so many bits, and leave so many
  record FitsFrame (base len : ℕ) (slips : List Slip) : Type 0 where
    fits : Fits (map (as_edit base) slips) len
    keeps : edited_len (map (as_edit base) slips) len + shifted true slips ≡ len + shifted false slips

  slip-fits : (o e : Bool) (base t reads len : ℕ) (rest : List Slip) → (o ≡ true → base + reads + half_store ≤ len) → base + reads ≤ len
      → FitsFrame base (cond o (len - half_store) (cond e (len + half_store) len)) rest
      → FitsFrame base len (cond (o || (not o && e)) (record { over = o; slot = t; reads = reads } ∷ rest) rest)
  slip-fits true e base t reads len rest full inside inner = record {
    fits = (full refl, inner.fits);
    keeps = omega (arith, inner.keeps, full refl, shifted-some true (record { over = true; slot = t; reads = reads }) rest, shifted-some false (record { over = true; slot = t; reads = reads }) rest);
  }
  slip-fits false true base t reads len rest full inside inner = record {
    fits = (inside, inner.fits);
    keeps = omega (arith, inner.keeps, shifted-some true (record { over = false; slot = t; reads = reads }) rest, shifted-some false (record { over = false; slot = t; reads = reads }) rest);
  }
  slip-fits false false base t reads len rest full inside inner = record { fits = inner.fits; keeps = inner.keeps }

  frame-fits : (left t put gone reads base len dropped : ℕ) → gone ≡ base + reads + dropped → gone ≤ put + arr t → put + arr (t + left) ≤ len + dropped
      → FitsFrame base len (slips_from s j count more left t put gone reads)
  frame-fits zero t put gone reads base len dropped is held room = record { fits = tt; keeps = refl }
  frame-fits (suc left) t put gone reads base len dropped is held room =
      let o : Bool = over s j count more t put gone in
      let e : Bool = emptied s j count more t put gone in
      let upto = arr-upto (suc left) t in
      let full : o ≡ true → base + reads + half_store ≤ len = λ is_over. omega (arith, full-holds t put gone is_over, upto, is, room) in
      let inner =
      frame-fits left (suc t) (put_in s j count more t put gone) (gone_in s j count more t put gone) (reads + read_one t) base (cond o (len - half_store) (cond e (len + half_store) len)) (dropped + cond o half_store 0)
      (omega (arith, is)) (slot-left t put gone held) (kept o e refl refl full) in
      slip-fits o e base t reads len (rest_of s j count more left t put gone reads) full (omega (arith, is, held, upto, room)) inner
    where
      kept : (o e : Bool) → over s j count more t put gone ≡ o → emptied s j count more t put gone ≡ e → (over s j count more t put gone ≡ true → base + reads + half_store ≤ len)
          → put_in s j count more t put gone + arr (suc t + left) ≤ cond o (len - half_store) (cond e (len + half_store) len) + (dropped + cond o half_store 0)
      kept o e is_over is_empty full =
          let next : suc t + left ≡ t + suc left = omega arith in
          let put_is : put_in s j count more t put gone ≡ put + cond (not o && e) half_store 0 =
          ap (λ b. put + cond (not b && emptied s j count more t put gone) half_store 0) is_over ∙ ap (λ b. put + cond (not o && b) half_store 0) is_empty in
          by_kind o e is_over put_is (ap arr next)
        where
          by_kind : (o e : Bool) → over s j count more t put gone ≡ o → put_in s j count more t put gone ≡ put + cond (not o && e) half_store 0 → arr (suc t + left) ≡ arr (t + suc left)
              → put_in s j count more t put gone + arr (suc t + left) ≤ cond o (len - half_store) (cond e (len + half_store) len) + (dropped + cond o half_store 0)
          by_kind true e is_over put_is same = omega (arith, put_is, same, room, full is_over)
          by_kind false true is_over put_is same = omega (arith, put_is, same, room)
          by_kind false false is_over put_is same = omega (arith, put_is, same, room)

-- ---- a tributary that has a store

module _ (s : FrameShape) (j : ℕ) (counts : ℕ → ℕ) (frame : IsFrame s) (has : HasTributaries s) (known : j < s.tribs) (stores : HasStores s) where
  abbrev sent : ℕ → ℕ
  sent n = (start_of s j counts n).sent

  abbrev added : ℕ → ℕ
  added n = (start_of s j counts n).added

  abbrev dropped : ℕ → ℕ
  dropped n = (start_of s j counts n).dropped

  abbrev more : ℕ → Bool
  more n = carries_at s counts n (start_of s j counts n)

  abbrev put_at : ℕ → ℕ
  put_at n = lead + arrived counts n + added n

  abbrev gone_at : ℕ → ℕ
  gone_at n = sent n + dropped n

  abbrev slips_of_frame : ℕ → ℕ → List Slip
  slips_of_frame n slots = slips_from s j (counts n) (more n) slots 0 (put_at n) (gone_at n) 0

  in-is : (n slots : ℕ) → slips_in s j counts n slots ≡ slips_of_frame n slots
  in-is n slots = ap (λ b. cond b [] (slips_of_frame n slots)) stores

  -- with what the next frame begins
  record Next (n : ℕ) : Type 0 where
    sent_is : sent (suc n) ≡ sent n + carried s (more n)
    added_is : added (suc n) ≡ added n + shifted false (slips_in s j counts n s.len)
    dropped_is : dropped (suc n) ≡ dropped n + shifted true (slips_in s j counts n s.len)

  next_of : (n : ℕ) → Next n
  unfolding start_of
  next_of n = record { sent_is = refl; added_is = refl; dropped_is = refl }

  first_none : (sent 0 ≡ 0) × (added 0 ≡ 0) × (dropped 0 ≡ 0)
  unfolding start_of
  first_none = (refl, refl, refl)

  -- no more is gone at a frame's start than was put in,
  start-left : (n : ℕ) → gone_at n ≤ put_at n
  start-left zero = omega (arith, first_none.0, first_none.2)
  start-left (suc n) =
      let next = next_of n in
      let held = start-left n in
      let from : 0 + s.len ≡ s.len = omega arith in
      let none : reads_below s j (more n) 0 ≡ 0 = refl in
      let some : put_at n + arrived_in s (counts n) 0 ≡ put_at n = omega (arith, arrived_in-zero s (counts n) frame) in
      omega (
        arith,
        next.sent_is,
        next.added_is,
        next.dropped_is,
        none,
        slots-left s j (counts n) (more n) frame s.len 0 (put_at n) (gone_at n) 0 (omega (arith, held, some)),
        ap (shifted true) (in-is n s.len),
        ap (shifted false) (in-is n s.len),
        ap (arrived_in s (counts n)) from,
        ap (reads_below s j (more n)) from,
        reads_below-all s j (more n) has known,
        arrived_in-all s (counts n) frame,
        arrived-suc counts n,
      )

  -- nor before a slot
  pub slot-holds : (n t : ℕ) → sent n + reads_below s j (more n) t + dropped n + shifted true (slips_in s j counts n t) ≤ came_before s counts n t + added n + shifted false (slips_in s j counts n t)
  slot-holds n t =
      let from : 0 + t ≡ t = omega arith in
      let none : reads_below s j (more n) 0 ≡ 0 = refl in
      let held = start-left n in
      omega (
        arith,
        none,
        slots-left s j (counts n) (more n) frame t 0 (put_at n) (gone_at n) 0 (omega (arith, held)),
        ap (shifted true) (in-is n t),
        ap (shifted false) (in-is n t),
        ap (arrived_in s (counts n)) from,
        ap (reads_below s j (more n)) from,
      )

  -- ---- a list of at least what came

  edits-is : (n slots : ℕ) → edits_in s j counts n slots ≡ map (as_edit s j (counts n) (more n) frame (sent n)) (slips_of_frame n slots)
  edits-is n slots = ap (map (as_edit s j (counts n) (more n) frame (sent n))) (in-is n slots)

  abbrev whole : ℕ → List Edit
  whole n = flat_map (λ m. edits_in s j counts m s.len) (range_with_len 0 n)

  whole-next : (n : ℕ) → whole (suc n) ≡ whole n ++ edits_in s j counts n s.len
  whole-next n =
      let edits : ℕ → List Edit = λ m. edits_in s j counts m s.len in
      let from : 0 + n ≡ n = omega arith in
      ap (flat_map edits) (range_push 0 n) ∙ flat_map-append edits (range_with_len 0 n) ((0 + n) ∷ []) ∙ ap (λ l. whole n ++ l) (append-nil (edits (0 + n)) ∙ ap edits from)

  -- the edits fit it, and leave so many bits of it
  record FitsList (edits : List Edit) (len out into : ℕ) : Type 0 where
    fits : Fits edits len
    count : edited_len edits len + out ≡ len + into

  part-fits : (n slots len : ℕ) → came_before s counts n slots ≤ len → FitsList (whole n) len (dropped n) (added n)
      → FitsList (whole n ++ edits_in s j counts n slots) len (dropped n + shifted true (slips_in s j counts n slots)) (added n + shifted false (slips_in s j counts n slots))
  part-fits n slots len room before =
      let from : 0 + slots ≡ slots = omega arith in
      let held = start-left n in
      let inner =
      frame-fits s j (counts n) (more n) frame slots 0 (put_at n) (gone_at n) 0 (sent n) (edited_len (whole n) len) (dropped n) (omega arith) (omega (arith, held))
      (omega (arith, room, before.count, ap (arrived_in s (counts n)) from)) in
      record {
        fits = fits-append (whole n) (edits_in s j counts n slots) len before.fits (subst (λ edits. Fits edits (edited_len (whole n) len)) (sym (edits-is n slots)) inner.fits);
        count = omega (
          arith,
          edited_len-append (whole n) (edits_in s j counts n slots) len,
          ap (λ edits. edited_len edits (edited_len (whole n) len)) (edits-is n slots),
          inner.keeps,
          before.count,
          ap (shifted true) (in-is n slots),
          ap (shifted false) (in-is n slots),
        );
      }

  whole-fits : (n len : ℕ) → lead + arrived counts n ≤ len → FitsList (whole n) len (dropped n) (added n)
  whole-fits zero len room = record { fits = tt; count = omega (arith, first_none.1, first_none.2) }
  whole-fits (suc n) len room =
      let next = next_of n in
      let before = whole-fits n len (omega (arith, room, arrived-suc counts n)) in
      let is = part-fits n s.len len (omega (arith, room, arrived-suc counts n, arrived_in-all s (counts n) frame)) before in
      record {
        fits = subst (λ edits. Fits edits len) (sym (whole-next n)) is.fits;
        count = omega (arith, ap (λ edits. edited_len edits len) (whole-next n), is.count, next.added_is, next.dropped_is);
      }

  -- of a list that holds what came before a slot the edits so far leave what was read
  pub record HoldsReads (n t len : ℕ) : Type 0 where
    pub fits : Fits (edits_to s j counts n t) len
    pub most : sent n + reads_below s j (more n) t ≤ edited_len (edits_to s j counts n t) len

  pub holds-reads : (n t len : ℕ) → came_before s counts n t ≤ len → HoldsReads n t len
  holds-reads n t len room =
      let is = part-fits n t len room (whole-fits n len (omega (arith, room))) in
      record { fits = is.fits; most = omega (arith, is.count, slot-holds n t, room) }
