-- In slip mode a tributary is carried as the laws of sent frames need it: a bit that is read is as later edits leave it.
use Rattle.std.proofs.Common.{◌≡◌, ℕ, zero, suc, ◌+◌, ◌-◌, ◌<◌, ◌≤◌, Bool, true, false, not, ◌||◌, cond, ltb, eqb, List, [], ◌∷◌, ◌++◌, map, refl, sym, ap, ◌∙◌, arith, append_assoc}
use Rattle.std.specs.Prelude.{flat_map}
use Rattle.std.specs.List.{range_with_len}
use Rattle.std.proofs.lemmas.Bool.{lt-ltb}
use Rattle.std.proofs.lemmas.Grind.{flat_map-append}
use Rattle.std.proofs.lemmas.List.{map-append, append-nil}
use Rattle.pdh_shape.specs.Frame.{FrameShape}
use Rattle.pdh_shape.specs.Tributary.{reads_from, reads_below, HasTributaries}
use Rattle.pdh_shape.specs.OwnNumbers.{lead, threshold}
use Rattle.pdh_shape.specs.laws.Ranges.{count-range_grows}
use Rattle.pdh_line.specs.Progress.{arrived}
use Rattle.pdh_line.specs.Edits.{Edit, edit_bits, edited}
use Rattle.pdh_line.specs.Sending.{carried, Slip, slips_from, slips_in, carries_at, start_of, edits_in, edits_to, carriage}
use Rattle.pdh_line.specs.Sending.Mode.{Slipping}
use Rattle.pdh_line.proofs.Ranges.{range_append}
use Rattle.pdh_line.proofs.SendingLaws.{reads_below-suc, reads_below-all}
use Rattle.pdh_line.proofs.SentFrames.{IsCarried}
use Rattle.pdh_nesting.proofs.FrameSlips.{over, under, one, put_in, gone_in, slip_in, rest_of}

-- ---- edits behind a place

-- of two lists of edits the second changes what the first left
pub edited-append : (xs ys : List Edit) (bits : ℕ → Bool) (i : ℕ) → edited (xs ++ ys) bits i ≡ edited ys (edited xs bits) i
edited-append [] ys bits i = refl
edited-append (x ∷ xs) ys bits i = edited-append xs ys (edit_bits x bits) i

abbrev Above : ℕ → List Edit → Type 0
Above i [] = Unit {0}
Above i (edit ∷ edits) = (i < edit.place) × Above i edits

above-append : (i : ℕ) (xs ys : List Edit) → Above i xs → Above i ys → Above i (xs ++ ys)
above-append i [] ys h k = k
above-append i (x ∷ xs) ys h k = (h.0, above-append i xs ys h.1 k)

edited-below : (edits : List Edit) (bits : ℕ → Bool) (i : ℕ) → Above i edits → edited edits bits i ≡ bits i
edited-below [] bits i h = refl
edited-below (edit ∷ edits) bits i h = edited-below edits (edit_bits edit bits) i h.1 ∙ rw (lt-ltb i edit.place h.0) refl

-- ---- the slips of a frame

abbrev AtLeast : ℕ → List Slip → Type 0
AtLeast n [] = Unit {0}
AtLeast n (slip ∷ slips) = (n ≤ slip.reads) × AtLeast n slips

at_least-fewer : (m n : ℕ) (slips : List Slip) → m ≤ n → AtLeast n slips → AtLeast m slips
at_least-fewer m n [] h k = tt
at_least-fewer m n (slip ∷ slips) h k = (let l = k.0 in omega arith, at_least-fewer m n slips h k.1)

at_least-if : (n : ℕ) (test : Bool) (slip : Slip) (slips : List Slip) → n ≤ slip.reads → AtLeast n slips → AtLeast n (cond test (slip ∷ slips) slips)
at_least-if n true slip slips h k = (h, k)
at_least-if n false slip slips h k = k

append-if : (test : Bool) (slip : Slip) (whole front rest : List Slip) → whole ≡ front ++ rest → cond test (slip ∷ whole) whole ≡ cond test (slip ∷ front) front ++ rest
append-if true slip whole front rest h = ap (λ l. slip ∷ l) h
append-if false slip whole front rest h = h

module _ (s : FrameShape) (j count : ℕ) (more : Bool) where
  behind : (left t put gone reads : ℕ) → AtLeast reads (slips_from s j count more left t put gone reads)
  behind zero t put gone reads = tt
  behind (suc left) t put gone reads =
      at_least-if reads (over s j count more t put gone || under s j count more t put gone) (slip_in s j count more t put gone reads) (rest_of s j count more left t put gone reads) (omega arith)
      (at_least-fewer reads (reads + one s j count more t) (rest_of s j count more left t put gone reads) (omega arith)
      (behind left (suc t) (put_in s j count more t put gone) (gone_in s j count more t put gone) (reads + one s j count more t)))

  -- those behind the first slots, so many, behind which so many reads stand
  record Rest (slots whole t put gone reads end : ℕ) : Type 0 where
    rest : List Slip
    split : slips_from s j count more whole t put gone reads ≡ slips_from s j count more slots t put gone reads ++ rest
    later : AtLeast end rest

  rest_behind : (slots whole t put gone reads end : ℕ) → slots ≤ whole → end + reads_below s j more t ≡ reads + reads_below s j more (t + slots) → Rest slots whole t put gone reads end
  rest_behind zero whole t put gone reads end h e =
      let same : t + 0 ≡ t = omega arith in
      let is : end ≤ reads = omega (arith, e, ap (reads_below s j more) same) in
      record { rest = slips_from s j count more whole t put gone reads; split = refl; later = at_least-fewer end reads _ is (behind whole t put gone reads) }
  rest_behind (suc slots) zero t put gone reads end h e = absurd (omega arith)
  rest_behind (suc slots) (suc whole) t put gone reads end h e =
      let next : suc t + slots ≡ t + suc slots = omega arith in
      let inner =
      rest_behind slots whole (suc t) (put_in s j count more t put gone) (gone_in s j count more t put gone) (reads + one s j count more t) end (omega arith)
      (omega (arith, e, reads_below-suc s j more t, ap (reads_below s j more) next)) in
      record {
        rest = inner.rest;
        split = append-if (over s j count more t put gone || under s j count more t put gone) (slip_in s j count more t put gone reads) _ _ inner.rest inner.split;
        later = inner.later;
      }

-- ---- frames

module _ (s : FrameShape) (j : ℕ) (counts : ℕ → ℕ) where
  abbrev sent : ℕ → ℕ
  sent n = (start_of s j counts n).sent

  abbrev more : ℕ → Bool
  more n = carries_at s counts n (start_of s j counts n)

  pub sent-next : (n : ℕ) → sent (suc n) ≡ sent n + carried s (more n)
  unfolding start_of
  sent-next n = refl

  pub sent-zero : sent 0 ≡ 0
  unfolding start_of
  sent-zero = refl

  locked-more : eqb s.copies 0 ≡ true → (n : ℕ) → more n ≡ false
  locked-more locked n =
      let at = start_of s j counts n in
      ap (λ b. not (b || ltb (lead + arrived counts n + at.added) (at.sent + at.dropped + threshold))) locked

  -- an edit of a frame stands behind the reads before it
  above-map : (i n base : ℕ) (slips : List Slip) → i < base + n → AtLeast n slips → Above i (map (λ slip. record { over = slip.over; place = base + slip.reads }) slips)
  above-map i n base [] h k = tt
  above-map i n base (slip ∷ slips) h k = (let l = k.0 in omega arith, above-map i n base slips h k.1)

  abbrev put_at : ℕ → ℕ
  put_at n = lead + arrived counts n + (start_of s j counts n).added

  abbrev gone_at : ℕ → ℕ
  gone_at n = sent n + (start_of s j counts n).dropped

  slips-behind : (n slots : ℕ) → AtLeast 0 (slips_in s j counts n slots)
  slips-behind n slots = go (eqb s.copies 0)
    where
      go : (b : Bool) → AtLeast 0 (cond b [] (slips_from s j (counts n) (more n) slots 0 (put_at n) (gone_at n) 0))
      go true = tt
      go false = behind s j (counts n) (more n) slots 0 (put_at n) (gone_at n) 0

  -- the edits of a frame behind its first slots
  record Later (n slots i : ℕ) : Type 0 where
    rest : List Edit
    split : edits_in s j counts n s.len ≡ edits_in s j counts n slots ++ rest
    above : Above i rest

  later_in : (n slots i : ℕ) → slots ≤ s.len → i < sent n + reads_below s j (more n) slots → Later n slots i
  later_in n slots i room h = go (eqb s.copies 0) refl
    where
      part : ℕ → List Slip
      part k = slips_from s j (counts n) (more n) k 0 (put_at n) (gone_at n) 0

      as_edit : Slip → Edit
      as_edit slip = record { over = slip.over; place = sent n + slip.reads }

      go : (b : Bool) → eqb s.copies 0 ≡ b → Later n slots i
      go true e = record { rest = []; split = ap (λ b. map as_edit (cond b [] (part s.len))) e ∙ sym (ap (λ b. map as_edit (cond b [] (part slots)) ++ []) e); above = tt }
      go false e =
          let start : 0 + slots ≡ slots = omega arith in
          let none : reads_below s j (more n) 0 ≡ 0 = refl in
          let inner =
          rest_behind s j (counts n) (more n) slots s.len 0 (put_at n) (gone_at n) 0 (reads_below s j (more n) slots) room (omega (arith, none, ap (reads_below s j (more n)) start)) in
          record {
            rest = map as_edit inner.rest;
            split = ap (λ b. map as_edit (cond b [] (part s.len))) e ∙ ap (map as_edit) inner.split ∙ map-append as_edit (part slots) inner.rest
                ∙ sym (ap (λ b. map as_edit (cond b [] (part slots)) ++ map as_edit inner.rest) e);
            above = above-map i (reads_below s j (more n) slots) (sent n) inner.rest h inner.later;
          }

  above-frame : (i n slots : ℕ) → i < sent n → Above i (edits_in s j counts n slots)
  above-frame i n slots h = above-map i 0 (sent n) (slips_in s j counts n slots) (omega arith) (slips-behind n slots)

  above-frames : (i first run : ℕ) → i < sent first → Above i (flat_map (λ m. edits_in s j counts m s.len) (range_with_len first run))
  above-frames i first zero h = tt
  above-frames i first (suc run) h =
      let next : first + 1 ≡ suc first = omega arith in
      above-append i (edits_in s j counts first s.len) (flat_map (λ m. edits_in s j counts m s.len) (range_with_len (first + 1) run))
      (above-frame i first s.len h) (above-frames i (first + 1) run (omega (arith, h, sent-next first, ap sent next)))

  -- the edits of all frames before frame m
  abbrev whole : ℕ → List Edit
  whole m = flat_map (λ m. edits_in s j counts m s.len) (range_with_len 0 m)

  whole-is : (m : ℕ) → edits_to s j counts m 0 ≡ whole m
  whole-is m = go (eqb s.copies 0)
    where
      as_edit : Slip → Edit
      as_edit slip = record { over = slip.over; place = sent m + slip.reads }

      go : (b : Bool) → whole m ++ map as_edit (cond b [] []) ≡ whole m
      go true = append-nil (whole m)
      go false = append-nil (whole m)

  whole-split : (n k : ℕ) → whole (n + suc k) ≡ whole n ++ (edits_in s j counts n s.len ++ flat_map (λ m. edits_in s j counts m s.len) (range_with_len (n + 1) k))
  whole-split n k =
      let from : 0 + n ≡ n = omega arith in
      let edits : ℕ → List Edit = λ m. edits_in s j counts m s.len in
      ap (flat_map edits) (range_append 0 n (suc k)) ∙ flat_map-append edits (range_with_len 0 n) (range_with_len (0 + n) (suc k))
      ∙ ap (λ a. whole n ++ flat_map edits (range_with_len a (suc k))) from

  -- a bit that frames before frame m carry is as the edits of its first slots leave it
  pub settled-slots : (bits : ℕ → Bool) (m slots i : ℕ) → i < sent m → edited (edits_to s j counts m slots) bits i ≡ edited (edits_to s j counts m 0) bits i
  settled-slots bits m slots i h =
      edited-append (whole m) (edits_in s j counts m slots) bits i ∙ edited-below (edits_in s j counts m slots) (edited (whole m) bits) i (above-frame i m slots h)
      ∙ ap (λ edits. edited edits bits i) (sym (whole-is m))

  -- and one that a slot carries is as the edits before its frame's next leave it
  settled : HasTributaries s → j < s.tribs → (bits : ℕ → Bool) (m n t : ℕ) → n < m → t < s.len → reads_from j (more n) (s.role t) ≡ true
      → edited (edits_to s j counts n (suc t)) bits (sent n + reads_below s j (more n) t) ≡ edited (edits_to s j counts m 0) bits (sent n + reads_below s j (more n) t)
  settled has known bits m n t below inside reads =
      let i : ℕ = sent n + reads_below s j (more n) t in
      let k : ℕ = m - suc n in
      let is : n + suc k ≡ m = omega arith in
      let read : reads_below s j (more n) (suc t) ≡ reads_below s j (more n) t + 1 = reads_below-suc s j (more n) t ∙ ap (λ b. reads_below s j (more n) t + cond b 1 0) reads in
      let all : reads_below s j (more n) s.len ≡ carried s (more n) = reads_below-all s j (more n) has known in
      let grows : reads_below s j (more n) (suc t) ≤ reads_below s j (more n) s.len = count-range_grows (λ u. reads_from j (more n) (s.role u)) (suc t) s.len inside in
      let here = later_in n (suc t) i inside (omega (arith, read)) in
      let next : n + 1 ≡ suc n = omega arith in
      let there = above-frames i (n + 1) k (omega (arith, read, all, grows, sent-next n, ap sent next)) in
      let frames : List Edit = flat_map (λ m. edits_in s j counts m s.len) (range_with_len (n + 1) k) in
      let tail : List Edit = here.rest ++ frames in
      let first : List Edit = edits_to s j counts n (suc t) in
      let joined : edits_to s j counts m 0 ≡ first ++ tail =
      whole-is m ∙ ap whole (sym is) ∙ whole-split n k ∙ ap (λ l. whole n ++ (l ++ frames)) here.split
      ∙ ap (λ l. whole n ++ l) (append_assoc (edits_in s j counts n (suc t)) here.rest frames) ∙ sym (append_assoc (whole n) (edits_in s j counts n (suc t)) tail) in
      sym (ap (λ edits. edited edits bits i) joined ∙ edited-append first tail bits i
      ∙ edited-below tail (edited first bits) i (above-append i here.rest frames here.above there))

  pub is_carried : HasTributaries s → j < s.tribs → IsCarried s j (carriage Slipping s j counts)
  is_carried has known = record { zero = sent-zero; next = sent-next; locked = locked-more; settled = settled has known }
