-- Frames in which a store stays away from both its ends: they meet no event.
use Rattle.std.proofs.Common.{◌≡◌, ℕ, zero, suc, ◌+◌, ◌-◌, ◌<◌, ◌≤◌, Bool, true, false, leb, ap, ◌∙◌, subst, arith}
use Rattle.std.proofs.lemmas.Bool.{lt-leb}
use Rattle.pdh_shape.specs.Frame.{FrameShape, IsFrame}
use Rattle.pdh_shape.specs.Tributary.{reads_from, HasTributaries, ReadsEvenly}
use Rattle.pdh_shape.specs.OwnNumbers.{lead, threshold, store_size}
use Rattle.pdh_line.specs.Progress.{arrived}
use Rattle.pdh_line.specs.Sending.{arrives_at, carried, sent, sends_more, came_before, read_before}
use Rattle.pdh_line.specs.Events.{overflows, underflows}
use Rattle.pdh_line.specs.Tolerance.{least_fill, KeepsInside, fill_next, fill_from, StaysInside, HoldsAt}
use Rattle.pdh_line.proofs.SendingLaws.{HasStores, arrived-suc, sent-suc, sends_more-fill, came_before_grows}
use Rattle.pdh_line.proofs.FrameBounds.{reads-few, arrivals-few_any}
use Rattle.pdh_line.proofs.WithinTolerance.{and_false}

-- the first frame's start is inside
pub first_inside : (low : ℕ) (counts : ℕ → ℕ) (first fill frames : ℕ) → StaysInside low counts first fill frames → 0 < frames → least_fill ≤ fill
unfolding fill_from
first_inside low counts first fill frames inside some = (inside 0 some).least_before

module _ (s : FrameShape) (j : ℕ) (counts : ℕ → ℕ) (frame : IsFrame s) (has : HasTributaries s) (stores : HasStores s) (even : ReadsEvenly s) (known : j < s.tribs) where
  -- ---- one frame

  no_overflow : (n fill t : ℕ) → HoldsAt s counts n fill → KeepsInside s.low (counts n) fill → t < s.len → overflows s j counts n t ≡ false
  no_overflow n fill t held keeps h =
      let e : ℕ = counts n - suc s.low in
      let most : counts n ≤ suc s.low + e = omega arith in
      let came = arrivals-few_any s j (counts n) e t (sends_more s counts n) frame has even known most h in
      let few : fill + e ≤ 89 = omega (arith, keeps.most_before, keeps.most_after) in
      and_false (arrives_at s (counts n) t) (leb (read_before s j counts n t + store_size) (came_before s counts n t))
      (lt-leb _ _ (omega (arith, came, held, few, came_before_grows s counts n t frame)))

  no_underflow : (n fill t : ℕ) → HoldsAt s counts n fill → KeepsInside s.low (counts n) fill → t < s.len → underflows s j counts n t ≡ false
  no_underflow n fill t held keeps h =
      let d : ℕ = s.low - counts n in
      let least : s.low ≤ counts n + d = omega arith in
      let few = reads-few s j (counts n) d t (sends_more s counts n) frame has even known least (omega arith) in
      let enough : d + 4 ≤ fill = omega (arith, keeps.least_before, keeps.least_after) in
      and_false (reads_from j (sends_more s counts n) (s.role t)) (leb (came_before s counts n (suc t)) (read_before s j counts n t))
      (lt-leb _ _ (omega (arith, few, held, enough, came_before_grows s counts n t frame)))

  -- and what the store holds at its end
  held_next : (n fill : ℕ) → HoldsAt s counts n fill → KeepsInside s.low (counts n) fill → HoldsAt s counts (suc n) (fill_next s.low (counts n) fill)
  held_next n fill held keeps =
      go (leb threshold fill) (sent-suc s counts n ∙ ap (λ b. sent s counts n + carried s b) (sends_more-fill s counts n fill stores held))
    where
      go : (b : Bool) → sent s counts (suc n) ≡ sent s counts n + carried s b → sent s counts (suc n) + (fill + counts n - carried s b) ≡ lead + arrived counts (suc n)
      go true e = omega (arith, e, held, keeps.least_after, arrived-suc counts n)
      go false e = omega (arith, e, held, keeps.least_after, arrived-suc counts n)

  -- ---- some frames

  held_later : (n fill k : ℕ) → HoldsAt s counts n fill → StaysInside s.low counts n fill k → HoldsAt s counts (n + k) (fill_from s.low counts n fill k)
  unfolding fill_from
  held_later n fill zero held inside = (let e : n ≡ n + 0 = omega arith in subst (λ m. HoldsAt s counts m fill) e held)
  held_later n fill (suc k) held inside =
      let e : suc (n + k) ≡ n + suc k = omega arith in
      subst (λ m. HoldsAt s counts m (fill_next s.low (counts (n + k)) (fill_from s.low counts n fill k))) e
      (held_next (n + k) (fill_from s.low counts n fill k) (held_later n fill k held (λ i h. inside i (omega arith))) (inside k (omega arith)))

  -- none of their slots meets an event
  pub no_event : (n fill k m t : ℕ) → HoldsAt s counts n fill → StaysInside s.low counts n fill k → n ≤ m → m < n + k → t < s.len
      → (overflows s j counts m t ≡ false) × (underflows s j counts m t ≡ false)
  no_event n fill k m t held inside from to h =
      let i : ℕ = m - n in
      let e : n + i ≡ m = omega arith in
      let now : ℕ = fill_from s.low counts n fill i in
      let there : HoldsAt s counts (n + i) now = held_later n fill i held (λ v l. inside v (omega arith)) in
      let keeps : KeepsInside s.low (counts (n + i)) now = inside i (omega arith) in
      subst (λ v. (overflows s j counts v t ≡ false) × (underflows s j counts v t ≡ false)) e
      (no_overflow (n + i) now t there keeps h, no_underflow (n + i) now t there keeps h)
