-- What is read of a tributary at the end of a frame is what is read of it at the start of the next one, in either mode.
use Rattle.std.proofs.Common.{◌≡◌, ℕ, suc, ◌+◌, ◌<◌, cond, List, [], ◌∷◌, ◌++◌, map, refl, sym, ap, ◌∙◌, arith}
use Rattle.std.specs.Prelude.{flat_map}
use Rattle.std.specs.List.{range_with_len}
use Rattle.std.proofs.lemmas.List.{append-nil}
use Rattle.std.proofs.lemmas.Grind.{flat_map-append}
use Rattle.pdh_shape.specs.Frame.{FrameShape}
use Rattle.pdh_shape.specs.Tributary.{reads_below, HasTributaries}
use Rattle.pdh_line.specs.Edits.{Edit}
use Rattle.pdh_line.specs.Sending.{HasStores, Mode, Slip, carriage, carries_at, start_of, edits_in, edits_to}
use Rattle.pdh_line.specs.Sending.Mode.{Plain, Slipping}
use Rattle.pdh_line.proofs.Ranges.{range_push}
use Rattle.pdh_line.proofs.SendingLaws.{reads_below-all, read_before-next}
use Rattle.pdh_tx.specs.Held.{Readout, unslipped}

flat_more : (f : ℕ → List Edit) (n : ℕ) → flat_map f (range_with_len 0 (suc n)) ≡ flat_map f (range_with_len 0 n) ++ f n
flat_more f n =
    let e : 0 + n ≡ n = omega arith in
    ap (flat_map f) (range_push 0 n) ∙ flat_map-append f (range_with_len 0 n) ((0 + n) ∷ []) ∙ ap (λ l. flat_map f (range_with_len 0 n) ++ l) (append-nil (f (0 + n)) ∙ ap f e)

module _ (s : FrameShape) (j : ℕ) (counts : ℕ → ℕ) (stores : HasStores s) where
  -- no slot comes before the first one
  pub no-edits : (n : ℕ) → edits_in s j counts n 0 ≡ []
  no-edits n = ap (λ b. map (λ (slip : Slip). record { over = slip.over; place = (start_of s j counts n).sent + slip.reads }) (cond b [] [])) stores

  pub edits-frame : (n : ℕ) → edits_to s j counts n s.len ≡ edits_to s j counts (suc n) 0
  edits-frame n =
      let whole : ℕ → List Edit = λ n. flat_map (λ m. edits_in s j counts m s.len) (range_with_len 0 n) in
      sym (ap (λ l. whole (suc n) ++ l) (no-edits (suc n)) ∙ append-nil (whole (suc n)) ∙ flat_more (λ m. edits_in s j counts m s.len) n)

  pub sent-frame : HasTributaries s → j < s.tribs → (n : ℕ)
      → (start_of s j counts n).sent + reads_below s j (carries_at s counts n (start_of s j counts n)) s.len ≡ (start_of s j counts (suc n)).sent + reads_below s j (carries_at s counts (suc n) (start_of s j counts (suc n))) 0
  unfolding start_of
  sent-frame has known n =
      let all = reads_below-all s j (carries_at s counts n (start_of s j counts n)) has known in
      let none : reads_below s j (carries_at s counts (suc n) (start_of s j counts (suc n))) 0 ≡ 0 = refl in
      omega (arith, all, none)

-- what is read by a slot of a frame
abbrev pub readout : FrameShape → ℕ → (ℕ → ℕ) → Mode → ℕ → ℕ → Readout
readout s j counts mode n t = (let c = carriage mode s j counts in record { read = c.sent n + reads_below s j (c.more n) t; edits = c.edits n t })

pub frame-by : (s : FrameShape) (j : ℕ) (counts : ℕ → ℕ) (mode : Mode) (n : ℕ) → HasStores s → HasTributaries s → j < s.tribs → readout s j counts mode n s.len ≡ readout s j counts mode (suc n) 0
frame-by s j counts Plain n stores has known = ap unslipped (read_before-next s j counts n has known)
frame-by s j counts Slipping n stores has known =
    let start = start_of s j counts n in
    ap (λ (e : List Edit). record { read = start.sent + reads_below s j (carries_at s counts n start) s.len; edits = e }) (edits-frame s j counts stores n)
    ∙ ap (λ (r : ℕ). record { read = r; edits = edits_to s j counts (suc n) 0 }) (sent-frame s j counts stores has known n)
