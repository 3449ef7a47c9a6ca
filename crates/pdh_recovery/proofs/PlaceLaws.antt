-- True places of a received line, and the right frames that stand there.
use Rattle.std.proofs.Common.{◌≡◌, ℕ, zero, suc, ◌+◌, ◌-◌, ◌*◌, ◌/◌, ◌%◌, ◌<◌, ◌≤◌, Bool, true, List, length, map, take, drop, sym, ap, ◌∙◌, inl, inr, arith}
use Rattle.std.specs.List.{range_with_len}
use Rattle.std.proofs.lemmas.List.{drop-drop, drop-map}
use Rattle.std.proofs.lemmas.List.FromFn.{take-map-range_with_len}
use Rattle.std.proofs.lemmas.Nat.{div-add-mod', mod-mul-add, mod_below}
use Rattle.std.proofs.Math.Nat.{mul-le-mul_right}
use Rattle.std.proofs.lemmas.Bool.{cases_lt}
use Rattle.pdh_shape.specs.Frame.{FrameShape, is_right}
use Rattle.pdh_line.proofs.SentFrames.{drop-range}
use Rattle.pdh_recovery.specs.Recovering.{Rejoins, IsTruePosition, AllRight}

-- a true place, some frames on
pub true_step : (s : FrameShape) (e u p k : ℕ) → 0 < s.len → IsTruePosition s e u p → IsTruePosition s e u (p + k * s.len)
true_step s e u p k some h =
    let r : ℕ = (p + u) % s.len in
    let q : ℕ = (p + u) / s.len in
    let split : q * s.len + r ≡ p + u = div-add-mod' (p + u) s.len in
    let below : r < s.len = mod_below (p + u) s.len some in
    let sum : p + k * s.len + u ≡ (q + k) * s.len + r = omega arith in
    ap (λ n. n % s.len) sum ∙ mod-mul-add (q + k) s.len r below ∙ h

-- a true place within a frame from any place on
pub next_true : (s : FrameShape) (e u x : ℕ) → 0 < s.len → (t : ℕ) × (x ≤ t) × (t < x + s.len) × IsTruePosition s e u t
next_true s e u x some =
    let a : ℕ = (x + u) % s.len in
    let q : ℕ = (x + u) / s.len in
    let c : ℕ = e % s.len in
    let split : q * s.len + a ≡ x + u = div-add-mod' (x + u) s.len in
    let a_below : a < s.len = mod_below (x + u) s.len some in
    let c_below : c < s.len = mod_below e s.len some in
    elim (cases_lt c a) [
      | inl less ↦
          let t : ℕ = x + (s.len + c - a) in
          let sum : t + u ≡ (q + 1) * s.len + c = omega arith in
          (t, omega arith, omega arith, ap (λ n. n % s.len) sum ∙ mod-mul-add (q + 1) s.len c c_below)
      | inr more ↦
          let t : ℕ = x + (c - a) in
          let sum : t + u ≡ q * s.len + c = omega arith in
          (t, omega arith, omega arith, ap (λ n. n % s.len) sum ∙ mod-mul-add q s.len c c_below)
    ]

-- how many frames of the sent line come before a true place
pub true_frame : (s : FrameShape) (e u t : ℕ) → 0 < s.len → IsTruePosition s e u t → e ≤ t → (k : ℕ) × (t + u ≡ e + k * s.len)
true_frame s e u t some h from =
    let r : ℕ = (t + u) % s.len in
    let q : ℕ = (t + u) / s.len in
    let q' : ℕ = e / s.len in
    let split : q * s.len + r ≡ t + u = div-add-mod' (t + u) s.len in
    let split' : q' * s.len + r ≡ e = ap (λ n. q' * s.len + n) h ∙ div-add-mod' e s.len in
    elim (cases_lt q q') [
      | inl less ↦
          let big : suc q * s.len ≤ q' * s.len = mul-le-mul_right s.len (suc_le q q' less) in
          absurd (omega arith)
      | inr more ↦
          let k : ℕ = q - q' in
          let e' : q ≡ q' + k = omega arith in
          let product : q * s.len ≡ (q' + k) * s.len = ap (λ n. n * s.len) e' in
          (k, omega arith)
    ]
  where
    suc_le : (a b : ℕ) → a < b → suc a ≤ b
    suc_le a b h = omega arith

-- a frame at a true place from the rejoining place on is a frame of the sent line
pub sent_at : (s : FrameShape) (line : List Bool) (sent : ℕ → Bool) (e u t k : ℕ) → Rejoins line sent e u → e ≤ t → t + u ≡ e + k * s.len → t + s.len ≤ length line
    → take s.len (drop t line) ≡ map sent (range_with_len (k * s.len) s.len)
sent_at s line sent e u t k same from is within =
    let d : ℕ = t - e in
    let n : ℕ = length line - e in
    let at : e + d ≡ t = omega arith in
    let place : u + d ≡ k * s.len = omega arith in
    ap (take s.len) (ap (λ m. drop m line) (sym at) ∙ sym (drop-drop d e line) ∙ ap (drop d) same ∙ drop-map sent d (range_with_len u n) ∙ ap (map sent) (drop-range d u n (omega arith)))
    ∙ take-map-range_with_len sent (u + d) (n - d) s.len (omega arith)
    ∙ ap (λ m. map sent (range_with_len m s.len)) place

pub right_at : (s : FrameShape) (line : List Bool) (sent : ℕ → Bool) (e u t : ℕ) → 0 < s.len → Rejoins line sent e u → AllRight s sent (u + (length line - e))
    → e ≤ t → IsTruePosition s e u t → t + s.len ≤ length line → is_right s (take s.len (drop t line)) ≡ true
right_at s line sent e u t some same right from true_place within =
    let frame = true_frame s e u t some true_place from in
    let is : t + u ≡ e + frame.0 * s.len = frame.1 in
    ap (is_right s) (sent_at s line sent e u t frame.0 same from is within) ∙ right frame.0 (omega arith)
