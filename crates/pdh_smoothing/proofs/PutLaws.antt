-- What the lists of a line of one multiplexer get: as bytes, and of its first bits.
use Rattle.std.proofs.Common.{◌≡◌, inl, inr, ℕ, suc, ◌^◌, ◌<◌, cond, nat_lt, eqb, Bool, List, [], ◌++◌, length, ap, sym, ◌∙◌, arith, length-append, eq-eqb}
use Rattle.std.proofs.lemmas.Bool.{cases_lt, cases_eq, lt-ltb, le-ltb, ne_eqb}
use Rattle.std.proofs.lemmas.List.{append-nil, nil_from_length}
use Rattle.pdh_bits.specs.Bits.{bits_of, bytes_of}
use Rattle.pdh_edge.specs.Ports.{IsPrefix}
use Rattle.pdh_shape.specs.Frame.{FrameShape, IsFrame}
use Rattle.pdh_desync.specs.FarStore.{smooth}
use Rattle.pdh_desync.specs.laws.SmoothLaws.{smooth_grows}
use Rattle.pdh_smoothing.specs.Again.{schedule_again}
use Rattle.pdh_smoothing.specs.Smoothing.{put_by}
use Rattle.pdh_smoothing.proofs.AsciiRows.{schedule_whole}

-- of all bits
pub put_bytes : (s : FrameShape) (bits : ℕ) (given : List Bool) (k : ℕ) → IsFrame s → suc s.low < 2 ^ 64 → bits < 2 ^ 63 → length given ≡ bits
    → bytes_of (put_by s bits given k) ≡ cond (nat_lt k s.tribs) (bytes_of (smooth s k given)) (schedule_again s given)
put_bytes s bits given k shape low few count = elim (cases_lt k s.tribs) [
  | inl first ↦ ap (λ b. bytes_of (cond b (smooth s k given) (cond (eqb (length given) bits) (bits_of (schedule_again s given)) []))) (lt-ltb k s.tribs first) ∙ sym (ap (λ b. cond b (bytes_of (smooth s k given)) (schedule_again s given)) (lt-ltb k s.tribs first))
  | inr past ↦
      ap (λ b. bytes_of (cond b (smooth s k given) (cond (eqb (length given) bits) (bits_of (schedule_again s given)) []))) (le-ltb k s.tribs past)
      ∙ ap (λ b. bytes_of (cond b (bits_of (schedule_again s given)) [])) (eq-eqb (length given) bits count)
      ∙ schedule_whole s given shape low (omega (arith, count, few)) ∙ sym (ap (λ b. cond b (bytes_of (smooth s k given)) (schedule_again s given)) (le-ltb k s.tribs past))
]

-- of its first bits a list gets the first of what it gets of all
pub put_grows : (s : FrameShape) (bits : ℕ) (given all : List Bool) (k : ℕ) → IsFrame s → length all ≡ bits → IsPrefix given all → IsPrefix (put_by s bits given k) (put_by s bits all k)
put_grows s bits given all k shape count begins = elim (cases_eq (length given) bits) [
  | inl whole ↦
      let none : length begins.0 ≡ 0 = omega (arith, whole, count, ap length begins.1, length-append given begins.0) in
      let same : all ≡ given = begins.1 ∙ ap (λ rest. given ++ rest) (nil_from_length begins.0 none) ∙ append-nil given in
      ([], ap (λ l. put_by s bits l k) same ∙ sym (append-nil (put_by s bits given k)))
  | inr short ↦ elim (cases_lt k s.tribs) [
    | inl first ↦
        let of : (l : List Bool) → put_by s bits l k ≡ smooth s k l = λ l. ap (λ b. cond b (smooth s k l) (cond (eqb (length l) bits) (bits_of (schedule_again s l)) [])) (lt-ltb k s.tribs first) in
        let grown = smooth_grows s k given begins.0 shape in
        (grown.0, of all ∙ ap (smooth s k) begins.1 ∙ grown.1 ∙ ap (λ l. l ++ grown.0) (sym (of given)))
    | inr past ↦
        let none : put_by s bits given k ≡ [] =
        ap (λ b. cond b (smooth s k given) (cond (eqb (length given) bits) (bits_of (schedule_again s given)) [])) (le-ltb k s.tribs past) ∙ ap (λ b. cond b (bits_of (schedule_again s given)) []) (ne_eqb (length given) bits short) in
        (put_by s bits all k, ap (λ l. l ++ put_by s bits all k) (sym none))
  ]
]
