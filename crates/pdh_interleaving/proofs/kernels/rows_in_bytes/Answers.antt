use Rattle.std.proofs.Common.{◌≡◌, ℕ, ◌+◌, ◌-◌, ◌*◌, ◌/◌, ◌%◌, Bool, map, refl, ◌∙◌, ap}
use Rattle.std.specs.List.{range_with_len}
use Rattle.pdh_bits.specs.Bits.{bit}
use Rattle.pdh_interleaving.specs.Interleaving.{picked}
use Rattle.pdh_interleaving.proofs.EightLaws.{same_at}
use Rattle.pdh_interleaving.proofs.kernels.rows_in_bytes.Goals as goal

abbrev halves : ℕ → ℕ → Bool
halves w k = picked (bit 18446744004990074880 k) (bit 68719476480 (k + 4)) (bit w k) (bit w (k + 4))

abbrev quarters : ℕ → ℕ → Bool
quarters w k = picked (bit 18445618178097414144 k) (bit 1125831187628016 (k + 2)) (halves w k) (halves w (k + 2))

abbrev bytes : ℕ → ℕ → Bool
bytes w k = picked (bit 18302908165848628736 k) (bit 142991470045692412 (k + 1)) (quarters w k) (quarters w (k + 1))

places : (w : ℕ) → map (λ q. bytes w (63 - (q / 7 * 8 + q % 7))) (range_with_len 0 56) ≡ map (λ q. bit w (63 - q)) (range_with_len 0 56)
places w = refl

both : (here there x y u v : Bool) → x ≡ u → y ≡ v → picked here there x y ≡ picked here there u v
both here there x y u v first second = ap (λ (b : Bool). picked here there b y) first ∙ ap (picked here there u) second

pub returns : goal.returns
returns c q within =
    let w = c.args.word in
    let h = c.moved-halves.result in
    let s = c.moved-quarters.result in
    let quarter : (k : ℕ) → bit s k ≡ quarters w k =
    λ k. c.moved-quarters.ensures k ∙ both (bit 18445618178097414144 k) (bit 1125831187628016 (k + 2)) (bit h k) (bit h (k + 2)) (halves w k) (halves w (k + 2)) (c.moved-halves.ensures k) (c.moved-halves.ensures (k + 2)) in
    let k : ℕ = 63 - (q / 7 * 8 + q % 7) in
    c.moved.ensures k ∙ both (bit 18302908165848628736 k) (bit 142991470045692412 (k + 1)) (bit s k) (bit s (k + 1)) (quarters w k) (quarters w (k + 1)) (quarter k) (quarter (k + 1))
    ∙ same_at (λ r. bytes w (63 - (r / 7 * 8 + r % 7))) (λ r. bit w (63 - r)) 56 q (places w) within
