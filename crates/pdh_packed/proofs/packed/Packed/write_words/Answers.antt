use Rattle.std.proofs.Common.{◌≡◌, ℕ, ◌+◌, ◌-◌, ◌*◌, ◌≤◌, ◌++◌, List, length, take, drop, ap, ◌∙◌, arith, length-append, length-take, length-drop}
use borrow.Rule.Slice.PartMut.{put_mid}
use Rattle.pdh_bits.specs.Bits.{bytes_of}
use Rattle.pdh_bits.proofs.BitsLemmas.{length-bytes_of, bytes_of-take}
use Rattle.pdh_packed.proofs.ByteLaws.{part_written, bytes_from}
use Rattle.pdh_packed.proofs.packed.Packed.write_words.Goals as goal

pub loop-into-preserved : goal.loop-into-preserved
loop-into-preserved c =
    let bits = c.args.self.now.bits in
    let place = c.args.place in
    let old = c.args.into.now in
    let into = c.loop-into.into in
    let i = c.loop-into.done in
    let part = c.write_word.new.into in
    let bytes : List ℕ = bytes_of (drop place bits) in
    let eight : i + 8 - i ≡ 8 = omega arith in
    let more : i + 8 ≤ length old = omega (arith, c.loop-into-test.true, c.loop-into.auto.into) in
    let held : length old ≤ length bytes = omega (arith, length-bytes_of (drop place bits), length-drop place bits, c.requires) in
    let read : part ≡ take 8 (drop i bytes) = c.write_word.ensures ∙ bytes_of-take 8 (drop (place + 8 * i) bits) ∙ ap (take 8) (bytes_from bits place i) in
    let now : put_mid i (i + 8 - i) into part ≡ take (i + 8) bytes ++ drop (i + 8) old =
    ap (λ (k : ℕ). put_mid i k into part) eight ∙ ap (λ (xs : List ℕ). put_mid i 8 xs part) c.loop-into.invariant.1 ∙ part_written bytes old part i 8 (omega arith) read in (
      omega (arith, ap length now, length-append (take (i + 8) bytes) (drop (i + 8) old), length-take (i + 8) bytes, length-drop (i + 8) old),
      now,
    )
