use Rattle.std.proofs.Common.{◌≡◌, ◌-◌, ◌*◌, ◌%◌, ◌^◌, ◌<◌, length, drop, bit_and, ap, sym, ◌∙◌, arith}
use Rattle.pdh_packed.specs.Words.{low_bits}
use Rattle.pdh_packed.specs.WordLaws.{length-low_bits, drop_low, low_mask}
use Rattle.pdh_packed.proofs.word.Word.after.Goals as goal

pub returns : goal.returns
returns c =
    let n = c.self.inside.number in
    let w = c.self.inside.count in
    let k = c.args.count in
    let long : length c.args.self.now ≡ w = ap length (sym c.self.view_is) ∙ length-low_bits w n in
    let some : 0 < k = omega (arith, c.if-count-eq0.false) in
    let left : w - k < 64 = omega (arith, c.self.invariant.0) in
    let cut : drop k (low_bits w n) ≡ low_bits (w - k) (n % 2 ^ (w - k)) = drop_low k w n (omega arith) in
    let masked : bit_and n (1 * 2 ^ (w - k) % 2 ^ 64 - 1) ≡ n % 2 ^ (w - k) = low_mask n (w - k) left in
    ap (low_bits (w - k)) masked ∙ sym cut ∙ ap (drop k) c.self.view_is
