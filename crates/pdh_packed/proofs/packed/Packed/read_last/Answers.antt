use Rattle.std.proofs.Common.{◌≡◌, ℕ, length, drop, ap, sym, ◌∙◌, arith, length-take, length-drop}
use Rattle.pdh_packed.specs.Words.{low_bits}
use Rattle.pdh_packed.proofs.packed.Packed.read_last.Goals as goal

pub returns : goal.returns
returns c =
    let bits = c.args.self.now.bits in
    let place = c.args.place in
    let long : length c.read.result ≡ 64 = omega (arith, c.requires, ap length c.read.ensures, length-take 64 (drop place bits), length-drop place bits) in
    ap (λ (n : ℕ). low_bits n c.number.result) (sym long) ∙ c.number.ensures.bits ∙ c.read.ensures
