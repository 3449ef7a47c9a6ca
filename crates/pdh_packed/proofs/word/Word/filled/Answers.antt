use Rattle.std.proofs.Common.{◌≡◌, ℕ, ◌-◌, ◌++◌, length, take, ap, sym, ◌∙◌, arith}
use Rattle.pdh_packed.specs.Words.{low_bits}
use Rattle.pdh_packed.specs.WordLaws.{length-low_bits}
use Rattle.pdh_packed.proofs.PackedLaws.{word_filled}
use Rattle.pdh_packed.proofs.word.Word.filled.Goals as goal

pub returns : goal.returns
returns c =
    let tail = c.args.self.now in
    let h = c.self.inside.count in
    let long : length tail ≡ h = ap length (sym c.self.view_is) ∙ length-low_bits h c.self.inside.number in
    word_filled tail c.self.inside.number c.args.number h (omega (arith, long, c.requires)) c.ranges.number.fits c.self.view_is
    ∙ ap (λ (k : ℕ). tail ++ take (64 - k) (low_bits 64 c.args.number)) (sym long)
