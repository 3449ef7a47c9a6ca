use Rattle.std.proofs.Common.{◌≡◌, ℕ, ap, sym, ◌∙◌, arith}
use Rattle.pdh_packed.specs.Words.{low_bits}
use Rattle.pdh_packed.proofs.BitwiseLaws.{slid}
use Rattle.pdh_packed.proofs.word.Word.slide.Goals as goal

pub returns : goal.returns
returns c =
    let next : low_bits 64 c.number-2.result ≡ c.args.next = ap (λ (k : ℕ). low_bits k c.number-2.result) (sym c.requires.whole) ∙ c.number-2.ensures.bits in
    c.of.ensures.bits
    ∙ slid c.args.self.now c.args.next c.number.result c.number-2.result _ c.args.place c.requires.few (omega (arith, c.len.ensures.count, c.requires.begun)) c.number-2.type_inv c.number.ensures.bits next
