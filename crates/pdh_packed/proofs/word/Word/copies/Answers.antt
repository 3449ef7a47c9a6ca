use Rattle.std.proofs.Common.{ℕ, replicate, sym, ap, ◌∙◌, inl, inr}
use Rattle.pdh_packed.specs.WordLaws.{low_bits_none}
use Rattle.pdh_packed.specs.Words.{low_bits}
use Rattle.pdh_packed.proofs.BitwiseLaws.{low_bits-zero, low_bits-ones, ones_small}
use Rattle.pdh_packed.proofs.word.Word.copies.Goals as goal

pub returns-then-not-bit : goal.returns-then-not-bit
returns-then-not-bit c =
    elim c.then-not-bit.either [
      | inl clear ↦ c.of.ensures.bits ∙ low_bits-zero c.args.count ∙ ap (replicate c.args.count) (sym clear)
      | inr (set, none) ↦ c.of.ensures.bits ∙ ap (λ (k : ℕ). low_bits k 0) none ∙ low_bits_none 0 ∙ ap (λ (k : ℕ). replicate k c.args.bit) (sym none)
    ]

pub of-requires-2-clause-small : goal.of-requires-2-clause-small
of-requires-2-clause-small c = ones_small c.args.count c.requires

pub returns : goal.returns
returns c = c.of-2.ensures.bits ∙ low_bits-ones c.args.count c.requires ∙ ap (replicate c.args.count) (sym c.if-not-bit.false)
