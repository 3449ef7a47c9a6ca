use Rattle.std.proofs.Common.{ℕ, true, replicate, ap, ◌∙◌}
use Rattle.pdh_packed.specs.Places.{differing}
use Rattle.pdh_packed.proofs.BitwiseLaws.{differing-ones}
use Rattle.pdh_packed.proofs.word.Word.inverted.Goals as goal

pub returns : goal.returns
returns c =
    c.xor.ensures ∙ ap (differing c.args.self.now) (c.copies.ensures ∙ ap (λ (k : ℕ). replicate k true) c.len.ensures.count) ∙ differing-ones c.args.self.now
