use Rattle.std.proofs.Common.{sym, ap, ◌∙◌}
use Rattle.pdh_bits.specs.Bits.{number_of}
use Rattle.pdh_packed.specs.WordLaws.{number_of-low_bits}
use Rattle.pdh_packed.proofs.word.Word.number.Goals as goal

pub returns-clause-value : goal.returns-clause-value
returns-clause-value c = sym (number_of-low_bits c.self.inside.count c.self.inside.number c.self.invariant.1) ∙ ap (λ bits. number_of bits) c.self.view_is
