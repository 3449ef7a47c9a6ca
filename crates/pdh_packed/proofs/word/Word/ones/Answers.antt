use Rattle.std.proofs.Common.{◌∙◌, sym, ap}
use Rattle.pdh_packed.proofs.OnesLaws.{ones_of, ones_of_low}
use Rattle.pdh_packed.proofs.word.Word.ones.Goals as goal

pub returns : goal.returns
returns c = sym (ones_of_low c.self.inside.count c.self.inside.number c.self.invariant.1) ∙ ap ones_of c.self.view_is
