use Rattle.std.proofs.Common.{ap, ◌∙◌}
use Rattle.pdh_looking.specs.declared.tops.Tops.{Tops}
use Rattle.pdh_looking.specs.Judging.{at_top_of}
use Rattle.pdh_looking.proofs.Tables.{judged_at}
use Rattle.pdh_looking.proofs.reading.Reading.judged.Goals as goal

pub returns : goal.returns
returns c =
    c.of.ensures ∙ ap (λ (t : Tops). at_top_of t c.args.top) c.args.self.now.tops_are ∙ judged_at c.args.self.now.line.bits c.args.top
