use Rattle.std.proofs.Common.{ap, sym, subst, drop}
use Rattle.std.proofs.lemmas.Option.{IfSome_then}
use Rattle.pdh_align.specs.Searching.{Searches}
use Rattle.pdh_align.proofs.OpenGaps.{searches_gap}
use Rattle.pdh_align.proofs.aligner.Aligner.phases.Goals as goal

pub returns-clause-stands : goal.returns-clause-stands
returns-clause-stands g c =
    IfSome_then c.phases.result c.phases.ensures.stands (λ phases stands line q h ends.
    let gap = searches_gap g.S.Shape.shape c.args.self.now line q g.met.S.Shape.is_frame h ends in
    stands gap.0 (drop q line) (subst (λ x. Searches g.S.Shape.shape x gap.0 (drop q line)) (ap (λ x. x.search) (sym c.self.view_is)) gap.1))
