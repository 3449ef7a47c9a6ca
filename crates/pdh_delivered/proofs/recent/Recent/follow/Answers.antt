use Rattle.std.proofs.Common.{ap, sym, ◌∙◌}
use Rattle.std.specs.Prelude.{fold}
use Rattle.pdh_align.specs.declared.step.Step.{Step}
use Rattle.pdh_delivered.specs.Deliveries.{deliveries_behind, last_of, gained}
use Rattle.pdh_delivered.proofs.recent.Recent.follow.Goals as goal

pub returns-in-Aligned-clause-shown : goal.returns-in-Aligned-clause-shown
returns-in-Aligned-clause-shown g c =
    c.show_all.ensures.shown
    ∙ ap (λ (step : Step). fold g.V.Visitor.shown c.args.visitor.now (deliveries_behind c.args.self.now.last.bits (gained step c.args.aligner.now.ready))) (sym c.in-Aligned.is)

pub returns-in-Aligned-clause-last : goal.returns-in-Aligned-clause-last
returns-in-Aligned-clause-last g c =
    c.show_all.ensures.last ∙ ap (λ (step : Step). last_of c.args.self.now.last.bits (gained step c.args.aligner.now.ready)) (sym c.in-Aligned.is)

pub returns-in-Frame-clause-shown : goal.returns-in-Frame-clause-shown
returns-in-Frame-clause-shown g c =
    c.show_all-in-Frame.ensures.shown
    ∙ ap (λ (step : Step). fold g.V.Visitor.shown c.args.visitor.now (deliveries_behind c.args.self.now.last.bits (gained step c.args.aligner.now.ready))) (sym c.in-Frame.is)

pub returns-in-Frame-clause-last : goal.returns-in-Frame-clause-last
returns-in-Frame-clause-last g c =
    c.show_all-in-Frame.ensures.last ∙ ap (λ (step : Step). last_of c.args.self.now.last.bits (gained step c.args.aligner.now.ready)) (sym c.in-Frame.is)

pub returns-in-Lost-clause-shown : goal.returns-in-Lost-clause-shown
returns-in-Lost-clause-shown g c =
    ap (λ (step : Step). fold g.V.Visitor.shown c.args.visitor.now (deliveries_behind c.args.self.now.last.bits (gained step c.args.aligner.now.ready))) (sym c.in-Lost.is)

pub returns-in-Lost-clause-last : goal.returns-in-Lost-clause-last
returns-in-Lost-clause-last g c =
    ap (λ list. list.bits) c.clear.ensures ∙ ap (λ (step : Step). last_of c.args.self.now.last.bits (gained step c.args.aligner.now.ready)) (sym c.in-Lost.is)

pub returns-in-Nothing-clause-shown : goal.returns-in-Nothing-clause-shown
returns-in-Nothing-clause-shown g c =
    ap (λ (step : Step). fold g.V.Visitor.shown c.args.visitor.now (deliveries_behind c.args.self.now.last.bits (gained step c.args.aligner.now.ready))) (sym c.in-Nothing.is)

pub returns-in-Nothing-clause-last : goal.returns-in-Nothing-clause-last
returns-in-Nothing-clause-last g c = ap (λ (step : Step). last_of c.args.self.now.last.bits (gained step c.args.aligner.now.ready)) (sym c.in-Nothing.is)

pub returns-in-Rejected-clause-shown : goal.returns-in-Rejected-clause-shown
returns-in-Rejected-clause-shown g c =
    ap (λ (step : Step). fold g.V.Visitor.shown c.args.visitor.now (deliveries_behind c.args.self.now.last.bits (gained step c.args.aligner.now.ready))) (sym c.in-Rejected.is)

pub returns-in-Rejected-clause-last : goal.returns-in-Rejected-clause-last
returns-in-Rejected-clause-last g c = ap (λ (step : Step). last_of c.args.self.now.last.bits (gained step c.args.aligner.now.ready)) (sym c.in-Rejected.is)
