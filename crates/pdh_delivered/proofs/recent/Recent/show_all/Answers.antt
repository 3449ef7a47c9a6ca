use Rattle.std.proofs.Common.{◌≡◌, ◌<◌, ◌-◌, suc, ap, ◌∙◌, arith, length, take, map, List, Bool}
use Rattle.std.proofs.lemmas.List.{take_all}
use Rattle.std.specs.Prelude.{fold}
use Rattle.pdh_line.specs.Tracking.Piece.{Delivered}
use Rattle.pdh_delivered.specs.Deliveries.{deliveries_behind, last_of}
use Rattle.pdh_delivered.proofs.Growing.{next_shown, next_last}
use Rattle.pdh_delivered.proofs.recent.Recent.show_all.Goals as goal

pub loop-done-preserved : goal.loop-done-preserved
loop-done-preserved g c =
    let ready = c.args.aligner.now.ready in
    let n = c.loop-done.done in
    let back = c.args.frames - 1 - n in
    let inv = c.loop-done.invariant in
    let inside : n < length ready = omega (arith, c.requires.ready) in
    let is : length ready - suc back ≡ n = omega (arith, c.requires.ready) in
    record {
      shown = next_shown g.V.Visitor.shown _ _ _ _ _ ready n back inside is inv.shown inv.last c.show.ensures.shown;
      last = next_last _ _ ready n back inside is c.show.ensures.last;
    }

pub returns-clause-shown : goal.returns-clause-shown
returns-clause-shown g c =
    let ready = c.args.aligner.now.ready in
    let all : take c.loop-done.done ready ≡ ready = take_all c.loop-done.done ready (omega (arith, c.requires.ready)) in
    c.loop-done.invariant.shown ∙ ap (λ (frames : List (List Bool)). fold g.V.Visitor.shown c.args.visitor.now (deliveries_behind c.args.self.now.last.bits (map Delivered frames))) all

pub returns-clause-last : goal.returns-clause-last
returns-clause-last g c =
    let ready = c.args.aligner.now.ready in
    let all : take c.loop-done.done ready ≡ ready = take_all c.loop-done.done ready (omega (arith, c.requires.ready)) in
    c.loop-done.invariant.last ∙ ap (λ (frames : List (List Bool)). last_of c.args.self.now.last.bits (map Delivered frames)) all
