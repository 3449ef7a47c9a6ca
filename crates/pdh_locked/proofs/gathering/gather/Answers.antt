use Rattle.std.proofs.Common.{◌≡◌, List, Bool, ◌++◌, refl, ap, ◌∙◌}
use Rattle.pdh_packed.specs.Gaining.{gained}
use Rattle.pdh_tx.specs.Meaning.{plan_in}
use Rattle.pdh_locked.proofs.GatherSlots.{gathers}
use Rattle.pdh_locked.proofs.gathering.gather.Goals as goal

pub make_clear-requires-clause-clear : goal.make_clear-requires-clause-clear
make_clear-requires-clause-clear g c = (c.requires.clear.made, c.requires.clear.stands.place, c.requires.clear.clear)

pub returns-clause-ok : goal.returns-clause-ok
returns-clause-ok g c made was =
    let plan = plan_in c.args.clock.now g.G.SlipLog.takes in
    let queue = c.make_clear.new.into in
    let bits : List Bool = gained c.clear.new.self queue in
    let ok = c.in_ok-make_clear.ensures in
    let is : queue.bits ≡ bits = ok.appended.grown.bits ∙ ap (λ list. list.bits ++ bits) c.clear.ensures in
    gathers g.C.Tx c.args.child.now _ _ plan c.args.count made _ _ bits ok.kept.same ok.kept.same_says ok.stopped is refl ok.appended.grown.count was (ok.made made was.place)
