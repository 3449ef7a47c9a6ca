use Rattle.std.proofs.Common.{◌≡◌, List, Bool, ◌++◌, length, refl, ap, arith}
use Rattle.pdh_packed.specs.Gaining.{gained}
use Rattle.pdh_tx.specs.Meaning.{plan_in}
use Rattle.std.proofs.lemmas.List.{length-append}
use Rattle.pdh_tx.proofs.Passing.{front_room, front_is, queue_is, queue_long}
use Rattle.pdh_tx.proofs.Gathered.{gathers}
use Rattle.pdh_tx.proofs.tributary.Tributary.gather.Goals as goal

pub make_clear-requires-clause-clear : goal.make_clear-requires-clause-clear
make_clear-requires-clause-clear g c = (c.requires.clear.made, c.requires.clear.placed.place, c.requires.clear.clear)

pub make_clear-requires-clause-room : goal.make_clear-requires-clause-room
make_clear-requires-clause-room g c =
    let room = front_room c.args.queue.now.bits c.clear.new.self c.move_to.new.list c.move_to.new.list c.args.self.now.store c.args.self.now.store c.args.count c.clear.ensures refl c.move_to.ensures.moved in
    let front = front_is c.args.queue.now.bits c.clear.new.self c.move_to.new.list c.move_to.new.list c.args.self.now.store c.args.self.now.store c.args.count c.clear.ensures refl c.move_to.ensures.moved in
    omega (arith, room, ap length front, c.move_to.ensures.few, c.requires.room)

pub returns-clause-ok : goal.returns-clause-ok
returns-clause-ok g c made out was =
    let plan = plan_in c.args.clock.now g.G.SlipLog.takes in
    let store : List Bool = c.args.self.now.store in
    let front = c.move_to.new.list in
    let queue = c.make_clear.new.into in
    let ok = c.in_ok-make_clear.ensures in
    let is : queue.bits ≡ store ++ gained front queue = queue_is c.args.queue.now.bits c.clear.new.self front queue store store c.args.count c.clear.ensures refl c.move_to.ensures.moved ok.appended.grown in
    let long = queue_long c.args.queue.now.bits c.clear.new.self front queue store store c.args.count c.clear.ensures refl c.move_to.ensures.moved ok.appended.grown in
    gathers g.C.Tx c.args.self.now _ _ plan c.args.count c.args.at_once made out _ _ (gained front queue) ok.kept.same (ok.kept.same_says) ok.stopped is refl (omega (arith, c.fill.ensures.count)) (omega (arith, long, ap length is, length-append store (gained front queue))) c.requires.at_once was (ok.made made was.place)
