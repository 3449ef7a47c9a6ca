use Rattle.pdh_edge.specs.Ports.{for_leaf}
use Rattle.pdh_rx.proofs.Tails.{tail_for_leaf, tail_quiet, tail_elsewhere}
use Rattle.pdh_rx.proofs.tail.TailRx.take_in_room.Goals as goal

pub returns-clause-taken : goal.returns-clause-taken
returns-clause-taken g c =
    let leaf = c.args.self.now.leaf in
    let bits = c.args.bits.now.bits in
    record {
      stands = λ line u. tt;
      gains = λ line u. record { more = for_leaf leaf bits; gained = tail_for_leaf leaf line bits; puts = c.put_in_room.ensures.put };
    }

pub returns-clause-quiet : goal.returns-clause-quiet
returns-clause-quiet g c line u = tail_quiet c.args.self.now.leaf line c.args.bits.now.bits

pub returns-clause-others : goal.returns-clause-others
returns-clause-others g c k elsewhere = c.put_in_room.ensures.others k (tail_elsewhere c.args.self.now.leaf k elsewhere)
