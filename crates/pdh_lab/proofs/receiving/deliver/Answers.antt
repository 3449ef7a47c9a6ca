use Rattle.std.proofs.Common.{rules, ap, ◌∙◌, arith}
use Rattle.pdh_edge.specs.MemLists.{room_of}
use Rattle.pdh_edge.proofs.InRoom.{puts_in_room}
use Rattle.pdh_chain.specs.Chains.{leaves_of}
use Rattle.pdh_lab.proofs.Received.{lists_hold, shares_in_room, whatever_seen}
use Rattle.pdh_lab.proofs.Sent.{none_rose}
use Rattle.pdh_lab.proofs.Wanting.{demux_memory}
use Rattle.pdh_lab.proofs.receiving.deliver.Goals as goal

pub demux-requires-clause-port : goal.demux-requires-clause-port
demux-requires-clause-port c = record {
  is_fresh = c.requires.fresh;
  has_leaves = λ k low. lists_hold (leaves_of c.args.chain) k c.requires.outputs low;
  has_line = search rules;
}

pub wanting-requires : goal.wanting-requires
wanting-requires c =
    let why = c.in-Err.ensures in
    let kept = c.demux.ensures.kept in
    demux_memory c.in-Err.stop
    (λ is. let stops = rw is at why.err in omega (arith, stops.0, c.requires.line.left))
    (λ is. let counted = rw is at why.reads in omega (arith, counted))
    (λ is. let fails = rw is at why.err in
    none_rose _ _ c.requires.faults
    (puts_in_room c.args.port.now c.demux.new.port kept.3 (λ k held. shares_in_room c.args.chain _ c.args.bits k (room_of c.args.port.now) _ _ _ _ c.requires.outputs kept.2 c.requires.room fails.1 held))
    fails.0)

pub returns-in-Ok-clause-leaves : goal.returns-in-Ok-clause-leaves
returns-in-Ok-clause-leaves c k low = ap (λ h. h k) c.demux.ensures.kept.2 ∙ lists_hold (leaves_of c.args.chain) k c.requires.outputs low

pub returns-in-Err-clause-leaves : goal.returns-in-Err-clause-leaves
returns-in-Err-clause-leaves c k low = ap (λ h. h k) c.demux.ensures.kept.2 ∙ lists_hold (leaves_of c.args.chain) k c.requires.outputs low

pub returns-in-Ok-clause-ok : goal.returns-in-Ok-clause-ok
returns-in-Ok-clause-ok c = whatever_seen c.args.chain _ c.args.bits _ _ _ _ _ c.in-Ok.ensures.ok
