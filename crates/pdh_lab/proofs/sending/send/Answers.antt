use Rattle.std.proofs.Common.{◌≡◌, ◌<◌, sym, subst, arith}
use Rattle.pdh_line.specs.Sending.Mode.{Plain, Slipping}
use Rattle.pdh_edge.specs.MemLists.{mem_outputs, bits_held, room_of}
use Rattle.pdh_edge.proofs.InRoom.{puts_in_room}
use Rattle.pdh_lab.proofs.Sent.{has_no_event, has_frames, has_bits, none_rose, in_room}
use Rattle.pdh_lab.proofs.Wanting.{mux_memory}
use Rattle.pdh_lab.proofs.sending.send.Goals as goal

-- a line of plain mode tells no log
plain_tells_none : Plain ≡ Slipping → ⊥
plain_tells_none is = cc

pub wanting-requires : goal.wanting-requires
wanting-requires c =
    let why = c.in-Err.ensures in
    let kept = c.mux.ensures.kept in
    mux_memory c.in-Err.stop
    (λ over place is. let stops = rw is at why.err in has_no_event c.args.chain c.args.frames c.args.clock.now _ _ _ _ _ _ c.requires.clock stops.1)
    (λ node is. let stops = rw is at why.err in has_frames c.args.chain c.args.frames c.args.clock.now _ c.requires.clock stops.0)
    (λ leaf is. let stops = rw is at why.err in has_bits c.args.chain c.args.frames _ c.args.clock.now _ _ c.requires.clock c.requires.enough stops.0)
    (λ is. let counted = rw is at why.reads in omega (arith, counted))
    (λ is. let fails = rw is at why.err in
    none_rose _ _ c.requires.faults
    (puts_in_room c.args.port.now c.mux.new.port kept.3 (λ k held.
    let room = in_room c.args.chain c.args.clock.now.rows c.args.frames (room_of c.args.port.now 0) k _ _ _ _ c.requires.outputs kept.2 c.requires.room fails.1 held in
    subst (λ i. bits_held (mem_outputs c.mux.new.port.outputs.items) k < room_of c.args.port.now i) (sym room.0) room.1))
    fails.0)
    (λ is. let stops = rw is at why.err in plain_tells_none stops.0)
