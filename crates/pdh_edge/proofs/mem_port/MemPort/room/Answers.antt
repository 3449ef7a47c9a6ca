use Rattle.std.proofs.Common.{◌≡◌, ℕ, ◌<◌, ◌≤◌, max, arith, length, ap, ◌∙◌}
use Rattle.std.specs.Prelude.{OnOk, OnErr, Result, Ok, Err}
use Rattle.pdh_bits.specs.BitOut.{BoundedBits}
use Rattle.pdh_edge.specs.MemLists.{outputs_of, items_of}
use Rattle.pdh_edge.proofs.Rooms.{capacity_of, map_set_same}
use Rattle.pdh_edge.proofs.ListSteps.{within_lists, room_grows, held_now, room_now}
use Rattle.pdh_edge.proofs.mem_port.MemPort.room.Goals as goal

by_ok : {T E P Q : Type 0} (result : Result T E) → OnOk result P → (P → Q) → OnOk result Q
by_ok (Ok done) h more = more h
by_ok (Err why) h more = tt

-- what room is made of, in both cases
module _ {T E : Type 0} (old new : BoundedBits) (room : ℕ) where
  same_bits : (result : Result T E) → OnOk result (new ≡ record old { capacity = max old.capacity room }) → OnErr result (new ≡ old) → items_of new ≡ items_of old
  same_bits (Ok done) ok err = ap items_of ok
  same_bits (Err why) ok err = ap items_of err

  no_less : (result : Result T E) → OnOk result (new ≡ record old { capacity = max old.capacity room }) → OnErr result (new ≡ old) → capacity_of old ≤ capacity_of new
  no_less (Ok done) ok err = omega (arith, ap capacity_of ok)
  no_less (Err why) ok err = omega (arith, ap capacity_of err)

pub returns-clause-outputs : goal.returns-clause-outputs
returns-clause-outputs c =
    let lists = c.args.self.now.outputs.items in
    let held : c.args.leaf < length lists = within_lists items_of lists c.args.leaf c.requires.held in
    let same = same_bits c.index_mut.result.now c.reserve.new.self _ c.reserve.result c.reserve.ensures.ok c.reserve.ensures.err in
    ap outputs_of (map_set_same items_of lists c.args.leaf c.reserve.new.self c.index_mut.result.now held (same ∙ ap items_of c.index_mut.ensures.value))

pub returns-clause-room : goal.returns-clause-room
returns-clause-room c =
    let lists = c.args.self.now.outputs.items in
    let held : c.args.leaf < length lists = within_lists items_of lists c.args.leaf c.requires.held in
    by_ok c.reserve.result c.reserve.ensures.ok (λ ok. omega (arith, ap capacity_of ok, ap (λ (list : BoundedBits). length list.bits) ok, held_now lists c.args.leaf c.reserve.new.self held, room_now lists c.args.leaf c.reserve.new.self held))

pub returns-clause-rooms : goal.returns-clause-rooms
returns-clause-rooms c =
    let lists = c.args.self.now.outputs.items in
    let held : c.args.leaf < length lists = within_lists items_of lists c.args.leaf c.requires.held in
    let more = no_less c.index_mut.result.now c.reserve.new.self _ c.reserve.result c.reserve.ensures.ok c.reserve.ensures.err in
    room_grows lists c.args.leaf c.reserve.new.self c.index_mut.result.now held (omega (arith, more, ap capacity_of c.index_mut.ensures.value))
