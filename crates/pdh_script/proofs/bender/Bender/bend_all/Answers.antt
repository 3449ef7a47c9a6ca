use Rattle.std.proofs.Common.{List, refl, ap, subst, arith}
use Rattle.pdh_script.specs.Scripts.{Row}
use Rattle.pdh_script.specs.Bending.{Bending}
use Rattle.pdh_script.specs.RowsLeft.{AreLeft}
use Rattle.pdh_script.proofs.BitsAppended.{bends_none, room_added, room_altered, bends_next}
use Rattle.pdh_script.proofs.bender.Bender.bend_all.Goals as goal

pub loop-done-init : goal.loop-done-init
loop-done-init c =
    let rows = ap (λ (b : Bending). b.rows) c.self.view_is in
    record {
      script = rows;
      bends = bends_none c.args.self.now.rows c.args.self.now.place c.args.bits.now.bits c.args.into.now c.self.inside.left c.self.inside.place (ap (λ (b : Bending). b.place) c.self.view_is)
          (subst (λ (r : List Row). AreLeft c.self.inside.left r c.self.inside.place) rows c.self.invariant);
    }

pub append_added-requires-clause-room : goal.append_added-requires-clause-room
append_added-requires-clause-room c =
    let self = c.args.self.now in
    let so_far = c.loop-done in
    room_added self.rows self.place c.args.bits.now.bits c.args.into.now so_far.self-inside.left c.same-left.result so_far.self-inside.place so_far.done so_far.into so_far.invariant.bends c.same-left.ensures c.requires.room
    (omega (arith, c.loop-done-test.true, c.len.ensures.count))

pub append_altered-requires-clause-room : goal.append_altered-requires-clause-room
append_altered-requires-clause-room c =
    let self = c.args.self.now in
    let so_far = c.loop-done in
    room_altered self.rows self.place c.args.bits.now.bits c.args.into.now so_far.self-inside.left c.same-left.result so_far.self-inside.place so_far.done so_far.into so_far.invariant.bends c.same-left.ensures c.requires.room
    c.append_added.new.self c.effect.result c.alike-count.result c.append_added.new.into c.alike-count.ensures.some (omega (arith, c.alike-count.ensures.most, c.len-in-loop-done.ensures.count)) c.append_added.ensures.added
    c.append_added.ensures.grown c.alike-count.ensures.left c.alike-count.ensures.alike c.effect.ensures

pub loop-done-preserved : goal.loop-done-preserved
loop-done-preserved c =
    let self = c.args.self.now in
    let so_far = c.loop-done in
    record {
      script = so_far.invariant.script;
      bends = bends_next self.rows self.place c.args.bits.now.bits c.args.into.now so_far.self-inside.left c.same-left.result so_far.self-inside.place so_far.done so_far.into so_far.invariant.bends c.same-left.ensures c.requires.room
          c.append_added.new.self c.effect.result c.alike-count.result c.append_added.new.into c.alike-count.ensures.some (omega (arith, c.alike-count.ensures.most, c.len-in-loop-done.ensures.count)) c.append_added.ensures.added
          c.append_added.ensures.grown c.alike-count.ensures.left c.alike-count.ensures.alike c.effect.ensures c.append_altered.new.into _ c.append_altered.ensures refl;
    }
