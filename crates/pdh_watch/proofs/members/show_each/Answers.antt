use Rattle.std.proofs.Common.{refl, ◌∙◌, arith, [], ◌∷◌, length, ◌<◌}
use Rattle.std.proofs.lemmas.List.{length-set}
use Rattle.std.proofs.lemmas.Option.{slice_get_read}
use Rattle.pdh_watch.proofs.Showing.{none_saw, shown, all_shown}
use Rattle.pdh_watch.proofs.members.show_each.Goals as goal

pub loop-i-init : goal.loop-i-init
loop-i-init g c = record { saw = none_saw g.M.Monitor.state c.args.list.now.items (c.args.event.now ∷ []); count = refl }

pub loop-i-preserved : goal.loop-i-preserved
loop-i-preserved g c =
    let inside : c.loop-i.i < length c.loop-i.list.items = omega (arith, c.loop-i.invariant.count) in
    record {
      saw = shown g.M.Monitor.state c.loop-i.list.items c.args.list.now.items c.loop-i.i c.index_mut.result.now c.see.new.self _ c.loop-i.invariant.saw (slice_get_read _ _ c.loop-i.i _ refl inside c.index_mut.ensures.value) c.see.ensures;
      count = length-set _ _ _ ∙ c.loop-i.invariant.count;
    }

pub returns : goal.returns
returns g c = all_shown g.M.Monitor.state c.loop-i.list.items c.args.list.now.items c.loop-i.i _ c.loop-i.invariant.saw (omega arith)
