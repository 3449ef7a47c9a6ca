use Rattle.std.proofs.Common.{refl, ◌∙◌, arith, length, ◌<◌}
use Rattle.std.proofs.lemmas.List.{length-set}
use Rattle.std.proofs.lemmas.Option.{slice_get_read}
use Rattle.pdh_health.proofs.Noting.{one_more_noted, all_noted}
use Rattle.pdh_health.proofs.health.note_each.Goals as goal

pub loop-index-init : goal.loop-index-init
loop-index-init c = record { noted = refl; count = refl }

pub loop-index-preserved : goal.loop-index-preserved
loop-index-preserved c =
    let inside : c.loop-index.index < length c.loop-index.nodes.items = omega (arith, c.loop-index.invariant.count) in
    record {
      noted = one_more_noted c.loop-index.index c.args.nodes.now.items c.loop-index.nodes.items c.args.placed.now c.index_mut.result.now c.note_own.new.self c.loop-index.invariant.noted
          (slice_get_read _ _ c.loop-index.index _ refl inside c.index_mut.ensures.value) c.note_own.ensures;
      count = length-set _ _ _ ∙ c.loop-index.invariant.count;
    }

pub returns : goal.returns
returns c = all_noted c.loop-index.index c.args.nodes.now.items c.loop-index.nodes.items c.args.placed.now c.loop-index.invariant.noted (omega arith)
