use Rattle.std.proofs.Common.{◌∙◌, ◌≤◌, get_or, ap, sym, subst, arith}
use Rattle.std.specs.List.{flat_map}
use Rattle.std.proofs.lemmas.List.{take_all}
use Rattle.std.proofs.lemmas.List.Elements.{All-get_or}
use Rattle.pdh_levels.specs.Levels.{most_tributaries}
use Rattle.pdh_clock.specs.declared.tree.NodeRows.{NodeRows}
use Rattle.pdh_clock.specs.Stored.{IsNode}
use Rattle.pdh_clock.proofs.Served.{tribs_few}
use Rattle.pdh_clock.proofs.WrittenNodes.{node_text, some_frames, text_of_nodes}
use Rattle.pdh_clock.proofs.writing.write_rows.Goals as goal

pub push_node-requires-clause-few : goal.push_node-requires-clause-few
push_node-requires-clause-few c =
    let tree = c.args.tree.now in
    subst (λ (node : NodeRows). node.table.tribs ≤ most_tributaries)
    (sym (c.node-item.is ∙ ap (λ nodes. get_or nodes c.loop-node.node-index c.node-item.result) c.deref-node-items.ensures.value))
    (tribs_few tree c.loop-node.node-index c.node-item.result c.requires (omega arith))

pub push_node-requires-clause-some_frames : goal.push_node-requires-clause-some_frames
push_node-requires-clause-some_frames c =
    let levels = c.args.tree.now.levels.items in
    some_frames levels c.node-item.result (subst (IsNode levels)
    (sym (c.node-item.is ∙ ap (λ nodes. get_or nodes c.loop-node.node-index c.node-item.result) c.deref-node-items.ensures.value))
    (All-get_or (IsNode levels) c.args.tree.now.nodes.items c.loop-node.node-index c.node-item.result (omega arith) c.requires.each))

pub returns : goal.returns
returns c = c.loop-node.invariant ∙ ap (flat_map node_text) (take_all c.loop-node.node-index c.args.tree.now.nodes.items (omega arith))
    ∙ text_of_nodes c.args.tree.now c.requires
