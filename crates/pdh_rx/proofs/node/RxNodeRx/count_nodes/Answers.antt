use Rattle.std.proofs.Common.{◌≡◌, ◌∷◌, ◌++◌, [], List, ap, ◌∙◌, map, append_assoc}
use Rattle.std.proofs.lemmas.Result.{on_ok_weaker}
use Rattle.pdh_rx.specs.declared.counts.NodeCounts.{NodeCounts}
use Rattle.pdh_rx.specs.Node.{counts_of, counted_by, received_lines}
use Rattle.pdh_rx.proofs.node.RxNodeRx.count_nodes.Goals as goal

pub returns : goal.returns
returns g c =
    let s = g.S.Shape.shape in
    let node = c.args.self.now in
    let old = c.args.counts.now.items in
    let own : NodeCounts = record { path = node.path; bits = node.bits; frames = node.frames; judged = node.judged } in
    on_ok_weaker c.count_nodes.result (λ below line told.
    let below_is = below (received_lines s line) told.node.each in
    let own_is : own ≡ counts_of s node.path line = λ i. record { path = node.path; bits = told.bits_are i; frames = told.node.frames_are i; judged = told.judges.judged_is i } in
    let more : List NodeCounts = counted_by (map g.C.Rx.meaning node.children) (received_lines s line) in
    below_is ∙ ap (λ v. v ++ more) c.in_ok-push.ensures.items ∙ append_assoc old (own ∷ []) more ∙ ap (λ n. old ++ n ∷ more) own_is) c.count_nodes.ensures
