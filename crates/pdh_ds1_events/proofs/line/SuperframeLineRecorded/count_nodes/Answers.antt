use Rattle.std.proofs.Common.{◌≡◌, ◌∷◌, ◌++◌, [], ap, ◌∙◌}
use Rattle.pdh_line.specs.Paths.{top}
use Rattle.pdh_rx.specs.declared.counts.NodeCounts.{NodeCounts}
use Rattle.pdh_rx.specs.Node.{counts_of}
use Rattle.pdh_ds1.specs.Superframe.{in_superframe}
use Rattle.pdh_ds1_events.proofs.line.SuperframeLineRecorded.count_nodes.Goals as goal

pub returns : goal.returns
returns g c line told =
    let counted = c.args.self.now in
    let own : NodeCounts = record { path = top; bits = counted.bits; frames = counted.superframes; judged = counted.judged } in
    let own_is : own ≡ counts_of (in_superframe g.P.InSuperframe.f_bits g.P.InSuperframe.PLAN) top line =
    λ i. record { path = top; bits = told.bits_are i; frames = told.superframes_are i; judged = told.judges.judged_is i } in
    c.in_ok-push.ensures.items ∙ ap (λ n. c.args.counts.now.items ++ n ∷ []) own_is
