use Rattle.std.proofs.Common.{◌≡◌, ◌∷◌, ◌++◌, [], ap, ◌∙◌, ◌*◌, ◌-◌, arith}
use Rattle.pdh_line.specs.Paths.{top}
use Rattle.pdh_rx.specs.declared.counts.NodeCounts.{NodeCounts}
use Rattle.pdh_g706.specs.Tracking.{multiframes_in, counted}
use Rattle.pdh_e1_events.specs.Line.{e1_counts}
use Rattle.pdh_e1_events.proofs.line.E1LineRecorded.count_nodes.Goals as goal

pub returns : goal.returns
returns c line told =
    let frames : c.saturating_mul.result ≡ counted (16 * multiframes_in line) = omega (arith, c.saturating_mul.ensures, c.multiframes.ensures line told) in
    let own : NodeCounts = record { path = top; bits = c.bits.result; frames = c.saturating_mul.result; judged = record { frames = 0; right = 0 } } in
    let own_is : own ≡ e1_counts line = λ i. record { path = top; bits = c.bits.ensures line told i; frames = frames i; judged = record { frames = 0; right = 0 } } in
    c.in_ok-push.ensures.items ∙ ap (λ n. c.args.counts.now.items ++ n ∷ []) own_is
