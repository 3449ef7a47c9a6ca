use Rattle.std.proofs.Common.{◌≡◌, ◌-◌, Bool, not, ◌&&◌, Option, is_some, ap, ◌∙◌, subst, refl, rules}
use Rattle.pdh_watch.specs.declared.kind.TheConstants.Kind.{LOST}
use Rattle.pdh_event_counts.specs.declared.counts.Counts.{Counts}
use Rattle.pdh_event_counts.specs.Counting.{counted}
use Rattle.pdh_placed.specs.declared.placed.Placed.{Placed}
use Rattle.pdh_health.specs.declared.plan.NodePlan.{NodePlan}
use Rattle.pdh_health.specs.Marking.{marks_of, codes_of}
use Rattle.pdh_health.specs.Nodes.{kinds_of, first_alignment, is_late_by, is_late, early_bits_by}
use Rattle.pdh_health.specs.Findings.{IsFound}
use Rattle.pdh_health.proofs.node.Node.finish.Goals as goal

pub returns : goal.returns
returns c rate plan events stands less few =
    let numbers = c.args.numbers.now in
    let bits = c.args.bits in
    let late : c.is_late-is_late.result ≡ is_late plan numbers.bits events =
    c.is_late-is_late.ensures ∙ ap (λ (p : NodePlan). is_late_by p numbers.bits c.args.self.first) stands.plan_is ∙ ap (λ (o : Option Placed). is_late_by plan numbers.bits o) stands.first_is in
    let aligned : c.is_some-aligned.result ≡ is_some (first_alignment events) = c.is_some-aligned.ensures ∙ ap is_some stands.first_is in
    let lost : c.args.self.counts.lost ≡ counted LOST (kinds_of events) = ap (λ (counts : Counts). counts.lost) stands.counts_are in
    let short : c.if-not-aligned.result ≡ (not c.is_some-aligned.result && not c.is_late-is_late.result) = search rules in
    record {
      path_is = ap (λ (p : NodePlan). p.path) stands.plan_is;
      frames_are = refl;
      bad_are = c.saturating_sub-bad.ensures ∙ ap (λ n. n - c.args.self.counts.lost) c.saturating_sub-wrong.ensures ∙ ap (λ n. (numbers.judged - numbers.right) - n) lost;
      counts_are = stands.counts_are;
      codes_are = stands.codes_are;
      aligned_is = aligned;
      too_short_is = short ∙ ap (λ b. not b && not c.is_late-is_late.result) aligned ∙ ap (λ b. not (is_some (first_alignment events)) && not b) late;
      early_is = c.early_bits-early_bits.ensures ∙ ap (λ (b : Bool). early_bits_by b c.args.self.first) late ∙ ap (λ (o : Option Placed). early_bits_by (is_late plan numbers.bits events) o) stands.first_is;
      course_is = subst (λ (b : Bool). IsFound rate plan.block bits (marks_of b events) (codes_of events) c.course_found-course.result) late (c.course_found-course.ensures rate plan events stands less few);
    }
