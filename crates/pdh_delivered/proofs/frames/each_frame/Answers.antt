use Rattle.std.proofs.Common.{◌≡◌, ◌+◌, ◌<◌, ◌++◌, ◌∷◌, [], false, List, Bool, length, take, drop, sym, ap, ◌∙◌, subst, arith}
use Rattle.std.proofs.Math.Seq.{take-add}
use Rattle.std.proofs.lemmas.List.{take_more, take_all}
use Rattle.std.specs.Prelude.{fold}
use Rattle.pdh_line.specs.Tracking.{track}
use Rattle.pdh_align.specs.Aligning.{StandsFor, Tracks}
use Rattle.pdh_delivered.specs.Deliveries.{deliveries, last_of, gained, Glides}
use Rattle.pdh_delivered.proofs.Growing.{Gains, gains, none_behind, no_deliveries, shown_more}
use Rattle.pdh_delivered.proofs.frames.each_frame.Goals as goal

pub loop-done-init : goal.loop-done-init
loop-done-init g c =
    let s = g.S.Shape.shape in
    let shape = g.met.S.Shape.is_frame in
    let glides = c.glide-done.ensures.glides [] c.in_ok-aligner.ensures.stands in
    record {
      within = omega (arith, c.glide-done.ensures.count);
      stands = glides.stands;
      shown = sym (ap (fold g.V.Visitor.shown c.args.visitor.now) (glides.same ∙ no_deliveries s shape));
      last = c.in_ok-recent.ensures ∙ sym (glides.last ∙ ap (last_of []) (none_behind s shape));
    }

pub loop-done-preserved : goal.loop-done-preserved
loop-done-preserved g c =
    let s = g.S.Shape.shape in
    let bits = c.args.line.now.bits in
    let n = c.loop-done.done in
    let inv = c.loop-done.invariant in
    let bit = c.get.result in
    let k = c.glide-more.result in
    let step = c.push-step.result in
    let ready = c.push-step.new.self.ready in
    let after = c.glide-more.new.aligner in
    let shown = g.V.Visitor.shown in
    let lt : n < length bits = omega (arith, c.loop-done-test.true, c.len-len.ensures.count) in
    let next : take n bits ++ bit ∷ [] ≡ take (n + 1) bits = ap (λ b. take n bits ++ b ∷ []) c.get.ensures ∙ sym (take_more bits n false lt) in
    let tracks : Tracks s c.loop-done.aligner c.push-step.new.self bit step (take n bits) = c.push-step.ensures.tracks (take n bits) inv.stands in
    let more : Gains step ready (track s (take n bits)) (track s (take n bits ++ bit ∷ [])) = gains step ready _ _ tracks.grows in
    let stands : StandsFor s c.push-step.new.self (take (n + 1) bits) = subst (λ (l : List Bool). StandsFor s c.push-step.new.self l) next tracks.stands in
    let glides : Glides s after (take (n + 1) bits) (take k (drop (n + 1) bits)) = c.glide-more.ensures.glides (take (n + 1) bits) stands in
    let count : n + 1 + k ≡ n + (1 + k) = omega arith in
    let all : take (n + 1) bits ++ take k (drop (n + 1) bits) ≡ take (n + (1 + k)) bits = sym (take-add (n + 1) k bits) ∙ ap (λ m. take m bits) count in
    record {
      within = omega (arith, c.glide-more.ensures.count);
      stands = subst (λ (l : List Bool). StandsFor s after l) all glides.stands;
      shown =
          shown_more s shown c.args.visitor.now _ _ step ready _ (take n bits) (take n bits ++ bit ∷ []) more inv.last inv.shown c.follow.ensures.shown
          ∙ ap (λ (l : List Bool). fold shown c.args.visitor.now (deliveries s l)) next
          ∙ ap (fold shown c.args.visitor.now) (sym glides.same ∙ ap (deliveries s) all);
      last =
          c.follow.ensures.last ∙ ap (λ (l : List Bool). last_of l (gained step ready)) inv.last ∙ sym more.last
          ∙ ap (λ (l : List Bool). last_of [] (track s l)) next ∙ sym glides.last ∙ ap (λ (l : List Bool). last_of [] (track s l)) all;
    }

pub returns : goal.returns
returns g c =
    let s = g.S.Shape.shape in
    let n = c.loop-done.done in
    let bits = c.args.line.now.bits in
    let all : take n bits ≡ bits = take_all n bits (omega (arith, c.loop-done-test.false, c.len-len.ensures.count)) in
    c.loop-done.invariant.shown ∙ ap (λ (l : List Bool). fold g.V.Visitor.shown c.args.visitor.now (deliveries s l)) all
