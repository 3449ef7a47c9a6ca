use Rattle.std.proofs.Common.{◌≡◌, ◌+◌, ◌<◌, ◌++◌, ◌∷◌, [], false, List, Bool, length, take, drop, sym, ap, ◌∙◌, subst, arith}
use Rattle.std.proofs.Math.Seq.{take-add}
use Rattle.std.proofs.lemmas.List.{take_more, take_all}
use Rattle.pdh_align.specs.Aligning.{StandsFor, Tracks}
use Rattle.pdh_judging.specs.Judged.{judged_in, Judges, Glides}
use Rattle.pdh_judging.proofs.Steps.{judges_none, judges_step}
use Rattle.pdh_judging.proofs.judging.judge.Goals as goal

pub loop-done-init : goal.loop-done-init
loop-done-init g c =
    let s = g.S.Shape.shape in
    let glides = c.glide-done.ensures.glides [] c.in_ok-aligner.ensures.stands in
    record {
      within = omega (arith, c.glide-done.ensures.count);
      stands = glides.stands;
      judges = glides.judges _ (judges_none s g.met.S.Shape.is_frame);
    }

pub loop-done-preserved : goal.loop-done-preserved
loop-done-preserved g c =
    let s = g.S.Shape.shape in
    let bits = c.args.line.now.bits in
    let n = c.loop-done.done in
    let inv = c.loop-done.invariant in
    let bit = c.get.result in
    let k = c.glide-more.result in
    let lt : n < length bits = omega (arith, c.loop-done-test.true, c.len-len.ensures.count) in
    let next : take n bits ++ bit ∷ [] ≡ take (n + 1) bits = ap (λ b. take n bits ++ b ∷ []) c.get.ensures ∙ sym (take_more bits n false lt) in
    let tracks : Tracks s c.loop-done.aligner c.push-step.new.self bit c.push-step.result (take n bits) = c.push-step.ensures.tracks (take n bits) inv.stands in
    let stands : StandsFor s c.push-step.new.self (take (n + 1) bits) = subst (λ (l : List Bool). StandsFor s c.push-step.new.self l) next tracks.stands in
    let judges : Judges s c.judged_after-judged.result (take (n + 1) bits) = subst (λ (l : List Bool). Judges s c.judged_after-judged.result l) next
    (judges_step s _ _ _ _ (take n bits) _ inv.judges tracks.grows c.judged_after-judged.ensures) in
    let glides : Glides s c.glide-more.new.aligner (take (n + 1) bits) (take k (drop (n + 1) bits)) = c.glide-more.ensures.glides (take (n + 1) bits) stands in
    let count : n + 1 + k ≡ n + (1 + k) = omega arith in
    let all : take (n + 1) bits ++ take k (drop (n + 1) bits) ≡ take (n + (1 + k)) bits = sym (take-add (n + 1) k bits) ∙ ap (λ m. take m bits) count in
    record {
      within = omega (arith, c.glide-more.ensures.count);
      stands = subst (λ (l : List Bool). StandsFor s c.glide-more.new.aligner l) all glides.stands;
      judges = subst (λ (l : List Bool). Judges s c.judged_after-judged.result l) all (glides.judges _ judges);
    }

pub returns : goal.returns
returns g c =
    let s = g.S.Shape.shape in
    let n = c.loop-done.done in
    let bits = c.args.line.now.bits in
    let all : take n bits ≡ bits = take_all n bits (omega (arith, c.loop-done-test.false, c.len-len.ensures.count)) in
    c.loop-done.invariant.judges.judged_is ∙ ap (λ (l : List Bool). judged_in s l) all
