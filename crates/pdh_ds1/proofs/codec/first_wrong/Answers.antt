use Rattle.std.proofs.Common.{◌≡◌, ℕ, ◌+◌, ◌*◌, ◌/◌, ◌%◌, List, Bool, length, drop, ap, sym, subst, ◌∙◌, rules, arith}
use Rattle.pdh_framed.specs.RightFrames.{AreRight}
use Rattle.pdh_ds1.specs.declared.plan.SuperframePlan.{SuperframePlan}
use Rattle.pdh_ds1.specs.Packing.{frame_right, sent_word, word_of}
use Rattle.pdh_ds1.proofs.PackingLaws.{first_whole, sends_first, sends_next, next_whole, frames_all}
use Rattle.pdh_ds1.proofs.codec.first_wrong.Goals as goal

pub loop-first-init : goal.loop-first-init
loop-first-init g c = record {
  right = λ frame below. absurd (omega (arith, below));
  whole = first_whole g.P.InSuperframe.PLAN.frames;
  sends = sends_first g.P.InSuperframe.PLAN.frames c.args.line.now.bits;
  within = omega arith;
  count = ap (λ (n : ℕ). n / 193) c.len-count.ensures.count;
  frames = ap (λ (p : SuperframePlan). p.frames) c.PLAN-frames.ensures;
}

pub wrong_in-requires : goal.wrong_in-requires
wrong_in-requires g c = record {
  whole = c.loop-first.invariant.whole;
  within = omega (arith, c.loop-first.invariant.count, c.loop-first.invariant.frames);
  before = c.loop-first.invariant.right;
  sends = c.loop-first.invariant.sends;
}

pub loop-first-preserved : goal.loop-first-preserved
loop-first-preserved g c =
    let frames : ℕ = g.P.InSuperframe.PLAN.frames in
    let line : List Bool = c.args.line.now.bits in
    let inv = c.loop-first.invariant in
    let first : ℕ = c.loop-first.first in
    let inner : c.PLAN.result.frames ≡ frames = ap (λ (p : SuperframePlan). p.frames) c.PLAN.ensures in
    let next = ap (λ (n : ℕ). first + n) (sym inv.frames) in
    let right : AreRight (frame_right g.P.InSuperframe.f_bits frames line) (first + frames) = search rules in
    let word : c.word_of-sent.result ≡ word_of frames (drop (193 * first) line) = c.word_of-sent.ensures.word ∙ ap (λ (n : ℕ). word_of n (drop (193 * first) line)) inner in
    record {
      right = subst (AreRight (frame_right g.P.InSuperframe.f_bits frames line)) next right;
      whole = subst (λ (n : ℕ). frames * (n / frames) ≡ n) next (next_whole frames first g.met.P.InSuperframe.is_plan.some inv.whole);
      sends = subst (λ (n : ℕ). c.word_of-sent.result ≡ sent_word frames line (n / frames)) next (sends_next frames first c.word_of-sent.result line g.met.P.InSuperframe.is_plan.some inv.whole word);
      within = omega arith;
      count = inv.count;
      frames = inv.frames;
    }

pub returns : goal.returns
returns g c =
    let frames : ℕ = g.P.InSuperframe.PLAN.frames in
    let line : List Bool = c.args.line.now.bits in
    let inv = c.loop-first.invariant in
    let whole = ap (λ (n : ℕ). n % frames) inv.count ∙ c.requires in
    let all : c.loop-first.first ≡ length line / 193 = frames_all frames c.loop-first.first _ g.met.P.InSuperframe.is_plan.some inv.whole whole inv.within (omega (arith, inv.frames)) ∙ inv.count in
    subst (AreRight (frame_right g.P.InSuperframe.f_bits frames line)) all inv.right
