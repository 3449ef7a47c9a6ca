-- The list holds a ready frame exactly where it alone is ready.
use Rattle.std.proofs.Common.{◌≡◌, Bool, List, length, ap, sym, refl, ◌∙◌, arith}
use Rattle.pdh_packed.specs.Words.{bounded}
use Rattle.pdh_align.specs.Aligning.{Held, frame_back}
use Rattle.pdh_align.proofs.ReadyFrames.{alone_listed, listed_alone, goes_on}
use Rattle.pdh_align.proofs.aligner.Aligner.exchange_frame.Goals as goal
use Rattle.pdh_align.proofs.aligner.Aligner.exchange_frame.Goals.{then-not-self-via-then-not-self, then-not-self-via-else-not-self+then-len-eq0}

pub returns-then-not-self-clause-one : goal.returns-then-not-self-clause-one
returns-then-not-self-clause-one g c = (
  λ done. cc,
  λ one.
      let listed = alone_listed g.S.Shape.LEN c.self.inside.fresh c.self.inside.held.bits c.self.inside.frame.bits c.args.self.now.ready (omega (arith, g.met.S.Shape.len_is, g.met.S.Shape.is_frame.some_slots)) c.self.invariant.whole
      (ap (λ (x : Held). x.ready) c.self.view_is) one in
      elim c.then-not-self.branch [
        | then-not-self-via-then-not-self w ↦ absurd (let still = w.if-not-self.true in let fresh = listed.0 in cc)
        | then-not-self-via-else-not-self+then-len-eq0 w ↦ absurd (omega (arith, w.len.ensures.count, w.if-len-eq0.true, listed.1))
      ],
)

pub returns-clause-one : goal.returns-clause-one
returns-clause-one g c =
    let alone = listed_alone g.S.Shape.LEN c.self.inside.fresh c.self.inside.held.bits c.self.inside.frame.bits c.args.self.now.ready (omega (arith, g.met.S.Shape.len_is, g.met.S.Shape.is_frame.some_slots)) c.self.invariant.whole
    (ap (λ (x : Held). x.ready) c.self.view_is) c.if-not-self.false (omega (arith, c.len.ensures.count, c.if-len-eq0.false)) in
    (λ done. ap length alone.2, λ one. refl)

pub returns-clause-exchanged : goal.returns-clause-exchanged
returns-clause-exchanged g c done =
    let held = c.self.inside.held.bits in
    let alone = listed_alone g.S.Shape.LEN c.self.inside.fresh held c.self.inside.frame.bits c.args.self.now.ready (omega (arith, g.met.S.Shape.len_is, g.met.S.Shape.is_frame.some_slots)) c.self.invariant.whole
    (ap (λ (x : Held). x.ready) c.self.view_is) c.if-not-self.false (omega (arith, c.len.ensures.count, c.if-len-eq0.false)) in
    let frame : frame_back c.args.self.now.ready 0 ≡ c.self.inside.frame.bits = ap (λ (r : List (List Bool)). frame_back r 0) alone.2 in
    let room : c.self.inside.frame.capacity ≡ c.args.list.now.capacity = c.self.invariant.list_room ∙ sym c.requires in (
      c.swap.ensures.y_after ∙ ap (λ n. bounded n c.self.inside.frame.bits) room ∙ ap (bounded c.args.list.now.capacity) (sym frame),
      goes_on g.S.Shape.LEN c.self.inside.searching c.self.inside.fresh c.self.inside.before held c.self.inside.frame.bits c.swap.new.x.bits c.self.inside.search c.args.self.now c.self.invariant.idle c.if-not-self.false alone.0
          (ap (λ b. b.bits) c.swap.ensures.x_after ∙ ap (λ b. b.bits) c.clear.ensures) c.self.view_is,
    )
