use Rattle.std.proofs.Common.{◌≡◌, leb, Bool, true, false, not, ◌<◌, ◌+◌, ◌*◌, ℕ, refl, ap, sym, ◌∙◌, subst, arith}
use Rattle.std.specs.Bool.{beq}
use Rattle.pdh_shape.specs.Frame.{FrameShape}
use Rattle.pdh_shape.specs.Tributary.{reads_below}
use Rattle.pdh_shape.specs.OwnNumbers.{threshold}
use Rattle.pdh_line.specs.Sending.{arrived_in}
use Rattle.pdh_line.proofs.SendingLaws.{arrived_in-zero}
use Rattle.pdh_tx.specs.Held.{gone_with}
use Rattle.pdh_tx.specs.Slipping.{carriage_in, read_to}
use Rattle.pdh_tx.specs.Quiet.{HoldsFrom}
use Rattle.pdh_tx.proofs.QuietSlots.{zero_of, some_made, reads_few, first_fill, frame_fill, slot_fill}
use Rattle.pdh_tx.proofs.tributary.Tributary.start_fill.Goals as goal

pub returns-then-next-eq0 : goal.returns-then-next-eq0
returns-then-next-eq0 g c plan stands some =
    let s : FrameShape = g.S.Shape.shape in
    let laws = g.met.S.Shape in
    let next = c.args.next in
    let none : next.frame * s.len ≡ 0 = ap (λ n. next.frame * n) laws.len_is ∙ omega (arith, c.requires.made, c.if-next-eq0.true) in
    subst (HoldsFrom plan.mode s c.args.trib (plan.counts next.path c.args.trib) next.frame next.slot) (sym c.from.ensures)
    (first_fill s next.path plan next.frame next.slot c.args.trib laws.is_frame c.requires.stores (zero_of next.frame s.len laws.is_frame.some_slots none) (omega (arith, c.requires.made, c.if-next-eq0.true)))

pub returns-then-next-eq0-2 : goal.returns-then-next-eq0-2
returns-then-next-eq0-2 g c plan stands some =
    let s : FrameShape = g.S.Shape.shape in
    let next = c.args.next in
    let out = read_to s next.path plan next.frame next.slot c.args.trib in
    frame_fill s next.path plan next.frame next.slot c.args.trib g.met.S.Shape.is_frame c.requires.stores c.from-fill.result c.if-next-eq0-2.true
    (some_made next.frame next.slot _ next.made c.requires.made c.if-next-eq0.false)
    (ap (λ n. gone_with out.edits out.read + n) (c.from-fill.ensures ∙ c.fill.ensures.count) ∙ stands.placed.count)

pub overflow_add-fill : goal.overflow_add-fill
overflow_add-fill g c =
    let few = reads_few g.S.Shape.shape c.args.trib c.args.self.now.share.more (0 + c.args.next.slot) in
    omega (arith, few, c.carried-carried.ensures, c.requires.slot, c.from-fill.ensures, c.fill.ensures.count, c.fill.ensures.bounded)

agrees : (a b : Bool) → not (beq a b) ≡ false → b ≡ a
agrees true true h = refl
agrees true false h = absurd (cc h)
agrees false true h = absurd (cc h)
agrees false false h = refl

pub returns : goal.returns
returns g c plan stands some =
    let s : FrameShape = g.S.Shape.shape in
    let laws = g.met.S.Shape in
    let next = c.args.next in
    let j : ℕ = c.args.trib in
    let t : ℕ = next.slot in
    let counts : ℕ → ℕ = plan.counts next.path j in
    let inside : 0 < t = omega (arith, c.if-next-eq0-2.false) in
    let share = stands.decided inside in
    let here : 0 + t ≡ t = omega arith in
    let out = read_to s next.path plan next.frame t j in
    let held = ap (λ n. gone_with out.edits out.read + n) (c.from-fill.ensures ∙ c.fill.ensures.count) ∙ stands.placed.count in
    let none : reads_below s j c.args.self.now.share.more 0 ≡ 0 = refl in
    let carried : c.carried-carried.result ≡ reads_below s j ((carriage_in s next.path plan j).more next.frame) t =
    omega (arith, none, c.carried-carried.ensures, ap (reads_below s j c.args.self.now.share.more) here, ap (λ b. reads_below s j b t) share.more) in
    let arrived : c.arriving-arrived.result ≡ arrived_in s (counts next.frame) t =
    omega (arith, c.arriving-arrived.ensures, arrived_in-zero s c.args.self.now.share.arriving laws.is_frame, ap (arrived_in s c.args.self.now.share.arriving) here, ap (λ n. arrived_in s n t) share.arriving) in
    subst (HoldsFrom plan.mode s j counts next.frame t) (sym c.saturating_sub-start.ensures)
    (slot_fill s next.path plan next.frame t j laws.is_frame c.requires.stores c.from-fill.result c.carried-carried.result c.arriving-arrived.result inside held carried arrived (omega (arith, some, c.saturating_sub-start.ensures)) (ap (leb threshold) (sym c.saturating_sub-start.ensures) ∙ ap (λ n. leb n c.saturating_sub-start.result) (sym c.from-2.ensures) ∙ agrees _ _ c.if-self-start.false ∙ share.more))

pub returns-then-self-start : goal.returns-then-self-start
returns-then-self-start g c plan stands some = absurd (omega (arith, some))
