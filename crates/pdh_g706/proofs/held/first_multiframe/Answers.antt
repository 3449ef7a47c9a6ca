use Rattle.std.proofs.Common.{◌≡◌, ◌-◌, ◌/◌, length, sym, ◌∙◌, ap, refl, arith}
use Rattle.pdh_g706.specs.Frames.{frames_of}
use Rattle.pdh_g706.specs.Alignment.{earlier}
use Rattle.pdh_g706.proofs.FrameLists.{length_frames}
use Rattle.pdh_g706.proofs.HeldLaws.{reaches_short, reaches_odd, reaches_wrong, reaches_first, reaches_right, second_long}
use Rattle.pdh_g706.proofs.held.first_multiframe.Goals as goal

pub returns-then-frames-lt12 : goal.returns-then-frames-lt12
returns-then-frames-lt12 c =
    let items = c.args.held.now.bits in
    reaches_short (frames_of items) (length items / 256) (length_frames items) (omega arith)

pub returns-then-second-eq1 : goal.returns-then-second-eq1
returns-then-second-eq1 c =
    let items = c.args.held.now.bits in
    reaches_odd (frames_of items) (length items / 256) (length items / 256 - 12) (length_frames items) refl (omega arith)

pub returns-then-not-has_multi : goal.returns-then-not-has_multi
returns-then-not-has_multi c =
    let items = c.args.held.now.bits in
    reaches_wrong (frames_of items) (length items / 256) (c.held-frames.result / 256 - 12) (length_frames items) (omega arith) (sym c.has_multi.ensures ∙ c.if-not-has_multi.true)

pub returns-then-first-second : goal.returns-then-first-second
returns-then-first-second c =
    let items = c.args.held.now.bits in
    reaches_first (frames_of items) (length items / 256) (c.held-frames.result / 256 - 12) (length_frames items) (omega arith) (sym c.earlier-first.ensures ∙ c.if-first-second.true)

pub returns : goal.returns
returns c =
    let items = c.args.held.now.bits in
    let fs = frames_of items in
    let n = c.held-frames.result / 256 in
    let same : n ≡ length items / 256 = omega arith in
    let count : length fs ≡ n = length_frames items ∙ sym same in
    let right = reaches_right fs n (n - 12) count refl (omega arith) (omega arith) c.if-second-eq1.false (sym c.has_multi.ensures ∙ c.if-not-has_multi.false) (λ e. c.if-first-second.false (c.earlier-first.ensures ∙ e)) in (
      right,
      c.earlier-first.ensures ∙ ap (λ k. earlier fs (k - 12)) same,
      second_long fs (length items) n c.earlier-first.result count (omega arith) (omega arith) right c.earlier-first.ensures,
    )
