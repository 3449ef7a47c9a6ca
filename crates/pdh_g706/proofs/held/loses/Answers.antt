use Rattle.std.proofs.Common.{◌≡◌, ◌-◌, ◌*◌, ◌/◌, length, not, sym, ◌∙◌, ap, refl, arith}
use Rattle.pdh_g706.specs.Frames.{frames_of}
use Rattle.pdh_g706.proofs.FrameLists.{length_frames}
use Rattle.pdh_g706.proofs.HeldLaws.{signal_of_frame, loses_few, loses_even, loses_newest, loses_middle, loses_oldest}
use Rattle.pdh_g706.proofs.held.loses.Goals as goal

pub returns-then-frames-lt5-clause-loses : goal.returns-then-frames-lt5-clause-loses
returns-then-frames-lt5-clause-loses c =
    let items = c.args.held.now.bits in
    sym (loses_few (frames_of items) (length items / 256) (length_frames items) (omega arith))

pub returns-then-frames-eq0-clause-loses : goal.returns-then-frames-eq0-clause-loses
returns-then-frames-eq0-clause-loses c =
    let items = c.args.held.now.bits in
    sym (loses_even (frames_of items) (length items / 256) (length_frames items) (omega arith))

pub returns-then-has_signal-clause-loses : goal.returns-then-has_signal-clause-loses
returns-then-has_signal-clause-loses c =
    let items = c.args.held.now.bits in
    let n = c.held-frames.result / 256 in
    let same : n ≡ length items / 256 = omega arith in
    sym (loses_newest (frames_of items) n (length_frames items ∙ sym same)
    (signal_of_frame items (n - 1) (256 * (n - 1)) (omega arith) refl ∙ sym c.has_signal.ensures ∙ c.if-has_signal.true))

pub returns-then-has_signal-2-clause-loses : goal.returns-then-has_signal-2-clause-loses
returns-then-has_signal-2-clause-loses c =
    let items = c.args.held.now.bits in
    let n = c.held-frames.result / 256 in
    let same : n ≡ length items / 256 = omega arith in
    sym (loses_middle (frames_of items) n (length_frames items ∙ sym same)
    (signal_of_frame items (n - 3) (256 * (n - 3)) (omega arith) refl ∙ sym c.has_signal-2.ensures ∙ c.if-has_signal-2.true))

pub returns-clause-loses : goal.returns-clause-loses
returns-clause-loses c =
    let items = c.args.held.now.bits in
    let n = c.held-frames.result / 256 in
    let same : n ≡ length items / 256 = omega arith in
    ap not (c.has_signal-3.ensures ∙ sym (signal_of_frame items (n - 5) (256 * (n - 5)) (omega arith) refl))
    ∙ sym (loses_oldest (frames_of items) n (length_frames items ∙ sym same) (omega arith) c.if-frames-eq0.false
    (signal_of_frame items (n - 1) (256 * (n - 1)) (omega arith) refl ∙ sym c.has_signal.ensures ∙ c.if-has_signal.false)
    (signal_of_frame items (n - 3) (256 * (n - 3)) (omega arith) refl ∙ sym c.has_signal-2.ensures ∙ c.if-has_signal-2.false))
