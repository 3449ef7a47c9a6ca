use Rattle.std.proofs.Common.{ℕ, List, ◌++◌, sym, ap, ◌∙◌}
use Rattle.pdh_e1.specs.Multiframe.{frame_payload}
use Rattle.pdh_e1.proofs.PackingLaws.{payload_none, payload_more}
use Rattle.pdh_e1.proofs.codec.payload_of.Goals as goal

pub loop-frame-init : goal.loop-frame-init
loop-frame-init c = c.in_ok-payload.ensures.items ∙ sym (payload_none c.args.line.now)

pub loop-frame-preserved : goal.loop-frame-preserved
loop-frame-preserved c =
    let line = c.args.line.now in
    let frame = c.loop-frame.frame in
    c.in_ok-extend_from_slice.ensures.items
    ∙ ap (λ (p : List ℕ). p ++ frame_payload line frame) c.loop-frame.invariant
    ∙ sym (payload_more line frame)
