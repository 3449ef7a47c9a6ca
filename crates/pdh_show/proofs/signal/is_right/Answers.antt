use Rattle.std.proofs.Common.{◌≡◌, ℕ, Bool, false, not, ◌&&◌, sym, ap, ◌∙◌, slice_index_or}
use Rattle.std.specs.List.{range_with_len, list_all}
use Rattle.pdh_shape.specs.Frame.{breaks, breaks_at}
use Rattle.pdh_show.proofs.Walks.{list_all_push}
use Rattle.pdh_show.proofs.signal.is_right.Goals as goal

pub loop-slot-preserved : goal.loop-slot-preserved
loop-slot-preserved g c =
    let s = g.S.Shape.shape in
    let k : ℕ = c.loop-slot.slot in
    let p : ℕ → Bool = λ slot. not (breaks_at s c.args.frame.now.bits slot) in
    let test : c.breaks.result ≡ breaks_at s c.args.frame.now.bits k = c.breaks.ensures ∙ ap (breaks c.role.result) c.get.ensures ∙ ap (λ r. breaks r (slice_index_or c.args.frame.now.bits k false)) c.role.ensures in
    ap (λ b. b && not c.breaks.result) c.loop-slot.invariant ∙ ap (λ b. list_all p (range_with_len 0 k) && not b) test ∙ sym (list_all_push p k)
