use Rattle.std.proofs.Common.{◌≡◌, ◌<◌, [], ◌∷◌, length, take, drop, refl, arith}
use Rattle.pdh_rx.proofs.Gains.{on_err_from}
use Rattle.pdh_rx.proofs.Shares.{takes_join, takes_part}
use Rattle.pdh_desync.specs.laws.SmoothSound.{smooth_sound}
use Rattle.pdh_desync.proofs.SmoothSteps.{meaning_same, keeps_both, still_ready, first_bit, one_bit}
use Rattle.pdh_desync.proofs.unwatched.Unwatched.advance.Goals as goal

pub returns-then-waited-gt0-clause-taken : goal.returns-then-waited-gt0-clause-taken
returns-then-waited-gt0-clause-taken g c = c.idle-waited.ensures.taken (g.D.Drain.outputs c.args.drain.now)

pub push-requires : goal.push-requires
push-requires g c =
    let o = g.D.Drain.outputs c.args.drain.now in
    still_ready g.S.Shape.shape _ _ _ o o refl c.idle-waited.ensures.same c.requires.ready (c.idle-waited.ensures.taken o)

pub returns-in_err-push-clause-part : goal.returns-in_err-push-clause-part
returns-in_err-push-clause-part g c =
    let s = g.S.Shape.shape in
    let old = c.args.self.now in
    let bits = c.args.bits.now.bits in
    let from = c.args.from in
    let w = c.idle-waited.result in
    let none : w ≡ 0 = omega (arith, c.if-waited-gt0.false) in
    let o = g.D.Drain.outputs c.args.drain.now in
    on_err_from _ c.from_residual.result
    (takes_part _ _ (take w (drop from bits)) (c.get.result ∷ []) (take c.args.most (drop from bits)) _ _ o o _ (smooth_sound s old.path old.stores.leaves.first old.stores.leaves.marks g.met.S.Shape.is_frame)
    (meaning_same s old c.idle-waited.new.self c.idle-waited.ensures.same) (first_bit from c.args.most w bits c.get.result c.requires.some c.requires.within none c.get.ensures) (c.idle-waited.ensures.taken o) c.in_err-push.ensures.part)

pub returns-in_err-push-clause-same : goal.returns-in_err-push-clause-same
returns-in_err-push-clause-same g c = keeps_both _ _ _ c.idle-waited.ensures.same c.in_err-push.ensures.same

pub returns-clause-taken : goal.returns-clause-taken
returns-clause-taken g c =
    let s = g.S.Shape.shape in
    let old = c.args.self.now in
    let bits = c.args.bits.now.bits in
    let from = c.args.from in
    let w = c.idle-waited.result in
    let none : w ≡ 0 = omega (arith, c.if-waited-gt0.false) in
    let o = g.D.Drain.outputs c.args.drain.now in
    let lt : from < length bits = omega (arith, c.requires.some, c.requires.within) in
    takes_join _ _ (take w (drop from bits)) (c.get.result ∷ []) (take 1 (drop from bits)) _ _ _ o o _ (meaning_same s old c.idle-waited.new.self c.idle-waited.ensures.same) (one_bit from w bits c.get.result lt none c.get.ensures)
    (c.idle-waited.ensures.taken o) c.in_ok-push.ensures.taken

pub returns-clause-same : goal.returns-clause-same
returns-clause-same g c = keeps_both _ _ _ c.idle-waited.ensures.same c.in_ok-push.ensures.same
