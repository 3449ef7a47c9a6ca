use Rattle.std.proofs.Common.{◌-◌, ◌*◌, ◌/◌, ◌∷◌, [], ◌++◌, List, refl, ap, ◌∙◌, arith}
use Rattle.std.proofs.lemmas.Result.{err_from_is_err_and}
use Rattle.pdh_bits.specs.BitOut.{BoundedBits}
use Rattle.pdh_g706.specs.Machine.Phase.{Framed}
use Rattle.pdh_g706.proofs.AlignSteps.{begun, framing_is, framing_payload, becomes, counted_more, tell_join, kinds_of, begun_kinds}
use Rattle.pdh_watch.specs.declared.kind.TheConstants.Kind.{ALIGNED}
use Rattle.pdh_watch.specs.declared.event.Event.{Event}
use Rattle.pdh_g706.specs.Frames.{frames_of}
use Rattle.pdh_g706.specs.Events.{alarm_after, crc_kinds, frames_kinds}
use Rattle.pdh_g706.specs.Machine.{frames_from, each_errs}
use Rattle.pdh_g706.proofs.align.E1Align.begin_multiframes.Goals as goal

pub returns-in_err-put_frames : goal.returns-in_err-put_frames
returns-in_err-put_frames g c =
    let p = err_from_is_err_and c.from_residual.result c.from_residual.ensures.1 in
    let bits = c.args.self.now.held.bits in
    let payload_is = framing_payload bits c.args.first ((c.held.result / 256 - c.args.first) / 16) (omega arith) in
    rw p.1 (record {
      becomes = tt;
      put = tt;
      part = rw payload_is c.in_err-put_frames.ensures.part;
      seen = tt;
      unseen = g.met.W.Watch.saw_nothing c.args.watch.now;
      cause = c.in_err-put_frames.ensures.cause;
      drains = c.put_frames.ensures.drained;
    })

pub returns : goal.returns
returns g c =
    let self = c.args.self.now in
    let bits = self.held.bits in
    let first = c.args.first in
    let whole = (c.held.result / 256 - first) / 16 in
    let blocks = (c.held.result / 256 - first) / 8 - 1 in
    let wrong = c.judge-wrong.result in
    let is = framing_is bits first whole blocks wrong (omega arith) (omega arith) c.judge-wrong.ensures.count in
    let saw = g.W.Watch.saw in
    let join = g.met.W.Watch.saw_join in
    let crc = crc_kinds (each_errs (frames_of bits) first blocks) in
    let frames = frames_kinds self.alarm (frames_from (frames_of bits) first (2 * (8 * whole))) 0 (8 * whole) in
    let two = tell_join saw join self.bits (ALIGNED ∷ []) crc c.args.watch.now c.note_kind.new.watch c.judge-wrong.new.watch c.note_kind.ensures c.judge-wrong.ensures.seen in
    let all = tell_join saw join self.bits ((ALIGNED ∷ []) ++ crc) frames c.args.watch.now c.judge-wrong.new.watch c.note_frames-self.new.watch two c.note_frames-self.ensures.seen in
    record {
      becomes = becomes _ (begun bits first whole blocks wrong) self _ is (record {
        phase_is = ap (λ (b : BoundedBits). Framed b.bits blocks wrong) c.drop_oldest.ensures;
        counts = counted_more self.counts c.plus-self.result _ c.plus-self.ensures.multiframes c.plus-self.ensures.blocks c.plus-self.ensures.errored;
        room = ap (λ (b : BoundedBits). b.capacity) c.drop_oldest.ensures;
        number = refl;
        ais = refl;
        alarm = c.note_frames-self.ensures.alarm ∙ ap (λ n. alarm_after self.alarm (frames_from (frames_of bits) first n)) (omega arith);
      });
      put = rw (framing_payload bits first whole (omega arith)) c.in_ok-put_frames.ensures.put;
      part = tt;
      seen = kinds_of (λ (x : List Event). saw c.args.watch.now x c.note_frames-self.new.watch) self _ (begun bits first whole blocks wrong) _ is (begun_kinds self.alarm bits first whole blocks wrong (omega arith)) all;
      unseen = tt;
      cause = c.in_ok-put_frames.ensures.cause;
      drains = c.put_frames.ensures.drained;
    }
