use Rattle.std.proofs.Common.{◌≡◌, ◌+◌, ◌-◌, ◌*◌, ◌/◌, true, false, ◌∷◌, [], ◌++◌, List, subst, drop, ap, ◌∙◌, arith}
use Rattle.std.proofs.lemmas.Result.{err_from_is_err_and}
use Rattle.pdh_bits.specs.Bits.{bit_value}
use Rattle.pdh_g706.specs.declared.counts.Counts.{Counts}
use Rattle.pdh_g706.specs.Machine.{group_phase}
use Rattle.pdh_g706.proofs.HeldLaws.{worth}
use Rattle.pdh_g706.proofs.AlignSteps.{block_with, block_full, block_half, becomes, counted_more, group_is, turned_none, puts_of, part_of, tell_join, kinds_of, whole_kinds, block_kinds}
use Rattle.pdh_watch.specs.declared.kind.TheConstants.Kind.{LOST}
use Rattle.pdh_watch.specs.declared.event.Event.{Event}
use Rattle.pdh_line.specs.Paths.{top}
use Rattle.pdh_events.specs.Telling.{tell}
use Rattle.pdh_g706.specs.Frames.{frames_of}
use Rattle.pdh_g706.specs.Events.{crc_kinds, frames_kinds, rise}
use Rattle.pdh_g706.specs.Machine.{frames_from, is_false_group}
use Rattle.pdh_g706.proofs.align.E1Align.end_block.Goals as goal

pub returns-in_err-put_frames : goal.returns-in_err-put_frames
returns-in_err-put_frames g c =
    let p = err_from_is_err_and c.from_residual.result c.from_residual.ensures.1 in
    let self = c.args.self.now in
    let is = block_full self.held.bits self.group.judged self.group.errored (c.held.result / 256 - 16) c.errs-wrong.result (omega arith) (omega arith) c.errs-wrong.ensures in
    rw p.1 (record {
      becomes = tt;
      put = tt;
      part = part_of _ _ (g.D.Drain.outputs c.args.drain.now) (g.D.Drain.outputs c.put_frames.new.drain) is c.in_err-put_frames.ensures.part;
      seen = tt;
      unseen = g.met.W.Watch.saw_nothing c.args.watch.now;
      cause = c.in_err-put_frames.ensures.cause;
      drains = c.put_frames.ensures.drained;
    })

pub returns-then-held-eq8192 : goal.returns-then-held-eq8192
returns-then-held-eq8192 g c =
    let self = c.args.self.now in
    let bits = self.held.bits in
    let bad = c.errs-wrong.result in
    let is = block_full bits self.group.judged self.group.errored (c.held.result / 256 - 16) bad (omega arith) (omega arith) c.errs-wrong.ensures in
    let one : c.from.result ≡ bit_value bad = c.from.ensures ∙ worth bad in
    let saw = g.W.Watch.saw in
    let join = g.met.W.Watch.saw_join in
    let frames = frames_kinds self.alarm (frames_from (frames_of bits) 16 (2 * 8)) 0 8 in
    let over = rise LOST 0 (bit_value (is_false_group (self.group.judged + 1) (self.group.errored + bit_value bad))) in
    let last = subst (λ b. saw c.note_frames-self.new.watch (tell top self.bits (rise LOST 0 (bit_value b))) c.close_group.new.watch)
    (group_is c.with-group.result self.group bad c.with-group.ensures.judged c.with-group.ensures.errored) c.close_group.ensures.seen in
    let two = tell_join saw join self.bits (crc_kinds (bad ∷ [])) frames c.args.watch.now c.note_block.new.watch c.note_frames-self.new.watch c.note_block.ensures c.note_frames-self.ensures.seen in
    let all = tell_join saw join self.bits (crc_kinds (bad ∷ []) ++ frames) over c.args.watch.now c.note_frames-self.new.watch c.close_group.new.watch two last in
    record {
      becomes = becomes _ _ self c.close_group.new.self is (record {
        phase_is = c.close_group.ensures.phase ∙ ap (λ n. group_phase bits (drop 4096 bits) n c.with-group.result.errored) c.with-group.ensures.judged
            ∙ ap (group_phase bits (drop 4096 bits) (self.group.judged + 1)) c.with-group.ensures.errored;
        counts = counted_more self.counts c.close_group.new.self.counts _
            (ap (λ (x : Counts). x.multiframes) c.close_group.ensures.counts ∙ c.plus-self.ensures.multiframes)
            (ap (λ (x : Counts). x.blocks) c.close_group.ensures.counts ∙ c.plus-self.ensures.blocks)
            (ap (λ (x : Counts). x.errored) c.close_group.ensures.counts ∙ omega (arith, c.plus-self.ensures.errored, one));
        room = c.close_group.ensures.room;
        number = c.close_group.ensures.bits;
        ais = c.close_group.ensures.ais;
        alarm = c.close_group.ensures.alarm ∙ c.note_frames-self.ensures.alarm;
      });
      put = puts_of _ _ (g.D.Drain.outputs c.args.drain.now) (g.D.Drain.outputs c.put_frames.new.drain) is c.in_ok-put_frames.ensures.put;
      part = tt;
      seen = kinds_of (λ (x : List Event). saw c.args.watch.now x c.close_group.new.watch) self _ (block_with bits self.group.judged self.group.errored true bad) _ is (whole_kinds self.alarm bits self.group.judged self.group.errored bad (omega arith)) all;
      unseen = tt;
      cause = c.in_ok-put_frames.ensures.cause;
      drains = c.put_frames.ensures.drained;
    }

pub returns : goal.returns
returns g c =
    let self = c.args.self.now in
    let bits = self.held.bits in
    let bad = c.errs-wrong.result in
    let is = block_half bits self.group.judged self.group.errored (c.held.result / 256 - 16) bad c.requires.whole (λ e. c.if-held-eq8192.false (c.held-2.ensures.count ∙ e)) (omega arith) c.errs-wrong.ensures in
    let one : c.from-2.result ≡ bit_value bad = c.from-2.ensures ∙ worth bad in
    let saw = g.W.Watch.saw in
    let over = rise LOST 0 (bit_value (is_false_group (self.group.judged + 1) (self.group.errored + bit_value bad))) in
    let last = subst (λ b. saw c.note_block-2.new.watch (tell top self.bits (rise LOST 0 (bit_value b))) c.close_group-2.new.watch)
    (group_is c.with-group.result self.group bad c.with-group.ensures.judged c.with-group.ensures.errored) c.close_group-2.ensures.seen in
    let all = tell_join saw g.met.W.Watch.saw_join self.bits (crc_kinds (bad ∷ [])) over c.args.watch.now c.note_block-2.new.watch c.close_group-2.new.watch c.note_block-2.ensures last in
    turned_none g.D.Drain.outputs g.D.Drain.drain_faults g.D.Drain.drained saw _ _ self c.close_group-2.new.self c.args.drain.now c.args.watch.now c.close_group-2.new.watch
    (ap (λ t. t.gained.payload) is) (g.met.D.Drain.drained_same c.args.drain.now)
    (becomes _ _ self c.close_group-2.new.self is (record {
      phase_is = c.close_group-2.ensures.phase ∙ ap (λ n. group_phase bits bits n c.with-group.result.errored) c.with-group.ensures.judged
          ∙ ap (group_phase bits bits (self.group.judged + 1)) c.with-group.ensures.errored;
      counts = counted_more self.counts c.close_group-2.new.self.counts _
          (ap (λ (x : Counts). x.multiframes) c.close_group-2.ensures.counts ∙ c.plus-self-2.ensures.multiframes)
          (ap (λ (x : Counts). x.blocks) c.close_group-2.ensures.counts ∙ c.plus-self-2.ensures.blocks)
          (ap (λ (x : Counts). x.errored) c.close_group-2.ensures.counts ∙ omega (arith, c.plus-self-2.ensures.errored, one));
      room = c.close_group-2.ensures.room;
      number = c.close_group-2.ensures.bits;
      ais = c.close_group-2.ensures.ais;
      alarm = c.close_group-2.ensures.alarm;
    }))
    (kinds_of (λ (x : List Event). saw c.args.watch.now x c.close_group-2.new.watch) self _ (block_with bits self.group.judged self.group.errored false bad) _ is (block_kinds self.alarm bits self.group.judged self.group.errored bad) all)
