use Rattle.std.proofs.Common.{◌≡◌, ◌+◌, ◌*◌, ◌%◌, ◌&&◌, not, ◌∷◌, [], ◌++◌, List, cond, sym, ap, ◌∙◌, subst, add-one, refl, arith}
use Rattle.std.specs.Prelude.{nat_le}
use Rattle.pdh_watch.specs.declared.kind.Kind.{Kind}
use Rattle.pdh_watch.specs.declared.kind.TheConstants.Kind.{ALARM_ON, ALARM_OFF, EBIT}
use Rattle.pdh_line.specs.Paths.{top}
use Rattle.pdh_events.specs.Telling.{tell, changed}
use Rattle.pdh_g706.specs.Frames.{frames_of}
use Rattle.pdh_g706.specs.Events.{odd_frame, has_alarm, alarm_before, tells_error, frames_kinds}
use Rattle.pdh_g706.specs.Machine.{frames_from}
use Rattle.pdh_g706.proofs.HeldLaws.{odd_bit, frames_more}
use Rattle.pdh_g706.proofs.AlignSteps.{tell_join, pairs_half}
use Rattle.pdh_g706.proofs.tell.note_frames.Goals as goal

pub loop-odd-preserved : goal.loop-odd-preserved
loop-odd-preserved g c =
    let bits = c.args.held.now.bits in
    let k = c.args.frame in
    let n = c.args.pairs in
    let i = c.loop-odd.odd in
    let fs = frames_from (frames_of bits) k (2 * n) in
    let alarm = c.args.alarm in
    let start = 256 * (k + 2 * i + 1) in
    let is : has_alarm (odd_frame fs i) ≡ c.bit-says.result = odd_bit bits k n i (start + 2) 2 c.requires c.loop-odd-test.true (omega arith) refl ∙ sym c.bit-says.ensures in
    let tells : c.tells_error.result ≡ tells_error fs i = c.tells_error.ensures ∙ ap (λ b. nat_le 6 (i % 8) && not b) (sym (odd_bit bits k n i start 0 c.requires c.loop-odd-test.true (omega arith) (omega arith))) in
    let more = changed ALARM_ON ALARM_OFF c.loop-odd.last c.bit-says.result ++ cond c.tells_error.result (EBIT ∷ []) [] in
    record {
      alarm = sym (ap (alarm_before alarm fs) (add-one i) ∙ is);
      seen = subst (λ (x : List Kind). g.W.Watch.saw c.args.watch.now (tell top c.args.number x) c.note_odd_frame.new.watch)
          (frames_more alarm fs i c.loop-odd.last c.bit-says.result c.tells_error.result c.loop-odd.invariant.alarm (sym is) tells)
          (tell_join g.W.Watch.saw g.met.W.Watch.saw_join c.args.number (frames_kinds alarm fs 0 i) more c.args.watch.now c.loop-odd.watch c.note_odd_frame.new.watch c.loop-odd.invariant.seen c.note_odd_frame.ensures);
    }

pub returns-clause-alarm : goal.returns-clause-alarm
returns-clause-alarm g c =
    let all : c.loop-odd.odd ≡ c.args.pairs = omega arith in
    let fs = frames_from (frames_of c.args.held.now.bits) c.args.frame (2 * c.args.pairs) in
    c.loop-odd.invariant.alarm ∙ ap (alarm_before c.args.alarm fs) (all ∙ pairs_half c.args.held.now.bits c.args.frame c.args.pairs c.requires)

pub returns-clause-seen : goal.returns-clause-seen
returns-clause-seen g c =
    let all : c.loop-odd.odd ≡ c.args.pairs = omega arith in
    let fs = frames_from (frames_of c.args.held.now.bits) c.args.frame (2 * c.args.pairs) in
    subst (λ n. g.W.Watch.saw c.args.watch.now (tell top c.args.number (frames_kinds c.args.alarm fs 0 n)) c.loop-odd.watch) all c.loop-odd.invariant.seen
