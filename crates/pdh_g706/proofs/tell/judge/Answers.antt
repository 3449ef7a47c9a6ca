use Rattle.std.proofs.Common.{◌∷◌, [], List, subst, arith}
use Rattle.pdh_watch.specs.declared.kind.Kind.{Kind}
use Rattle.pdh_line.specs.Paths.{top}
use Rattle.pdh_events.specs.Telling.{tell}
use Rattle.pdh_g706.specs.Frames.{frames_of}
use Rattle.pdh_g706.specs.Events.{crc_kinds}
use Rattle.pdh_g706.specs.Machine.{each_errs}
use Rattle.pdh_g706.proofs.HeldLaws.{errs_more, bool_le, crc_more}
use Rattle.pdh_g706.proofs.AlignSteps.{tell_join}
use Rattle.pdh_g706.proofs.tell.judge.Goals as goal

pub loop-block-preserved : goal.loop-block-preserved
loop-block-preserved g c =
    let fs = frames_of c.args.held.now.bits in
    let k = c.args.frame in
    let n = c.loop-block.block in
    record {
      count = errs_more fs k n c.loop-block.errored _ c.errs-wrong.result c.loop-block.invariant.count c.errs-wrong.ensures (omega (arith, c.from-errored.ensures));
      few = omega (arith, c.from-errored.ensures, c.loop-block.invariant.few, bool_le c.errs-wrong.result);
      seen = subst (λ (x : List Kind). g.W.Watch.saw c.args.watch.now (tell top c.args.number x) c.note_block.new.watch) (crc_more fs k n c.errs-wrong.result c.errs-wrong.ensures)
          (tell_join g.W.Watch.saw g.met.W.Watch.saw_join c.args.number (crc_kinds (each_errs fs k n)) (crc_kinds (c.errs-wrong.result ∷ [])) c.args.watch.now c.loop-block.watch c.note_block.new.watch c.loop-block.invariant.seen c.note_block.ensures);
    }
