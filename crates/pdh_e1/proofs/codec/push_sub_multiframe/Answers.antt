use Rattle.pdh_e1.proofs.PackingLaws.{packed_step}
use Rattle.pdh_e1.proofs.codec.push_sub_multiframe.Goals as goal

pub loop-place-preserved : goal.loop-place-preserved
loop-place-preserved c =
    let step = packed_step c.args.payload.now c.loop-place.line.items c.push.new.self.items c.extend_from_slice.new.self.items c.args.number c.loop-place.place c.sent_word-word.result c.first_octet-octet.result
    c.loop-place.invariant.packed c.loop-place.invariant.sends c.first_octet-octet.ensures c.requires.enough c.loop-place-test.true
    c.in_ok-push.ensures.items c.in_ok-extend_from_slice.ensures.items in
    record { packed = step.0; sends = step.1 }
