use Rattle.std.proofs.Common.{◌≡◌, false}
use Rattle.pdh_row_text.specs.Text.{is_passed_over}
use Rattle.pdh_script.proofs.Growing.{reads_row}
use Rattle.pdh_script.proofs.reading.read_rows.Goals as goal

pub loop-rest-preserved-in_ok-push : goal.loop-rest-preserved-in_ok-push
loop-rest-preserved-in_ok-push c =
    let kept : is_passed_over c.first_line.result.0.now ≡ false = cc in
    let found = c.in_ok-found.found in
    reads_row c.args.bits c.loop-rest.number c.loop-rest.place c.end-place.result c.loop-rest.rows.steps.items c.push.new.self.steps.items c.loop-rest.rows.added.items c.push.new.self.added.items found.step found.bytes
    c.first_line.result.0.now c.loop-rest.rest.now c.first_line.result.1.now c.args.text.now c.loop-rest.invariant c.first_line.ensures.lines c.first_line.ensures.lens c.first_line.ensures.shorter kept
    c.in_ok-found.ensures.judged c.in_ok-found.ensures.lens c.in_ok-push.ensures.steps c.in_ok-push.ensures.added c.in_ok-push.ensures.lens (c.end-place.ensures found.bytes)
