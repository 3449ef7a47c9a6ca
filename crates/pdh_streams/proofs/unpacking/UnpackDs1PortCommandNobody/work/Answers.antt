use Rattle.std.proofs.Common.{ℕ, sym, ap, ◌∙◌, subst, arith}
use Rattle.pdh_bits.specs.Bits.{bits_of}
use Rattle.pdh_bits.specs.BitOut.{BoundedBits}
use Rattle.pdh_blocks.specs.State.{over}
use Rattle.pdh_blocks.specs.Lists.{inputs_of, outputs_of}
use Rattle.pdh_ds1.specs.declared.form.Frame1.{Frame1}
use Rattle.pdh_ds1.specs.View.{form_of, StandsFor, far_of}
use Rattle.pdh_answers.specs.Names.{ds1_name}
use Rattle.pdh_answers.specs.Answer.{Answer}
use Rattle.pdh_runner.specs.Running.{IsDone}
use Rattle.pdh_streams.specs.Codecs.{answer_of, unpacked_answer, unpacking}
use Rattle.pdh_streams.specs.Ds1.{ds1_codec}
use Rattle.pdh_streams.specs.Streaming.{Streams, StreamsPart}
use Rattle.pdh_streams.proofs.Ds1Taking.{align_gives_on}
use Rattle.pdh_streams.proofs.Ds1Files.{unpack_answers, unpack_reaches}
use Rattle.pdh_streams.proofs.StreamRun.{streamed, stopped, stop_counted}
use Rattle.pdh_streams.proofs.unpacking.UnpackDs1PortCommandNobody.work.Goals as goal

pub stream-requires : goal.stream-requires
stream-requires g c = record {
  room = omega (arith, ap (λ (b : BoundedBits). b.capacity) c.in-Ok-open.ensures);
  stands = c.in-Ok.ensures.stands;
  on = align_gives_on (form_of c.in-Ok.align);
  fresh = c.requires.opened.fresh;
  line = c.requires.opened.line.holds;
  out = c.requires.opened.out;
  whole = omega (arith, c.requires.opened.line.left);
}

pub returns-in-Ok-stream-clause-comes : goal.returns-in-Ok-stream-clause-comes
returns-in-Ok-stream-clause-comes g c = λ begun is.
    let form : Frame1 = c.args.self.now.form in
    let bits : ℕ = c.args.line.now.bits in
    let codec = ds1_codec form in
    let p = over (g.S.Shelf.state c.args.port.shelf) c.args.port.blocks in
    let q = over (g.S.Shelf.state c.stream.new.port.shelf) c.stream.new.port.blocks in
    let ran = c.in-Ok-stream.ensures in
    let found = c.found_by.result in
    let streams = subst (λ (f : Frame1). Streams (far_of f) (StandsFor c.stream.new.machine) bits (inputs_of p) (inputs_of q) (outputs_of p) (outputs_of q)) c.in-Ok.ensures.form ran.ok in
    subst (λ (answer : Answer). IsDone (unpacking codec) begun p q answer) (sym c.answer.ensures)
    (streamed (unpacking codec) ds1_name (far_of form) (unpacked_answer codec) bits begun p q is (StandsFor c.stream.new.machine) (answer_of codec bits found) streams ran.reads ran.writes ran.left (unpack_reaches codec bits found)
    (λ content long stood. unpack_answers form bits (ds1_codec (form_of c.stream.new.machine)) found content long (ran.codec ∙ ap ds1_codec c.in-Ok.ensures.form) (c.found_by.ensures (bits_of content) stood)))

pub returns-clause-counted : goal.returns-clause-counted
returns-clause-counted g c =
    let ran = c.in-Err.ensures in
    stop_counted c.in-Err.field-0 _ _ _ _ ran.reads ran.writes

pub returns-clause-comes : goal.returns-clause-comes
returns-clause-comes g c = λ begun is.
    let form : Frame1 = c.args.self.now.form in
    let bits : ℕ = c.args.line.now.bits in
    let codec = ds1_codec form in
    let p = over (g.S.Shelf.state c.args.port.shelf) c.args.port.blocks in
    let q = over (g.S.Shelf.state c.stream.new.port.shelf) c.stream.new.port.blocks in
    let ran = c.in-Err.ensures in
    let part = subst (λ (f : Frame1). StreamsPart (far_of f) (inputs_of p) (inputs_of q) (outputs_of p) (outputs_of q)) c.in-Ok.ensures.form ran.part in
    stopped (unpacking codec) ds1_name (far_of form) (unpacked_answer codec) bits begun p q is c.in-Err.field-0 part ran.reads ran.writes ran.left
