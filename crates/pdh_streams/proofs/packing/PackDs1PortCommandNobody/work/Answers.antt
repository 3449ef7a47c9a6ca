use Rattle.std.proofs.Common.{ℕ, ◌/◌, Ok, refl, sym, ap, subst, arith}
use Rattle.pdh_bits.specs.BitOut.{BoundedBits}
use Rattle.pdh_blocks.specs.State.{over}
use Rattle.pdh_blocks.specs.Lists.{inputs_of, outputs_of}
use Rattle.pdh_ds1.specs.declared.form.Frame1.{Frame1}
use Rattle.pdh_ds1.specs.View.{packed_form, PacksFor, packed_of}
use Rattle.pdh_answers.specs.Names.{payload_name}
use Rattle.pdh_answers.specs.declared.answer.Done.{Done}
use Rattle.pdh_runner.specs.Running.{IsDone}
use Rattle.pdh_streams.specs.Codecs.{packed_answer, packing}
use Rattle.pdh_streams.specs.Ds1.{pack_says, ds1_codec}
use Rattle.pdh_streams.specs.Streaming.{Streams, StreamsPart}
use Rattle.pdh_streams.proofs.Ds1Taking.{packer_gives_on}
use Rattle.pdh_streams.proofs.Ds1Files.{pack_answers}
use Rattle.pdh_streams.proofs.StreamRun.{streamed, stopped, stop_counted}
use Rattle.pdh_streams.proofs.packing.PackDs1PortCommandNobody.work.Goals as goal

pub stream-requires : goal.stream-requires
stream-requires g c = record {
  room = omega (arith, ap (λ (b : BoundedBits). b.capacity) c.in-Ok-open.ensures);
  stands = c.in-Ok.ensures.stands;
  on = packer_gives_on (packed_form c.in-Ok.packer);
  fresh = c.requires.opened.fresh;
  line = c.requires.opened.line.holds;
  out = c.requires.opened.out;
  whole = omega (arith, c.requires.opened.line.left);
}

pub returns-in-Ok-stream-clause-comes : goal.returns-in-Ok-stream-clause-comes
returns-in-Ok-stream-clause-comes g c = λ begun is.
    let form : Frame1 = c.args.self.now.form in
    let bits : ℕ = c.args.payload.now.bits in
    let codec = ds1_codec form in
    let p = over (g.S.Shelf.state c.args.port.shelf) c.args.port.blocks in
    let q = over (g.S.Shelf.state c.stream.new.port.shelf) c.stream.new.port.blocks in
    let ran = c.in-Ok-stream.ensures in
    let streams = subst (λ (f : Frame1). Streams (packed_of f) (PacksFor c.stream.new.machine) bits (inputs_of p) (inputs_of q) (outputs_of p) (outputs_of q)) c.in-Ok.ensures.form ran.ok in
    subst (λ (done : Done). IsDone (packing codec) begun p q (Ok done)) (sym c.pack_says.ensures)
    (streamed (packing codec) payload_name (packed_of form) (packed_answer codec) bits begun p q is (PacksFor c.stream.new.machine) (Ok (pack_says form (bits / 8))) streams ran.reads ran.writes ran.left refl (λ content long stood. pack_answers form bits content long))

pub returns-clause-counted : goal.returns-clause-counted
returns-clause-counted g c =
    let ran = c.in-Err.ensures in
    stop_counted c.in-Err.field-0 _ _ _ _ ran.reads ran.writes

pub returns-clause-comes : goal.returns-clause-comes
returns-clause-comes g c = λ begun is.
    let form : Frame1 = c.args.self.now.form in
    let bits : ℕ = c.args.payload.now.bits in
    let codec = ds1_codec form in
    let p = over (g.S.Shelf.state c.args.port.shelf) c.args.port.blocks in
    let q = over (g.S.Shelf.state c.stream.new.port.shelf) c.stream.new.port.blocks in
    let ran = c.in-Err.ensures in
    let part = subst (λ (f : Frame1). StreamsPart (packed_of f) (inputs_of p) (inputs_of q) (outputs_of p) (outputs_of q)) c.in-Ok.ensures.form ran.part in
    stopped (packing codec) payload_name (packed_of form) (packed_answer codec) bits begun p q is c.in-Err.field-0 part ran.reads ran.writes ran.left
