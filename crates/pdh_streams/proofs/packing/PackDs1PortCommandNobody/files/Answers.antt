use Rattle.pdh_answers.specs.declared.file.File.TheVariants.{Payload, Ds1Line}
use Rattle.pdh_ds1.specs.View.{packed_of}
use Rattle.pdh_runner.proofs.Prepared.{ok_both}
use Rattle.pdh_streams.specs.Codecs.{payload_of, packed_answer, packing}
use Rattle.pdh_streams.specs.Ds1.{ds1_codec}
use Rattle.pdh_streams.proofs.StreamFiles.{stream_prepared}
use Rattle.pdh_streams.proofs.Ds1Files.{pack_streams}
use Rattle.pdh_streams.proofs.packing.PackDs1PortCommandNobody.files.Goals as goal

pub returns : goal.returns
returns c =
    let form = c.args.self.now.form in
    let payload = c.args.payload.now in
    let codec = ds1_codec form in
    ok_both c.line_to_line.result (λ files inputs outputs state planned. stream_prepared (packing codec) Payload Ds1Line (payload_of codec) (packed_answer codec) (packed_of form) payload state (pack_streams form payload state planned) files.inputs.items inputs files.outputs.items outputs) c.line_to_line.ensures.inputs c.line_to_line.ensures.outputs
