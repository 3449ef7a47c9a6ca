use Rattle.pdh_answers.specs.declared.file.File.TheVariants.{Ds1Line, PayloadOut}
use Rattle.pdh_ds1.specs.View.{far_of}
use Rattle.pdh_runner.proofs.Prepared.{ok_both}
use Rattle.pdh_streams.specs.Codecs.{framed_of, unpacked_answer, unpacking}
use Rattle.pdh_streams.specs.Ds1.{ds1_codec}
use Rattle.pdh_streams.proofs.StreamFiles.{stream_prepared}
use Rattle.pdh_streams.proofs.Ds1Files.{unpack_streams}
use Rattle.pdh_streams.proofs.unpacking.UnpackDs1PortCommandNobody.files.Goals as goal

pub returns : goal.returns
returns c =
    let form = c.args.self.now.form in
    let line = c.args.line.now in
    let codec = ds1_codec form in
    ok_both c.line_to_line.result (λ files inputs outputs state planned. stream_prepared (unpacking codec) Ds1Line PayloadOut (framed_of codec) (unpacked_answer codec) (far_of form) line state (unpack_streams form line state planned) files.inputs.items inputs files.outputs.items outputs) c.line_to_line.ensures.inputs c.line_to_line.ensures.outputs
