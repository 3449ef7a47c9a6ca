use Rattle.std.proofs.Common.{arith}
use Rattle.std.proofs.lemmas.List.{length-map}
use Rattle.std.proofs.lemmas.Option.{slice_get_within}
use Rattle.std.proofs.lemmas.Result.{on_ok_weaker}
use Rattle.pdh_blocks.specs.State.{over, output_name, output_names}
use Rattle.pdh_blocks.specs.laws.PortLaws.{keeps_ready}
use Rattle.pdh_claims_of_files.proofs.blocks.finish_leaves_out_the_last_output.Goals as goal

pub returns : goal.returns
returns g c =
    let port = over (g.S.Shelf.state c.finish.new.self.shelf) c.finish.new.self.blocks in
    let ready = keeps_ready c.finish.ensures.drained.keeps c.requires in
    on_ok_weaker c.finish.result
    (λ written k name list at told. written k name list at (omega (arith, slice_get_within (output_names port) k name at, length-map port.outputs output_name, ready.all)) told)
    c.finish.ensures.written
