use Rattle.std.proofs.Common.{ap, ◌∙◌}
use Rattle.std.proofs.lemmas.Result.{on_ok_weaker}
use Rattle.pdh_edge.specs.Ports.{Outputs, after}
use Rattle.pdh_claims_of_files.proofs.blocks.loses_the_bits_past_a_byte.Goals as goal

pub returns : goal.returns
returns g c =
    on_ok_weaker c.finish.result
    (λ same. ap (λ (lists : Outputs). lists.told 0) same ∙ c.in_ok-put_all.ensures.ok 0 ∙ ap (after c.args.bits.now.bits) c.requires.empty)
    c.finish.ensures.same
