use Rattle.std.proofs.Common.{◌++◌, length, ap, ◌∙◌}
use Rattle.pdh_ds1.specs.Machine.{counted}
use Rattle.pdh_ds1.specs.View.{blocks_in}
use Rattle.pdh_claims_of_streams.proofs.Blocks.{judged_by}
use Rattle.pdh_claims_of_streams.proofs.ds1.judged_over_two_alignments.Goals as goal

pub returns : goal.returns
returns g c line one two n m stands extended tracked =
    let now = line ++ c.args.bits.now.bits in
    c.blocks-2.ensures now (c.in_ok-take.ensures.taken.stands line stands)
    ∙ ap (λ form. blocks_in form now) (c.take.ensures.form ∙ extended)
    ∙ ap (λ judged. counted (length judged)) (judged_by now _ tracked)
