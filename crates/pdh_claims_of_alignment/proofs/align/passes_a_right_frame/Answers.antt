use Rattle.pdh_claims_of_alignment.proofs.align.passes_a_right_frame.Goals as goal

pub returns : goal.returns
returns g c some line stands =
    let passes = c.pass.ensures.passes some line stands in
    (passes.others, passes.gap, passes.was, passes.is)
