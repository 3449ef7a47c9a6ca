use Rattle.std.proofs.Common.{◌≡◌, ◌+◌, [], ap, ◌∙◌, arith}
use Rattle.pdh_line.specs.Sending.{front}
use Rattle.pdh_nesting.specs.Receiving.{back_below}
use Rattle.pdh_nesting.proofs.Given.{back-given, far-given}
use Rattle.pdh_nesting.proofs.RoundTrip.{far_front}
use Rattle.pdh_nesting.proofs.laws.leaves_come_back.Goals as goal

pub returns-clause-front : goal.returns-clause-front
returns-clause-front c chain counts content bits leaf are known =
    let first : 0 + leaf ≡ leaf = omega arith in
    far_front chain counts content.bits content.says [] 0 bits leaf are known ∙ ap (λ k. front (content.bits k) (back_below chain counts [] bits leaf)) first

pub returns-clause-given : goal.returns-clause-given
returns-clause-given c chain counts bits leaf are full known = back-given chain counts [] bits leaf are full known

pub returns-clause-prefix : goal.returns-clause-prefix
returns-clause-prefix c chain counts lists says bits leaf are full known long = far-given chain counts lists says bits leaf are full known long
