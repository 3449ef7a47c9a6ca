use Rattle.std.proofs.Common.{◌≡◌, ◌+◌, [], refl, ap, ◌∙◌, arith}
use Rattle.pdh_line.specs.Edits.{edited}
use Rattle.pdh_line.specs.Sending.{front}
use Rattle.pdh_line.specs.Nodes.{leaf_node}
use Rattle.pdh_nesting.specs.Chains.{numbers_of}
use Rattle.pdh_nesting.specs.Slips.{leaf_edits, slipped_back}
use Rattle.pdh_nesting.proofs.SlippedLeaves.{far-slipped, far-edited, free-below}
use Rattle.pdh_nesting.proofs.slip_laws.leaves_come_back_with_slips.Goals as goal

pub returns-clause-front : goal.returns-clause-front
returns-clause-front c chain counts content bits most leaf are known h singly none =
    let first : 0 + leaf ≡ leaf = omega arith in
    far-slipped chain counts content.bits content.says [] 0 bits most leaf (leaf_node (numbers_of chain) leaf) are known h refl singly (free-below chain counts most leaf none)
    ∙ ap (λ k. front (edited (leaf_edits chain counts [] most leaf) (content.bits k)) (slipped_back chain counts [] bits leaf)) first

pub returns-clause-prefix : goal.returns-clause-prefix
returns-clause-prefix c chain counts lists says bits most leaf are known h singly none long = far-edited chain counts lists says bits most leaf are known h singly none long
