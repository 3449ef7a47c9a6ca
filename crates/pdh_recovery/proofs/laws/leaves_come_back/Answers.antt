use Rattle.std.proofs.Common.{◌≡◌, ◌+◌, [], subst, arith}
use Rattle.pdh_recovery.specs.Recovering.{Rejoins}
use Rattle.pdh_nesting.specs.Receiving.{far}
use Rattle.pdh_recovery.proofs.DownLaws.{comes_back, leaf_comes_back}
use Rattle.pdh_recovery.proofs.laws.leaves_come_back.Goals as goal

pub returns-clause-line : goal.returns-clause-line
returns-clause-line c chain counts content line e u leaf quiet are keep known same down =
    let first : 0 + leaf ≡ leaf = omega arith in
    let back = comes_back chain counts content.bits content.says [] 0 line e u leaf quiet are keep known same down in
    (back.0, back.1, back.2, subst (λ k. Rejoins (far chain line leaf) (content.bits k) back.0 back.1) first back.3)

pub returns-clause-lists : goal.returns-clause-lists
returns-clause-lists c chain line leaf are keep known = leaf_comes_back chain line leaf are keep known
