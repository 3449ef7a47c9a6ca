use Rattle.pdh_desync.proofs.node.SmoothNode.fill.Goals as goal

pub returns : goal.returns
returns g c line stands = c.fill.ensures line stands.far
