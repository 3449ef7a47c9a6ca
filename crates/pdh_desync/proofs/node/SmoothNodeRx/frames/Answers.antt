use Rattle.std.proofs.Common.{◌∙◌}
use Rattle.pdh_desync.proofs.node.SmoothNodeRx.frames.Goals as goal

pub returns : goal.returns
returns g c line stands = c.frames.ensures ∙ stands.far.node.frames_are
