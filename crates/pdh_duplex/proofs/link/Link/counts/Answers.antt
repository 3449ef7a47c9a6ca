use Rattle.std.proofs.Common.{◌∙◌}
use Rattle.pdh_duplex.proofs.Sessions.{same_session}
use Rattle.pdh_duplex.proofs.link.Link.counts.Goals as goal

pub returns : goal.returns
returns g c z n west east have =
    let w = have.west_is in
    let e = have.east_is in
    same_session _ _ _ _ _ _ _ _ _ _ _ _ _ _ _ _ (c.frames.ensures _ w.stands ∙ w.delivered_is _) (c.frames-2.ensures _ e.stands ∙ e.delivered_is _) w.alarms_are e.alarms_are w.febe_are e.febe_are w.errors_are e.errors_are
