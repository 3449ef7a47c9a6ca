use Rattle.pdh_duplex.proofs.linking.duplex.Goals as goal

pub returns : goal.returns
returns g c = record { session = c.session.ensures.session_is; west_saw = c.session.ensures.west_saw; east_saw = c.session.ensures.east_saw; unseen = c.session.ensures.unseen }
