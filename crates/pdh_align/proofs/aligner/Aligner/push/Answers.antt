-- A turn of the machine tracks the line.
use Rattle.pdh_align.proofs.AligningLaws.{turns_tracks, turns_ready}
use Rattle.pdh_align.proofs.aligner.Aligner.push.Goals as goal

pub returns-clause-tracks : goal.returns-clause-tracks
returns-clause-tracks g c = λ line h. turns_tracks g.S.Shape.shape _ _ _ _ line g.met.S.Shape.is_frame c.turn.ensures h

pub returns-clause-ready : goal.returns-clause-ready
returns-clause-ready g c = turns_ready g.S.Shape.shape _ _ _ _ c.turn.ensures
