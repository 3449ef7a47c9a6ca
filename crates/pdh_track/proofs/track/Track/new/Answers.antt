use Rattle.pdh_track.proofs.track.Track.new.Goals as goal

pub returns-clause-stands : goal.returns-clause-stands
returns-clause-stands c = record { out_is = c.new-spans.ensures; ais_is = c.new-spans.ensures; alarm_is = c.new-spans.ensures; timeline_is = c.new-timeline.ensures.stands }
