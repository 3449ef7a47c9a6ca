use Rattle.pdh_tests_of_events.proofs.watch.note_two.Goals as goal

pub returns : goal.returns
returns g c = g.met.W.Watch.saw_join _ _ _ _ _ c.note.ensures c.note-2.ensures
