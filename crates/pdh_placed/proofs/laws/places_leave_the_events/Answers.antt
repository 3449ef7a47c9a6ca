use Rattle.pdh_placed.proofs.PlacedLaws.{events_placed}
use Rattle.pdh_placed.proofs.laws.places_leave_the_events.Goals as goal

pub returns : goal.returns
returns c notes line place bits = events_placed notes line place bits
