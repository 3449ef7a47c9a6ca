use Rattle.pdh_seconds.proofs.seconds.Seconds.turn.Goals as goal

pub returns : goal.returns
returns c fit = c.settle.ensures fit
