use Rattle.pdh_rx.proofs.Shares.{takes_no_bits, quiet_no_bits}
use Rattle.pdh_desync.proofs.node.SmoothNodeRx.take_in_room.Goals as goal

pub returns-clause-taken : goal.returns-clause-taken
returns-clause-taken g c = takes_no_bits _ _ _ _ c.requires.fits

pub returns-clause-quiet : goal.returns-clause-quiet
returns-clause-quiet g c line stands = quiet_no_bits _ _ _ c.requires.fits
