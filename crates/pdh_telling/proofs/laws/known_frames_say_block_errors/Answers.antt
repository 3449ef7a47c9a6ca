use Rattle.pdh_telling.proofs.KnownFrames.{ds3c_block_errors, e2_none, e3_none, e4_none, ds2_none, ds3_none}
use Rattle.pdh_telling.proofs.laws.known_frames_say_block_errors.Goals as goal

pub returns-clause-ds3c : goal.returns-clause-ds3c
returns-clause-ds3c c = ds3c_block_errors

pub returns-clause-e2 : goal.returns-clause-e2
returns-clause-e2 c = e2_none

pub returns-clause-e3 : goal.returns-clause-e3
returns-clause-e3 c = e3_none

pub returns-clause-e4 : goal.returns-clause-e4
returns-clause-e4 c = e4_none

pub returns-clause-ds2 : goal.returns-clause-ds2
returns-clause-ds2 c = ds2_none

pub returns-clause-ds3 : goal.returns-clause-ds3
returns-clause-ds3 c = ds3_none
