use Rattle.pdh_telling.proofs.KnownFrames.{e2_alarm, e3_alarm, e4_alarm, ds2_alarm, ds3_alarm, ds3c_alarm}
use Rattle.pdh_telling.proofs.laws.known_frames_say_alarms.Goals as goal

pub returns-clause-e2 : goal.returns-clause-e2
returns-clause-e2 c = e2_alarm

pub returns-clause-e3 : goal.returns-clause-e3
returns-clause-e3 c = e3_alarm

pub returns-clause-e4 : goal.returns-clause-e4
returns-clause-e4 c = e4_alarm

pub returns-clause-ds2 : goal.returns-clause-ds2
returns-clause-ds2 c = ds2_alarm

pub returns-clause-ds3 : goal.returns-clause-ds3
returns-clause-ds3 c = ds3_alarm

pub returns-clause-ds3c : goal.returns-clause-ds3c
returns-clause-ds3c c = ds3c_alarm
