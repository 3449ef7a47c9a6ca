use Rattle.std.proofs.Common.{◌+◌, ◌-◌, length}
use Rattle.pdh_line.specs.Sending.{line_bit}
use Rattle.pdh_recovery.proofs.RecoverLaws.{recovers, recovers_list}
use Rattle.pdh_recovery.proofs.DownLaws.{sent_all_right}
use Rattle.pdh_recovery.proofs.OnceLaws.{searches_once}
use Rattle.pdh_recovery.proofs.laws.one_level_comes_back.Goals as goal

pub returns-clause-once : goal.returns-clause-once
returns-clause-once c s line e q r some a b = searches_once s line e q r some a b

pub returns-clause-line : goal.returns-clause-line
returns-clause-line c s line sent e u m shape keeps right clear = recovers s line sent e u m shape keeps clear.0 right clear.1 clear.2

pub returns-clause-node : goal.returns-clause-node
returns-clause-node c s source line e u m shape keeps clear =
    recovers s line (line_bit s source) e u m shape keeps clear.0 (sent_all_right s source (u + (length line - e))) clear.1 clear.2

pub returns-clause-list : goal.returns-clause-list
returns-clause-list c s line sent e u m shape keeps right same quiet long = recovers_list s line sent e u m shape keeps same right quiet long
