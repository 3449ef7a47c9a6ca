use Rattle.pdh_chain.proofs.ShortLists.{demux_short}
use Rattle.pdh_chain.proofs.laws.demux_puts_no_more_than_the_shares.Goals as goal

pub returns : goal.returns
returns c shapes bits are inputs inputs_now outputs outputs_now put k = demux_short shapes _ bits inputs inputs_now outputs outputs_now are put k
