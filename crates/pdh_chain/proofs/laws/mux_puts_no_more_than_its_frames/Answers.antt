use Rattle.pdh_chain.proofs.ShortLists.{mux_short}
use Rattle.pdh_chain.proofs.laws.mux_puts_no_more_than_its_frames.Goals as goal

pub returns : goal.returns
returns c mode shapes counts says scheduled frames inputs inputs_now outputs outputs_now put k = mux_short mode shapes counts says scheduled frames inputs inputs_now outputs outputs_now put k
