use Rattle.pdh_chain.proofs.ShortLists.{far_short}
use Rattle.pdh_chain.proofs.laws.leaf_receives_no_more_than_its_share.Goals as goal

pub returns : goal.returns
returns c shapes line leaf are known = far_short shapes line leaf are known
