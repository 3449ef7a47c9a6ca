use Rattle.pdh_nesting.proofs.Unchanged.{line_with-same}
use Rattle.pdh_nesting.proofs.laws.made_bits_stay.Goals as goal

pub returns : goal.returns
returns c chain counts bits bit a b are full agree h = line_with-same chain counts bits bit a b are full agree h
