use Rattle.pdh_row_text.proofs.Searches.{first_byte}
use Rattle.pdh_row_text.proofs.words.position_of.Goals as goal

pub returns : goal.returns
returns c = first_byte c.args.mark c.args.bytes.now c.memchr.result c.memchr.ensures
