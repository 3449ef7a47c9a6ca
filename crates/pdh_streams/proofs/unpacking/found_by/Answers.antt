use Rattle.std.proofs.Common.{refl}
use Rattle.pdh_streams.proofs.unpacking.found_by.Goals as goal

pub returns : goal.returns
returns c = λ line stands. rw (c.superframes.ensures line stands, c.blocks-2.ensures line stands, c.errored.ensures line stands) refl
