use Rattle.pdh_ops.proofs.FilesComeBack.{file_comes_back}
use Rattle.pdh_ops.proofs.laws.leaves_get_their_files_back.Goals as goal

pub returns : goal.returns
returns c = record { file = λ chain feac files line bent output leaf e u quiet. file_comes_back chain feac files line bent output leaf e u quiet }
