use Rattle.pdh_edge.specs.declared.shelf.Call.TheVariants.{Size}
use Rattle.pdh_folder.proofs.Failing.{fails_to_read}
use Rattle.pdh_folder.proofs.folder.FolderShelf.size.Goals as goal

pub returns-in-Err-clause-err : goal.returns-in-Err-clause-err
returns-in-Err-clause-err g c =
    let old = c.args.self.now in
    fails_to_read c.args.name.now old.read_faults old.write_faults old.misses c.saturating_add-self-in-Err.result Size c.saturating_add-self-in-Err.ensures
