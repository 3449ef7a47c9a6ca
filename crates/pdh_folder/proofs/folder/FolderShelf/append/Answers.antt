use Rattle.pdh_folder.proofs.Failing.{fails_to_append}
use Rattle.pdh_folder.proofs.folder.FolderShelf.append.Goals as goal

pub returns-clause-err : goal.returns-clause-err
returns-clause-err g c =
    let old = c.args.self.now in
    fails_to_append c.args.name.now old.read_faults old.write_faults old.misses c.saturating_add-self.result c.args.bytes.now c.saturating_add-self.ensures
