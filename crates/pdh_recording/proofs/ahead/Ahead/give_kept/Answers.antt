use Rattle.std.proofs.Common.{take, ap, ◌∙◌}
use Rattle.pdh_recording.proofs.Replaying.{kept_given}
use Rattle.pdh_recording.proofs.ahead.Ahead.give_kept.Goals as goal

pub returns-clause-given : goal.returns-clause-given
returns-clause-given c =
    let old = c.args.self.now in
    let n = c.copy_bytes-count.result in
    kept_given old.run old.value old.given n old.bytes.items (take n c.copy_bytes-count.new.into) c.requires (c.copy_bytes-count.ensures.copied ∙ ap (take n) c.kept.ensures)
