use Rattle.std.proofs.Common.{◌∙◌, ap, sym, arith, get_or}
use Rattle.std.proofs.lemmas.List.{get_or_default}
use Rattle.pdh_rows.proofs.Tabled.{node_frame_count-rows_of}
use Rattle.pdh_rows.proofs.table.Table.frames.Goals as goal

pub returns : goal.returns
returns c =
    let read = get_or_default c.args.self.now.firsts.items c.len.result c.index.result.now 0 (omega arith) in
    c.index.ensures ∙ read ∙ ap (λ n. get_or c.args.self.now.firsts.items n 0) (omega arith)
    ∙ sym (node_frame_count-rows_of c.args.self.now c.requires)
