use Rattle.std.proofs.Common.{◌∙◌, sym, ap, [], ◌∷◌, ◌++◌, List, arith}
use Rattle.std.proofs.lemmas.List.FromFn.{map-range_with_len_more}
use Rattle.pdh_answers.specs.declared.file.File.{File}
use Rattle.pdh_answers.specs.declared.file.File.TheVariants.{Output}
use Rattle.pdh_recorded.proofs.demuxing.port_files.Goals as goal

pub loop-leaf-preserved : goal.loop-leaf-preserved
loop-leaf-preserved c =
    c.in_ok-push-2.ensures.items ∙ ap (λ (all : List File). all ++ Output c.loop-leaf.leaf ∷ []) c.loop-leaf.invariant ∙ sym (map-range_with_len_more Output 0 c.loop-leaf.leaf c.loop-leaf.leaf (omega arith))
