use Rattle.std.proofs.Common.{◌≡◌, List, Bool, [], ◌∷◌, ap, ◌∙◌, subst, IfOk}
use Rattle.pdh_judging.specs.declared.judged.Judged.{Judged}
use Rattle.pdh_standing.specs.declared.tally.Lower.{Lower}
use Rattle.pdh_looking.specs.declared.levels.LevelSize.{LevelSize}
use Rattle.pdh_looking.specs.declared.levels.LevelFound.{LevelFound}
use Rattle.pdh_looking.specs.declared.top.Top.{Top}
use Rattle.pdh_looking.specs.Words.{top_of, sizes_of}
use Rattle.pdh_looking.specs.Judging.{judged_as}
use Rattle.pdh_looking.specs.Levels.{named, top_tally, levels_in}
use Rattle.pdh_looking.proofs.reading.Reading.levels.Goals as goal

pub returns : goal.returns
unfolding levels_in
returns c =
    let line : List Bool = c.args.self.now.line.bits in
    let lower : Lower = c.in_ok-lower.lower in
    let judged : c.judged-judged.result ≡ judged_as (top_of c.args.word) line = c.judged-judged.ensures ∙ ap (λ (top : Top). judged_as top line) c.of.ensures in
    let is = ap (λ (sizes : List LevelSize). named sizes (top_tally c.judged-judged.result ∷ lower.first ∷ lower.second ∷ [])) c.sizes.ensures
    ∙ ap (λ (j : Judged). named (sizes_of c.args.word) (top_tally j ∷ lower.first ∷ lower.second ∷ [])) judged
    ∙ ap (λ (l : Lower). named (sizes_of c.args.word) (top_tally (judged_as (top_of c.args.word) line) ∷ l.first ∷ l.second ∷ [])) c.in_ok-lower.ensures in
    subst (λ (levels : List LevelFound). IfOk c.name_levels.result (λ found. found.items ≡ levels)) is c.name_levels.ensures
