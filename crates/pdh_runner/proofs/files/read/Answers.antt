use Rattle.std.proofs.Common.{◌≡◌, ◌++◌, length, take, drop, ◌∙◌, ap, arith}
use Rattle.std.proofs.lemmas.Grind.{common_steps}
use Rattle.pdh_edge.specs.Files.Told.{Known}
use Rattle.pdh_runner.proofs.LineComes.{read_whole}
use Rattle.pdh_runner.proofs.files.read.Goals as goal

pub returns-in-Ok-clause-ok : goal.returns-in-Ok-clause-ok
returns-in-Ok-clause-ok g c held told =
    let state = g.S.Shelf.state c.args.shelf.now in
    let asked = c.as_str.ensures.value ∙ c.name.ensures.value in
    let here : state.told c.as_str.result.now ≡ Known held = ap state.told asked ∙ told in
    let whole : take c.in_ok-content.content.len (c.read_at.new.into ++ drop (length c.read_at.new.into) c.in_ok-content.content.items) ≡ c.read_at.new.into = grind (arith, common_steps) in
    let full : length c.read_at.new.into ≡ c.args.bytes = omega (arith, c.in_ok-content.ensures.len) in
    rw whole (read_whole held c.args.bytes c.read_at.new.into (c.requires.told held told) (c.in-Ok.ensures.ok.told held here) full)
