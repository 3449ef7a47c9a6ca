use Rattle.std.proofs.Common.{◌∙◌, ap}
use Rattle.pdh_script.specs.Scripts.{bytes_added}
use Rattle.pdh_script.proofs.Rows.{adds_all}
use Rattle.pdh_script.proofs.script.Script.added_bytes.Goals as goal

pub returns-clause-value : goal.returns-clause-value
returns-clause-value c =
    c.len.ensures ∙ c.self.inside.rows.added.ok.0 ∙ adds_all c.self.inside.rows.steps.items c.self.inside.rows.added.items c.self.invariant ∙ ap bytes_added c.self.view_is
