use Rattle.std.proofs.Common.{◌≡◌, ◌<◌, ◌+◌, length, refl, ap, ◌∙◌, arith, Some, slice_get}
use Rattle.std.proofs.lemmas.Option.{slice_get_read}
use Rattle.pdh_tx.specs.Held.{gone_with}
use Rattle.pdh_tx.specs.Slipping.{read_to}
use Rattle.pdh_tx.proofs.Fills.{path_same, fill_is, fill_none}
use Rattle.pdh_tx.proofs.node.Sender+S+Tributaries+S+C.fill.Goals as goal

pub returns-clause-fill : goal.returns-clause-fill
returns-clause-fill g c plan x path ms is old =
    let at = c.args.self.now.at in
    let ws = c.args.self.now.body.list.items in
    let within : c.args.trib < length ws = omega (arith, c.requires, c.args.self.now.body.count) in
    let here : slice_get ws c.args.trib ≡ Some c.index.result.now = slice_get_read _ _ c.args.trib _ refl within c.index.ensures in
    let was = old.each.made c.args.trib c.index.result.now here in
    fill_is g.S.Shape.shape c.args.self.now.path path plan g.S.Shape.LEN c.args.trib at.frame at.slot x c.fill.result
    (path_same g.S.Shape.shape c.args.self.now.path path _ ms is) g.met.S.Shape.len_is old.place old.inside
    (ap (λ v. gone_with (read_to g.S.Shape.shape c.args.self.now.path plan at.frame at.slot c.args.trib).edits (read_to g.S.Shape.shape c.args.self.now.path plan at.frame at.slot c.args.trib).read + v) c.fill.ensures.count ∙ was.count)

pub returns-clause-none : goal.returns-clause-none
returns-clause-none g c plan old =
    let at = c.args.self.now.at in
    let ws = c.args.self.now.body.list.items in
    let within : c.args.trib < length ws = omega (arith, c.requires, c.args.self.now.body.count) in
    let here : slice_get ws c.args.trib ≡ Some c.index.result.now = slice_get_read _ _ c.args.trib _ refl within c.index.ensures in
    let was = old.each.made c.args.trib c.index.result.now here in
    fill_none g.S.Shape.shape c.args.self.now.body.stores c.args.self.now.path plan c.args.trib at.frame at.slot c.fill.result old.place old.inside
    (ap (λ v. gone_with (read_to g.S.Shape.shape c.args.self.now.path plan at.frame at.slot c.args.trib).edits (read_to g.S.Shape.shape c.args.self.now.path plan at.frame at.slot c.args.trib).read + v) c.fill.ensures.count ∙ was.count)
