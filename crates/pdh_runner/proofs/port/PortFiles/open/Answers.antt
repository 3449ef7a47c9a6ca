use Rattle.std.proofs.Common.{◌≡◌, List, map, sym, ap, ◌∙◌, subst}
use Rattle.std.specs.Prelude.{IfOk}
use Rattle.std.specs.String.{string_bytes}
use Rattle.pdh_blocks.specs.State.{PortState, over}
use Rattle.pdh_answers.specs.Names.{name_of}
use Rattle.pdh_runner.specs.PortFiles.{AreSources}
use Rattle.pdh_runner.specs.declared.port.Input.{Input}
use Rattle.pdh_runner.proofs.PortOpen.{can_open, same_port}
use Rattle.pdh_runner.proofs.port.PortFiles.open.Goals as goal

pub open-requires : goal.open-requires
open-requires g c =
    let are : AreSources c.args.self.now.inputs.items c.deref-3.result.now =
    subst (AreSources c.args.self.now.inputs.items) (sym c.deref-3.ensures.value) (subst (λ (reads : List Input). AreSources reads c.in-Ok.reads.items) c.deref.ensures.value c.in-Ok.ensures) in
    let named : map string_bytes c.deref-4.result.now ≡ map name_of c.args.self.now.outputs.items =
    ap (map string_bytes) c.deref-4.ensures.value ∙ c.in-Ok-names.ensures ∙ ap (map name_of) c.deref-2.ensures.value in
    can_open (g.S.Shelf.state c.args.shelf) c.args.self.now.inputs.items c.args.self.now.outputs.items c.deref-3.result.now c.deref-4.result.now are named c.requires

pub returns-clause-opened : goal.returns-clause-opened
returns-clause-opened g c =
    let are : AreSources c.args.self.now.inputs.items c.deref-3.result.now =
    subst (AreSources c.args.self.now.inputs.items) (sym c.deref-3.ensures.value) (subst (λ (reads : List Input). AreSources reads c.in-Ok.reads.items) c.deref.ensures.value c.in-Ok.ensures) in
    let named : map string_bytes c.deref-4.result.now ≡ map name_of c.args.self.now.outputs.items =
    ap (map string_bytes) c.deref-4.ensures.value ∙ c.in-Ok-names.ensures ∙ ap (map name_of) c.deref-2.ensures.value in
    subst (λ (opened : PortState). IfOk c.open.result (λ port. over (g.S.Shelf.state port.shelf) port.blocks ≡ opened))
    (same_port (g.S.Shelf.state c.args.shelf) c.args.self.now.inputs.items c.args.self.now.outputs.items c.deref-3.result.now c.deref-4.result.now are named) c.open.ensures.opened
