use Rattle.std.proofs.Common.{sym, ap, ◌∙◌, slice_get}
use Rattle.pdh_desync.specs.States.{Stores}
use Rattle.pdh_desync.proofs.FarGiving.{store_at}
use Rattle.pdh_desync.proofs.far_stores.FarStores.fill.Goals as goal

pub returns-clause-held : goal.returns-clause-held
returns-clause-held g c =
    let held = c.self.inside.list.items in
    let at = store_at g.S.Shape.shape held _ _ g.S.Shape.TRIBS c.args.trib c.index-store.result.now c.self.invariant g.met.S.Shape.tribs_is c.requires c.index-store.ensures in
    (c.index-store.result.now, ap (λ (v : Stores). slice_get v.held c.args.trib) (sym c.self.view_is) ∙ at, c.fill.ensures.count)
