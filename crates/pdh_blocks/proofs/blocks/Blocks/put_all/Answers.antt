use Rattle.std.proofs.Common.{◌≡◌, List, Bool, Some, Ok, slice_get, slice_set, refl, sym, subst, arith}
use Rattle.std.proofs.lemmas.Option.{slice_get_read}
use Rattle.pdh_edge.specs.declared.shelf.Failed.{Failed}
use Rattle.pdh_edge.specs.Ports.{for_leaf}
use Rattle.pdh_blocks.specs.Leaves.{Output}
use Rattle.pdh_blocks.specs.State.{over}
use Rattle.pdh_blocks.specs.Done.{PutsBits}
use Rattle.pdh_blocks.proofs.Waits.{put_more_done}
use Rattle.pdh_blocks.proofs.blocks.Blocks.put_all.Goals as goal

pub returns-then-len : goal.returns-then-len
returns-then-len g c =
    let a = over (g.S.Shelf.state c.args.shelf.now) c.args.self.now in
    let k = c.args.leaf in
    let old : Output = c.index_mut-output.result.now in
    let at : slice_get a.outputs k ≡ Some old = slice_get_read _ _ k _ refl c.requires.held c.index_mut-output.ensures.value in
    let more : List Bool = c.args.bits.now.bits in
    subst (λ (new : Output). PutsBits {T = Unit {0}} {E = Failed} (for_leaf k more) a (record a { outputs = slice_set a.outputs k new }) (Ok tt)) (sym c.take_all.ensures)
    (put_more_done a k old more tt c.requires.port at (omega (arith, c.len.ensures.count, c.len-2.ensures.count, c.len-2.ensures.bounded, c.if-len.true)))
