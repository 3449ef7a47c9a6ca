use Rattle.std.proofs.Common.{◌≡◌, ◌<◌, ◌++◌, List, [], ◌∷◌, Bool, length, Some, slice_get, slice_set, refl, ap, sym, subst, arith}
use Rattle.std.proofs.lemmas.Option.{slice_get_read}
use Rattle.std.proofs.lemmas.Result.{err_from_is_err_and}
use Rattle.pdh_edge.specs.declared.shelf.Failed.{Failed}
use Rattle.pdh_edge.specs.Ports.{for_leaf}
use Rattle.pdh_blocks.specs.Leaves.{Output, to_wait}
use Rattle.pdh_blocks.specs.State.{PortState, over}
use Rattle.pdh_blocks.specs.Held.{HoldsBlocks, HasRoomBut}
use Rattle.pdh_blocks.specs.Done.{AppendsWaiting}
use Rattle.pdh_blocks.proofs.Joining.{puts_append, puts_fail_start}
use Rattle.pdh_blocks.proofs.Waits.{put_holds, put_drains, put_puts, put_room_but}
use Rattle.pdh_blocks.proofs.blocks.Blocks.put_last.Goals as goal

pub returns-in_err-start_missing : goal.returns-in_err-start_missing
returns-in_err-start_missing g c =
    let p = err_from_is_err_and c.from_residual.result c.from_residual.ensures.1 in
    rw p.1 (puts_fail_start _ _ _ _ c.in_err-start_missing.ensures.done)

-- after the outputs were started
pub push-requires : goal.push-requires
push-requires g c =
    let held : c.args.leaf < length c.start_missing.new.self.outputs.items = omega (arith, c.requires.held, ap (λ (all : List Output). length all) c.in_ok-start_missing.ensures.done.outputs) in
    let at : slice_get c.start_missing.new.self.outputs.items c.args.leaf ≡ Some c.index_mut.result.now = slice_get_read _ _ c.args.leaf _ refl held c.index_mut.ensures.value in
    c.in_ok-start_missing.ensures.done.port.room c.args.leaf c.index_mut.result.now at

pub append_waiting-requires-clause-blocks : goal.append_waiting-requires-clause-blocks
append_waiting-requires-clause-blocks g c =
    let a = over (g.S.Shelf.state c.start_missing.new.shelf) c.start_missing.new.self in
    let k = c.args.leaf in
    let old : Output = c.index_mut.result.now in
    let held : k < length a.outputs = omega (arith, c.requires.held, ap (λ (all : List Output). length all) c.in_ok-start_missing.ensures.done.outputs) in
    let at : slice_get a.outputs k ≡ Some old = slice_get_read _ _ k _ refl held c.index_mut.ensures.value in
    let more : List Bool = c.args.bit ∷ [] in
    subst (λ (new : Output). HoldsBlocks (record a { outputs = slice_set a.outputs k new })) (sym c.push.ensures) (put_holds a k old more c.in_ok-start_missing.ensures.done.port.blocks at)

pub append_waiting-requires-clause-room : goal.append_waiting-requires-clause-room
append_waiting-requires-clause-room g c =
    let a = over (g.S.Shelf.state c.start_missing.new.shelf) c.start_missing.new.self in
    let k = c.args.leaf in
    let old : Output = c.index_mut.result.now in
    let held : k < length a.outputs = omega (arith, c.requires.held, ap (λ (all : List Output). length all) c.in_ok-start_missing.ensures.done.outputs) in
    let at : slice_get a.outputs k ≡ Some old = slice_get_read _ _ k _ refl held c.index_mut.ensures.value in
    let more : List Bool = c.args.bit ∷ [] in
    let port = c.in_ok-start_missing.ensures.done.port in
    subst (λ (new : Output). HasRoomBut k (record a { outputs = slice_set a.outputs k new })) (sym c.push.ensures) (put_room_but a k old more port.blocks at port.room)

pub returns : goal.returns
returns g c =
    let a = over (g.S.Shelf.state c.args.shelf.now) c.args.self.now in
    let b = over (g.S.Shelf.state c.start_missing.new.shelf) c.start_missing.new.self in
    let d = over (g.S.Shelf.state c.append_waiting.new.shelf) c.append_waiting.new.self in
    let k = c.args.leaf in
    let old : Output = c.index_mut.result.now in
    let held : k < length b.outputs = omega (arith, c.requires.held, ap (λ (all : List Output). length all) c.in_ok-start_missing.ensures.done.outputs) in
    let at : slice_get b.outputs k ≡ Some old = slice_get_read _ _ k _ refl held c.index_mut.ensures.value in
    let more : List Bool = c.args.bit ∷ [] in
    let port = c.in_ok-start_missing.ensures.done.port in
    let e : PortState = record b { outputs = slice_set b.outputs k (to_wait (old.waiting ++ more) old) } in
    let appends = subst (λ (new : Output). AppendsWaiting {T = Unit {0}} {E = Failed} (record b { outputs = slice_set b.outputs k new }) d c.append_waiting.result) c.push.ensures c.append_waiting.ensures.done in
    puts_append (for_leaf k more) a b e d tt c.append_waiting.result c.in_ok-start_missing.ensures.done (put_drains b k old more port.blocks at) refl (put_puts b k old more port.blocks at) appends
