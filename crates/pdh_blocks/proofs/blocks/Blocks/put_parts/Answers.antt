use Rattle.std.proofs.Common.{◌≡◌, ◌+◌, ◌<◌, ◌++◌, List, Bool, length, take, drop, Some, Ok, Err, slice_get, refl, ap, ◌∙◌, sym, subst, arith}
use Rattle.std.proofs.lemmas.Option.{slice_get_read, same_Some}
use Rattle.std.proofs.lemmas.List.{take_all, take-append-drop}
use Rattle.std.proofs.lemmas.Result.{err_from_is_err_and}
use Rattle.pdh_edge.specs.declared.shelf.Failed.{Failed}
use Rattle.pdh_edge.specs.Ports.{for_leaf}
use Rattle.pdh_blocks.specs.Leaves.{Output}
use Rattle.pdh_blocks.specs.State.{over}
use Rattle.pdh_blocks.specs.Done.{PutsBits}
use Rattle.pdh_blocks.specs.laws.PortLaws.{same_outputs}
use Rattle.pdh_blocks.proofs.Places.{front_more}
use Rattle.pdh_blocks.proofs.Joining.{puts_none_yet, puts_join, puts_join_part}
use Rattle.pdh_blocks.proofs.blocks.Blocks.put_parts.Goals as goal

pub loop-place-init : goal.loop-place-init
loop-place-init g c = record { within = omega arith; puts = puts_none_yet tt c.args.leaf (over (g.S.Shelf.state c.args.shelf.now) c.args.self.now) c.requires.port }

pub index-requires : goal.index-requires
index-requires g c = omega (arith, c.requires.held, same_outputs c.loop-place.invariant.puts.drains.keeps)

pub put_part-requires-clause-port : goal.put_part-requires-clause-port
put_part-requires-clause-port g c = c.loop-place.invariant.puts.port

pub put_part-requires-clause-held : goal.put_part-requires-clause-held
put_part-requires-clause-held g c = omega (arith, c.requires.held, same_outputs c.loop-place.invariant.puts.drains.keeps)

pub put_part-requires-clause-fits : goal.put_part-requires-clause-fits
put_part-requires-clause-fits g c output found =
    let held : c.args.leaf < length c.loop-place.self.outputs.items = omega (arith, c.requires.held, same_outputs c.loop-place.invariant.puts.drains.keeps) in
    let at : slice_get c.loop-place.self.outputs.items c.args.leaf ≡ Some c.index.result.now = slice_get_read _ _ c.args.leaf _ refl held c.index.ensures in
    let same : length output.waiting ≡ length c.index.result.now.waiting = ap (λ (output : Output). length output.waiting) (same_Some output c.index.result.now (sym found ∙ at)) in
    omega (arith, same, c.len.ensures.count, c.len.ensures.bounded, c.min-count.ensures)

pub returns-in_err-put_part : goal.returns-in_err-put_part
returns-in_err-put_part g c =
    let p = err_from_is_err_and c.from_residual.result c.from_residual.ensures.1 in
    let bits = c.args.bits.now.bits in
    let place = c.loop-place.place in
    let count = c.min-count.result in
    let all : (take place bits ++ take count (drop place bits)) ++ drop (place + count) bits ≡ bits = ap (λ v. v ++ drop (place + count) bits) (front_more place count bits) ∙ take-append-drop (place + count) bits in
    let a = over (g.S.Shelf.state c.args.shelf.now) c.args.self.now in
    let b = over (g.S.Shelf.state c.loop-place.shelf) c.loop-place.self in
    let d = over (g.S.Shelf.state c.put_part.new.shelf) c.put_part.new.self in
    rw p.1
    (subst (λ (all : List Bool). PutsBits {T = Unit {0}} {E = Failed} (for_leaf c.args.leaf all) a d (Err _)) all
    (puts_join_part a b d tt c.args.leaf (take place bits) (take count (drop place bits)) (drop (place + count) bits) _ c.loop-place.invariant.puts c.in_err-put_part.ensures))

pub loop-place-smaller : goal.loop-place-smaller
loop-place-smaller g c =
    let held : c.args.leaf < length c.loop-place.self.outputs.items = omega (arith, c.requires.held, same_outputs c.loop-place.invariant.puts.drains.keeps) in
    let at : slice_get c.loop-place.self.outputs.items c.args.leaf ≡ Some c.index.result.now = slice_get_read _ _ c.args.leaf _ refl held c.index.ensures in
    let room : length c.index.result.now.waiting < 32768 = c.loop-place.invariant.puts.port.room c.args.leaf c.index.result.now at in
    omega (arith, room, c.len.ensures.count, c.min-count.ensures, c.loop-place-test.true)

pub loop-place-preserved : goal.loop-place-preserved
loop-place-preserved g c =
    let bits = c.args.bits.now.bits in
    let place = c.loop-place.place in
    let count = c.min-count.result in
    let a = over (g.S.Shelf.state c.args.shelf.now) c.args.self.now in
    let b = over (g.S.Shelf.state c.loop-place.shelf) c.loop-place.self in
    let d = over (g.S.Shelf.state c.put_part.new.shelf) c.put_part.new.self in
    record {
      within = omega (arith, c.min-count.ensures, c.loop-place.invariant.within);
      puts = subst (λ (all : List Bool). PutsBits {T = Unit {0}} {E = Failed} (for_leaf c.args.leaf all) a d (Ok tt)) (front_more place count bits)
          (puts_join a b d tt c.args.leaf (take place bits) (take count (drop place bits)) c.loop-place.invariant.puts c.in_ok-put_part.ensures);
    }

pub returns : goal.returns
returns g c =
    let bits = c.args.bits.now.bits in
    let a = over (g.S.Shelf.state c.args.shelf.now) c.args.self.now in
    let b = over (g.S.Shelf.state c.loop-place.shelf) c.loop-place.self in
    let all : take c.loop-place.place bits ≡ bits = take_all c.loop-place.place bits (omega (arith, c.loop-place-test.false)) in
    subst (λ (all : List Bool). PutsBits {T = Unit {0}} {E = Failed} (for_leaf c.args.leaf all) a b (Ok tt)) all c.loop-place.invariant.puts
