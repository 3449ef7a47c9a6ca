use Rattle.std.proofs.Common.{◌≡◌, ◌<◌, Bool, List, Ok, Err, length, ap, ◌∙◌, subst, arith}
use Rattle.std.proofs.lemmas.List.{take_all}
use Rattle.std.proofs.lemmas.Result.{err_from_is_err_and}
use Rattle.pdh_bits.specs.Bits.{bits_of_byte}
use Rattle.pdh_packed.specs.Words.{low_bits}
use Rattle.pdh_packed.specs.WordLaws.{low_bits_byte}
use Rattle.pdh_edge.specs.declared.shelf.Failed.{Failed}
use Rattle.pdh_script.specs.Bending.{PutsSome, PutsBits}
use Rattle.pdh_script.proofs.BitsPut.{puts_none, bit_put, bit_not_put}
use Rattle.pdh_script.proofs.rows_left.put_byte.Goals as goal

pub loop-place-init : goal.loop-place-init
loop-place-init g c = puts_none g.D.Drain c.of-bits.result c.args.drain.now (g.met.D.Drain.drained_same c.args.drain.now)

pub put-requires : goal.put-requires
put-requires g c = ap (λ h. h 0) (g.met.D.Drain.drained_holds c.args.drain.now c.loop-place.drain c.loop-place.invariant.kept) ∙ c.requires

pub returns-in_err-put : goal.returns-in_err-put
returns-in_err-put g c =
    let p = err_from_is_err_and c.from_residual.result c.from_residual.ensures.1 in
    let bits : c.of-bits.result ≡ bits_of_byte c.args.byte = c.of-bits.ensures.bits ∙ ap (low_bits 8) c.from.ensures ∙ low_bits_byte c.args.byte in
    let inside : c.loop-place.place < length c.of-bits.result = omega (arith, c.loop-place-test.true, c.len-place-end.ensures.count) in
    rw p.1
    (subst (λ (v : List Bool). PutsBits {T = Unit {0}} {E = Failed} g.D.Drain v c.args.drain.now c.put.new.self (Err p.0)) bits
    (bit_not_put g.D.Drain c.of-bits.result c.loop-place.place c.get.result c.args.drain.now c.loop-place.drain c.put.new.self (g.met.D.Drain.drained_join _ _ _) inside c.get.ensures c.loop-place.invariant
    c.put.ensures.drained c.in_err-put.ensures.cause c.in_err-put.ensures.err))

pub loop-place-preserved : goal.loop-place-preserved
loop-place-preserved g c =
    let inside : c.loop-place.place < length c.of-bits.result = omega (arith, c.loop-place-test.true, c.len-place-end.ensures.count) in
    bit_put g.D.Drain c.of-bits.result c.loop-place.place c.get.result c.args.drain.now c.loop-place.drain c.put.new.self (g.met.D.Drain.drained_join _ _ _) inside c.get.ensures c.loop-place.invariant
    c.put.ensures.drained c.in_ok-put.ensures.cause c.in_ok-put.ensures.ok

pub returns : goal.returns
returns g c =
    let bits : c.of-bits.result ≡ bits_of_byte c.args.byte = c.of-bits.ensures.bits ∙ ap (low_bits 8) c.from.ensures ∙ low_bits_byte c.args.byte in
    let all = take_all c.loop-place.place c.of-bits.result (omega (arith, c.loop-place-test.false, c.len-place-end.ensures.count)) in
    subst (λ (v : List Bool). PutsBits {T = Unit {0}} {E = Failed} g.D.Drain v c.args.drain.now c.loop-place.drain (Ok tt)) bits
    (subst (λ (v : List Bool). PutsSome {T = Unit {0}} {E = Failed} g.D.Drain v c.of-bits.result c.args.drain.now c.loop-place.drain (Ok tt)) all c.loop-place.invariant)
