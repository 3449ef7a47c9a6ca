use Rattle.std.proofs.Common.{ℕ, List, Ok, ap, ◌∙◌, subst, arith}
use Rattle.std.proofs.lemmas.List.{take_all}
use Rattle.std.proofs.lemmas.Result.{err_from_is_err_and}
use Rattle.pdh_bits.specs.Bits.{bits_of}
use Rattle.pdh_edge.specs.declared.shelf.Failed.{Failed}
use Rattle.pdh_script.specs.Bending.{PutsSome}
use Rattle.pdh_script.proofs.BitsPut.{puts_none, part_put, byte_put}
use Rattle.pdh_script.proofs.rows_left.put_bytes.Goals as goal

pub loop-byte-init : goal.loop-byte-init
loop-byte-init g c = puts_none g.D.Drain (bits_of c.args.bytes.now) c.args.drain.now (g.met.D.Drain.drained_same c.args.drain.now)

pub put_byte-requires : goal.put_byte-requires
put_byte-requires g c = ap (λ h. h 0) (g.met.D.Drain.drained_holds c.args.drain.now c.loop-byte.drain c.loop-byte.invariant.kept) ∙ c.requires

pub returns-in_err-put_byte : goal.returns-in_err-put_byte
returns-in_err-put_byte g c =
    let p = err_from_is_err_and c.from_residual.result c.from_residual.ensures.1 in
    rw p.1
    (part_put g.D.Drain _ (bits_of c.args.bytes.now) c.args.drain.now c.put_byte.new.drain
    (byte_put g.D.Drain c.args.bytes.now c.loop-byte.byte-index c.args.drain.now c.loop-byte.drain c.put_byte.new.drain _ (g.met.D.Drain.drained_join _ _ _) (omega (arith, c.loop-byte-test.true)) c.loop-byte.invariant c.in_err-put_byte.ensures))

pub loop-byte-preserved : goal.loop-byte-preserved
loop-byte-preserved g c =
    byte_put g.D.Drain c.args.bytes.now c.loop-byte.byte-index c.args.drain.now c.loop-byte.drain c.put_byte.new.drain _ (g.met.D.Drain.drained_join _ _ _) (omega (arith, c.loop-byte-test.true)) c.loop-byte.invariant c.in_ok-put_byte.ensures

pub returns : goal.returns
returns g c =
    let all = take_all c.loop-byte.byte-index c.args.bytes.now (omega (arith, c.loop-byte-test.false)) in
    subst (λ (bytes : List ℕ). PutsSome {T = Unit {0}} {E = Failed} g.D.Drain (bits_of bytes) (bits_of c.args.bytes.now) c.args.drain.now c.loop-byte.drain (Ok tt)) all c.loop-byte.invariant
