use Rattle.std.proofs.Common.{◌+◌, ◌++◌, [], ◌∷◌, replicate, ap, sym, ◌∙◌, arith, append_assoc}
use Rattle.std.proofs.lemmas.List.{append-nil, length-replicate, replicate_more}
use Rattle.pdh_packed.specs.Words.{bounded}
use Rattle.pdh_packed.proofs.BoundedLaws.{bits_grow, room_left}
use Rattle.pdh_script.proofs.bender.append_same.Goals as goal

pub loop-bit-init : goal.loop-bit-init
loop-bit-init c = ap (bounded c.args.into.now.capacity) (sym (append-nil c.args.into.now.bits))

pub push-requires : goal.push-requires
push-requires c =
    let i = c.loop-bit._bit in
    omega (arith, room_left c.args.into.now c.loop-bit.into (replicate i c.args.bit) 1 c.loop-bit.invariant (omega (arith, c.requires, c.loop-bit-test.true, length-replicate i c.args.bit)))

pub loop-bit-preserved : goal.loop-bit-preserved
loop-bit-preserved c =
    let first = c.args.into.now in
    let bit = c.args.bit in
    let i = c.loop-bit._bit in
    bits_grow first c.loop-bit.into c.push.new.self (first.bits ++ replicate i bit) (bit ∷ []) (first.bits ++ replicate (i + 1) bit) c.loop-bit.invariant c.push.ensures
    (ap (λ v. first.bits ++ v) (sym (replicate_more i bit)) ∙ sym (append_assoc first.bits (replicate i bit) (bit ∷ [])))
