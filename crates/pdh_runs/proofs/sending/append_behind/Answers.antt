use Rattle.std.proofs.Common.{◌++◌, length, take, drop, sym, ap, ◌∙◌, arith, append_assoc}
use Rattle.std.proofs.lemmas.List.{length-append}
use Rattle.pdh_bits.specs.BitOut.{BoundedBits}
use Rattle.pdh_runs.proofs.sending.append_behind.Goals as goal

pub append-requires : goal.append-requires
append-requires c = record { room = omega (arith, c.requires.room, length-append c.args.into.now.bits c.args.held.now) }

pub append_front-requires-clause-room : goal.append_front-requires-clause-room
append_front-requires-clause-room c =
    omega (arith, c.requires.room, ap (λ (b : BoundedBits). length b.bits) c.append.ensures, ap (λ (b : BoundedBits). b.capacity) c.append.ensures)

pub returns-then-count-len-clause-bits : goal.returns-then-count-len-clause-bits
returns-then-count-len-clause-bits c =
    ap (λ l. c.args.into.now.bits ++ l) (c.join.ensures ∙ ap (λ l. c.args.held.now ++ l) c.read.ensures)
    ∙ sym (append_assoc c.args.into.now.bits c.args.held.now (take c.args.count (drop c.args.place c.args.list.now.bits)))

pub returns-clause-bits : goal.returns-clause-bits
returns-clause-bits c =
    c.append_front.ensures.bits ∙ ap (λ (b : BoundedBits). b.bits ++ take c.args.count (drop c.args.place c.args.list.now.bits)) c.append.ensures
