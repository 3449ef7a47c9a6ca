use Rattle.std.proofs.Common.{◌≡◌, ◌+◌, ◌-◌, ◌++◌, Bool, List, take, drop, ap, ◌∙◌, arith, append_assoc}
use Rattle.std.proofs.lemmas.List.{append-nil}
use Rattle.pdh_bits.specs.BitOut.{BoundedBits}
use Rattle.pdh_packed.proofs.PackedLaws.{two_parts}
use Rattle.pdh_runs.proofs.sending.append_front.Goals as goal

pub returns-then-count-lt128-clause-bits : goal.returns-then-count-lt128-clause-bits
returns-then-count-lt128-clause-bits c =
    let first = c.args.into.now.bits in
    let others = c.args.list.now.bits in
    let place = c.args.place in
    let count = c.args.count in
    let whole : 64 + (count - 64) ≡ count = omega (arith, c.if-count-le64.false) in
    let front : c.append_whole.new.self.bits ≡ first ++ take 64 (drop place others) = ap (λ (b : BoundedBits). b.bits) c.append_whole.ensures ∙ ap (λ (l : List Bool). first ++ l) c.read_whole.ensures in
    ap (λ l. l ++ c.read-then-count-lt128.result) front ∙ append_assoc first (take 64 (drop place others)) c.read-then-count-lt128.result
    ∙ ap (λ l. first ++ (take 64 (drop place others) ++ l)) c.read-then-count-lt128.ensures
    ∙ ap (λ l. first ++ l) (two_parts others 64 (count - 64) place)
    ∙ ap (λ n. first ++ take n (drop place others)) whole

pub returns-clause-bits : goal.returns-clause-bits
returns-clause-bits c = ap (λ l. c.append_from.new.self.bits ++ l) c.empty.ensures ∙ append-nil c.append_from.new.self.bits ∙ ap (λ (b : BoundedBits). b.bits) c.append_from.ensures
