use Rattle.std.proofs.Common.{◌≡◌, ℕ, ◌+◌, ◌-◌, ◌++◌, Bool, List, not, map, take, drop, ap, sym, ◌∙◌, arith}
use Rattle.pdh_packed.specs.Words.{low_bits}
use Rattle.pdh_packed.proofs.AlteringLaws.{low_bits-inverted, inverted_more}
use Rattle.pdh_packed.proofs.BoundedLaws.{bits_grow}
use Rattle.pdh_packed.proofs.packed.Packed.append_inverted.Goals as goal

pub loop-done-preserved : goal.loop-done-preserved
loop-done-preserved c =
    let place = c.args.place in
    let bits = c.args.other.now.bits in
    let done = c.loop-done.done in
    let mine = c.args.self.now.bits in
    let number = c.read_whole.result in
    let word : List Bool = low_bits 64 (18446744073709551615 - number) in
    let read : word ≡ map not (take 64 (drop (place + done) bits)) = low_bits-inverted 64 number (18446744073709551615 - number) (omega (arith, c.read_whole.type_inv)) ∙ ap (map not) c.read_whole.ensures in (
      omega (arith, c.loop-done-test.true),
      bits_grow c.args.self.now c.loop-done.self c.append_whole.new.self (mine ++ map not (take done (drop place bits))) word (mine ++ map not (take (done + 64) (drop place bits))) c.loop-done.invariant.1 c.append_whole.ensures
          (inverted_more mine bits word place done 64 read),
    )

pub returns : goal.returns
returns c =
    let place = c.args.place in
    let count = c.args.count in
    let bits = c.args.other.now.bits in
    let done = c.loop-done.done in
    let mine = c.args.self.now.bits in
    let word : List Bool = c.inverted.result in
    let read : word ≡ map not (take (count - done) (drop (place + done) bits)) = c.inverted.ensures ∙ ap (map not) c.read.ensures in
    let whole : done + (count - done) ≡ count = omega (arith, c.loop-done.invariant.0) in
    let all : mine ++ map not (take count (drop place bits)) ≡ mine ++ map not (take (done + (count - done)) (drop place bits)) = ap (λ (n : ℕ). mine ++ map not (take n (drop place bits))) (sym whole) in
    bits_grow c.args.self.now c.loop-done.self c.append.new.self (mine ++ map not (take done (drop place bits))) word (mine ++ map not (take count (drop place bits))) c.loop-done.invariant.1 c.append.ensures
    (all ∙ inverted_more mine bits word place done (count - done) read)
