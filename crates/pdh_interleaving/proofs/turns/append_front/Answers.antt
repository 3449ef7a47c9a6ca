use Rattle.std.proofs.Common.{◌≡◌, ◌++◌, List, Bool, length, take, sym, ap, ◌∙◌, arith, length-take}
use Rattle.std.proofs.lemmas.List.{take_all}
use Rattle.pdh_packed.specs.Words.{low_bits, bounded}
use Rattle.pdh_packed.specs.WordLaws.{length-low_bits}
use Rattle.pdh_interleaving.proofs.turns.append_front.Goals as goal

pub returns-then-count-eq64 : goal.returns-then-count-eq64
returns-then-count-eq64 c =
    let count = c.args.count in
    let n = c.args.number in
    let old = c.args.list.now in
    let all : take count (low_bits 64 n) ≡ low_bits 64 n = take_all count (low_bits 64 n) (omega (arith, length-low_bits 64 n, c.if-count-eq64.true)) in
    c.append_whole.ensures ∙ ap (λ (bits : List Bool). bounded old.capacity (old.bits ++ bits)) (sym all)

pub append-requires : goal.append-requires
append-requires c =
    record { room = omega (arith, c.requires.room, ap length c.first.ensures, length-take c.args.count c.of.result, c.of.ensures.count, c.requires.few) }

pub returns : goal.returns
returns c =
    let count = c.args.count in
    let old = c.args.list.now in
    let word : c.first.result ≡ take count (low_bits 64 c.args.number) = c.first.ensures ∙ ap (take count) c.of.ensures.bits in
    c.append.ensures ∙ ap (λ (bits : List Bool). bounded old.capacity (old.bits ++ bits)) word
