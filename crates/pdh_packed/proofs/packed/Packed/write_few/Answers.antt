use Rattle.std.proofs.Common.{◌<◌, ◌+◌, ◌*◌, ◌≤◌, ◌++◌, List, ℕ, length, take, drop, set, sym, ap, ◌∙◌, arith, length-drop}
use Rattle.std.proofs.lemmas.List.{take-append-drop}
use Rattle.pdh_bits.specs.Bits.{bytes_of}
use Rattle.pdh_bits.proofs.BitsLemmas.{length-bytes_of, set-take-drop}
use Rattle.pdh_packed.proofs.ByteLaws.{byte_read}
use Rattle.pdh_packed.proofs.packed.Packed.write_few.Goals as goal

pub loop-index-init : goal.loop-index-init
loop-index-init c =
    let into = c.args.into.now in
    let done = c.args.done in
    sym (take-append-drop done into) ∙ ap (λ (xs : List ℕ). xs ++ drop done into) c.requires.written

pub loop-index-preserved : goal.loop-index-preserved
loop-index-preserved c =
    let bits = c.args.self.now.bits in
    let place = c.args.place in
    let into = c.args.into.now in
    let i = c.loop-index.index in
    let n = c.number.result in
    let bytes : List ℕ = bytes_of (drop place bits) in
    let held : place + 8 * i + 8 ≤ length bits = omega (arith, c.requires.within) in
    let byte = byte_read bits c.read.result place i n 0 held c.read.ensures c.number.ensures.bits c.number.ensures.small in
    let more : i < length bytes = omega (arith, length-bytes_of (drop place bits), length-drop place bits, c.requires.within) in
    let step = set-take-drop bytes into i more c.loop-index-test.true in
    ap (λ (xs : List ℕ). set xs i n) c.loop-index.invariant ∙ ap (set (take i bytes ++ drop i into) i) byte.1 ∙ step
