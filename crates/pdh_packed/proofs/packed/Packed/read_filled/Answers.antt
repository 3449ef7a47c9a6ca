use Rattle.std.proofs.Common.{◌+◌, ◌≤◌, false, length, drop, replicate, sym, ◌∙◌, arith, length-drop}
use Rattle.std.proofs.lemmas.List.{take-append-le}
use Rattle.pdh_packed.proofs.BoundedLaws.{length-packed}
use Rattle.pdh_packed.proofs.packed.Packed.read_filled.Goals as goal

pub read_whole-requires : goal.read_whole-requires
read_whole-requires c =
    let long = length-packed c.self.inside.capacity c.self.inside.words.items c.self.inside.tail c.args.self.now c.self.view_is in
    omega (arith, long.0, c.if-place-len.true, c.len.ensures, c.self.inside.words.ok)

pub returns-then-place-len : goal.returns-then-place-len
returns-then-place-len c =
    let bits = c.args.self.now.bits in
    let place = c.args.place in
    let long = length-packed c.self.inside.capacity c.self.inside.words.items c.self.inside.tail c.args.self.now c.self.view_is in
    let within : place + 64 ≤ length bits = omega (arith, long.0, c.if-place-len.true, c.len.ensures, c.self.inside.words.ok) in
    c.read_whole.ensures ∙ sym (take-append-le 64 (drop place bits) (replicate 64 false) (omega (arith, within, length-drop place bits)))
