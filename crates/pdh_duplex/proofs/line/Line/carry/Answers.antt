use Rattle.std.proofs.Common.{◌+◌, List, Bool, length, ap, ◌∙◌, arith}
use Rattle.std.proofs.lemmas.List.{length-append}
use Rattle.pdh_bits.specs.BitOut.{BoundedBits}
use Rattle.pdh_script.specs.Bending.{Bending, added_at, all_brought}
use Rattle.pdh_script.proofs.BroughtLengths.{brings_few}
use Rattle.pdh_duplex.proofs.line.Line.carry.Goals as goal

pub bend_all-requires-clause-room : goal.bend_all-requires-clause-room
bend_all-requires-clause-room c =
    let line = c.args.self.now.bender in
    let frame : List Bool = c.args.frame.now.bits in
    let brought : List Bool = all_brought line.place line.rows frame in
    let added : List Bool = added_at (line.place + length frame) line.rows in
    omega
    (arith, ap (λ (b : BoundedBits). b.capacity) c.clear.ensures, ap (λ (b : BoundedBits). length b.bits) c.clear.ensures, brings_few line.rows frame line.place, length-append brought added, c.requires.room)

pub append_last-requires : goal.append_last-requires
append_last-requires c =
    let line = c.args.self.now.bender in
    let frame : List Bool = c.args.frame.now.bits in
    let brought : List Bool = all_brought line.place line.rows frame in
    let added : List Bool = added_at (line.place + length frame) line.rows in
    omega (
      arith,
      ap (λ (b : BoundedBits). b.capacity) c.clear.ensures,
      ap (λ (b : BoundedBits). length b.bits) c.clear.ensures,
      ap (λ (b : BoundedBits). b.capacity) c.bend_all.ensures.grown,
      ap (λ (b : BoundedBits). length b.bits) c.bend_all.ensures.grown ∙ length-append c.clear.new.self.bits brought,
      ap (λ (b : Bending). length (added_at b.place b.rows)) c.bend_all.ensures.next,
      brings_few line.rows frame line.place,
      length-append brought added,
      c.requires.room,
    )
