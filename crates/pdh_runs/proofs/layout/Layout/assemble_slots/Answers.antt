use Rattle.std.proofs.Common.{◌≡◌, ◌<◌, ◌≤◌, ◌+◌, ◌-◌, Bool, List, [], ◌∷◌, length, map, refl, sym, ap, ◌∙◌, subst, arith}
use Rattle.pdh_bits.specs.BitOut.{BoundedBits}
use Rattle.pdh_packed.specs.Gaining.{gained, IsGrown}
use Rattle.pdh_packed.proofs.GainingLaws.{grown_more}
use Rattle.pdh_shape.specs.Payload.{is_payload}
use Rattle.pdh_runs.proofs.PieceLaws.{rows_grow, overhead_grows, parity_push}
use Rattle.pdh_runs.proofs.AssemblyLaws.{assembled_push}
use Rattle.pdh_runs.proofs.layout.Layout.assemble_slots.Goals as goal

pub bit-bit-requires-clause-rows : goal.bit-bit-requires-clause-rows
bit-bit-requires-clause-rows g c = λ k d within.
    let s = g.S.Shape.shape in
    let some : 0 < s.tribs = omega (arith, within, c.requires.tributaries, g.met.S.Shape.tribs_is) in
    omega (arith, c.requires.rows k d within, rows_grow s some c.args.first (c.loop-slot.slot + 1 - c.args.first) c.args.len (omega (arith, c.loop-slot-test.true)))

pub bit-bit-requires-clause-overhead : goal.bit-bit-requires-clause-overhead
bit-bit-requires-clause-overhead g c =
    omega (arith, c.requires.overhead, overhead_grows g.S.Shape.shape (c.loop-slot.slot + 1) (c.args.first + c.args.len) (omega (arith, c.loop-slot-test.true)))

pub loop-slot-preserved : goal.loop-slot-preserved
loop-slot-preserved g c =
    let s = g.S.Shape.shape in
    let first = c.args.first in
    let slot = c.loop-slot.slot in
    let begun : first ≤ slot = omega (arith, c.loop-slot.auto.slot) in
    let old = c.args.into.now in
    let now = c.loop-slot.into in
    let new = c.push.new.self in
    let bits : List Bool = gained old now in
    let bit : Bool = c.bit-bit.result in
    let grown = grown_more old now new (bit ∷ []) (slot - first) c.loop-slot.invariant.grown c.push.ensures in
    let count : slot - first + 1 ≡ slot + 1 - first = omega (arith, begun) in
    let at : first + length bits ≡ slot = omega (arith, c.loop-slot.invariant.grown.count, begun) in
    let class : c.is_payload.result ≡ is_payload (s.role (first + length bits)) = c.is_payload.ensures ∙ ap (λ t. is_payload (s.role t)) (sym at) in
    record {
      grown = subst (IsGrown old new) count grown.0;
      assembled = assembled_push s first c.args.overhead.now.bits (map (λ (b : BoundedBits). b.bits) c.args.columns.now) slot (slot + 1) bits (gained old new) bit begun refl c.loop-slot.invariant.grown.count grown.1 c.bit-bit.ensures.payload c.bit-bit.ensures.others
          c.loop-slot.invariant.assembled;
      odd = parity_push s first bits (gained old new) bit c.is_payload.result c.loop-slot.odd grown.1 class c.loop-slot.invariant.odd;
    }
