use Rattle.std.proofs.Common.{◌≡◌, ◌<◌, ◌≤◌, ◌+◌, ◌-◌, ◌*◌, ◌%◌, ◌==◌, ◌++◌, ℕ, suc, Bool, List, length, map, take, drop, sym, ap, ◌∙◌, subst, arith}
use Rattle.std.specs.Prelude.{count_by}
use Rattle.std.proofs.lemmas.List.{length-map}
use Rattle.std.proofs.lemmas.List.FromFn.{length-map-range_with_len}
use Rattle.std.proofs.Math.Nat.{mul-le-mul_right}
use Rattle.pdh_bits.specs.BitOut.{BoundedBits}
use Rattle.pdh_interleaving.specs.Interleaving.{interleaved}
use Rattle.pdh_packed.proofs.GainingLaws.{grown_parts}
use Rattle.pdh_shape.specs.Payload.{payload_before, payload_ones}
use Rattle.pdh_runs.specs.Pieces.{turn, rows, slot_bit, slot_bits, Assembled}
use Rattle.pdh_runs.proofs.PieceLaws.{rows_most, payload_grows, payload_most}
use Rattle.pdh_runs.proofs.MadeLaws.{passed, passed_few, turns_hold, length-payload, assembled_made, ones_made}
use Rattle.pdh_runs.proofs.layout.Layout.assemble_stretches.Goals as goal

pub interleave-requires-clause-room : goal.interleave-requires-clause-room
interleave-requires-clause-room g c =
    let s = g.S.Shape.shape in
    let first = c.args.first in
    let len = c.args.len in
    let some : 0 < s.tribs = omega (arith, c.requires.tributaries, c.requires.known, g.met.S.Shape.tribs_is) in
    let inside : first + len ≤ s.len = omega (arith, c.requires.inside, g.met.S.Shape.len_is) in
    let many : length c.args.columns.now ≡ s.tribs = c.requires.known ∙ sym g.met.S.Shape.tribs_is in
    let most = mul-le-mul_right s.tribs (rows_most s some first len g.met.S.Shape.in_turn inside) in
    let order : suc s.low * s.tribs ≡ s.tribs * suc s.low = omega arith in
    let each : suc s.low ≡ g.S.Shape.LOW + 1 = omega (arith, g.met.S.Shape.low_is) in
    let all : s.tribs * suc s.low ≡ g.S.Shape.TRIBS * (g.S.Shape.LOW + 1) = ap (λ n. n * suc s.low) g.met.S.Shape.tribs_is ∙ ap (λ n. g.S.Shape.TRIBS * n) each in
    let these : c.rows.result * length c.args.columns.now ≡ rows s first len * s.tribs = ap (λ n. n * length c.args.columns.now) c.rows.ensures ∙ ap (λ n. rows s first len * n) many in
    omega (arith, most, order, all, these, c.requires.scratch, ap (λ (b : BoundedBits). length b.bits) c.clear.ensures, ap (λ (b : BoundedBits). b.capacity) c.clear.ensures)

pub overflow_mul-skipped : goal.overflow_mul-skipped
overflow_mul-skipped g c =
    let s = g.S.Shape.shape in
    let first = c.args.first in
    let len = c.args.len in
    let some : 0 < s.tribs = omega (arith, c.requires.tributaries, c.requires.known, g.met.S.Shape.tribs_is) in
    let inside : first + len ≤ s.len = omega (arith, c.requires.inside, g.met.S.Shape.len_is) in
    let skipped : c.turn.result * c.from.result ≡ passed s g.met.S.Shape.in_turn some first len inside = ap (λ t. t * c.from.result) c.turn.ensures ∙ ap (λ n. turn s first * n) (c.from.ensures ∙ c.TRIBS.ensures ∙ sym g.met.S.Shape.tribs_is) in
    omega (arith, skipped, passed_few s g.met.S.Shape.in_turn some first len inside, payload_most s first, inside, g.met.S.Shape.is_frame.few_slots)

pub append_stretches-requires-clause-skipped : goal.append_stretches-requires-clause-skipped
append_stretches-requires-clause-skipped g c =
    let s = g.S.Shape.shape in
    let first = c.args.first in
    let len = c.args.len in
    let some : 0 < s.tribs = omega (arith, c.requires.tributaries, c.requires.known, g.met.S.Shape.tribs_is) in
    let inside : first + len ≤ s.len = omega (arith, c.requires.inside, g.met.S.Shape.len_is) in
    let skipped : c.turn.result * c.from.result ≡ passed s g.met.S.Shape.in_turn some first len inside = ap (λ t. t * c.from.result) c.turn.ensures ∙ ap (λ n. turn s first * n) (c.from.ensures ∙ c.TRIBS.ensures ∙ sym g.met.S.Shape.tribs_is) in
    omega (arith, skipped, passed_few s g.met.S.Shape.in_turn some first len inside)

pub append_stretches-requires-clause-payload : goal.append_stretches-requires-clause-payload
append_stretches-requires-clause-payload g c =
    let s = g.S.Shape.shape in
    let first = c.args.first in
    let len = c.args.len in
    let some : 0 < s.tribs = omega (arith, c.requires.tributaries, c.requires.known, g.met.S.Shape.tribs_is) in
    let inside : first + len ≤ s.len = omega (arith, c.requires.inside, g.met.S.Shape.len_is) in
    let skipped : c.turn.result * c.from.result ≡ passed s g.met.S.Shape.in_turn some first len inside = ap (λ t. t * c.from.result) c.turn.ensures ∙ ap (λ n. turn s first * n) (c.from.ensures ∙ c.TRIBS.ensures ∙ sym g.met.S.Shape.tribs_is) in
    let many : length c.args.columns.now ≡ s.tribs = c.requires.known ∙ sym g.met.S.Shape.tribs_is in
    let columns : List (List Bool) = map (λ (b : BoundedBits). b.bits) c.args.columns.now in
    let count : length columns ≡ s.tribs = length-map c.args.columns.now (λ (b : BoundedBits). b.bits) ∙ many in
    let payload : List Bool = c.interleave.new.line.bits in
    let payload_is : payload ≡ interleaved columns (rows s first len) =
    ap (λ (b : BoundedBits). b.bits) c.interleave.ensures ∙ ap (λ (b : BoundedBits). b.bits ++ interleaved columns c.rows.result) c.clear.ensures ∙ ap (interleaved columns) c.rows.ensures in
    let long = length-payload s g.met.S.Shape.in_turn some first len inside columns c.args.overhead.now.bits payload count payload_is in
    let hold = turns_hold s g.met.S.Shape.in_turn some first len inside in
    omega (arith, skipped, long, hold)

pub overflow_sub-ended : goal.overflow_sub-ended
overflow_sub-ended g c =
    let s = g.S.Shape.shape in
    let first = c.args.first in
    let len = c.args.len in
    let some : 0 < s.tribs = omega (arith, c.requires.tributaries, c.requires.known, g.met.S.Shape.tribs_is) in
    let inside : first + len ≤ s.len = omega (arith, c.requires.inside, g.met.S.Shape.len_is) in
    omega (arith, c.payload_before-begun.ensures, c.payload_before-ended.ensures, payload_grows s first (first + len) (omega arith))

pub is_odd-requires : goal.is_odd-requires
is_odd-requires g c =
    let s = g.S.Shape.shape in
    let first = c.args.first in
    let len = c.args.len in
    let some : 0 < s.tribs = omega (arith, c.requires.tributaries, c.requires.known, g.met.S.Shape.tribs_is) in
    let inside : first + len ≤ s.len = omega (arith, c.requires.inside, g.met.S.Shape.len_is) in
    let skipped : c.turn.result * c.from.result ≡ passed s g.met.S.Shape.in_turn some first len inside = ap (λ t. t * c.from.result) c.turn.ensures ∙ ap (λ n. turn s first * n) (c.from.ensures ∙ c.TRIBS.ensures ∙ sym g.met.S.Shape.tribs_is) in
    let many : length c.args.columns.now ≡ s.tribs = c.requires.known ∙ sym g.met.S.Shape.tribs_is in
    let columns : List (List Bool) = map (λ (b : BoundedBits). b.bits) c.args.columns.now in
    let count : length columns ≡ s.tribs = length-map c.args.columns.now (λ (b : BoundedBits). b.bits) ∙ many in
    let payload : List Bool = c.interleave.new.line.bits in
    let payload_is : payload ≡ interleaved columns (rows s first len) =
    ap (λ (b : BoundedBits). b.bits) c.interleave.ensures ∙ ap (λ (b : BoundedBits). b.bits ++ interleaved columns c.rows.result) c.clear.ensures ∙ ap (interleaved columns) c.rows.ensures in
    let long = length-payload s g.met.S.Shape.in_turn some first len inside columns c.args.overhead.now.bits payload count payload_is in
    let hold = turns_hold s g.met.S.Shape.in_turn some first len inside in
    omega (arith, skipped, long, hold, passed_few s g.met.S.Shape.in_turn some first len inside, c.payload_before-begun.ensures, c.payload_before-ended.ensures, payload_grows s first (first + len) (omega arith))

pub returns-clause-grown : goal.returns-clause-grown
returns-clause-grown g c =
    let s = g.S.Shape.shape in
    let first = c.args.first in
    let len = c.args.len in
    let some : 0 < s.tribs = omega (arith, c.requires.tributaries, c.requires.known, g.met.S.Shape.tribs_is) in
    let inside : first + len ≤ s.len = omega (arith, c.requires.inside, g.met.S.Shape.len_is) in
    let skipped : c.turn.result * c.from.result ≡ passed s g.met.S.Shape.in_turn some first len inside = ap (λ t. t * c.from.result) c.turn.ensures ∙ ap (λ n. turn s first * n) (c.from.ensures ∙ c.TRIBS.ensures ∙ sym g.met.S.Shape.tribs_is) in
    let many : length c.args.columns.now ≡ s.tribs = c.requires.known ∙ sym g.met.S.Shape.tribs_is in
    let columns : List (List Bool) = map (λ (b : BoundedBits). b.bits) c.args.columns.now in
    let count : length columns ≡ s.tribs = length-map c.args.columns.now (λ (b : BoundedBits). b.bits) ∙ many in
    let payload : List Bool = c.interleave.new.line.bits in
    let payload_is : payload ≡ interleaved columns (rows s first len) =
    ap (λ (b : BoundedBits). b.bits) c.interleave.ensures ∙ ap (λ (b : BoundedBits). b.bits ++ interleaved columns c.rows.result) c.clear.ensures ∙ ap (interleaved columns) c.rows.ensures in
    let bits : List Bool = slot_bits s first (passed s g.met.S.Shape.in_turn some first len inside) payload c.args.overhead.now.bits len in
    let now : c.append_stretches.new.into.bits ≡ c.args.into.now.bits ++ bits = ap (λ (b : BoundedBits). b.bits) c.append_stretches.ensures ∙ ap (λ n. c.args.into.now.bits ++ slot_bits s first n payload c.args.overhead.now.bits len) skipped in
    let grown = grown_parts c.args.into.now c.append_stretches.new.into bits len (ap (λ (b : BoundedBits). b.capacity) c.append_stretches.ensures) now (length-map-range_with_len (slot_bit s first (passed s g.met.S.Shape.in_turn some first len inside) payload c.args.overhead.now.bits) first len) in
    grown.0

pub returns-clause-assembled : goal.returns-clause-assembled
returns-clause-assembled g c =
    let s = g.S.Shape.shape in
    let first = c.args.first in
    let len = c.args.len in
    let some : 0 < s.tribs = omega (arith, c.requires.tributaries, c.requires.known, g.met.S.Shape.tribs_is) in
    let inside : first + len ≤ s.len = omega (arith, c.requires.inside, g.met.S.Shape.len_is) in
    let skipped : c.turn.result * c.from.result ≡ passed s g.met.S.Shape.in_turn some first len inside = ap (λ t. t * c.from.result) c.turn.ensures ∙ ap (λ n. turn s first * n) (c.from.ensures ∙ c.TRIBS.ensures ∙ sym g.met.S.Shape.tribs_is) in
    let many : length c.args.columns.now ≡ s.tribs = c.requires.known ∙ sym g.met.S.Shape.tribs_is in
    let columns : List (List Bool) = map (λ (b : BoundedBits). b.bits) c.args.columns.now in
    let count : length columns ≡ s.tribs = length-map c.args.columns.now (λ (b : BoundedBits). b.bits) ∙ many in
    let payload : List Bool = c.interleave.new.line.bits in
    let payload_is : payload ≡ interleaved columns (rows s first len) =
    ap (λ (b : BoundedBits). b.bits) c.interleave.ensures ∙ ap (λ (b : BoundedBits). b.bits ++ interleaved columns c.rows.result) c.clear.ensures ∙ ap (interleaved columns) c.rows.ensures in
    let bits : List Bool = slot_bits s first (passed s g.met.S.Shape.in_turn some first len inside) payload c.args.overhead.now.bits len in
    let now : c.append_stretches.new.into.bits ≡ c.args.into.now.bits ++ bits = ap (λ (b : BoundedBits). b.bits) c.append_stretches.ensures ∙ ap (λ n. c.args.into.now.bits ++ slot_bits s first n payload c.args.overhead.now.bits len) skipped in
    let grown = grown_parts c.args.into.now c.append_stretches.new.into bits len (ap (λ (b : BoundedBits). b.capacity) c.append_stretches.ensures) now (length-map-range_with_len (slot_bit s first (passed s g.met.S.Shape.in_turn some first len inside) payload c.args.overhead.now.bits) first len) in
    subst (Assembled s first len c.args.overhead.now.bits columns) (sym grown.1) (assembled_made s g.met.S.Shape.in_turn some first len inside columns c.args.overhead.now.bits payload count payload_is)

pub returns-clause-odd : goal.returns-clause-odd
returns-clause-odd g c =
    let s = g.S.Shape.shape in
    let first = c.args.first in
    let len = c.args.len in
    let some : 0 < s.tribs = omega (arith, c.requires.tributaries, c.requires.known, g.met.S.Shape.tribs_is) in
    let inside : first + len ≤ s.len = omega (arith, c.requires.inside, g.met.S.Shape.len_is) in
    let skipped : c.turn.result * c.from.result ≡ passed s g.met.S.Shape.in_turn some first len inside = ap (λ t. t * c.from.result) c.turn.ensures ∙ ap (λ n. turn s first * n) (c.from.ensures ∙ c.TRIBS.ensures ∙ sym g.met.S.Shape.tribs_is) in
    let many : length c.args.columns.now ≡ s.tribs = c.requires.known ∙ sym g.met.S.Shape.tribs_is in
    let columns : List (List Bool) = map (λ (b : BoundedBits). b.bits) c.args.columns.now in
    let count : length columns ≡ s.tribs = length-map c.args.columns.now (λ (b : BoundedBits). b.bits) ∙ many in
    let payload : List Bool = c.interleave.new.line.bits in
    let payload_is : payload ≡ interleaved columns (rows s first len) =
    ap (λ (b : BoundedBits). b.bits) c.interleave.ensures ∙ ap (λ (b : BoundedBits). b.bits ++ interleaved columns c.rows.result) c.clear.ensures ∙ ap (interleaved columns) c.rows.ensures in
    let bits : List Bool = slot_bits s first (passed s g.met.S.Shape.in_turn some first len inside) payload c.args.overhead.now.bits len in
    let now : c.append_stretches.new.into.bits ≡ c.args.into.now.bits ++ bits = ap (λ (b : BoundedBits). b.bits) c.append_stretches.ensures ∙ ap (λ n. c.args.into.now.bits ++ slot_bits s first n payload c.args.overhead.now.bits len) skipped in
    let grown = grown_parts c.args.into.now c.append_stretches.new.into bits len (ap (λ (b : BoundedBits). b.capacity) c.append_stretches.ensures) now (length-map-range_with_len (slot_bit s first (passed s g.met.S.Shape.in_turn some first len inside) payload c.args.overhead.now.bits) first len) in
    let place : c.payload_before-begun.result - c.turn.result * c.from.result ≡ payload_before s first - passed s g.met.S.Shape.in_turn some first len inside = omega (arith, skipped, c.payload_before-begun.ensures) in
    let many_bits : c.payload_before-ended.result - c.payload_before-begun.result ≡ payload_before s (first + len) - payload_before s first = omega (arith, c.payload_before-begun.ensures, c.payload_before-ended.ensures) in
    let ones : List Bool → ℕ = λ bits. count_by (λ bit. bit) bits in
    c.is_odd.ensures ∙ ap (λ n. ones (take n (drop (c.payload_before-begun.result - c.turn.result * c.from.result) payload)) % 2 == 1) many_bits
    ∙ ap (λ n. ones (take (payload_before s (first + len) - payload_before s first) (drop n payload)) % 2 == 1) place
    ∙ ap (λ n. n % 2 == 1) (sym (ones_made s g.met.S.Shape.in_turn some first len inside columns c.args.overhead.now.bits payload count payload_is len (omega arith))) ∙ ap (λ l. payload_ones s first l % 2 == 1) (sym grown.1)
