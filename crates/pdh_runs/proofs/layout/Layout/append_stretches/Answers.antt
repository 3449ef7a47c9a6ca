use Rattle.std.proofs.Common.{◌≡◌, ◌<◌, ◌≤◌, ◌+◌, ◌-◌, ◌++◌, ℕ, Bool, List, true, false, length, take, drop, sym, ap, ◌∙◌, arith}
use Rattle.std.proofs.lemmas.List.{length-append}
use Rattle.pdh_packed.specs.Words.{bounded}
use Rattle.pdh_shape.specs.Payload.{is_payload, payload_before}
use Rattle.pdh_runs.specs.Pieces.{overhead_before, slot_bits as made_bits}
use Rattle.pdh_runs.proofs.MadeLaws.{made_payload, made_overhead, payload_within, overhead_within, made_room, made_more, ends_with}
use Rattle.pdh_runs.proofs.PieceLaws.{payload_grows, overhead_grows}
use Rattle.pdh_runs.proofs.layout.Layout.append_stretches.Goals as goal

pub overflow_sub-place : goal.overflow_sub-place
overflow_sub-place g c =
    let s = g.S.Shape.shape in
    let first = c.args.first in
    let slot = c.loop-slot.slot in
    let next = c.min-next.result in
    let onwards : slot ≤ next = omega (arith, c.min-next.ensures, c.end.ensures.after, c.loop-slot-test.true) in
    let inside : next ≤ first + c.args.len = omega (arith, c.min-next.ensures) in
    let all : (u : ℕ) → slot ≤ u → u < next → is_payload (s.role u) ≡ true = λ u h h'. c.end.ensures.same u h (omega (arith, h', c.min-next.ensures)) ∙ sym c.is_payload.ensures ∙ c.if-is_payload.true in
    let place = payload_within s first c.args.skipped c.args.payload.now.bits c.args.overhead.now.bits slot next c.loop-slot.invariant.begun onwards (first + c.args.len) all inside c.requires.skipped c.requires.payload in
    omega (arith, place.0, c.payload_before.ensures)

pub append_behind-requires-clause-within : goal.append_behind-requires-clause-within
append_behind-requires-clause-within g c =
    let s = g.S.Shape.shape in
    let first = c.args.first in
    let slot = c.loop-slot.slot in
    let next = c.min-next.result in
    let onwards : slot ≤ next = omega (arith, c.min-next.ensures, c.end.ensures.after, c.loop-slot-test.true) in
    let inside : next ≤ first + c.args.len = omega (arith, c.min-next.ensures) in
    let all : (u : ℕ) → slot ≤ u → u < next → is_payload (s.role u) ≡ true = λ u h h'. c.end.ensures.same u h (omega (arith, h', c.min-next.ensures)) ∙ sym c.is_payload.ensures ∙ c.if-is_payload.true in
    let place = payload_within s first c.args.skipped c.args.payload.now.bits c.args.overhead.now.bits slot next c.loop-slot.invariant.begun onwards (first + c.args.len) all inside c.requires.skipped c.requires.payload in
    omega (arith, place.1, c.payload_before.ensures)

pub append_behind-requires-clause-room : goal.append_behind-requires-clause-room
append_behind-requires-clause-room g c =
    let s = g.S.Shape.shape in
    let first = c.args.first in
    let slot = c.loop-slot.slot in
    let next = c.min-next.result in
    let onwards : slot ≤ next = omega (arith, c.min-next.ensures, c.end.ensures.after, c.loop-slot-test.true) in
    let inside : next ≤ first + c.args.len = omega (arith, c.min-next.ensures) in
    made_room s first c.args.skipped c.args.payload.now.bits c.args.overhead.now.bits slot next c.loop-slot.invariant.begun onwards c.args.into.now (bounded c.loop-slot.into.capacity (c.loop-slot.into.bits ++ c.loop-slot.held)) (bounded c.loop-slot.into.capacity (c.loop-slot.into.bits ++ c.loop-slot.held)) c.args.into.now.bits c.loop-slot.invariant.bits c.args.len inside c.requires.room

pub overflow_sub-place-else-is_payload : goal.overflow_sub-place-else-is_payload
overflow_sub-place-else-is_payload g c =
    let s = g.S.Shape.shape in
    let first = c.args.first in
    let slot = c.loop-slot.slot in
    let next = c.min-next.result in
    let onwards : slot ≤ next = omega (arith, c.min-next.ensures, c.end.ensures.after, c.loop-slot-test.true) in
    let inside : next ≤ first + c.args.len = omega (arith, c.min-next.ensures) in
    let none : (u : ℕ) → slot ≤ u → u < next → is_payload (s.role u) ≡ false = λ u h h'. c.end.ensures.same u h (omega (arith, h', c.min-next.ensures)) ∙ sym c.is_payload.ensures ∙ c.if-is_payload.false in
    let place = overhead_within s first c.args.skipped c.args.payload.now.bits c.args.overhead.now.bits slot next c.loop-slot.invariant.begun onwards (first + c.args.len) none inside c.requires.overhead in
    omega (arith, place.0, c.overhead_before.ensures, c.overhead_before-passed.ensures)

pub append_behind-requires-else-is_payload-clause-within : goal.append_behind-requires-else-is_payload-clause-within
append_behind-requires-else-is_payload-clause-within g c =
    let s = g.S.Shape.shape in
    let first = c.args.first in
    let slot = c.loop-slot.slot in
    let next = c.min-next.result in
    let onwards : slot ≤ next = omega (arith, c.min-next.ensures, c.end.ensures.after, c.loop-slot-test.true) in
    let inside : next ≤ first + c.args.len = omega (arith, c.min-next.ensures) in
    let none : (u : ℕ) → slot ≤ u → u < next → is_payload (s.role u) ≡ false = λ u h h'. c.end.ensures.same u h (omega (arith, h', c.min-next.ensures)) ∙ sym c.is_payload.ensures ∙ c.if-is_payload.false in
    let place = overhead_within s first c.args.skipped c.args.payload.now.bits c.args.overhead.now.bits slot next c.loop-slot.invariant.begun onwards (first + c.args.len) none inside c.requires.overhead in
    omega (arith, place.1, c.overhead_before.ensures, c.overhead_before-passed.ensures)

pub append_behind-requires-else-is_payload-clause-room : goal.append_behind-requires-else-is_payload-clause-room
append_behind-requires-else-is_payload-clause-room g c =
    let s = g.S.Shape.shape in
    let first = c.args.first in
    let slot = c.loop-slot.slot in
    let next = c.min-next.result in
    let onwards : slot ≤ next = omega (arith, c.min-next.ensures, c.end.ensures.after, c.loop-slot-test.true) in
    let inside : next ≤ first + c.args.len = omega (arith, c.min-next.ensures) in
    made_room s first c.args.skipped c.args.payload.now.bits c.args.overhead.now.bits slot next c.loop-slot.invariant.begun onwards c.args.into.now (bounded c.loop-slot.into.capacity (c.loop-slot.into.bits ++ c.loop-slot.held)) (bounded c.loop-slot.into.capacity (c.loop-slot.into.bits ++ c.loop-slot.held)) c.args.into.now.bits c.loop-slot.invariant.bits c.args.len inside c.requires.room

pub loop-slot-preserved-then-is_payload : goal.loop-slot-preserved-then-is_payload
loop-slot-preserved-then-is_payload g c =
    let s = g.S.Shape.shape in
    let first = c.args.first in
    let slot = c.loop-slot.slot in
    let next = c.min-next.result in
    let onwards : slot ≤ next = omega (arith, c.min-next.ensures, c.end.ensures.after, c.loop-slot-test.true) in
    let inside : next ≤ first + c.args.len = omega (arith, c.min-next.ensures) in
    let all : (u : ℕ) → slot ≤ u → u < next → is_payload (s.role u) ≡ true = λ u h h'. c.end.ensures.same u h (omega (arith, h', c.min-next.ensures)) ∙ sym c.is_payload.ensures ∙ c.if-is_payload.true in
    let place = payload_within s first c.args.skipped c.args.payload.now.bits c.args.overhead.now.bits slot next c.loop-slot.invariant.begun onwards (first + c.args.len) all inside c.requires.skipped c.requires.payload in
    let at : payload_before s slot - c.args.skipped ≡ c.payload_before.result - c.args.skipped = omega (arith, c.payload_before.ensures) in
    let held : payload_before s next - c.args.skipped ≤ length c.args.payload.now.bits = omega (arith, c.requires.payload, payload_grows s next (first + c.args.len) inside) in
    let more : List Bool = take (next - slot) (drop (c.payload_before.result - c.args.skipped) c.args.payload.now.bits) in
    record {
      begun = omega (arith, c.loop-slot.invariant.begun, onwards);
      within = inside;
      bits = made_more s first c.args.skipped c.args.payload.now.bits c.args.overhead.now.bits slot next c.loop-slot.invariant.begun onwards c.args.into.now (bounded c.loop-slot.into.capacity (c.loop-slot.into.bits ++ c.loop-slot.held)) _ c.args.into.now.bits c.loop-slot.invariant.bits more
          (made_payload s first c.args.skipped c.args.payload.now.bits c.args.overhead.now.bits slot next c.loop-slot.invariant.begun onwards all place.0 held ∙ ap (λ n. made_bits s first c.args.skipped c.args.payload.now.bits c.args.overhead.now.bits (slot - first) ++ take (next - slot) (drop n c.args.payload.now.bits)) at)
          (ends_with c.append_behind.new.into.bits c.append_behind.new.held c.append_behind.new.into.capacity c.loop-slot.into.capacity (c.loop-slot.into.bits ++ c.loop-slot.held) more c.append_behind.ensures.bits c.append_behind.ensures.capacity);
    }

pub loop-slot-preserved : goal.loop-slot-preserved
loop-slot-preserved g c =
    let s = g.S.Shape.shape in
    let first = c.args.first in
    let slot = c.loop-slot.slot in
    let next = c.min-next.result in
    let onwards : slot ≤ next = omega (arith, c.min-next.ensures, c.end.ensures.after, c.loop-slot-test.true) in
    let inside : next ≤ first + c.args.len = omega (arith, c.min-next.ensures) in
    let none : (u : ℕ) → slot ≤ u → u < next → is_payload (s.role u) ≡ false = λ u h h'. c.end.ensures.same u h (omega (arith, h', c.min-next.ensures)) ∙ sym c.is_payload.ensures ∙ c.if-is_payload.false in
    let place = overhead_within s first c.args.skipped c.args.payload.now.bits c.args.overhead.now.bits slot next c.loop-slot.invariant.begun onwards (first + c.args.len) none inside c.requires.overhead in
    let at : overhead_before s slot - overhead_before s first ≡ c.overhead_before.result - c.overhead_before-passed.result = omega (arith, c.overhead_before.ensures, c.overhead_before-passed.ensures) in
    let held : overhead_before s next ≤ overhead_before s first + length c.args.overhead.now.bits = omega (arith, c.requires.overhead, overhead_grows s next (first + c.args.len) inside) in
    let more : List Bool = take (next - slot) (drop (c.overhead_before.result - c.overhead_before-passed.result) c.args.overhead.now.bits) in
    record {
      begun = omega (arith, c.loop-slot.invariant.begun, onwards);
      within = inside;
      bits = made_more s first c.args.skipped c.args.payload.now.bits c.args.overhead.now.bits slot next c.loop-slot.invariant.begun onwards c.args.into.now (bounded c.loop-slot.into.capacity (c.loop-slot.into.bits ++ c.loop-slot.held)) _ c.args.into.now.bits c.loop-slot.invariant.bits more
          (made_overhead s first c.args.skipped c.args.payload.now.bits c.args.overhead.now.bits slot next c.loop-slot.invariant.begun onwards none held ∙ ap (λ n. made_bits s first c.args.skipped c.args.payload.now.bits c.args.overhead.now.bits (slot - first) ++ take (next - slot) (drop n c.args.overhead.now.bits)) at)
          (ends_with c.append_behind-else-is_payload.new.into.bits c.append_behind-else-is_payload.new.held c.append_behind-else-is_payload.new.into.capacity c.loop-slot.into.capacity (c.loop-slot.into.bits ++ c.loop-slot.held) more c.append_behind-else-is_payload.ensures.bits c.append_behind-else-is_payload.ensures.capacity);
    }

pub append-requires : goal.append-requires
append-requires g c =
    let s = g.S.Shape.shape in
    let first = c.args.first in
    let slot = c.loop-slot.slot in
    let now = c.loop-slot.invariant.bits in
    let long = length-append c.loop-slot.into.bits c.loop-slot.held in
    let none : length (c.loop-slot.into.bits ++ c.loop-slot.held) + (slot - slot) ≤ c.loop-slot.into.capacity =
    made_room s first c.args.skipped c.args.payload.now.bits c.args.overhead.now.bits slot slot c.loop-slot.invariant.begun (omega arith) c.args.into.now (bounded c.loop-slot.into.capacity (c.loop-slot.into.bits ++ c.loop-slot.held)) (bounded c.loop-slot.into.capacity (c.loop-slot.into.bits ++ c.loop-slot.held)) c.args.into.now.bits now c.args.len c.loop-slot.invariant.within c.requires.room in
    record { room = omega (arith, long, none) }

pub returns : goal.returns
returns g c =
    let whole : c.loop-slot.slot - c.args.first ≡ c.args.len = omega (arith, c.loop-slot.invariant.begun, c.loop-slot.invariant.within, c.loop-slot-test.false) in
    c.append.ensures ∙ c.loop-slot.invariant.bits ∙ ap (λ n. bounded c.args.into.now.capacity (c.args.into.now.bits ++ made_bits g.S.Shape.shape c.args.first c.args.skipped c.args.payload.now.bits c.args.overhead.now.bits n)) whole
