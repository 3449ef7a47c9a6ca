use Rattle.std.proofs.Common.{◌≡◌, ◌+◌, ◌<◌, ◌&&◌, false, length, take, drop, get_or, sym, ap, ◌∙◌, arith}
use Rattle.std.specs.Bool.{beq}
use Rattle.std.proofs.lemmas.List.{take_all, length-take-le}
use Rattle.std.proofs.Common.{length-drop}
use Rattle.std.proofs.Math.Bool.{and_assoc}
use Rattle.pdh_align.proofs.SignalLaws.{agrees, agrees_right, signal_within}
use Rattle.pdh_align.proofs.StartLaws.{none_left, candidates_fail, slots_more}
use Rattle.pdh_align.proofs.starts.right_starts.Goals as goal

pub returns-then-number-eq0-clause-right : goal.returns-then-number-eq0-clause-right
returns-then-number-eq0-clause-right g c i h =
    let right = c.loop-signal.right in
    let frame = take g.S.Shape.LEN (drop (c.args.start + i) c.args.held.now.bits) in
    let none : get_or right i false ≡ false = none_left right c.number.result i c.number.ensures.bits c.if-number-eq0.true (omega (arith, h, c.loop-signal.invariant.0)) in
    none ∙ sym (candidates_fail g.S.Shape.shape c.args.slots.now c.loop-signal.signal-index frame (get_or c.args.candidates i false) c.requires.signals (sym (c.loop-signal.invariant.1 i h) ∙ none))

pub overflow_add-start : goal.overflow_add-start
overflow_add-start g c =
    omega (arith, g.met.S.Shape.len_is, c.requires.whole, signal_within g.S.Shape.shape c.args.slots.now c.loop-signal.signal-index (record { slot = 0; bit = false }) c.requires.signals c.loop-signal-test.true)

pub read-requires-clause-within : goal.read-requires-clause-within
read-requires-clause-within g c =
    omega (arith, g.met.S.Shape.len_is, c.requires.whole, signal_within g.S.Shape.shape c.args.slots.now c.loop-signal.signal-index (record { slot = 0; bit = false }) c.requires.signals c.loop-signal-test.true)

pub kept-right-requires : goal.kept-right-requires
kept-right-requires g c =
    let slot = (get_or c.args.slots.now c.loop-signal.signal-index (record { slot = 0; bit = false })).slot in
    let bits = c.args.held.now.bits in
    let within : slot < g.S.Shape.shape.len = signal_within g.S.Shape.shape c.args.slots.now c.loop-signal.signal-index (record { slot = 0; bit = false }) c.requires.signals c.loop-signal-test.true in
    let count : c.len-count.result ≡ length c.args.candidates = c.len-count.ensures.count in
    ap length c.read.ensures
    ∙ length-take-le c.len-count.result (drop (c.args.start + slot) bits) (omega (arith, within, count, g.met.S.Shape.len_is, c.requires.whole, length-drop (c.args.start + slot) bits)) ∙ count ∙ sym c.loop-signal.invariant.0

pub loop-signal-preserved : goal.loop-signal-preserved
loop-signal-preserved g c =
    let s = g.S.Shape.shape in
    let slots = c.args.slots.now in
    let candidates = c.args.candidates in
    let j = c.loop-signal.signal-index in (
      c.kept-right.ensures.count ∙ c.loop-signal.invariant.0,
      λ i h.
          let frame = take g.S.Shape.LEN (drop (c.args.start + i) c.args.held.now.bits) in
          let value = beq (get_or c.read.result i false) (get_or slots j (record { slot = 0; bit = false })).bit in
          c.kept-right.ensures.kept i (omega (arith, h, c.loop-signal.invariant.0))
          ∙ ap (λ b. b && value) (c.loop-signal.invariant.1 i h)
          ∙ and_assoc (get_or candidates i false) (agrees s (take j slots) frame) value
          ∙ ap (λ b. get_or candidates i false && b) (sym (slots_more s slots c.args.held.now.bits c.read.result c.args.start c.len-count.result g.S.Shape.LEN i j (record { slot = 0; bit = false }) c.requires.signals g.met.S.Shape.len_is
          c.loop-signal-test.true (omega (arith, h, c.len-count.ensures.count)) c.read.ensures)),
    )

pub returns-clause-right : goal.returns-clause-right
returns-clause-right g c i h =
    let s = g.S.Shape.shape in
    let slots = c.args.slots.now in
    let frame = take g.S.Shape.LEN (drop (c.args.start + i) c.args.held.now.bits) in
    c.loop-signal.invariant.1 i h
    ∙ ap (λ b. get_or c.args.candidates i false && b) (ap (λ x. agrees s x frame) (take_all c.loop-signal.signal-index slots (omega (arith, c.loop-signal-test.false))) ∙ agrees_right s slots frame c.requires.signals)
