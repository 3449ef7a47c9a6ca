use Rattle.std.proofs.Common.{◌≡◌, ℕ, ◌+◌, ◌-◌, ◌<◌, ◌++◌, Bool, false, sym, not, List, length, take, drop, replicate, ap, ◌∙◌, arith, length-append, length-take, length-drop}
use Rattle.std.proofs.lemmas.List.{length-replicate}
use Rattle.std.proofs.lemmas.List.FromFn.{length-map-range_with_len}
use Rattle.pdh_packed.specs.Places.{both, differing}
use Rattle.pdh_packed.proofs.PlacesLaws.{length-differing}
use Rattle.pdh_phases.specs.Runs.{bit_in}
use Rattle.pdh_packed.specs.Words.{low_bits}
use Rattle.pdh_packed.proofs.BitwiseLaws.{low_bits-zero}
use Rattle.pdh_phases.proofs.Searching.{none_right, first_right, right_so_far, length-wrong, wrong-at, right_so_far-more, right_so_far-all}
use Rattle.pdh_phases.proofs.signal.signals.Goals as goal

pub bounds-wrong-slot : goal.bounds-wrong-slot
bounds-wrong-slot g c =
    omega (arith, ap length c.requires.wrong, length-wrong g.S.Shape.shape, c.loop-slot-test.true, c.SIGNAL-slot-end.ensures, g.met.S.Shape.signal_is)

pub xor-requires : goal.xor-requires
xor-requires g c =
    let s = g.S.Shape.shape in
    let slot = c.loop-slot.slot in
    let window : List Bool = c.args.last ++ c.args.next in
    let lt : slot < s.signal = omega (arith, c.loop-slot-test.true, c.SIGNAL-slot-end.ensures, g.met.S.Shape.signal_is) in
    let wrong : length c.index-wrong-slot.result ≡ 64 = ap length (wrong-at s c.args.wrong.now c.index-wrong-slot.result slot c.requires.wrong lt c.index-wrong-slot.is) ∙ length-replicate 64 (not (bit_in (s.role slot))) in
    omega (arith, wrong, ap length c.slide-bits.ensures, length-take 64 (drop slot window), length-drop slot window, length-append c.args.last c.args.next, c.requires.last, c.requires.next, lt, g.met.S.Shape.signal_is)

pub and-stands-requires : goal.and-stands-requires
and-stands-requires g c =
    let s = g.S.Shape.shape in
    let slot = c.loop-slot.slot in
    let window : List Bool = c.args.last ++ c.args.next in
    let lt : slot < s.signal = omega (arith, c.loop-slot-test.true, c.SIGNAL-slot-end.ensures, g.met.S.Shape.signal_is) in
    let wrong : length c.index-wrong-slot.result ≡ 64 = ap length (wrong-at s c.args.wrong.now c.index-wrong-slot.result slot c.requires.wrong lt c.index-wrong-slot.is) ∙ length-replicate 64 (not (bit_in (s.role slot))) in
    let bits : length c.slide-bits.result ≡ 64 =
    omega (arith, ap length c.slide-bits.ensures, length-take 64 (drop slot window), length-drop slot window, length-append c.args.last c.args.next, c.requires.last, c.requires.next, lt, g.met.S.Shape.signal_is) in
    let stands : length c.loop-slot.stands ≡ 64 = ap length c.loop-slot.invariant ∙ length-map-range_with_len (first_right s window slot) 0 64 in
    omega (arith, stands, bits, wrong, ap length c.xor.ensures, length-differing c.slide-bits.result c.index-wrong-slot.result)

pub loop-slot-preserved : goal.loop-slot-preserved
loop-slot-preserved g c =
    let s = g.S.Shape.shape in
    let slot = c.loop-slot.slot in
    let window : List Bool = c.args.last ++ c.args.next in
    let lt : slot < s.signal = omega (arith, c.loop-slot-test.true, c.SIGNAL-slot-end.ensures, g.met.S.Shape.signal_is) in
    let wrong : c.index-wrong-slot.result ≡ replicate 64 (not (bit_in (s.role slot))) = wrong-at s c.args.wrong.now c.index-wrong-slot.result slot c.requires.wrong lt c.index-wrong-slot.is in
    let long : length window + 1 ≡ s.signal + 64 = omega (arith, length-append c.args.last c.args.next, c.requires.last, c.requires.next, g.met.S.Shape.signal_is) in
    c.and-stands.ensures ∙ ap (λ (x : List Bool). both x c.xor.result) c.loop-slot.invariant
    ∙ ap (both (right_so_far s window slot)) (c.xor.ensures ∙ ap (λ (x : List Bool). differing x c.index-wrong-slot.result) c.slide-bits.ensures ∙ ap (differing (take 64 (drop slot window))) wrong)
    ∙ right_so_far-more s window slot g.met.S.Shape.has_signal (omega (arith, lt)) lt long

pub returns : goal.returns
returns g c =
    let s = g.S.Shape.shape in
    let window : List Bool = c.args.last ++ c.args.next in
    let all : c.loop-slot.slot ≡ s.signal = omega (arith, c.loop-slot-test.false, c.loop-slot.auto.slot-end, c.SIGNAL-slot-end.ensures, g.met.S.Shape.signal_is) in
    let long : length window + 1 ≡ s.signal + 64 = omega (arith, length-append c.args.last c.args.next, c.requires.last, c.requires.next, g.met.S.Shape.signal_is) in
    c.loop-slot.invariant ∙ ap (right_so_far s window) all ∙ right_so_far-all s window (omega (arith, c.requires.last, g.met.S.Shape.signal_is)) long

pub returns-then-number-eq0 : goal.returns-then-number-eq0
returns-then-number-eq0 g c =
    let s = g.S.Shape.shape in
    let slot = c.loop-slot.slot in
    let window : List Bool = c.args.last ++ c.args.next in
    let lt : slot < s.signal = omega (arith, c.loop-slot-test.true, c.SIGNAL-slot-end.ensures, g.met.S.Shape.signal_is) in
    let long : length window + 1 ≡ s.signal + 64 = omega (arith, length-append c.args.last c.args.next, c.requires.last, c.requires.next, g.met.S.Shape.signal_is) in
    let whole : length c.loop-slot.stands ≡ 64 = ap length c.loop-slot.invariant ∙ length-map-range_with_len (first_right s window slot) 0 64 in
    let none : c.loop-slot.stands ≡ replicate 64 false =
    sym c.number.ensures.bits ∙ ap (λ (n : ℕ). low_bits n c.number.result) whole ∙ ap (low_bits 64) c.if-number-eq0.true ∙ low_bits-zero 64 in
    let all : slot + (s.signal - slot) ≡ s.signal = omega (arith, lt) in
    none ∙ none_right s window slot (s.signal - slot) (sym c.loop-slot.invariant ∙ none) ∙ ap (right_so_far s window) all
    ∙ right_so_far-all s window (omega (arith, lt)) long
