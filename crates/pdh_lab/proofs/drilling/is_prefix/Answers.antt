use Rattle.std.proofs.Common.{◌≡◌, ◌≤◌, ◌+◌, Bool, List, length, drop, sym, ap, ◌∙◌, arith}
use Rattle.std.proofs.lemmas.List.{length-take-le}
use Rattle.std.proofs.lemmas.List.{length-drop}
use Rattle.pdh_bits.specs.Bits.{number_of}
use Rattle.pdh_patterns.specs.Pattern.{pattern_bit}
use Rattle.pdh_lab.proofs.Reported.{too_long, part_agrees, part_differs, all_agree, written_alike}
use Rattle.pdh_lab.proofs.drilling.is_prefix.Goals as goal

pub returns-then-len-entered : goal.returns-then-len-entered
returns-then-len-entered c = sym (too_long (pattern_bit c.args.seed c.args.leaf) c.args.bits.now.bits c.args.entered (omega (arith, c.if-len-entered.true, c.len.ensures.count)))

pub returns-then-number : goal.returns-then-number
returns-then-number c =
    let bits : List Bool = c.args.bits.now.bits in
    let inv = c.loop-place.invariant in
    let short : length bits ≤ c.args.entered = omega (arith, c.if-len-entered.false, c.len.ensures.count) in
    let inside : c.loop-place.place + c.min-count.result ≤ length bits = omega (arith, inv.within, c.min-count.ensures, c.len-in-loop-place-2.ensures.count) in
    sym (part_differs (pattern_bit c.args.seed c.args.leaf) bits c.word.result c.args.entered c.loop-place.place c.min-count.result short inside inv.agree (c.word.ensures.bits c.args.seed c.args.leaf c.loop-place.place inv.given)
    (λ same. c.if-number.true (c.number.ensures.value ∙ ap number_of (c.read.ensures ∙ same) ∙ sym c.number-in-loop-place.ensures.value)))

pub loop-place-preserved : goal.loop-place-preserved
loop-place-preserved c =
    let bits : List Bool = c.args.bits.now.bits in
    let inv = c.loop-place.invariant in
    let inside : c.loop-place.place + c.min-count.result ≤ length bits = omega (arith, inv.within, c.min-count.ensures, c.len-in-loop-place-2.ensures.count) in
    let long : length c.read.result ≡ c.min-count.result =
    ap length c.read.ensures ∙ length-take-le c.min-count.result (drop c.loop-place.place bits) (omega (arith, inside, length-drop c.loop-place.place bits)) in
    let alike : c.read.result ≡ c.word.result = written_alike c.read.result c.word.result _ _ c.min-count.result long c.word.ensures.count c.number.ensures.bits c.number-in-loop-place.ensures.bits (omega (arith, c.if-number.false)) in
    record {
      within = inside;
      given = c.word.ensures.given c.args.seed c.args.leaf c.loop-place.place inv.given;
      agree = part_agrees (pattern_bit c.args.seed c.args.leaf) bits c.word.result c.loop-place.place c.min-count.result inv.agree (sym c.read.ensures ∙ alike) (c.word.ensures.bits c.args.seed c.args.leaf c.loop-place.place inv.given);
    }

pub returns : goal.returns
returns c =
    let inv = c.loop-place.invariant in
    let short : length c.args.bits.now.bits ≤ c.args.entered = omega (arith, c.if-len-entered.false, c.len.ensures.count) in
    let past : length c.args.bits.now.bits ≤ c.loop-place.place = omega (arith, c.loop-place-test.false, c.len-in-loop-place.ensures.count) in
    sym (all_agree (pattern_bit c.args.seed c.args.leaf) c.args.bits.now.bits c.args.entered c.loop-place.place short past inv.within inv.agree)
