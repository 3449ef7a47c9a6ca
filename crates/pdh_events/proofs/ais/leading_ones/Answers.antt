use Rattle.std.proofs.Common.{◌≡◌, ℕ, ◌+◌, ◌-◌, ◌^◌, true, List, Bool, not, map, take, drop, replicate, refl, sym, ap, ◌∙◌, arith}
use Rattle.std.specs.List.{prefix_len}
use Rattle.pdh_packed.specs.Words.{low_bits}
use Rattle.pdh_events.proofs.CalmLaws.{lead_few, ones_more}
use Rattle.pdh_events.proofs.ais.leading_ones.Goals as goal

-- a whole word of ones begins with 64 of them
word_of_ones : (word : ℕ) (bits : List Bool) → word ≡ 2 ^ 64 - 1 → low_bits 64 word ≡ bits → 64 ≡ prefix_len not (map not bits)
unfolding low_bits
word_of_ones word bits all is =
    let ones : 64 ≡ prefix_len not (map not (low_bits 64 (2 ^ 64 - 1))) = refl in
    ones ∙ ap (λ (n : ℕ). prefix_len not (map not (low_bits 64 n))) (sym all) ∙ ap (λ bits. prefix_len not (map not bits)) is

pub loop-done-preserved : goal.loop-done-preserved
loop-done-preserved c =
    let is = word_of_ones c.read_whole-word.result (take 64 (drop (c.args.from + c.loop-done.done) c.args.bits.now.bits)) (omega arith) c.read_whole-word.ensures in (
      omega (arith, c.loop-done.invariant.0, c.loop-done-test.true),
      ones_more c.args.bits.now.bits c.args.from c.loop-done.done 64 64 c.loop-done.invariant.1 (omega arith) is,
    )

pub overflow_add-result : goal.overflow_add-result
overflow_add-result c =
    let is = c.leading_zeros.ensures ∙ ap (prefix_len not) (c.inverted.ensures ∙ ap (map not) (c.of.ensures.bits ∙ c.read_whole-word.ensures)) in
    let few = lead_few (drop (c.args.from + c.loop-done.done) c.args.bits.now.bits) 64 c.leading_zeros.result is in
    omega (arith, few, c.loop-done.invariant.0, c.ranges.count.fits, c.loop-done-test.true)

pub returns-then-word-lt-ONES-clause-most : goal.returns-then-word-lt-ONES-clause-most
returns-then-word-lt-ONES-clause-most c =
    let is = c.leading_zeros.ensures ∙ ap (prefix_len not) (c.inverted.ensures ∙ ap (map not) (c.of.ensures.bits ∙ c.read_whole-word.ensures)) in
    let few = lead_few (drop (c.args.from + c.loop-done.done) c.args.bits.now.bits) 64 c.leading_zeros.result is in
    omega (arith, few, c.loop-done.invariant.0, c.loop-done-test.true)

pub returns-then-word-lt-ONES-clause-ones : goal.returns-then-word-lt-ONES-clause-ones
returns-then-word-lt-ONES-clause-ones c =
    let is = c.leading_zeros.ensures ∙ ap (prefix_len not) (c.inverted.ensures ∙ ap (map not) (c.of.ensures.bits ∙ c.read_whole-word.ensures)) in
    ones_more c.args.bits.now.bits c.args.from c.loop-done.done 64 c.leading_zeros.result c.loop-done.invariant.1 (lead_few (drop (c.args.from + c.loop-done.done) c.args.bits.now.bits) 64 c.leading_zeros.result is) is

pub overflow_add-result-2 : goal.overflow_add-result-2
overflow_add-result-2 c =
    let is = c.leading_zeros-2.ensures ∙ ap (prefix_len not) (c.inverted-2.ensures ∙ ap (map not) c.read-last.ensures) in
    let few = lead_few (drop (c.args.from + c.loop-done.done) c.args.bits.now.bits) (c.args.count - c.loop-done.done) c.leading_zeros-2.result is in
    omega (arith, few, c.loop-done.invariant.0, c.ranges.count.fits)

pub returns-clause-most : goal.returns-clause-most
returns-clause-most c =
    let is = c.leading_zeros-2.ensures ∙ ap (prefix_len not) (c.inverted-2.ensures ∙ ap (map not) c.read-last.ensures) in
    let few = lead_few (drop (c.args.from + c.loop-done.done) c.args.bits.now.bits) (c.args.count - c.loop-done.done) c.leading_zeros-2.result is in
    omega (arith, few, c.loop-done.invariant.0)

pub returns-clause-ones : goal.returns-clause-ones
returns-clause-ones c =
    let is = c.leading_zeros-2.ensures ∙ ap (prefix_len not) (c.inverted-2.ensures ∙ ap (map not) c.read-last.ensures) in
    let few = lead_few (drop (c.args.from + c.loop-done.done) c.args.bits.now.bits) (c.args.count - c.loop-done.done) c.leading_zeros-2.result is in
    ones_more c.args.bits.now.bits c.args.from c.loop-done.done (c.args.count - c.loop-done.done) c.leading_zeros-2.result c.loop-done.invariant.1 few is
