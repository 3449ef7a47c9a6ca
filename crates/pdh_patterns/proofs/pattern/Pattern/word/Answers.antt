use Rattle.std.proofs.Common.{◌≡◌, ◌+◌, List, Bool, [], ◌∷◌, ◌++◌, length, ap, sym, ◌∙◌, refl, arith}
use Rattle.std.proofs.lemmas.List.{length-append}
use Rattle.pdh_bits.specs.Bits.{bit}
use Rattle.pdh_patterns.specs.Pattern.{next_state, state_after, bits_from, first_state, pattern}
use Rattle.pdh_patterns.proofs.Register.{state-then, bits-then, bits-more, state-more}
use Rattle.pdh_patterns.proofs.pattern.Pattern.word.Goals as goal

pub loop-bit-init : goal.loop-bit-init
unfolding state_after
loop-bit-init c = record { count = ap length c.empty-word.ensures; next = c.empty-word.ensures; state = refl }

pub loop-bit-preserved : goal.loop-bit-preserved
loop-bit-preserved c =
    let old = c.args.self.now in
    let i = c.loop-bit._bit in
    let inv = c.loop-bit.invariant in
    record {
      count = ap length c.push.ensures ∙ length-append c.loop-bit.word (c.next.result ∷ []) ∙ ap (λ n. n + 1) inv.count;
      next = c.push.ensures ∙ ap (λ (w : List Bool). w ++ c.next.result ∷ []) inv.next ∙ ap (λ b. bits_from old i ++ b ∷ []) (c.next.ensures.bit ∙ ap (λ s. bit s 14) inv.state) ∙ sym (bits-more old i);
      state = c.next.ensures.state ∙ ap next_state inv.state ∙ sym (state-more old i);
    }

pub returns : goal.returns
returns c =
    let old = c.args.self.now in
    let count = c.args.count in
    let all : c.loop-bit._bit ≡ count = omega (arith, c.loop-bit-test.false, c.loop-bit.auto._bit-end) in
    let word : c.loop-bit.word ≡ bits_from old count = c.loop-bit.invariant.next ∙ ap (bits_from old) all in
    let state : c.loop-bit.self ≡ state_after old count = c.loop-bit.invariant.state ∙ ap (state_after old) all in
    record {
      next = word;
      state = state;
      count = c.loop-bit.invariant.count ∙ all;
      given = λ seed leaf n given. state ∙ ap (λ s. state_after s count) given ∙ sym (state-then (first_state seed leaf) n count);
      bits = λ seed leaf n given. ap (λ (w : List Bool). pattern seed leaf n ++ w) (word ∙ ap (λ s. bits_from s count) given) ∙ sym (bits-then (first_state seed leaf) n count);
    }
