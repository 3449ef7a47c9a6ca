use Rattle.std.proofs.Common.{◌≡◌, ap, ◌∙◌, ◌+◌, ◌*◌, ◌%◌}
use Rattle.std.specs.Prelude.{not}
use Rattle.std.specs.Bool.{beq}
use Rattle.pdh_bits.specs.Bits.{bit, bit_value}
use Rattle.pdh_patterns.specs.Pattern.{state_after, next_state}
use Rattle.pdh_patterns.proofs.pattern.Pattern.next.Goals as goal

pub returns : goal.returns
unfolding state_after
returns c =
    let old = c.self.inside.state in
    let gives : c.bit-given.result ≡ bit c.args.self.now 14 = c.bit-given.ensures ∙ ap (λ s. bit s 14) c.self.view_is in
    let shifts : c.shifted-self-inside.result ≡ next_state c.args.self.now =
    c.shifted-self-inside.ensures ∙ ap (λ b. 2 * old % 32768 + bit_value (not (beq b c.bit.result))) c.bit-given.ensures
    ∙ ap (λ b. 2 * old % 32768 + bit_value (not (beq (bit old 14) b))) c.bit.ensures ∙ ap next_state c.self.view_is in
    record {
      bit = gives;
      state = shifts;
      given = λ seed leaf n given. (gives ∙ ap (λ s. bit s 14) given, shifts ∙ ap next_state given);
    }
