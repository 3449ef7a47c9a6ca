use Rattle.std.proofs.Common.{◌≡◌, ℕ, ◌%◌, sym, ◌∙◌, ap}
use Rattle.pdh_cbit.specs.Feac.{feac_bit}
use Rattle.pdh_cbit.specs.Channel.{Sending, HasSent}
use Rattle.pdh_cbit.proofs.Words.{feac_bit-mod}
use Rattle.pdh_cbit.proofs.feac.FeacSender.next.Goals as goal

pub returns-clause-bit : goal.returns-clause-bit
returns-clause-bit c sent has_sent =
    let code : c.self.inside.code ≡ c.args.self.now.code = ap (λ (s : Sending). s.code) c.self.view_is in
    let place : c.self.inside.place ≡ sent % 16 = ap (λ (s : Sending). s.place) c.self.view_is ∙ has_sent in
    c.bit_of_word-bit.ensures
    ∙ ap (λ (n : ℕ). feac_bit n c.self.inside.place) code
    ∙ ap (feac_bit c.args.self.now.code) place
    ∙ feac_bit-mod c.args.self.now.code sent
