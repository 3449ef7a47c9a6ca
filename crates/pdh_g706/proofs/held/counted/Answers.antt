use Rattle.std.proofs.Common.{◌+◌, Bool, false, cond, List, ◌∷◌, take, drop, sym, ◌∙◌, ap, arith}
use Rattle.pdh_g706.proofs.SignalLaws.{read_long}
use Rattle.pdh_g706.proofs.CheckLaws.{after_zero, word_whole}
use Rattle.pdh_g706.proofs.held.counted.Goals as goal

pub returns-then-is_check : goal.returns-then-is_check
returns-then-is_check c =
    let bits = c.args.held.now.bits in
    let place = c.args.place in
    after_zero c.read.result c.number.result (read_long bits c.read.result (place + 1) 63 (omega (arith, c.requires)) c.read.ensures) c.number.ensures.bits c.number.ensures.small
    ∙ ap (λ (x : List Bool). false ∷ x) c.read.ensures ∙ sym (ap (λ (b : Bool). cond b (false ∷ take 63 (drop (place + 1) bits)) (take 64 (drop place bits))) c.if-is_check.true)

pub returns : goal.returns
returns c =
    let bits = c.args.held.now.bits in
    let place = c.args.place in
    word_whole c.read-2.result c.number-2.result (read_long bits c.read-2.result place 64 (omega (arith, c.requires)) c.read-2.ensures) c.number-2.ensures.bits
    ∙ c.read-2.ensures ∙ sym (ap (λ (b : Bool). cond b (false ∷ take 63 (drop (place + 1) bits)) (take 64 (drop place bits))) c.if-is_check.false)
