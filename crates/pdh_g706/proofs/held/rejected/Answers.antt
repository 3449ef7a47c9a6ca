use Rattle.std.proofs.Common.{◌≡◌, ◌+◌, Bool, false, List, length, map, get_or, drop, sym, ◌∙◌, ap, arith}
use Rattle.std.specs.List.{range_with_len}
use Rattle.pdh_packed.specs.Places.{both}
use Rattle.pdh_g706.specs.Frames.{has_signal}
use Rattle.pdh_g706.proofs.SignalLaws.{read_long, taken_at, map_long, both_long, few_zeros, none_first, none_before, looks, looks_are}
use Rattle.pdh_g706.proofs.held.rejected.Goals as goal

pub returns-then-leading_zeros-eq64-clause-none : goal.returns-then-leading_zeros-eq64-clause-none
returns-then-leading_zeros-eq64-clause-none c p lt more =
    none_first c.args.held.now.bits c.signals_from-first.result more p c.requires c.signals_from-first.ensures (sym c.if-leading_zeros-eq64.true ∙ c.leading_zeros.ensures) lt

pub and-requires : goal.and-requires
and-requires c =
    let bits = c.args.held.now.bits in
    map_long (λ p. has_signal (drop (0 + p) bits)) c.signals_from-first.result c.signals_from-first.ensures ∙ sym (read_long bits c.read-second.result 257 64 (omega (arith, c.requires)) c.read-second.ensures)

pub and-requires-2 : goal.and-requires-2
and-requires-2 c =
    let bits = c.args.held.now.bits in
    let second : c.read-second.result ≡ map (λ p. get_or bits (257 + p) false) (range_with_len 0 64) = c.read-second.ensures ∙ taken_at bits 257 64 (omega (arith, c.requires)) in
    ap length c.and.ensures ∙ both_long (λ p. has_signal (drop (0 + p) bits)) (λ p. get_or bits (257 + p) false) c.signals_from-first.result c.read-second.result c.signals_from-first.ensures second
    ∙ sym (map_long (λ p. has_signal (drop (512 + p) bits)) c.signals_from-third.result c.signals_from-third.ensures)

pub returns-clause-few : goal.returns-clause-few
returns-clause-few c =
    let bits = c.args.held.now.bits in
    let all : c.and-2.result ≡ map (looks bits) (range_with_len 0 64) =
    c.and-2.ensures ∙ ap (λ (x : List Bool). both x c.signals_from-third.result) c.and.ensures
    ∙ looks_are bits c.signals_from-first.result c.read-second.result c.signals_from-third.result c.requires c.signals_from-first.ensures c.read-second.ensures c.signals_from-third.ensures in
    omega (arith, c.leading_zeros-2.ensures, few_zeros (looks bits) c.and-2.result all)

pub returns-clause-none : goal.returns-clause-none
returns-clause-none c p lt more =
    let bits = c.args.held.now.bits in
    let all : c.and-2.result ≡ map (looks bits) (range_with_len 0 64) =
    c.and-2.ensures ∙ ap (λ (x : List Bool). both x c.signals_from-third.result) c.and.ensures
    ∙ looks_are bits c.signals_from-first.result c.read-second.result c.signals_from-third.result c.requires c.signals_from-first.ensures c.read-second.ensures c.signals_from-third.ensures in
    none_before bits c.and-2.result more p c.requires all (omega (arith, lt, c.leading_zeros-2.ensures))
