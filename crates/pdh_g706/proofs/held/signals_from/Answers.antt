use Rattle.std.proofs.Common.{◌≡◌, ◌+◌, ◌++◌, Bool, false, List, length, map, get_or, take, drop, sym, ◌∙◌, ap, arith, length-drop}
use Rattle.std.specs.Bool.{beq}
use Rattle.std.proofs.lemmas.List.{length-map, length-take-le}
use Rattle.std.proofs.lemmas.List.FromFn.{length-map-range_with_len}
use Rattle.pdh_g706.proofs.SignalLaws.{read_long, moved_on, signal_bit, stands_so_far, stand_more, stand_all}
use Rattle.pdh_g706.proofs.held.signals_from.Goals as goal

pub loop-place-init : goal.loop-place-init
loop-place-init c = c.copies-stand.ensures

pub after-requires : goal.after-requires
after-requires c =
    omega (arith, c.loop-place-test.true, read_long c.args.held.now.bits c.read-front.result (c.args.start + 1) 64 (omega (arith, c.requires)) c.read-front.ensures)

pub first-requires : goal.first-requires
first-requires c =
    omega (arith, c.loop-place-test.true, read_long c.args.held.now.bits c.read-behind.result (c.args.start + 65) 6 (omega (arith, c.requires)) c.read-behind.ensures)

pub join-bits-requires : goal.join-bits-requires
join-bits-requires c =
    let front : length c.read-front.result ≡ 64 = read_long c.args.held.now.bits c.read-front.result (c.args.start + 1) 64 (omega (arith, c.requires)) c.read-front.ensures in
    let behind : length c.read-behind.result ≡ 6 = read_long c.args.held.now.bits c.read-behind.result (c.args.start + 65) 6 (omega (arith, c.requires)) c.read-behind.ensures in
    omega (arith, c.loop-place-test.true, ap length c.after.ensures, length-drop c.loop-place.place c.read-front.result, ap length c.first.ensures, length-take-le c.loop-place.place c.read-behind.result (omega (arith, c.loop-place-test.true)))

pub get-requires : goal.get-requires
get-requires c = omega (arith, c.loop-place-test.true, c.of-signal.ensures.count)

pub and-stand-requires : goal.and-stand-requires
and-stand-requires c =
    let bits = c.args.held.now.bits in
    let s = c.args.start in
    let i = c.loop-place.place in
    let moved = moved_on bits c.read-front.result c.read-behind.result s i c.loop-place-test.true c.requires c.read-front.ensures c.read-behind.ensures in
    let whole : c.join-bits.result ≡ take 64 (drop (s + 1 + i) bits) = c.join-bits.ensures ∙ ap (λ (x : List Bool). x ++ c.first.result) c.after.ensures ∙ ap (λ (x : List Bool). drop i c.read-front.result ++ x) c.first.ensures ∙ moved in
    let long : length c.join-bits.result ≡ 64 = read_long bits c.join-bits.result (s + 1 + i) 64 (omega (arith, c.requires, c.loop-place-test.true)) whole in
    ap length c.loop-place.invariant ∙ length-map-range_with_len (stands_so_far bits s i) 0 64 ∙ sym (ap length c.equal_bits.ensures ∙ length-map c.join-bits.result (λ b. beq b c.get.result) ∙ long)

pub loop-place-preserved : goal.loop-place-preserved
loop-place-preserved c =
    let bits = c.args.held.now.bits in
    let s = c.args.start in
    let i = c.loop-place.place in
    let moved = moved_on bits c.read-front.result c.read-behind.result s i c.loop-place-test.true c.requires c.read-front.ensures c.read-behind.ensures in
    let whole : c.join-bits.result ≡ take 64 (drop (s + 1 + i) bits) = c.join-bits.ensures ∙ ap (λ (x : List Bool). x ++ c.first.result) c.after.ensures ∙ ap (λ (x : List Bool). drop i c.read-front.result ++ x) c.first.ensures ∙ moved in
    c.and-stand.ensures
    ∙ stand_more bits c.loop-place.stand c.equal_bits.result s i c.get.result c.loop-place-test.true c.requires c.loop-place.invariant
    (c.equal_bits.ensures ∙ ap (map (λ b. beq b c.get.result)) whole) (c.get.ensures ∙ ap (λ (x : List Bool). get_or x i false) c.of-signal.ensures.bits ∙ signal_bit i)

pub returns : goal.returns
returns c = c.loop-place.invariant ∙ stand_all c.args.held.now.bits c.args.start c.loop-place.place (omega arith)
