use Rattle.std.proofs.Common.{◌≡◌, ℕ, ◌+◌, ◌*◌, ◌≤◌, ◌++◌, List, Bool, length, map, drop, refl, ap, ◌∙◌, arith}
use Rattle.std.proofs.lemmas.List.{length-map}
use Rattle.std.proofs.Math.Nat.{add-mul, mul-le-mul_right}
use Rattle.pdh_bits.specs.BitOut.{BoundedBits}
use Rattle.pdh_interleaving.specs.Interleaving.{interleaved}
use Rattle.pdh_interleaving.proofs.TurnLaws.{length-interleaved}
use Rattle.pdh_packed.proofs.BoundedLaws.{bits_grow, room_left}
use Rattle.pdh_interleaving.proofs.RowLaws.{none_got, turns_grow, lists_from}
use Rattle.pdh_interleaving.proofs.turns.interleave.Goals as goal

pub loop-done-init : goal.loop-done-init
loop-done-init c = (omega arith, none_got c.args.line.now (map (λ (t : BoundedBits). drop c.args.place t.bits) c.args.tributaries.now) 0 refl)

pub append_next-requires-clause-room : goal.append_next-requires-clause-room
append_next-requires-clause-room c =
    let lists = c.args.tributaries.now in
    let t : ℕ = length lists in
    let done = c.loop-done.done in
    let count = c.min-count.result in
    let all : List (List Bool) = map (λ (b : BoundedBits). drop c.args.place b.bits) lists in
    let long : length (interleaved all done) ≡ done * t = length-interleaved all done ∙ ap (λ (k : ℕ). done * k) (length-map lists (λ (b : BoundedBits). drop c.args.place b.bits)) in
    let within : (done + count) * t ≤ c.args.each * t = mul-le-mul_right t (omega (arith, c.min-count.ensures, c.loop-done.invariant.0)) in
    room_left c.args.line.now c.loop-done.line (interleaved all done) (count * t) c.loop-done.invariant.1 (omega (arith, long, within, add-mul done count t, c.requires.room))

pub loop-done-preserved : goal.loop-done-preserved
loop-done-preserved c =
    let lists = c.args.tributaries.now in
    let place = c.args.place in
    let done = c.loop-done.done in
    let count = c.min-count.result in
    let mine = c.args.line.now.bits in
    let all : List (List Bool) = map (λ (b : BoundedBits). drop place b.bits) lists in
    let next : List (List Bool) = map (λ (b : BoundedBits). drop (place + done) b.bits) lists in
    let later : interleaved next count ≡ interleaved (map (drop done) all) count = ap (λ (ls : List (List Bool)). interleaved ls count) (lists_from place done lists) in (
      omega (arith, c.min-count.ensures, c.loop-done.invariant.0),
      bits_grow c.args.line.now c.loop-done.line c.append_next.new.line (mine ++ interleaved all done) (interleaved next count) (mine ++ interleaved all (done + count)) c.loop-done.invariant.1 c.append_next.ensures
          (turns_grow mine (interleaved next count) all done count (done + count) refl later),
    )
