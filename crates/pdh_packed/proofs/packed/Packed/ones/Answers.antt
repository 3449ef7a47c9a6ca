use Rattle.std.proofs.Common.{◌≡◌, ℕ, ◌+◌, ◌-◌, ◌≤◌, take, drop, sym, ap, ◌∙◌, arith}
use Rattle.std.specs.Int.Count.{ones}
use Rattle.std.proofs.lemmas.Nat.{ones-le}
use Rattle.pdh_packed.proofs.OnesLaws.{ones_of, ones_of_low, ones_more}
use Rattle.pdh_packed.proofs.packed.Packed.ones.Goals as goal

pub loop-done-preserved : goal.loop-done-preserved
loop-done-preserved c =
    let place = c.args.place in
    let bits = c.args.self.now.bits in
    let done = c.loop-done.done in
    let n = c.read_whole.result in
    let word : ones n ≡ ones_of (take 64 (drop (place + done) bits)) = sym (ones_of_low 64 n c.read_whole.type_inv) ∙ ap ones_of c.read_whole.ensures in
    let few : ones n ≤ 64 = ones-le 64 n c.read_whole.type_inv in
    let more = ones_more bits place done 64 (ones n) word in (
      omega (arith, c.loop-done-test.true),
      omega (arith, few, c.loop-done.invariant.1),
      ap (λ (m : ℕ). m + ones n) c.loop-done.invariant.2 ∙ sym more,
    )

pub returns : goal.returns
returns c =
    let place = c.args.place in
    let bits = c.args.self.now.bits in
    let done = c.loop-done.done in
    let left = c.args.count - done in
    let whole : done + left ≡ c.args.count = omega (arith, c.loop-done.invariant.0) in
    let rest : c.ones.result ≡ ones_of (take left (drop (place + done) bits)) = c.ones.ensures ∙ ap ones_of c.read.ensures in
    let all = ones_more bits place done left c.ones.result rest in
    ap (λ (n : ℕ). n + c.ones.result) c.loop-done.invariant.2 ∙ sym all ∙ ap (λ (n : ℕ). ones_of (take n (drop place bits))) whole
