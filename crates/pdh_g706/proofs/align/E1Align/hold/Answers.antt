use Rattle.std.proofs.Common.{◌≡◌, ℕ, ◌-◌, ◌++◌, length, take, drop, ap, ◌∙◌, arith}
use Rattle.pdh_bits.specs.BitOut.{BoundedBits}
use Rattle.pdh_g706.specs.Machine.{last_bits}
use Rattle.pdh_g706.proofs.GlideLaws.{held_in_frames, held_in_search}
use Rattle.pdh_g706.proofs.align.E1Align.hold.Goals as goal

pub returns-in_default-clause-phase : goal.returns-in_default-clause-phase
returns-in_default-clause-phase c =
    let self = c.args.self.now in
    held_in_frames self.stage self.held.bits (take c.args.count (drop c.args.from c.args.bits.now.bits)) c.append_from.new.self.bits self.group c.in_default.not-Searching (ap (λ (b : BoundedBits). b.bits) c.append_from.ensures)

pub returns-clause-phase : goal.returns-clause-phase
returns-clause-phase c =
    let self = c.args.self.now in
    let taken = take c.args.count (drop c.args.from c.args.bits.now.bits) in
    let all : c.append_from.new.self.bits ≡ self.held.bits ++ taken = ap (λ (b : BoundedBits). b.bits) c.append_from.ensures in
    let over : c.saturating_sub.result ≡ length c.append_from.new.self.bits - 767 = omega (arith, c.saturating_sub.ensures, c.held.ensures.count) in
    held_in_search self.stage self.held.bits taken c.drop_oldest.new.self.bits self.group c.in-Searching.is
    (ap (λ (b : BoundedBits). b.bits) c.drop_oldest.ensures ∙ ap (λ (n : ℕ). drop n c.append_from.new.self.bits) over ∙ ap (last_bits 767) all)
