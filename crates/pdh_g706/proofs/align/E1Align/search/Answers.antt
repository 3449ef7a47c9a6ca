use Rattle.std.proofs.Common.{cond, drop, refl, ap, ◌∙◌, arith}
use Rattle.pdh_bits.specs.BitOut.{BoundedBits}
use Rattle.pdh_g706.specs.Machine.{still}
use Rattle.pdh_g706.specs.Machine.Phase.{Searching, Aligned}
use Rattle.pdh_g706.specs.View.{phase_of}
use Rattle.pdh_g706.proofs.AlignSteps.{search_short, search_long, becomes_still}
use Rattle.pdh_g706.proofs.align.E1Align.search.Goals as goal

pub returns-then-held-lt768 : goal.returns-then-held-lt768
returns-then-held-lt768 c =
    let self = c.args.self.now in
    becomes_still _ (Searching self.held.bits) self _ (search_short self.held.bits (omega arith)) (ap (λ s. phase_of s self.held.bits self.group) c.requires) refl refl refl refl refl

pub returns-then-is_confirmed : goal.returns-then-is_confirmed
returns-then-is_confirmed c =
    let self = c.args.self.now in
    let bits = self.held.bits in
    becomes_still _ (Aligned bits) self _
    (search_long bits c.is_confirmed.result (omega arith) c.is_confirmed.ensures ∙ ap (λ b. cond b (still (Aligned bits)) (still (Searching (drop 1 bits)))) c.if-is_confirmed.true) refl refl refl refl refl refl

pub returns : goal.returns
returns c =
    let self = c.args.self.now in
    let bits = self.held.bits in
    becomes_still _ (Searching (drop 1 bits)) self _
    (search_long bits c.is_confirmed.result (omega arith) c.is_confirmed.ensures ∙ ap (λ b. cond b (still (Aligned bits)) (still (Searching (drop 1 bits)))) c.if-is_confirmed.false)
    (ap (λ s. phase_of s c.drop_oldest.new.self.bits self.group) c.requires ∙ ap (λ (b : BoundedBits). Searching b.bits) c.drop_oldest.ensures) refl
    (ap (λ (b : BoundedBits). b.capacity) c.drop_oldest.ensures) refl refl refl
