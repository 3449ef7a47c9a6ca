use Rattle.std.proofs.Common.{◌≡◌, length, take, drop, ap, sym, subst, arith, length-drop}
use Rattle.std.proofs.lemmas.List.{length-take-le}
use Rattle.pdh_g706.specs.declared.align.E1Align.{E1Align}
use Rattle.pdh_g706.specs.Machine.{Waits}
use Rattle.pdh_g706.specs.View.{phase}
use Rattle.pdh_g706.proofs.GlideLaws.{waits_far, waits_quiet, waits_stands}
use Rattle.pdh_g706.proofs.align.E1Align.glide.Goals as goal

pub idle-requires : goal.idle-requires
idle-requires c = c.requires.stands.1.holds.fits

pub returns-clause-stands : goal.returns-clause-stands
returns-clause-stands c line h =
    let self = c.args.self.now in
    let out = c.hold.new.self in
    let taken = take c.calm-count.result (drop c.args.from c.args.bits.now.bits) in
    let size : length taken ≡ c.calm-count.result = length-take-le c.calm-count.result (drop c.args.from c.args.bits.now.bits) (omega (arith, length-drop c.args.from c.args.bits.now.bits)) in
    let waits : Waits (phase self) taken (phase out) = subst (Waits (phase self) taken) (sym c.hold.ensures.phase) (c.idle.ensures.waits taken (omega arith)) in
    waits_stands self out c.skip.new.self c.saturating_add-self.result line taken c.hold.ensures.same c.hold.ensures.room waits
    (omega (arith, c.saturating_add-self.ensures, size, ap (λ (a : E1Align). a.bits) c.hold.ensures.same)) c.skip.ensures.long (λ ones. c.skip.ensures.counts line ones (c.calm-count.ensures.calm line ones)) h

pub returns-clause-gains : goal.returns-clause-gains
returns-clause-gains c line h =
    let taken = take c.calm-count.result (drop c.args.from c.args.bits.now.bits) in
    let size : length taken ≡ c.calm-count.result = length-take-le c.calm-count.result (drop c.args.from c.args.bits.now.bits) (omega (arith, length-drop c.args.from c.args.bits.now.bits)) in
    waits_far c.args.self.now _ line taken (c.idle.ensures.waits taken (omega arith)) h

pub returns-clause-quiet : goal.returns-clause-quiet
returns-clause-quiet c line h =
    let taken = take c.calm-count.result (drop c.args.from c.args.bits.now.bits) in
    let size : length taken ≡ c.calm-count.result = length-take-le c.calm-count.result (drop c.args.from c.args.bits.now.bits) (omega (arith, length-drop c.args.from c.args.bits.now.bits)) in
    waits_quiet c.args.self.now _ line taken (c.idle.ensures.waits taken (omega arith)) (c.calm-count.ensures.calm line) h
