use Rattle.std.proofs.Common.{◌≡◌, ◌<◌, ◌%◌, List, [], ◌∷◌, ◌++◌, length, refl, sym, ap, ◌∙◌, arith}
use Rattle.std.proofs.lemmas.List.{length_push}
use Rattle.pdh_bits.specs.BitOut.{BoundedBits}
use Rattle.pdh_bits.specs.Bits.{bit_value}
use Rattle.pdh_watch.specs.declared.event.Event.{Event}
use Rattle.pdh_g706.specs.declared.align.E1Align.{E1Align}
use Rattle.pdh_g706.specs.declared.stage.Stage.TheVariants as stages
use Rattle.pdh_g706.specs.Tracking.{Share}
use Rattle.pdh_g706.specs.Machine.{Fits, last_bits, added_kinds, lost_turn, search_turn, aligned_turn, framed_turn}
use Rattle.pdh_g706.specs.Machine.Phase.{Searching, Aligned, Framed}
use Rattle.pdh_g706.specs.View.{phase, phase_of, is_framed}
use Rattle.pdh_g706.proofs.AlignSteps.{turn_searching, turn_part, turn_lost, turn_aligned, turn_framed, stage_left, fits_stage, has_room, search_gains, becomes_from, becomes_lost, turned_from, turned_none, turned_still, kinds_of, still_kinds, loss_kinds}
use Rattle.pdh_g706.proofs.align.E1Align.turn.Goals as goal

pub append_bit-requires : goal.append_bit-requires
append_bit-requires g c =
    let self = c.args.self.now in
    let room : length self.held.bits < 16384 = has_room self.stage self.held.bits self.group c.requires.fits in
    omega (arith, c.requires.room)

pub returns-in-Searching : goal.returns-in-Searching
returns-in-Searching g c =
    let self = c.args.self.now in
    let bits = self.held.bits ++ c.args.bit ∷ [] in
    let watch = c.args.watch.now in
    let now : c.append_bit.new.self.bits ≡ bits = ap (λ (b : BoundedBits). b.bits) c.append_bit.ensures in
    let is = turn_searching self c.args.bit c.in-Searching.is in
    turned_none g.D.Drain.outputs g.D.Drain.drain_faults g.D.Drain.drained g.W.Watch.saw _ _ self c.search.new.self c.args.drain.now watch watch
    (ap (λ t. t.gained.payload) is ∙ ap (λ (s : Share). s.payload) (search_gains bits)) (g.met.D.Drain.drained_same c.args.drain.now)
    (becomes_from _ (search_turn c.append_bit.new.self.bits) _ self c.search.new.self (is ∙ ap search_turn (sym now)) refl (ap (λ (b : BoundedBits). b.capacity) c.append_bit.ensures) refl refl refl c.search.ensures)
    (kinds_of (λ (x : List Event). g.W.Watch.saw watch x watch) self _ (search_turn bits) []
    is (ap (λ (s : Share). added_kinds self.alarm s.signs) (search_gains bits) ∙ still_kinds self.alarm) (g.met.W.Watch.saw_nothing watch))

pub returns-then-held-ne0 : goal.returns-then-held-ne0
returns-then-held-ne0 g c =
    let self = c.args.self.now in
    let bits = c.append_bit.new.self.bits in
    turned_still g.D.Drain.outputs g.D.Drain.drain_faults g.D.Drain.drained g.W.Watch.saw _ _ (phase_of self.stage bits self.group) self _ c.args.drain.now c.args.watch.now
    (g.met.D.Drain.drained_same c.args.drain.now) (g.met.W.Watch.saw_nothing c.args.watch.now)
    (turn_part self.stage self.held.bits bits self.group c.args.bit c.in_default.not-Searching (ap (λ (b : BoundedBits). b.bits) c.append_bit.ensures) (λ e. c.if-held-ne0.true (ap (λ n. n % 256) c.held.ensures.count ∙ e)))
    refl refl (ap (λ (b : BoundedBits). b.capacity) c.append_bit.ensures) refl refl refl

pub returns-then-loses : goal.returns-then-loses
returns-then-loses g c =
    let self = c.args.self.now in
    let bits = c.append_bit.new.self.bits in
    let is = c.search_anew.ensures in
    let lost = turn_lost self.stage self.held.bits bits self.group c.args.bit c.in_default.not-Searching (ap (λ (b : BoundedBits). b.bits) c.append_bit.ensures) (omega arith) (sym c.loses.ensures.loses ∙ c.if-loses.true) in
    turned_none g.D.Drain.outputs g.D.Drain.drain_faults g.D.Drain.drained g.W.Watch.saw _ _ self c.search_anew.new.self c.args.drain.now c.args.watch.now c.note_loss.new.watch
    (ap (λ t. t.gained.payload) lost) (g.met.D.Drain.drained_same c.args.drain.now)
    (becomes_lost _ (Searching (last_bits 256 bits)) (bit_value (is_framed self.stage)) self c.search_anew.new.self lost
    (ap phase is) (ap (λ (a : E1Align). a.counts) is) (ap (λ (a : E1Align). a.held.capacity) is ∙ ap (λ (b : BoundedBits). b.capacity) c.append_bit.ensures)
    (ap (λ (a : E1Align). a.bits) is) (ap (λ (a : E1Align). a.ais) is) (ap (λ (a : E1Align). a.alarm) is))
    (kinds_of (λ (x : List Event). g.W.Watch.saw c.args.watch.now x c.note_loss.new.watch) self _ (lost_turn (is_framed self.stage) bits) _
    lost (loss_kinds self.alarm (is_framed self.stage)) c.note_loss.ensures)

pub end_aligned-requires-clause-most : goal.end_aligned-requires-clause-most
end_aligned-requires-clause-most g c =
    let self = c.args.self.now in
    let fits : Fits (Aligned self.held.bits) = fits_stage self stages.Aligned c.in-Aligned.is c.requires.fits in
    omega (arith, fits, ap (λ (b : BoundedBits). length b.bits) c.append_bit.ensures, length_push self.held.bits c.args.bit)

pub end_aligned-requires-clause-long : goal.end_aligned-requires-clause-long
end_aligned-requires-clause-long g c =
    let more = ap (λ (b : BoundedBits). length b.bits) c.append_bit.ensures ∙ length_push c.args.self.now.held.bits c.args.bit in
    omega arith

pub returns-in-Aligned : goal.returns-in-Aligned
returns-in-Aligned g c =
    let self = c.args.self.now in
    let bits = c.append_bit.new.self.bits in
    turned_from g.D.Drain.outputs g.D.Drain.drain_faults g.D.Drain.drained g.W.Watch.saw c.end_aligned.result _ (aligned_turn bits) _ self c.end_aligned.new.self c.args.drain.now c.end_aligned.new.drain c.args.watch.now c.end_aligned.new.watch
    (turn_aligned self c.args.bit bits c.in-Aligned.is (ap (λ (b : BoundedBits). b.bits) c.append_bit.ensures) (omega arith) (sym c.loses.ensures.loses ∙ c.if-loses.false))
    refl (ap (λ (b : BoundedBits). b.capacity) c.append_bit.ensures) refl refl refl c.end_aligned.ensures

pub end_framed-requires : goal.end_framed-requires
end_framed-requires g c =
    let self = c.args.self.now in
    let stage = stage_left self.stage c.in_default.not-Searching c.in_default-stage.not-Aligned in
    let fits : Fits (Framed self.held.bits self.group.judged self.group.errored) = fits_stage self stages.Framed stage c.requires.fits in
    let long = ap (λ (b : BoundedBits). length b.bits) c.append_bit.ensures ∙ length_push self.held.bits c.args.bit in
    record {
      stage = stage;
      whole = omega arith;
      long = omega (arith, fits.0, long);
      most = omega (arith, fits.1, long);
      judged = fits.2;
      errored = omega (arith, fits.2, fits.3);
      list = c.requires.list;
    }

pub returns : goal.returns
returns g c =
    let self = c.args.self.now in
    let bits = c.append_bit.new.self.bits in
    turned_from g.D.Drain.outputs g.D.Drain.drain_faults g.D.Drain.drained g.W.Watch.saw c.end_framed.result _ (framed_turn bits self.group.judged self.group.errored) _ self c.end_framed.new.self c.args.drain.now c.end_framed.new.drain c.args.watch.now c.end_framed.new.watch
    (turn_framed self c.args.bit bits (stage_left self.stage c.in_default.not-Searching c.in_default-stage.not-Aligned) (ap (λ (b : BoundedBits). b.bits) c.append_bit.ensures) (omega arith) (sym c.loses.ensures.loses ∙ c.if-loses.false))
    refl (ap (λ (b : BoundedBits). b.capacity) c.append_bit.ensures) refl refl refl c.end_framed.ensures
