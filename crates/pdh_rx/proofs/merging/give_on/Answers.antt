use Rattle.std.proofs.Common.{◌≡◌, ◌+◌, ℕ, List, Bool, length, map, take, drop, refl, ap, ◌∙◌, subst, arith}
use Rattle.std.proofs.lemmas.Result.{err_from_is_err_and}
use Rattle.std.proofs.lemmas.List.{length-set}
use Rattle.pdh_edge.specs.Ports.{for_leaf}
use Rattle.pdh_events.specs.laws.QuietLaws.{IsQuiet}
use Rattle.pdh_rx.specs.Node.{EachStands, child_notes, Gives, GivesPart}
use Rattle.pdh_rx.specs.Places.{loaded_cell, loaded_places, loaded_bits, StandsAt}
use Rattle.pdh_rx.proofs.Gains.{on_err_from}
use Rattle.pdh_rx.proofs.Keeping.{keeps_nothing, keeps_failed}
use Rattle.pdh_rx.proofs.merging.give_on.Goals as goal

pub glide-requires-clause-begun : goal.glide-requires-clause-begun
glide-requires-clause-begun g c = omega (arith, c.requires.begun, ap length c.bits-bits.ensures)

pub overflow_add-given : goal.overflow_add-given
overflow_add-given g c = omega (arith, c.in_ok-more.ensures.count, c.len-fits.ensures.count, c.len-fits.type_inv)

pub returns-in_err-more-clause-part : goal.returns-in_err-more-clause-part
returns-in_err-more-clause-part g c =
    let P : List Bool → Type 0 = λ l. GivesPart g.C.Rx.stands (map g.C.Rx.meaning c.args.children.now) (for_leaf c.args.trib (drop c.args.from l)) c.args.children.now (g.D.Drain.outputs c.args.drain.now) (g.D.Drain.outputs c.glide.new.drain) in
    on_err_from _ c.from_residual.result (subst P c.bits-bits.ensures c.in_err-more.ensures.part)

pub returns-in_err-more-clause-kept : goal.returns-in_err-more-clause-kept
returns-in_err-more-clause-kept g c =
    keeps_failed g.C.Rx.meaning g.D.Drain.drain_faults g.D.Drain.drained g.met.D.Drain.drained_join _ _ _ _ _ _ c.from_residual.result _ _ (err_from_is_err_and c.from_residual.result c.from_residual.ensures.1).1
    (keeps_nothing g.C.Rx.meaning g.D.Drain.drain_faults g.D.Drain.drained _ _ (g.met.D.Drain.drained_same _)) c.in_err-more.ensures.kept

pub returns-clause-given : goal.returns-clause-given
returns-clause-given g c =
    let s = g.S.Shape.shape in
    let gap = c.args.strip.now.gap in
    let frame = c.args.strip.now.frame in
    let t = c.args.trib in
    let n = c.in_ok-more.more in
    let ms = map g.C.Rx.meaning c.args.children.now in
    let read : c.bits-bits.result.now.bits ≡ loaded_bits s gap frame t = c.bits-bits.ensures ∙ c.requires.read in
    let S : List Bool → Type 0 = λ l. StandsAt s.tribs (loaded_cell s gap frame) (loaded_places s gap) t l (c.args.from + n) c.place.result in
    let P : List Bool → Type 0 = λ l. Gives g.C.Rx.stands ms (for_leaf t (take n (drop c.args.from l))) c.args.children.now c.glide.new.self (g.D.Drain.outputs c.args.drain.now) (g.D.Drain.outputs c.glide.new.drain) in
    let Q : List Bool → Type 0 = λ l. (lines : ℕ → List Bool) → EachStands g.C.Rx.stands c.args.children.now lines → IsQuiet (child_notes ms t) (lines t) (take n (drop c.args.from l)) in
    record {
      more = n;
      due = record { place = c.place.result; given = c.args.from + n };
      given_is = refl;
      list_is = refl;
      placed = subst S c.requires.read c.place.ensures;
      gives = subst P read c.in_ok-more.ensures.given;
      quiet = subst Q read c.in_ok-more.ensures.quiet;
    }

pub returns-clause-kept : goal.returns-clause-kept
returns-clause-kept g c = let kept = c.in_ok-more.ensures.kept in record { same = kept.same; drains = kept.drains; cause = kept.cause }

pub returns-clause-room : goal.returns-clause-room
returns-clause-room g c = length-set _ _ _
