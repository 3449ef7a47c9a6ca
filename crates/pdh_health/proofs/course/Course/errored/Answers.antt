use Rattle.std.proofs.Common.{◌≡◌, ◌+◌, ◌^◌, true, false, List, sym, ap, ◌∙◌, subst, arith, refl}
use Rattle.std.specs.Prelude.{min, ◌-◌, Some}
use Rattle.pdh_timeline.specs.Marks.{Mark, is_errored, is_far}
use Rattle.pdh_timeline.specs.Marks.Mark.{Errored}
use Rattle.pdh_health.specs.declared.errors.Errors.{Errors}
use Rattle.pdh_health.specs.Marking.{last_of, is_last}
use Rattle.pdh_health.specs.Courses.{StandsFor}
use Rattle.pdh_health.proofs.Marked.{block_shown, errors_more, errors_same}
use Rattle.pdh_health.proofs.Lying.{marks_other}
use Rattle.pdh_health.proofs.Coursing.{not_behind, reaches, same_marks, same_lanes, goes_nowhere, is_old, is_new}
use Rattle.pdh_health.proofs.course.Course.errored.Goals as goal

pub returns-then-has : goal.returns-then-has
returns-then-has c rate block marks codes before stands le few =
    let place = c.args.place in
    let old : is_last (last_of is_errored marks) place ≡ true = sym (ap (λ (e : Errors). is_last e.last place) stands.near_are) ∙ sym c.has.ensures ∙ c.if-has.true in
    subst (λ (l : List Mark). StandsFor c.args.self.now rate block l codes place) (is_old (last_of is_errored marks) (Errored place) place marks old)
    (goes_nowhere c.args.self.now place rate block marks codes before stands le few)

pub returns : goal.returns
returns c rate block marks codes before stands le few =
    let old = c.args.self.now in
    let place = c.args.place in
    let mark = Errored place in
    let order = not_behind old rate block marks codes before place stands le in
    let new : is_last (last_of is_errored marks) place ≡ false = sym (ap (λ (e : Errors). is_last e.last place) stands.near_are) ∙ sym c.has.ensures ∙ c.if-has.false in
    let counted = c.plus-near.ensures ∙ ap (λ (e : Errors). record { count = min (e.count + 1) (2 ^ 64 - 1); last = Some place }) stands.near_are ∙ sym (errors_more is_errored marks mark refl) in
    same_marks _ rate block _ _ codes place (is_new (last_of is_errored marks) mark place marks new) (record {
      track_stands = c.errored.ensures.stands marks stands.track_stands order (omega (arith, few));
      rate_is = c.errored.ensures.rate ∙ stands.rate_is;
      block_is = c.errored.ensures.block ∙ stands.block_is;
      reached = reaches _ _ rate place old.some (c.errored.ensures.second order) stands.rate_is;
      cells_stand = same_lanes _ _ _ (place + 1) (sym (block_shown place marks codes)) (c.errored-2.ensures _ (before + 1) stands.cells_stand (omega (arith, le)));
      near_are = counted;
      far_are = stands.far_are ∙ sym (errors_same is_far marks mark refl);
      times_lie = marks_other before place marks mark le (λ state. refl) stands.times_lie;
    })
