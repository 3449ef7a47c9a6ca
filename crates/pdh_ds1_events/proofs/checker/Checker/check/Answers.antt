use Rattle.std.proofs.Common.{◌≡◌, List, Bool, [], ◌∷◌, ◌++◌, sym, ap, ◌∙◌, subst}
use Rattle.std.specs.Prelude.{Some}
use Rattle.pdh_line.specs.Paths.{top}
use Rattle.pdh_line.specs.Tracking.{Piece}
use Rattle.pdh_line.specs.Tracking.Piece.{Delivered}
use Rattle.pdh_align.specs.Aligning.{frame_back}
use Rattle.pdh_events.specs.Telling.{tell}
use Rattle.pdh_ds1.specs.declared.plan.SuperframePlan.{SuperframePlan}
use Rattle.pdh_ds1.specs.Packing.{word_of}
use Rattle.pdh_ds1.specs.Receiving.{carried_word, judgement}
use Rattle.pdh_ds1_events.specs.Events.{crc_kinds}
use Rattle.pdh_ds1_events.specs.Checking.{checked}
use Rattle.pdh_ds1_events.proofs.CheckLaws.{checked_one, word_of_one, checked_other, word_other}
use Rattle.pdh_ds1_events.proofs.checker.Checker.check.Goals as goal

-- a plan's number of frames
same_frames : (a b : SuperframePlan) → a ≡ b → a.frames ≡ b.frames
same_frames a b e = ap (λ (p : SuperframePlan). p.frames) e

pub returns-then-PLAN-ne24-clause-word : goal.returns-then-PLAN-ne24-clause-word
returns-then-PLAN-ne24-clause-word g c =
    let plan : SuperframePlan = g.P.InSuperframe.PLAN in
    let one : List Piece = Delivered (frame_back c.args.aligner.now.ready c.args.back) ∷ [] in
    sym (word_other plan c.args.self.now one (λ e. c.if-PLAN-ne24.true (same_frames c.PLAN.result plan c.PLAN.ensures ∙ e)))

pub returns-then-PLAN-ne24-clause-seen : goal.returns-then-PLAN-ne24-clause-seen
returns-then-PLAN-ne24-clause-seen g c =
    let plan : SuperframePlan = g.P.InSuperframe.PLAN in
    let one : List Piece = Delivered (frame_back c.args.aligner.now.ready c.args.back) ∷ [] in
    let none : checked plan c.args.self.now one ≡ [] = checked_other plan c.args.self.now one (λ e. c.if-PLAN-ne24.true (same_frames c.PLAN.result plan c.PLAN.ensures ∙ e)) in
    subst (λ (x : List Bool). g.W.Watch.saw c.args.watch.now (tell top c.args.number (crc_kinds x)) c.args.watch.now) (sym none) (g.met.W.Watch.saw_nothing _)

pub returns-clause-word : goal.returns-clause-word
returns-clause-word g c =
    let plan : SuperframePlan = g.P.InSuperframe.PLAN in
    let frame : List Bool = frame_back c.args.aligner.now.ready c.args.back in
    let appended : c.append_frame.new.into.bits ≡ c.clear.new.self.bits ++ frame = λ i. (c.append_frame.ensures.appended i).bits in
    let bits_are : c.append_frame.new.into.bits ≡ frame = appended ∙ (λ i. (c.clear.ensures i).bits ++ frame) in
    let extended : plan.frames ≡ 24 = sym (same_frames c.PLAN.result plan c.PLAN.ensures) ∙ c.if-PLAN-ne24.false in
    ap Some (c.word_of.ensures.word ∙ ap (word_of 24) bits_are) ∙ sym (word_of_one plan c.args.self.now frame extended)

pub returns-clause-seen : goal.returns-clause-seen
returns-clause-seen g c =
    let plan : SuperframePlan = g.P.InSuperframe.PLAN in
    let frame : List Bool = frame_back c.args.aligner.now.ready c.args.back in
    let appended : c.append_frame.new.into.bits ≡ c.clear.new.self.bits ++ frame = λ i. (c.append_frame.ensures.appended i).bits in
    let bits_are : c.append_frame.new.into.bits ≡ frame = appended ∙ (λ i. (c.clear.ensures i).bits ++ frame) in
    let extended : plan.frames ≡ 24 = sym (same_frames c.PLAN.result plan c.PLAN.ensures) ∙ c.if-PLAN-ne24.false in
    let noted = c.note_checked.ensures frame (c.carried.ensures ∙ ap carried_word bits_are) in
    let behind_its_word = subst (λ w. g.W.Watch.saw c.args.watch.now (tell top c.args.number (crc_kinds (judgement (Delivered frame) w))) c.note_checked.new.watch) c.self.view_is noted in
    subst (λ (x : List Bool). g.W.Watch.saw c.args.watch.now (tell top c.args.number (crc_kinds x)) c.note_checked.new.watch) (sym (checked_one plan c.args.self.now frame extended)) behind_its_word
