use Rattle.std.proofs.Common.{rules, ◌≡◌, ℕ, suc, length, map, List, ◌++◌, append_assoc, refl, sym, ap, ◌∙◌, subst, Err}
use Rattle.std.proofs.lemmas.Result.{IfOk-weaker, IfErr-weaker}
use Rattle.std.proofs.lemmas.List.{length-map}
use Rattle.pdh_shape.specs.Frame.{FrameShape}
use Rattle.pdh_line.specs.Sending.{came_before}
use Rattle.pdh_slips.specs.declared.slip.Slip.{Slip}
use Rattle.pdh_tx.specs.Meaning.{plan_in, Plan, Supply, Meaning}
use Rattle.pdh_tx.specs.Tributary.{placed_in, held_in, meaning_in, share_in}
use Rattle.pdh_tx.specs.Node.{Advance, Blocked, IsShare, arrivals, beginning_slips, arrivals_slips, read_slips, came_to}
use Rattle.pdh_tx.specs.Held.{Readout}
use Rattle.pdh_tx.specs.Slipping.{arriving_to}
use Rattle.pdh_tx.proofs.Feeding.{still_fed}
use Rattle.pdh_tx.proofs.Gaining.{if_err_from}
use Rattle.pdh_tx.proofs.Lists.{transfer_one}
use Rattle.pdh_tx.proofs.Telling.{IsLog, tells_err, tells_same, tells_join, front_more, front_join, all_join}
use Rattle.pdh_tx.specs.Telling.{TellsFront, TellsAll}
use Rattle.pdh_tx.proofs.BitSteps.{begin_stops, arrival_stops, before_read, read_stops, made_of, arriving_none, all_arrived}
use Rattle.pdh_tx.proofs.stored.TributariesBody.bit.Goals as goal

pub returns-in_err-begin-clause-err : goal.returns-in_err-begin-clause-err
returns-in_err-begin-clause-err g c =
    let e : c.from_residual.result ≡ Err c.in_err-begin.field-0.0 = search rules in
    let plan : Plan = plan_in c.args.clock.now g.G.SlipLog.takes in
    if_err_from c.from_residual.result _ c.in_err-begin.field-0.0 e
    (begin_stops (placed_in g.C.Tx) (held_in g.C.Tx) (meaning_in g.C.Tx) share_in plan g.S.Shape.shape c.args.path c.args.self.now.list.items c.args.frame c.args.slot _ _ _ _ _
    g.met.S.Shape.is_frame (λ v n k. g.met.C.Tx.grows v.child plan n k) c.in_err-begin.ensures.err)

pub returns-in_err-take_arrivals-clause-err : goal.returns-in_err-take_arrivals-clause-err
returns-in_err-take_arrivals-clause-err g c =
    let s : FrameShape = g.S.Shape.shape in
    let n : ℕ = c.args.frame in
    let t : ℕ = c.args.slot in
    let e : c.from_residual-in_err-take_arrivals.result ≡ Err c.in_err-take_arrivals.field-0.0 = search rules in
    let plan : Plan = plan_in c.args.clock.now g.G.SlipLog.takes in
    let ms : List Meaning = map (meaning_in g.C.Tx) c.args.self.now.list.items in
    let P : List Meaning → Type 0 = λ v. Blocked v plan (came_to s c.args.path plan n t 0) (λ j. came_before s (plan.counts c.args.path j) n (suc t)) (λ size. arrivals s c.args.path plan v size n t) c.in_err-take_arrivals.field-0.0
    (g.F.Feed.inputs c.begin.new.feed) (g.F.Feed.inputs c.take_arrivals.new.feed) (g.F.Feed.feed_faults c.begin.new.feed) (g.F.Feed.feed_faults c.take_arrivals.new.feed) in
    if_err_from c.from_residual-in_err-take_arrivals.result _ c.in_err-take_arrivals.field-0.0 e
    (arrival_stops (placed_in g.C.Tx) (held_in g.C.Tx) (meaning_in g.C.Tx) share_in plan s c.args.path ms c.args.self.now.list.items c.begin.new.self.list.items n t _ _ _ _ _ _ _
    c.in_ok-begin.ensures.fed.unfailed c.in_ok-begin.ensures.ok (subst P c.in_ok-begin.ensures.same c.in_err-take_arrivals.ensures.err))

pub returns-clause-made : goal.returns-clause-made
returns-clause-made g c =
    let s : FrameShape = g.S.Shape.shape in
    let n : ℕ = c.args.frame in
    let t : ℕ = c.args.slot in
    let plan : Plan = plan_in c.args.clock.now g.G.SlipLog.takes in
    let placed : _ → Plan → ℕ → Readout → Type 0 = placed_in g.C.Tx in
    let held : _ → Supply → ℕ → Readout → Type 0 = held_in g.C.Tx in
    let meaning = meaning_in g.C.Tx in
    let u = c.args.self.now.list.items in
    let v = c.begin.new.self.list.items in
    let w = c.take_arrivals.new.self.list.items in
    let ms : List Meaning = map meaning u in
    let P : List Meaning → ℕ → Type 0 = λ m k. Advance placed held m plan v w (came_to s c.args.path plan n t 0) (came_to s c.args.path plan n t k) (arriving_to s c.args.path plan n t 0) (arriving_to s c.args.path plan n t k) (λ size. arrivals s c.args.path plan m size n t)
    (g.F.Feed.inputs c.begin.new.feed) (g.F.Feed.inputs c.take_arrivals.new.feed) in
    let second : P ms s.tribs = subst (P ms) (sym g.met.S.Shape.tribs_is) (subst (λ m. P m g.S.Shape.TRIBS) c.in_ok-begin.ensures.same c.in_ok-take_arrivals.ensures.ok) in
    let all : length ms ≡ s.tribs = length-map u meaning ∙ c.args.self.now.count ∙ sym g.met.S.Shape.tribs_is in
    let same : map meaning w ≡ ms = c.in_ok-take_arrivals.ensures.same ∙ c.in_ok-begin.ensures.same in
    let long : length w ≡ s.tribs = sym (length-map w meaning) ∙ ap length same ∙ all in
    let advance = before_read placed held meaning share_in plan s c.args.path ms u v w n t _ _ _ all long c.in_ok-begin.ensures.ok second in
    let was = transfer_one share_in (λ share j. IsShare plan.mode s j (plan.counts c.args.path j) n share) v w c.in_ok-take_arrivals.ensures.shares c.in_ok-begin.ensures.decided in
    let decided = transfer_one share_in (λ share j. IsShare plan.mode s j (plan.counts c.args.path j) n share) w c.slot_bit.new.self.list.items c.slot_bit.ensures.shares was in
    IfOk-weaker c.slot_bit.result _ _ (λ bit both. record { gives = both.0; free = both.1 })
    (made_of placed held meaning share_in plan s c.args.path ms u w c.slot_bit.new.self.list.items plan.mode n t c.args.say.now c.args.odd _ _ c.slot_bit.result refl same advance was decided c.in_ok-begin.ensures.scheduled c.in_ok-begin.ensures.bounded
    c.slot_bit.ensures.free c.slot_bit.ensures.placed c.slot_bit.ensures.bit)

pub returns-clause-err : goal.returns-clause-err
returns-clause-err g c =
    let s : FrameShape = g.S.Shape.shape in
    let n : ℕ = c.args.frame in
    let t : ℕ = c.args.slot in
    let plan : Plan = plan_in c.args.clock.now g.G.SlipLog.takes in
    let placed : _ → Plan → ℕ → Readout → Type 0 = placed_in g.C.Tx in
    let held : _ → Supply → ℕ → Readout → Type 0 = held_in g.C.Tx in
    let meaning = meaning_in g.C.Tx in
    let u = c.args.self.now.list.items in
    let v = c.begin.new.self.list.items in
    let w = c.take_arrivals.new.self.list.items in
    let ms : List Meaning = map meaning u in
    let P : List Meaning → ℕ → Type 0 = λ m k. Advance placed held m plan v w (came_to s c.args.path plan n t 0) (came_to s c.args.path plan n t k) (arriving_to s c.args.path plan n t 0) (arriving_to s c.args.path plan n t k) (λ size. arrivals s c.args.path plan m size n t)
    (g.F.Feed.inputs c.begin.new.feed) (g.F.Feed.inputs c.take_arrivals.new.feed) in
    let second : P ms s.tribs = subst (P ms) (sym g.met.S.Shape.tribs_is) (subst (λ m. P m g.S.Shape.TRIBS) c.in_ok-begin.ensures.same c.in_ok-take_arrivals.ensures.ok) in
    let all : length ms ≡ s.tribs = length-map u meaning ∙ c.args.self.now.count ∙ sym g.met.S.Shape.tribs_is in
    let same : map meaning w ≡ ms = c.in_ok-take_arrivals.ensures.same ∙ c.in_ok-begin.ensures.same in
    let long : length w ≡ s.tribs = sym (length-map w meaning) ∙ ap length same ∙ all in
    let advance = before_read placed held meaning share_in plan s c.args.path ms u v w n t _ _ _ all long c.in_ok-begin.ensures.ok second in
    let was = transfer_one share_in (λ share j. IsShare plan.mode s j (plan.counts c.args.path j) n share) v w c.in_ok-take_arrivals.ensures.shares c.in_ok-begin.ensures.decided in
    let unfailed = c.in_ok-take_arrivals.ensures.fed.unfailed ∙ c.in_ok-begin.ensures.fed.unfailed in
    IfErr-weaker c.slot_bit.result _ _
    (λ stop first. read_stops placed held meaning share_in plan s c.args.path ms u w n t stop _ _ _ _ unfailed advance (first.uncounted _) (λ fine. first.met fine plan refl was advance.place))
    c.slot_bit.ensures.stop

pub take_arrivals-requires-clause-fed : goal.take_arrivals-requires-clause-fed
take_arrivals-requires-clause-fed g c =
    let ok = c.in_ok-begin.ensures in
    still_fed c.args.self.now c.begin.new.self c.args.path c.args.clock.now (g.F.Feed.inputs c.args.feed.now) (g.F.Feed.inputs c.begin.new.feed) ok.same (g.met.F.Feed.fed_holds c.args.feed.now c.begin.new.feed ok.fed.fed) c.requires.fed

pub take_arrivals-requires-clause-placed : goal.take_arrivals-requires-clause-placed
take_arrivals-requires-clause-placed g c j w e =
    let s : FrameShape = g.S.Shape.shape in
    let n : ℕ = c.args.frame in
    let t : ℕ = c.args.slot in
    let plan : Plan = plan_in c.args.clock.now g.G.SlipLog.takes in
    subst (placed_in g.C.Tx w plan (came_to s c.args.path plan n t 0 j)) (sym (arriving_none (placed_in g.C.Tx) (held_in g.C.Tx) (meaning_in g.C.Tx) share_in plan s c.args.path n t j)) (c.in_ok-begin.ensures.ok.place j w e)

pub returns-in_err-begin-clause-told : goal.returns-in_err-begin-clause-told
returns-in_err-begin-clause-told g c =
    let s : FrameShape = g.S.Shape.shape in
    let n : ℕ = c.args.frame in
    let t : ℕ = c.args.slot in
    let plan : Plan = plan_in c.args.clock.now g.G.SlipLog.takes in
    let ms : List Meaning = map (meaning_in g.C.Tx) c.args.self.now.list.items in
    let stop = c.in_err-begin.field-0.0 in
    let e : c.from_residual.result ≡ Err stop = search rules in
    tells_err c.from_residual.result stop e
    (front_more g.G.SlipLog _ _ (beginning_slips s plan ms n t) (arrivals_slips s c.args.path plan ms n t ++ read_slips s c.args.path plan n t) _ stop refl c.in_err-begin.ensures.told.front)

pub returns-in_err-take_arrivals-clause-told : goal.returns-in_err-take_arrivals-clause-told
returns-in_err-take_arrivals-clause-told g c =
    let s : FrameShape = g.S.Shape.shape in
    let n : ℕ = c.args.frame in
    let t : ℕ = c.args.slot in
    let plan : Plan = plan_in c.args.clock.now g.G.SlipLog.takes in
    let ms : List Meaning = map (meaning_in g.C.Tx) c.args.self.now.list.items in
    let stop = c.in_err-take_arrivals.field-0.0 in
    let e : c.from_residual-in_err-take_arrivals.result ≡ Err stop = search rules in
    let began : List Slip = beginning_slips s plan ms n t in
    let came : List Slip = arrivals_slips s c.args.path plan ms n t in
    let P : List Meaning → Type 0 = λ v. TellsFront g.G.SlipLog c.begin.new.log c.take_arrivals.new.log (arrivals_slips s c.args.path plan v n t) stop in
    tells_err c.from_residual-in_err-take_arrivals.result stop e
    (front_more g.G.SlipLog _ _ (began ++ came) (read_slips s c.args.path plan n t) _ stop (sym (append_assoc began came (read_slips s c.args.path plan n t)))
    (front_join g.G.SlipLog (record { nothing = g.met.G.SlipLog.logged_nothing; joins = g.met.G.SlipLog.logged_join; breaks = g.met.G.SlipLog.broken_join }) _ _ _ began came stop
    c.in_ok-begin.ensures.told.all (subst P c.in_ok-begin.ensures.same c.in_err-take_arrivals.ensures.told.front)))

pub returns-clause-told : goal.returns-clause-told
returns-clause-told g c =
    let s : FrameShape = g.S.Shape.shape in
    let n : ℕ = c.args.frame in
    let t : ℕ = c.args.slot in
    let plan : Plan = plan_in c.args.clock.now g.G.SlipLog.takes in
    let placed : _ → Plan → ℕ → Readout → Type 0 = placed_in g.C.Tx in
    let held : _ → Supply → ℕ → Readout → Type 0 = held_in g.C.Tx in
    let meaning = meaning_in g.C.Tx in
    let v = c.begin.new.self.list.items in
    let w = c.take_arrivals.new.self.list.items in
    let ms : List Meaning = map meaning c.args.self.now.list.items in
    let is : IsLog g.G.SlipLog = record { nothing = g.met.G.SlipLog.logged_nothing; joins = g.met.G.SlipLog.logged_join; breaks = g.met.G.SlipLog.broken_join } in
    let began : List Slip = beginning_slips s plan ms n t in
    let came : List Slip = arrivals_slips s c.args.path plan ms n t in
    let P : List Meaning → Type 0 = λ m. TellsAll g.G.SlipLog c.begin.new.log c.take_arrivals.new.log (arrivals_slips s c.args.path plan m n t) in
    let before = all_join g.G.SlipLog is _ _ _ began came c.in_ok-begin.ensures.told.all (subst P c.in_ok-begin.ensures.same c.in_ok-take_arrivals.ensures.told.all) in
    let was = transfer_one share_in (λ share j. IsShare plan.mode s j (plan.counts c.args.path j) n share) v w c.in_ok-take_arrivals.ensures.shares c.in_ok-begin.ensures.decided in
    let arrived = all_arrived placed held meaning share_in plan s c.args.path w n t g.S.Shape.TRIBS (c.take_arrivals.new.self.count) c.in_ok-take_arrivals.ensures.ok.place in
    tells_same ((began ++ came) ++ read_slips s c.args.path plan n t) _ (sym (append_assoc began came (read_slips s c.args.path plan n t)))
    (tells_join g.G.SlipLog is _ _ _ (began ++ came) (read_slips s c.args.path plan n t) c.slot_bit.result before (c.slot_bit.ensures.told plan refl was arrived))
