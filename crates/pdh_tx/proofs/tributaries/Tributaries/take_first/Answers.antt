use Rattle.std.proofs.Common.{◌≡◌, ℕ, suc, length, map, List, [], refl, sym, ap, ◌∙◌, subst, arith, cond}
use Rattle.std.proofs.lemmas.Bool.{lt-ltb, ne_eqb, eq-eqb}
use Rattle.std.proofs.lemmas.Result.{on_ok_weaker, IfErr-weaker}
use Rattle.std.proofs.lemmas.List.{length-map}
use Rattle.pdh_shape.specs.Frame.{FrameShape}
use Rattle.pdh_shape.specs.OwnNumbers.{lead}
use Rattle.pdh_tx.specs.Meaning.{plan_in, Plan, Supply, Meaning}
use Rattle.pdh_tx.specs.Held.{Readout, unslipped}
use Rattle.pdh_tx.specs.Tributary.{placed_in, held_in, meaning_in}
use Rattle.pdh_tx.specs.Node.{taken_to, leads_slips, beginning_slips}
use Rattle.pdh_tx.proofs.Advancing.{advance_none}
use Rattle.pdh_tx.proofs.Telling.{tells_ok, tells_same, all_none}
use Rattle.pdh_tx.proofs.FrameStarts.{advance_change, blocked_change, begun_later, begun_zero, read_zero, led_all, steps_later, steps_first}
use Rattle.pdh_tx.proofs.tributaries.Tributaries.take_first.Goals as goal

pub returns-then-frame-gt0-clause-ok : goal.returns-then-frame-gt0-clause-ok
returns-then-frame-gt0-clause-ok g c =
    let s : FrameShape = g.S.Shape.shape in
    let plan : Plan = plan_in c.args.clock.now g.G.SlipLog.takes in
    let placed : _ → Plan → ℕ → Readout → Type 0 = placed_in g.C.Tx in
    let held : _ → Supply → ℕ → Readout → Type 0 = held_in g.C.Tx in
    let meaning = meaning_in g.C.Tx in
    let ms : List Meaning = map meaning c.args.self.now.list.items in
    advance_change placed held meaning plan ms _ c.args.self.now.list.items _ _ _ _ _ _ _ _ (λ size. []) _ _ _ (length-map c.args.self.now.list.items meaning)
    (λ j. refl) (λ j h. begun_later placed held meaning plan s c.args.path c.args.frame 0 j (omega (arith, c.if-frame-gt0.true))) (λ j. refl) (λ j h. refl) (λ size e. steps_later placed held meaning plan s c.args.path ms size c.args.frame c.requires.scheduled c.if-frame-gt0.true)
    (advance_none placed held meaning plan ms _ (taken_to s c.args.path plan c.args.frame 0) _ _ c.requires.placed)

pub take_leads-requires-clause-placed : goal.take_leads-requires-clause-placed
take_leads-requires-clause-placed g c j w e =
    let s : FrameShape = g.S.Shape.shape in
    let zero : c.args.frame ≡ 0 = (let h = c.if-frame-gt0.false in omega arith) in
    let placed : _ → Plan → ℕ → Readout → Type 0 = placed_in g.C.Tx in
    let held : _ → Supply → ℕ → Readout → Type 0 = held_in g.C.Tx in
    let meaning = meaning_in g.C.Tx in
    let plan : Plan = plan_in c.args.clock.now g.G.SlipLog.takes in
    subst (λ v. placed w plan v (unslipped 0)) (begun_zero placed held meaning plan s c.args.path c.args.frame j zero)
    (subst (placed w plan (taken_to s c.args.path plan c.args.frame 0 j)) (read_zero placed held meaning plan s c.args.path c.args.frame j c.args.self.now.stores zero) (c.requires.placed j w e))

pub returns-clause-ok : goal.returns-clause-ok
returns-clause-ok g c =
    let s : FrameShape = g.S.Shape.shape in
    let zero : c.args.frame ≡ 0 = (let h = c.if-frame-gt0.false in omega arith) in
    let placed : _ → Plan → ℕ → Readout → Type 0 = placed_in g.C.Tx in
    let held : _ → Supply → ℕ → Readout → Type 0 = held_in g.C.Tx in
    let meaning = meaning_in g.C.Tx in
    let plan : Plan = plan_in c.args.clock.now g.G.SlipLog.takes in
    let ws = c.args.self.now.list.items in
    let ms : List Meaning = map meaning ws in
    let count : length ms ≡ g.S.Shape.TRIBS = length-map ws meaning ∙ c.args.self.now.count in
    let long : length ms ≡ length c.take_leads.new.self.list.items = sym (ap length c.take_leads.ensures.same) ∙ length-map c.take_leads.new.self.list.items meaning in
    on_ok_weaker c.take_leads.result
    (λ advance.
    advance_change placed held meaning plan ms _ c.take_leads.new.self.list.items _ _ _ _ _ _ _ _ _ _ _ _ long
    (λ j. sym (begun_zero placed held meaning plan s c.args.path c.args.frame j zero))
    (λ j h. led_all placed held meaning plan s c.args.path c.args.frame g.S.Shape.TRIBS j zero g.met.S.Shape.is_frame (omega (arith, count, h)))
    (λ j. sym (read_zero placed held meaning plan s c.args.path c.args.frame j c.args.self.now.stores zero)) (λ j h. sym (read_zero placed held meaning plan s c.args.path c.args.frame j c.args.self.now.stores zero)) (λ size e. steps_first placed held meaning plan s c.args.path ms size c.args.frame c.requires.scheduled zero ∙ e) advance)
    c.take_leads.ensures.ok

pub returns-clause-err : goal.returns-clause-err
returns-clause-err g c =
    let s : FrameShape = g.S.Shape.shape in
    let zero : c.args.frame ≡ 0 = (let h = c.if-frame-gt0.false in omega arith) in
    let placed : _ → Plan → ℕ → Readout → Type 0 = placed_in g.C.Tx in
    let held : _ → Supply → ℕ → Readout → Type 0 = held_in g.C.Tx in
    let meaning = meaning_in g.C.Tx in
    let plan : Plan = plan_in c.args.clock.now g.G.SlipLog.takes in
    let ms : List Meaning = map meaning c.args.self.now.list.items in
    IfErr-weaker c.take_leads.result _ _
    (λ stop blocked.
    blocked_change placed held meaning plan ms _ _ _ _ _ _ stop _ _ _ _ (λ j. sym (begun_zero placed held meaning plan s c.args.path c.args.frame j zero))
    (λ j. sym (ap (λ b. cond b lead 0) (lt-ltb j (suc j) (omega arith))) ∙ led_all placed held meaning plan s c.args.path c.args.frame (suc j) j zero g.met.S.Shape.is_frame (omega arith))
    (λ size. steps_first placed held meaning plan s c.args.path ms size c.args.frame c.requires.scheduled zero) blocked)
    c.take_leads.ensures.err

pub returns-then-frame-gt0-clause-told : goal.returns-then-frame-gt0-clause-told
returns-then-frame-gt0-clause-told g c =
    let s : FrameShape = g.S.Shape.shape in
    let plan : Plan = plan_in c.args.clock.now g.G.SlipLog.takes in
    let ms : List Meaning = map (meaning_in g.C.Tx) c.args.self.now.list.items in
    tells_same [] (beginning_slips s plan ms c.args.frame 0) (ap (λ b. cond b (leads_slips s plan ms) []) (ne_eqb c.args.frame 0 (λ z. absurd (omega (arith, z, c.if-frame-gt0.true)))))
    (tells_ok tt (all_none g.G.SlipLog (record { nothing = g.met.G.SlipLog.logged_nothing; joins = g.met.G.SlipLog.logged_join; breaks = g.met.G.SlipLog.broken_join }) c.args.log.now))

pub returns-clause-told : goal.returns-clause-told
returns-clause-told g c =
    let s : FrameShape = g.S.Shape.shape in
    let plan : Plan = plan_in c.args.clock.now g.G.SlipLog.takes in
    let ms : List Meaning = map (meaning_in g.C.Tx) c.args.self.now.list.items in
    let zero : c.args.frame ≡ 0 = (let h = c.if-frame-gt0.false in omega arith) in
    tells_same (leads_slips s plan ms) (beginning_slips s plan ms c.args.frame 0) (ap (λ b. cond b (leads_slips s plan ms) []) (eq-eqb c.args.frame 0 zero)) c.take_leads.ensures.told
