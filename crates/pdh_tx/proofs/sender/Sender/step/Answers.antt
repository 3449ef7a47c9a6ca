use Rattle.std.proofs.Common.{rules, ◌≡◌, Err, refl}
use Rattle.pdh_tx.specs.Meaning.{plan_in}
use Rattle.pdh_tx.proofs.Gaining.{if_err_from}
use Rattle.pdh_tx.proofs.SenderSteps.{sender_stops, sender_slips, sender_makes}
use Rattle.pdh_tx.proofs.Telling.{tells_err, tells_same, tells_ok}
use Rattle.pdh_tx.proofs.sender.Sender.step.Goals as goal

pub returns-in_err-bit-clause-stops : goal.returns-in_err-bit-clause-stops
returns-in_err-bit-clause-stops g c =
    let body = g.met.B.Body in
    let e : c.from_residual.result ≡ Err c.in_err-bit.field-0.0 = search rules in
    if_err_from c.from_residual.result _ c.in_err-bit.field-0.0 e
    (λ x was. sender_stops g.S.Shape.shape g.B.Body.kind (body.is_kind c.args.self.now.body) c.args.self.now.path (plan_in c.args.clock.now g.G.SlipLog.takes) (g.B.Body.meanings c.args.self.now.body) (body.count c.args.self.now.body) _ c.args.self.now.at x was _ _ _ _ _ c.in_err-bit.ensures.err)

pub returns-clause-made : goal.returns-clause-made
returns-clause-made g c x was =
    let s = g.S.Shape.shape in
    let body = g.met.B.Body in
    let old = c.args.self.now in
    let new = c.bit.new.self in
    let at = c.after-self.result in
    let plan = plan_in c.args.clock.now g.G.SlipLog.takes in
    let ok = c.in_ok-bit.ensures in
    sender_makes s g.B.Body.kind (body.is_kind c.args.self.now.body) old.path plan (g.B.Body.meanings old.body) (body.count old.body) (g.B.Body.stands old.body old.path plan) old.at x was
    (g.B.Body.meanings new) ok.same at old.at.slot c.after-self.ensures.follows (g.B.Body.stood new old.path plan old.at.frame) (g.B.Body.stands new old.path plan)
    (body.stands_next new old.path plan old.at.frame old.at.slot at.frame at.slot c.after-self.ensures.follows) (g.B.Body.holds old.body old.path) (λ supply. g.B.Body.held new old.path plan supply old.at.frame) (g.B.Body.holds new old.path)
    (λ supply. body.holds_next new old.path plan supply old.at.frame old.at.slot at.frame at.slot c.after-self.ensures.follows) old.say old.next_say c.said-say.result c.said-say.ensures
    c.in_ok-bit.bit _ _ refl c.after-self.ensures.parity ok.made.gives ok.made.free

pub returns-in_err-bit-clause-told : goal.returns-in_err-bit-clause-told
returns-in_err-bit-clause-told g c x was =
    let body = g.met.B.Body in
    let old = c.args.self.now in
    let e : c.from_residual.result ≡ Err c.in_err-bit.field-0.0 = search rules in
    tells_same _ _ (sender_slips g.S.Shape.shape g.B.Body.kind (body.is_kind old.body) old.path (plan_in c.args.clock.now g.G.SlipLog.takes) (g.B.Body.meanings old.body) (body.count old.body) _ old.at x was)
    (tells_err c.from_residual.result c.in_err-bit.field-0.0 e c.in_err-bit.ensures.told.front)

pub returns-clause-told : goal.returns-clause-told
returns-clause-told g c x was =
    let body = g.met.B.Body in
    let old = c.args.self.now in
    tells_same _ _ (sender_slips g.S.Shape.shape g.B.Body.kind (body.is_kind old.body) old.path (plan_in c.args.clock.now g.G.SlipLog.takes) (g.B.Body.meanings old.body) (body.count old.body) _ old.at x was)
    (tells_ok c.in_ok-bit.bit c.in_ok-bit.ensures.told.all)
