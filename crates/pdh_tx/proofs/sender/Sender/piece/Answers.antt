use Rattle.std.proofs.Common.{◌≡◌, ◌+◌, ◌-◌, ℕ, suc, Bool, not, List, length, ap, ◌∙◌, arith}
use Rattle.std.specs.Bool.{beq}
use Rattle.pdh_packed.specs.Gaining.{gained}
use Rattle.pdh_shape.specs.Payload.{payload_ones}
use Rattle.pdh_tx.specs.Meaning.{plan_in}
use Rattle.pdh_tx.specs.Node.{odd_within}
use Rattle.pdh_tx.proofs.Gaining.{on_err_from}
use Rattle.pdh_tx.proofs.Parity.{odd_piece, odd_with}
use Rattle.pdh_tx.proofs.SenderSteps.{sender_clear, sender_halts, sender_piece}
use Rattle.pdh_tx.proofs.sender.Sender.piece.Goals as goal

pub piece-requires-clause-clear : goal.piece-requires-clause-clear
piece-requires-clause-clear g c =
    let body = g.met.B.Body in
    sender_clear g.S.Shape.shape g.B.Body.kind (body.is_kind c.args.self.now.body) c.args.self.now.path (plan_in c.args.clock.now g.G.SlipLog.takes) (g.B.Body.meanings c.args.self.now.body) (body.count c.args.self.now.body) _ c.args.self.now.at c.requires.clear.0 c.requires.clear.1 c.args.len _
    (omega (arith, c.requires.piece.inside, g.met.S.Shape.len_is)) c.requires.clear.2

pub returns-in_err-odd-clause-halts : goal.returns-in_err-odd-clause-halts
returns-in_err-odd-clause-halts g c =
    let body = g.met.B.Body in
    let len : ℕ = c.args.len in
    let last : ℕ = c.args.self.now.at.slot + len - 1 in
    on_err_from c.from_residual.result
    (λ x was. sender_halts g.S.Shape.shape g.B.Body.kind (body.is_kind c.args.self.now.body) c.args.self.now.path (plan_in c.args.clock.now g.G.SlipLog.takes) (g.B.Body.meanings c.args.self.now.body) (body.count c.args.self.now.body) _ c.args.self.now.at x was len last _ _ _
    (omega (arith, c.requires.piece.some)) (omega (arith, c.requires.piece.some, c.requires.piece.inside, g.met.S.Shape.len_is)) c.in_err-odd.ensures.halts)

pub returns-clause-made : goal.returns-clause-made
returns-clause-made g c x was =
    let s = g.S.Shape.shape in
    let body = g.met.B.Body in
    let old = c.args.self.now in
    let new = c.piece.new.self in
    let at = c.moved-self.result in
    let plan = plan_in c.args.clock.now g.G.SlipLog.takes in
    let ok = c.in_ok-odd.ensures in
    let bits : List Bool = gained c.args.into.now c.piece.new.into in
    let len : ℕ = c.args.len in
    let last : ℕ = old.at.slot + len - 1 in
    let long : length bits ≡ len = ok.appended.grown.count in
    let end : suc last ≡ old.at.slot + len = omega (arith, c.requires.piece.some) in
    sender_piece s g.B.Body.kind (body.is_kind c.args.self.now.body) old.path plan (g.B.Body.meanings old.body) (body.count old.body) (g.B.Body.stands old.body old.path plan) old.at x was
    (g.B.Body.meanings new) ok.same at last c.moved-self.ensures.follows (g.B.Body.stood new old.path plan old.at.frame) (g.B.Body.stands new old.path plan)
    (body.stands_next new old.path plan old.at.frame last at.frame at.slot c.moved-self.ensures.follows) (g.B.Body.holds old.body old.path) (λ supply. g.B.Body.held new old.path plan supply old.at.frame) (g.B.Body.holds new old.path)
    (λ supply. body.holds_next new old.path plan supply old.at.frame last at.frame at.slot c.moved-self.ensures.follows) old.say old.next_say c.said-say.result c.said-say.ensures
    len bits (not (beq old.at.is_odd c.in_ok-odd.odd)) _ _ long c.requires.piece.some end (omega (arith, c.requires.piece.some, c.requires.piece.inside, g.met.S.Shape.len_is)) ok.made.gives
    (λ source line odd. ap (λ b. not (beq old.at.is_odd b)) ok.made.odd_is ∙ odd_with old.at.is_odd (payload_ones s old.at.slot bits) ∙ odd_piece s source old.at.frame old.at.slot bits old.at.is_odd line odd ∙ ap (λ k. odd_within s source old.at.frame (old.at.slot + k)) long)
    c.moved-self.ensures.parity
