use Rattle.std.proofs.Common.{◌≡◌, true, false, cond, length, replicate, sym, ap, ◌∙◌, arith}
use Rattle.pdh_shape.specs.Tributary.{stripped}
use Rattle.pdh_rx.specs.Places.{loaded_bits, Loaded}
use Rattle.pdh_rx.proofs.strip.Strip.turn.Goals as goal

pub turn-requires-clause-read : goal.turn-requires-clause-read
turn-requires-clause-read g c =
    let s = g.S.Shape.shape in
    let own = c.self.inside in
    let in_frame : own.gap ≡ false = c.if-self.false in
    let bits : c.args.self.now.bits ≡ own.parts.bits = sym (ap (λ (l : Loaded). l.bits) c.self.view_is) ∙ ap (λ b. cond b (replicate s.low true) own.parts.bits) in_frame in
    let gap : c.args.self.now.gap ≡ false = sym (ap (λ (l : Loaded). l.gap) c.self.view_is) ∙ in_frame in
    let frame : c.args.self.now.frame ≡ own.parts.frame = sym (ap (λ (l : Loaded). l.frame) c.self.view_is) in
    sym bits ∙ c.requires.read ∙ ap (λ b. loaded_bits s b c.args.self.now.frame c.args.trib) gap ∙ ap (stripped s c.args.trib) frame

pub turn-requires-clause-inside : goal.turn-requires-clause-inside
turn-requires-clause-inside g c =
    let s = g.S.Shape.shape in
    let own = c.self.inside in
    let bits : c.args.self.now.bits ≡ own.parts.bits = sym (ap (λ (l : Loaded). l.bits) c.self.view_is) ∙ ap (λ b. cond b (replicate s.low true) own.parts.bits) c.if-self.false in
    omega (arith, c.requires.inside, ap length bits)
