-- A bit before a frame's last is added to those since the last frame.
use Rattle.std.proofs.Common.{◌≡◌, ◌+◌, Bool, false, cond, List, [], ◌∷◌, ◌++◌, length, sym, ap, ◌∙◌, arith}
use Rattle.std.proofs.lemmas.List.{length_push}
use Rattle.pdh_align.proofs.Turns.{push_part}
use Rattle.pdh_align.proofs.ReadyFrames.{joins_list, list_alone}
use Rattle.pdh_align.proofs.aligner.Aligner.turn.Goals as goal

pub returns : goal.returns
returns g c =
    let held : List Bool = c.self.inside.held.bits in
    let frame : List Bool = c.self.inside.frame.bits in
    let list : List Bool = c.push.new.self.bits in
    let still : c.self.inside.fresh ≡ false = c.if-self.false in
    let ring_is : held ≡ cond c.self.inside.fresh [] held = ap (λ (f : Bool). cond f [] held) (sym still) in
    let list_is : list ≡ cond c.self.inside.fresh [] frame ++ c.args.bit ∷ [] = ap (λ b. b.bits) c.push.ensures ∙ ap (λ (f : Bool). cond f [] frame ++ c.args.bit ∷ []) (sym still) in
    let joined = joins_list c.self.inside.fresh held frame held list (c.args.bit ∷ []) (c.self.invariant.listed c.if-self-2.false) ring_is list_is in
    let long : length (held ++ list) ≡ length frame + 1 = ap length (list_alone held list joined.0) ∙ ap (λ b. length b.bits) c.push.ensures ∙ length_push frame c.args.bit in
    push_part g.S.Shape.shape g.S.Shape.LEN _ _ _ c.self.inside.before (held ++ frame) (held ++ list) _ c.self.inside.search c.self.inside.search _
    (record { view = c.self.view_is; len_is = g.met.S.Shape.len_is; now_is = joined.1; idle = c.self.invariant.idle })
    c.if-self-2.false still (omega (arith, c.len.ensures.count, c.LEN.ensures, long, c.if-whole.false))
