-- Each way out of a push is a turn of the machine.
use Rattle.std.proofs.Common.{◌≡◌, ◌*◌, ◌<◌, ◌≤◌, Bool, cond, List, [], ◌∷◌, ◌++◌, length, take, drop, sym, ap, ◌∙◌, subst, arith, length-drop}
use Rattle.std.proofs.lemmas.List.{take_all}
use Rattle.pdh_shape.specs.Frame.{wrong}
use Rattle.pdh_line.specs.Tracking.{is_confirmed}
use Rattle.pdh_align.specs.Searching.{Searches}
use Rattle.pdh_align.proofs.Turns.{push_search_short, push_search_confirmed, push_search_rejected, push_part, push_lost, push_frame}
use Rattle.pdh_align.proofs.ReadyFrames.{length_search, length_part, begun_push, joins_ring, joins_list, ring_alone, list_alone, holds_search, holds_aligned, holds_frame}
use Rattle.pdh_align.proofs.aligner.Aligner.end_turn.Goals as goal

pub invariant_of-self : goal.invariant_of-self
invariant_of-self g c =
    let s = g.S.Shape.shape in
    let ring : List Bool = c.append_bit.new.self.bits in
    let ring_is : ring ≡ cond c.self.inside.fresh [] c.self.inside.held.bits ++ c.args.bit ∷ [] = ap (λ b. b.bits) c.append_bit.ensures ∙ ap (λ b. b.bits ++ c.args.bit ∷ []) c.clear_ready.ensures.held in
    let list_is : c.clear_ready.new.frame.bits ≡ cond c.self.inside.fresh [] c.self.inside.frame.bits = ap (λ b. b.bits) c.clear_ready.ensures.frame in
    let joined = joins_ring c.self.inside.fresh c.self.inside.held.bits c.self.inside.frame.bits ring c.clear_ready.new.frame.bits (c.args.bit ∷ []) (c.self.invariant.unlisted c.if-self.true) ring_is list_is in
    let room : c.append_bit.new.self.capacity ≡ c.self.inside.held.capacity = ap (λ b. b.capacity) c.append_bit.ensures ∙ ap (λ b. b.capacity) c.clear_ready.ensures.held in
    let list_room : c.clear_ready.new.frame.capacity ≡ c.self.inside.frame.capacity = ap (λ b. b.capacity) c.clear_ready.ensures.frame in
    let begun = begun_push s c.self.inside.search c.push.new.self c.self.inside.fresh c.self.inside.held.bits ring c.args.bit (c.self.invariant.idle c.if-self.true) ring_is c.push.ensures (c.self.invariant.begun c.if-self.true) in
    holds_search s g.S.Shape.LEN c.self.inside.signals _ _ c.append_bit.new.self c.clear_ready.new.frame c.push.new.self c.self.inside.before c.self.invariant.judges (room ∙ c.self.invariant.room) (list_room ∙ c.self.invariant.list_room)
    c.self.invariant.three c.if-self.true c.clear_ready.ensures.fresh (omega (arith, c.held.ensures.count, c.LEN.ensures, c.if-held-LEN.true)) joined.0 begun.0 begun.1

pub returns-then-held-LEN : goal.returns-then-held-LEN
returns-then-held-LEN g c =
    let ring : List Bool = c.append_bit.new.self.bits in
    let list : List Bool = c.clear_ready.new.frame.bits in
    let ring_is : ring ≡ cond c.self.inside.fresh [] c.self.inside.held.bits ++ c.args.bit ∷ [] = ap (λ b. b.bits) c.append_bit.ensures ∙ ap (λ b. b.bits ++ c.args.bit ∷ []) c.clear_ready.ensures.held in
    let list_is : list ≡ cond c.self.inside.fresh [] c.self.inside.frame.bits = ap (λ b. b.bits) c.clear_ready.ensures.frame in
    let joined = joins_ring c.self.inside.fresh c.self.inside.held.bits c.self.inside.frame.bits ring list (c.args.bit ∷ []) (c.self.invariant.unlisted c.if-self.true) ring_is list_is in
    push_search_short g.S.Shape.shape g.S.Shape.LEN _ _ _ c.self.inside.before (c.self.inside.held.bits ++ c.self.inside.frame.bits) (ring ++ list) _ c.self.inside.search c.push.new.self _
    (record { view = c.self.view_is; len_is = g.met.S.Shape.len_is; now_is = joined.1; idle = c.self.invariant.idle })
    c.if-self.true c.clear_ready.ensures.fresh c.push.ensures (omega (arith, c.held.ensures.count, c.LEN.ensures, c.if-held-LEN.true, ap length (ring_alone ring list joined.0)))

pub invariant_of-self-then-is_confirmed : goal.invariant_of-self-then-is_confirmed
invariant_of-self-then-is_confirmed g c =
    let s = g.S.Shape.shape in
    let ring : List Bool = c.append_bit.new.self.bits in
    let ring_is : ring ≡ cond c.self.inside.fresh [] c.self.inside.held.bits ++ c.args.bit ∷ [] = ap (λ b. b.bits) c.append_bit.ensures ∙ ap (λ b. b.bits ++ c.args.bit ∷ []) c.clear_ready.ensures.held in
    let list_is : c.clear_ready.new.frame.bits ≡ cond c.self.inside.fresh [] c.self.inside.frame.bits = ap (λ b. b.bits) c.clear_ready.ensures.frame in
    let joined = joins_ring c.self.inside.fresh c.self.inside.held.bits c.self.inside.frame.bits ring c.clear_ready.new.frame.bits (c.args.bit ∷ []) (c.self.invariant.unlisted c.if-self.true) ring_is list_is in
    let room : c.append_bit.new.self.capacity ≡ c.self.inside.held.capacity = ap (λ b. b.capacity) c.append_bit.ensures ∙ ap (λ b. b.capacity) c.clear_ready.ensures.held in
    let list_room : c.clear_ready.new.frame.capacity ≡ c.self.inside.frame.capacity = ap (λ b. b.capacity) c.clear_ready.ensures.frame in
    let begun = begun_push s c.self.inside.search c.push.new.self c.self.inside.fresh c.self.inside.held.bits ring c.args.bit (c.self.invariant.idle c.if-self.true) ring_is c.push.ensures (c.self.invariant.begun c.if-self.true) in
    let some : 0 < g.S.Shape.LEN = omega (arith, g.met.S.Shape.is_frame.some_slots, g.met.S.Shape.len_is) in
    let most : length ring ≤ 3 * g.S.Shape.LEN = length_search c.self.inside.fresh c.args.bit c.self.inside.held.bits ring g.S.Shape.LEN some ring_is (c.self.invariant.short c.if-self.true) in
    holds_aligned s g.S.Shape.LEN c.self.inside.signals c.append_bit.new.self c.clear_ready.new.frame c.push.new.self c.clean.result c.clean-then-is_confirmed.result c.clean-then-is_confirmed-2.result c.self.invariant.judges
    (room ∙ c.self.invariant.room) (list_room ∙ c.self.invariant.list_room) some g.met.S.Shape.len_is (omega (arith, c.held.ensures.count, c.LEN.ensures, c.if-held-LEN.false, most)) joined.0
    (sym (c.if-is_confirmed.ensures begun.0 begun.1)) c.clean-then-is_confirmed-2.ensures

pub returns-then-is_confirmed : goal.returns-then-is_confirmed
returns-then-is_confirmed g c =
    let s = g.S.Shape.shape in
    let ring : List Bool = c.append_bit.new.self.bits in
    let list : List Bool = c.clear_ready.new.frame.bits in
    let ring_is : ring ≡ cond c.self.inside.fresh [] c.self.inside.held.bits ++ c.args.bit ∷ [] = ap (λ b. b.bits) c.append_bit.ensures ∙ ap (λ b. b.bits ++ c.args.bit ∷ []) c.clear_ready.ensures.held in
    let list_is : list ≡ cond c.self.inside.fresh [] c.self.inside.frame.bits = ap (λ b. b.bits) c.clear_ready.ensures.frame in
    let joined = joins_ring c.self.inside.fresh c.self.inside.held.bits c.self.inside.frame.bits ring list (c.args.bit ∷ []) (c.self.invariant.unlisted c.if-self.true) ring_is list_is in
    let alone : ring ++ list ≡ ring = ring_alone ring list joined.0 in
    let begun = begun_push s c.self.inside.search c.push.new.self c.self.inside.fresh c.self.inside.held.bits ring c.args.bit (c.self.invariant.idle c.if-self.true) ring_is c.push.ensures (c.self.invariant.begun c.if-self.true) in
    let some : 0 < g.S.Shape.LEN = omega (arith, g.met.S.Shape.is_frame.some_slots, g.met.S.Shape.len_is) in
    let most : length ring ≤ 3 * g.S.Shape.LEN = length_search c.self.inside.fresh c.args.bit c.self.inside.held.bits ring g.S.Shape.LEN some ring_is (c.self.invariant.short c.if-self.true) in
    push_search_confirmed s g.S.Shape.LEN _ _ c.self.inside.before (c.self.inside.held.bits ++ c.self.inside.frame.bits) (ring ++ list) _ c.self.inside.search c.push.new.self _ c.clean.result c.clean-then-is_confirmed.result c.clean-then-is_confirmed-2.result
    (record { view = c.self.view_is; len_is = g.met.S.Shape.len_is; now_is = joined.1; idle = c.self.invariant.idle })
    some c.if-self.true (omega (arith, c.held.ensures.count, c.LEN.ensures, c.if-held-LEN.false, most, ap length alone)) (ap (is_confirmed s) alone ∙ sym (c.if-is_confirmed.ensures begun.0 begun.1)) c.clean.ensures c.clean-then-is_confirmed.ensures c.clean-then-is_confirmed-2.ensures

pub invariant_of-self-then-self : goal.invariant_of-self-then-self
invariant_of-self-then-self g c =
    let s = g.S.Shape.shape in
    let ring : List Bool = c.append_bit.new.self.bits in
    let ring_is : ring ≡ cond c.self.inside.fresh [] c.self.inside.held.bits ++ c.args.bit ∷ [] = ap (λ b. b.bits) c.append_bit.ensures ∙ ap (λ b. b.bits ++ c.args.bit ∷ []) c.clear_ready.ensures.held in
    let list_is : c.clear_ready.new.frame.bits ≡ cond c.self.inside.fresh [] c.self.inside.frame.bits = ap (λ b. b.bits) c.clear_ready.ensures.frame in
    let joined = joins_ring c.self.inside.fresh c.self.inside.held.bits c.self.inside.frame.bits ring c.clear_ready.new.frame.bits (c.args.bit ∷ []) (c.self.invariant.unlisted c.if-self.true) ring_is list_is in
    let room : c.append_bit.new.self.capacity ≡ c.self.inside.held.capacity = ap (λ b. b.capacity) c.append_bit.ensures ∙ ap (λ b. b.capacity) c.clear_ready.ensures.held in
    let list_room : c.clear_ready.new.frame.capacity ≡ c.self.inside.frame.capacity = ap (λ b. b.capacity) c.clear_ready.ensures.frame in
    let begun = begun_push s c.self.inside.search c.push.new.self c.self.inside.fresh c.self.inside.held.bits ring c.args.bit (c.self.invariant.idle c.if-self.true) ring_is c.push.ensures (c.self.invariant.begun c.if-self.true) in
    let some : 0 < g.S.Shape.LEN = omega (arith, g.met.S.Shape.is_frame.some_slots, g.met.S.Shape.len_is) in
    let most : length ring ≤ 3 * g.S.Shape.LEN = length_search c.self.inside.fresh c.args.bit c.self.inside.held.bits ring g.S.Shape.LEN some ring_is (c.self.invariant.short c.if-self.true) in
    let rest : c.drop_oldest.new.self.bits ≡ drop 1 ring = ap (λ b. b.bits) c.drop_oldest.ensures in
    let left : c.drop_oldest.new.self.capacity ≡ c.append_bit.new.self.capacity = ap (λ b. b.capacity) c.drop_oldest.ensures in
    let whole : 3 * g.S.Shape.LEN ≤ length ring = (omega (arith, c.held.ensures.count, c.LEN.ensures, c.if-held-LEN.false)) in
    let kept : Searches s c.give_up.new.self c.drop_oldest.new.self.bits begun.0 = subst (λ x. Searches s c.give_up.new.self x begun.0) (sym rest) (c.give_up.ensures ring begun.0 (omega (arith, whole, some)) begun.1) in
    holds_search s g.S.Shape.LEN c.self.inside.signals _ _ c.drop_oldest.new.self c.clear_ready.new.frame c.give_up.new.self c.self.inside.before c.self.invariant.judges (left ∙ room ∙ c.self.invariant.room) (list_room ∙ c.self.invariant.list_room)
    c.self.invariant.three c.if-self.true c.clear_ready.ensures.fresh (omega (arith, ap length rest, length-drop 1 ring, most, some)) joined.0 begun.0 kept

pub returns-then-self : goal.returns-then-self
returns-then-self g c =
    let s = g.S.Shape.shape in
    let ring : List Bool = c.append_bit.new.self.bits in
    let list : List Bool = c.clear_ready.new.frame.bits in
    let ring_is : ring ≡ cond c.self.inside.fresh [] c.self.inside.held.bits ++ c.args.bit ∷ [] = ap (λ b. b.bits) c.append_bit.ensures ∙ ap (λ b. b.bits ++ c.args.bit ∷ []) c.clear_ready.ensures.held in
    let list_is : list ≡ cond c.self.inside.fresh [] c.self.inside.frame.bits = ap (λ b. b.bits) c.clear_ready.ensures.frame in
    let joined = joins_ring c.self.inside.fresh c.self.inside.held.bits c.self.inside.frame.bits ring list (c.args.bit ∷ []) (c.self.invariant.unlisted c.if-self.true) ring_is list_is in
    let alone : ring ++ list ≡ ring = ring_alone ring list joined.0 in
    let left : c.drop_oldest.new.self.bits ++ list ≡ drop 1 (ring ++ list) = ring_alone c.drop_oldest.new.self.bits list joined.0 ∙ ap (λ b. b.bits) c.drop_oldest.ensures ∙ ap (drop 1) (sym alone) in
    let begun = begun_push s c.self.inside.search c.push.new.self c.self.inside.fresh c.self.inside.held.bits ring c.args.bit (c.self.invariant.idle c.if-self.true) ring_is c.push.ensures (c.self.invariant.begun c.if-self.true) in
    let some : 0 < g.S.Shape.LEN = omega (arith, g.met.S.Shape.is_frame.some_slots, g.met.S.Shape.len_is) in
    push_search_rejected s g.S.Shape.LEN _ _ _ c.self.inside.before (c.self.inside.held.bits ++ c.self.inside.frame.bits) (ring ++ list) (c.drop_oldest.new.self.bits ++ list) _ c.self.inside.search c.push.new.self c.give_up.new.self _
    (record { view = c.self.view_is; len_is = g.met.S.Shape.len_is; now_is = joined.1; idle = c.self.invariant.idle })
    some c.if-self.true c.clear_ready.ensures.fresh c.push.ensures c.give_up.ensures (omega (arith, c.held.ensures.count, c.LEN.ensures, c.if-held-LEN.false, ap length alone)) (ap (is_confirmed s) alone ∙ sym (c.if-is_confirmed.ensures begun.0 begun.1)) left

pub returns-then-len-LEN : goal.returns-then-len-LEN
returns-then-len-LEN g c =
    let ring : List Bool = c.clear_ready.new.held.bits in
    let list : List Bool = c.push-2.new.self.bits in
    let ring_is : ring ≡ cond c.self.inside.fresh [] c.self.inside.held.bits = ap (λ b. b.bits) c.clear_ready.ensures.held in
    let list_is : list ≡ cond c.self.inside.fresh [] c.self.inside.frame.bits ++ c.args.bit ∷ [] = ap (λ b. b.bits) c.push-2.ensures ∙ ap (λ b. b.bits ++ c.args.bit ∷ []) c.clear_ready.ensures.frame in
    let joined = joins_list c.self.inside.fresh c.self.inside.held.bits c.self.inside.frame.bits ring list (c.args.bit ∷ []) (c.self.invariant.listed c.if-self.false) ring_is list_is in
    push_part g.S.Shape.shape g.S.Shape.LEN _ _ _ c.self.inside.before (c.self.inside.held.bits ++ c.self.inside.frame.bits) (ring ++ list) _ c.self.inside.search c.self.inside.search _
    (record { view = c.self.view_is; len_is = g.met.S.Shape.len_is; now_is = joined.1; idle = c.self.invariant.idle })
    c.if-self.false c.clear_ready.ensures.fresh (omega (arith, c.len.ensures.count, c.LEN-2.ensures, c.if-len-LEN.true, ap length (list_alone ring list joined.0)))

pub returns-then-completes_loss : goal.returns-then-completes_loss
returns-then-completes_loss g c =
    let list : List Bool = c.push-2.new.self.bits in
    let ring : List Bool = c.append_from.new.self.bits in
    let emptied : List Bool = c.clear.new.self.bits in
    let was : c.clear_ready.new.held.bits ≡ cond c.self.inside.fresh [] c.self.inside.held.bits = ap (λ b. b.bits) c.clear_ready.ensures.held in
    let list_is : list ≡ cond c.self.inside.fresh [] c.self.inside.frame.bits ++ c.args.bit ∷ [] = ap (λ b. b.bits) c.push-2.ensures ∙ ap (λ b. b.bits ++ c.args.bit ∷ []) c.clear_ready.ensures.frame in
    let joined = joins_list c.self.inside.fresh c.self.inside.held.bits c.self.inside.frame.bits c.clear_ready.new.held.bits list (c.args.bit ∷ []) (c.self.invariant.listed c.if-self.false) was list_is in
    let some : 0 < g.S.Shape.LEN = omega (arith, g.met.S.Shape.is_frame.some_slots, g.met.S.Shape.len_is) in
    let most : length list ≤ g.S.Shape.LEN = length_part c.self.inside.fresh c.args.bit c.self.inside.frame.bits list g.S.Shape.LEN some list_is (c.self.invariant.part c.if-self.false) in
    let ring_is : ring ≡ list = ap (λ b. b.bits) c.append_from.ensures ∙ ap (λ x. x ++ take c.LEN-then-completes_loss.result list) joined.0 ∙ take_all c.LEN-then-completes_loss.result list (omega (arith, most, c.LEN-then-completes_loss.ensures)) in
    let alone : ring ++ emptied ≡ ring = ring_alone ring emptied (ap (λ b. b.bits) c.clear.ensures) in
    let now_is : ring ++ emptied ≡ cond c.self.inside.fresh [] (c.self.inside.held.bits ++ c.self.inside.frame.bits) ++ c.args.bit ∷ [] = alone ∙ ring_is ∙ sym (list_alone c.clear_ready.new.held.bits list joined.0) ∙ joined.1 in
    let d_is : c.wrong-d.result ≡ wrong g.S.Shape.shape (ring ++ emptied) = c.wrong-d.ensures ∙ ap (wrong g.S.Shape.shape) (sym ring_is ∙ sym alone) in
    push_lost g.S.Shape.shape g.S.Shape.LEN _ _ _ c.self.inside.before (c.self.inside.held.bits ++ c.self.inside.frame.bits) (ring ++ emptied) _ c.self.inside.search c.restart.new.self _
    (record { view = c.self.view_is; len_is = g.met.S.Shape.len_is; now_is = now_is; idle = c.self.invariant.idle })
    c.if-self.false c.clear_ready.ensures.fresh (subst (λ x. Searches g.S.Shape.shape c.restart.new.self x x) (sym alone) c.restart.ensures)
    (omega (arith, c.len.ensures.count, c.LEN-2.ensures, c.if-len-LEN.false, most, ap length (alone ∙ ring_is))) (rw (← d_is) (sym c.completes_loss.ensures ∙ c.if-completes_loss.true))

pub invariant_of-self-2 : goal.invariant_of-self-2
invariant_of-self-2 g c =
    let list : List Bool = c.push-2.new.self.bits in
    let ring_is : c.clear_ready.new.held.bits ≡ cond c.self.inside.fresh [] c.self.inside.held.bits = ap (λ b. b.bits) c.clear_ready.ensures.held in
    let list_is : list ≡ cond c.self.inside.fresh [] c.self.inside.frame.bits ++ c.args.bit ∷ [] = ap (λ b. b.bits) c.push-2.ensures ∙ ap (λ b. b.bits ++ c.args.bit ∷ []) c.clear_ready.ensures.frame in
    let joined = joins_list c.self.inside.fresh c.self.inside.held.bits c.self.inside.frame.bits c.clear_ready.new.held.bits list (c.args.bit ∷ []) (c.self.invariant.listed c.if-self.false) ring_is list_is in
    let room : c.clear_ready.new.held.capacity ≡ c.self.inside.held.capacity = ap (λ b. b.capacity) c.clear_ready.ensures.held in
    let list_room : c.push-2.new.self.capacity ≡ c.self.inside.frame.capacity = ap (λ b. b.capacity) c.push-2.ensures ∙ ap (λ b. b.capacity) c.clear_ready.ensures.frame in
    let some : 0 < g.S.Shape.LEN = omega (arith, g.met.S.Shape.is_frame.some_slots, g.met.S.Shape.len_is) in
    let most : length list ≤ g.S.Shape.LEN = length_part c.self.inside.fresh c.args.bit c.self.inside.frame.bits list g.S.Shape.LEN some list_is (c.self.invariant.part c.if-self.false) in
    holds_frame g.S.Shape.shape g.S.Shape.LEN c.self.inside.signals c.self.inside.searching c.clear_ready.new.held c.push-2.new.self c.self.inside.search _ _ c.wrong-d.result c.self.invariant.judges (room ∙ c.self.invariant.room)
    (list_room ∙ c.self.invariant.list_room) some c.if-self.false joined.0 (omega (arith, c.len.ensures.count, c.LEN-2.ensures, c.if-len-LEN.false, most)) c.wrong-d.ensures

pub returns : goal.returns
returns g c =
    let ring : List Bool = c.clear_ready.new.held.bits in
    let list : List Bool = c.push-2.new.self.bits in
    let ring_is : ring ≡ cond c.self.inside.fresh [] c.self.inside.held.bits = ap (λ b. b.bits) c.clear_ready.ensures.held in
    let list_is : list ≡ cond c.self.inside.fresh [] c.self.inside.frame.bits ++ c.args.bit ∷ [] = ap (λ b. b.bits) c.push-2.ensures ∙ ap (λ b. b.bits ++ c.args.bit ∷ []) c.clear_ready.ensures.frame in
    let joined = joins_list c.self.inside.fresh c.self.inside.held.bits c.self.inside.frame.bits ring list (c.args.bit ∷ []) (c.self.invariant.listed c.if-self.false) ring_is list_is in
    let alone : ring ++ list ≡ list = list_alone ring list joined.0 in
    let some : 0 < g.S.Shape.LEN = omega (arith, g.met.S.Shape.is_frame.some_slots, g.met.S.Shape.len_is) in
    let most : length list ≤ g.S.Shape.LEN = length_part c.self.inside.fresh c.args.bit c.self.inside.frame.bits list g.S.Shape.LEN some list_is (c.self.invariant.part c.if-self.false) in
    push_frame g.S.Shape.shape g.S.Shape.LEN _ _ c.self.inside.before (c.self.inside.held.bits ++ c.self.inside.frame.bits) (ring ++ list) _ c.self.inside.search c.self.inside.search _ c.wrong-d.result
    (record { view = c.self.view_is; len_is = g.met.S.Shape.len_is; now_is = joined.1; idle = c.self.invariant.idle })
    some c.if-self.false (omega (arith, c.len.ensures.count, c.LEN-2.ensures, c.if-len-LEN.false, most, ap length alone)) (c.wrong-d.ensures ∙ ap (wrong g.S.Shape.shape) (sym alone)) (sym c.completes_loss.ensures ∙ c.if-completes_loss.false)
