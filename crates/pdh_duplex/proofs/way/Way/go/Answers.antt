use Rattle.std.proofs.Common.{◌≡◌, ◌+◌, ◌*◌, ℕ, suc, ◌==◌, Bool, cond, List, [], ◌∷◌, ◌++◌, length, ap, ◌∙◌, subst, arith}
use Rattle.pdh_shape.specs.Frame.{FrameShape}
use Rattle.pdh_nesting.specs.Chains.{top_len}
use Rattle.pdh_script.specs.Scripts.{bytes_added}
use Rattle.pdh_script.specs.Bending.{Bending, added_at, all_brought}
use Rattle.pdh_chain.specs.Chains.{shapes_of}
use Rattle.pdh_duplex.specs.Session.{disturbed_frame, frame_of}
use Rattle.pdh_duplex.specs.Hearing.{hears}
use Rattle.pdh_duplex.specs.Heard.{HasHeard}
use Rattle.pdh_duplex.proofs.FrameLengths.{length-frame, frames_few}
use Rattle.pdh_duplex.proofs.Going.{can_send}
use Rattle.pdh_duplex.proofs.way.Way.go.Goals as goal

pub send-requires-clause-can : goal.send-requires-clause-can
send-requires-clause-can g c =
    let r = c.requires.next in
    (r.0, r.2, r.3, can_send g.T.Tx g.R.Rx g.W.Watch r.0 _ r.1 r.2 r.3 r.4 r.5 _ _ c.args.self.now r.6 r.7)

pub carry-requires-clause-few : goal.carry-requires-clause-few
carry-requires-clause-few g c =
    let r = c.requires.next in
    let z = r.0 in
    let n : ℕ = r.2 in
    let can = can_send g.T.Tx g.R.Rx g.W.Watch r.0 _ r.1 r.2 r.3 r.4 r.5 _ _ c.args.self.now r.6 r.7 in
    let place = ap (λ (b : Bending). b.place) r.7.bender_is in
    let long = ap length (c.send.ensures.frame z n r.3 can) ∙ length-frame z (r.3 ++ c.args.say ∷ []) n in
    omega (arith, place, long, frames_few z n r.6.few r.6.fewer)

pub carry-requires-clause-room : goal.carry-requires-clause-room
carry-requires-clause-room g c =
    let r = c.requires.next in
    let z = r.0 in
    let n : ℕ = r.2 in
    let can = can_send g.T.Tx g.R.Rx g.W.Watch r.0 _ r.1 r.2 r.3 r.4 r.5 _ _ c.args.self.now r.6 r.7 in
    let rows = ap (λ (b : Bending). bytes_added b.rows) r.7.bender_is in
    let long = ap length (c.send.ensures.frame z n r.3 can) ∙ length-frame z (r.3 ++ c.args.say ∷ []) n in
    omega (arith, rows, long, r.7.room)

pub receive-requires-clause-stands : goal.receive-requires-clause-stands
receive-requires-clause-stands g c = (c.requires.next.4.got, c.requires.next.7.has_heard.stands)

pub receive-requires-clause-few : goal.receive-requires-clause-few
receive-requires-clause-few g c = let r = c.requires.next in omega (arith, r.6.few, r.6.fewer, r.7.few_errors)

pub returns-clause-went : goal.returns-clause-went
returns-clause-went g c z rows n says heard first next way =
    let shapes : List FrameShape = shapes_of z.chain in
    let len : ℕ = top_len shapes in
    let frame : List Bool = c.send.new.frame.bits in
    let sent : List Bool = frame_of z (says ++ c.args.say ∷ []) n in
    let last : Bool = c.args.last in
    let is_last : Bool = suc n == z.frames in
    let can = can_send g.T.Tx g.R.Rx g.W.Watch z _ rows n says heard first _ _ c.args.self.now next way in
    let frame_is : frame ≡ sent = c.send.ensures.frame z n says can in
    let long : length frame ≡ len = ap length frame_is ∙ length-frame z (says ++ c.args.say ∷ []) n in
    let place : n * len + length frame ≡ suc n * len = omega (arith, long) in
    let came_is : c.carry.new.self.came.bits ≡ disturbed_frame z rows n sent =
    c.carry.ensures.came ∙ ap (λ (b : Bending). all_brought b.place b.rows frame ++ cond last (added_at (b.place + length frame) b.rows) []) way.bender_is
    ∙ ap (λ last. all_brought (n * len) rows frame ++ cond last (added_at (n * len + length frame) rows) []) next.last_is
    ∙ ap (λ f. all_brought (n * len) rows f ++ cond is_last (added_at (n * len + length f) rows) []) frame_is in
    record {
      sent = c.send.ensures.sent z n says can;
      bender_is = c.carry.ensures.bender ∙ ap (λ (b : Bending). record b { place = b.place + length frame }) way.bender_is ∙ ap (λ p. record { rows = rows; place = p }) place;
      room = omega (arith, way.room, c.carry.ensures.room);
      has_heard = subst (λ more. HasHeard g.R.Rx g.W.Watch shapes (hears shapes more heard) first c.receive.new.self) came_is (c.receive.ensures.heard shapes heard first way.has_heard);
      few_errors = omega (arith, c.receive.ensures.errors, way.few_errors);
    }
