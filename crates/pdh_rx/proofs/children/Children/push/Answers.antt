use Rattle.std.proofs.Common.{◌≡◌, ℕ, sym, ◌∙◌, subst, Bool, List, [], ◌∷◌, map}
use Rattle.std.proofs.lemmas.List.{append-nil}
use Rattle.std.proofs.lemmas.Result.{on_ok_weaker, on_err_weaker}
use Rattle.pdh_watch.specs.declared.event.Event.{Event}
use Rattle.pdh_watch.specs.Seen.{SawPart}
use Rattle.pdh_edge.specs.Ports.{only}
use Rattle.pdh_events.specs.Acts.Act.{Give}
use Rattle.pdh_events.specs.laws.ActsLaws.{bits_to}
use Rattle.pdh_rx.proofs.OneChild.{child_of, child_ready, child_keeps, still_children, child_notes_at, each_with_bits, gains_of_one, part_of_one}
use Rattle.pdh_rx.proofs.Gains.{on_ok_both, on_err_both, gives_same, part_same}
use Rattle.pdh_rx.proofs.children.Children.push.Goals as goal

pub push-requires : goal.push-requires
push-requires g c =
    let child = child_of g.C.Rx.meaning c.self.inside.list.items g.S.Shape.TRIBS c.args.trib c.index_mut-child.result.now c.self.invariant c.requires.known c.index_mut-child.ensures.value in
    let ready = child_ready g.C.Rx.stands g.C.Rx.meaning c.self.inside.list.items c.args.self.now c.args.trib c.index_mut-child.result.now (g.D.Drain.outputs c.args.drain.now) child c.self.view_is c.requires.ready in
    record { stands = ready.0; lists = ready.1 }

-- one bit is the only one
one_bit : (trib : ℕ) (bit : Bool) (j : ℕ) → bits_to (Give trib bit ∷ []) j ≡ only trib bit j
one_bit trib bit j = append-nil (only trib bit j)

pub returns : goal.returns
returns g c =
    let child = child_of g.C.Rx.meaning c.self.inside.list.items g.S.Shape.TRIBS c.args.trib c.index_mut-child.result.now c.self.invariant c.requires.known c.index_mut-child.ensures.value in
    let t = c.args.trib in
    let bit = c.args.bit in
    let ms = map g.C.Rx.meaning c.self.inside.list.items in
    let m = g.C.Rx.meaning c.index_mut-child.result.now in
    let sound = g.met.C.Rx.sound c.index_mut-child.result.now in
    let events_are = λ (lines : ℕ → List Bool). sym (append-nil _ ∙ child_notes_at ms t m (lines t) bit child.known) in
    rw (← c.self.view_is) (record {
      played = on_ok_weaker c.push.result (λ both. record {
        gives = gives_same g.C.Rx.stands ms (only t bit) (bits_to (Give t bit ∷ [])) _ _ _ _ (one_bit t bit) (record {
          each = λ lines each. each_with_bits g.C.Rx.stands _ lines t (bit ∷ []) c.push.new.self each (both.0 (lines t) (each t _ child.here));
          gains = λ lines each. gains_of_one _ lines t (bit ∷ []) m child.known c.self.invariant.disjoint sound _ _ (both.1.0 (lines t) (each t _ child.here));
        });
        sees = λ lines each. (let P : List Event → Type 0 = λ x. g.W.Watch.saw c.args.watch.now x c.push.new.watch in subst P (events_are lines) (both.1.1 (lines t) (each t _ child.here)));
      }) (on_ok_both _ _ c.push.result c.push.ensures.stands (on_ok_both _ _ c.push.result c.push.ensures.put c.push.ensures.seen));
      part = on_err_weaker c.push.result (λ both. record {
        gives = part_same g.C.Rx.stands ms (only t bit) (bits_to (Give t bit ∷ [])) _ _ _ (one_bit t bit) (record {
          gains = λ lines each. part_of_one _ lines t (bit ∷ []) m child.known c.self.invariant.disjoint sound _ _ (both.0 (lines t) (each t _ child.here));
        });
        sees = λ lines each. (let P : List Event → Type 0 = λ x. SawPart g.W.Watch.saw c.args.watch.now x c.push.new.watch in subst P (events_are lines) (both.1 (lines t) (each t _ child.here)));
      }) (on_err_both _ _ c.push.result c.push.ensures.put_err c.push.ensures.seen_err);
      kept = child_keeps g.C.Rx.meaning g.D.Drain.drain_faults g.D.Drain.drained _ _ _ _ _ _ _ c.push.ensures.same c.index_mut-child.ensures.value c.push.ensures.drained c.push.ensures.cause;
    })

pub invariant_of-self : goal.invariant_of-self
invariant_of-self g c = still_children g.C.Rx.meaning c.self.inside.list.items g.S.Shape.TRIBS c.args.trib c.index_mut-child.result.now c.push.new.self c.push.ensures.same c.index_mut-child.ensures.value c.self.invariant
