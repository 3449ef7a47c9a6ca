use Rattle.std.proofs.Common.{◌≡◌, ◌<◌, ◌/◌, inl, inr, Bool, List, [], length, replicate, ap, sym, ◌∙◌, arith}
use Rattle.std.proofs.lemmas.Bool.{cases_lt, lt-ltb}
use Rattle.std.proofs.lemmas.List.{length-replicate}
use Rattle.pdh_edge.specs.MemLists.{outputs_of, room_of}
use Rattle.pdh_edge.specs.Ports.{Outputs}
use Rattle.pdh_smoothing.proofs.receiving.mark_lists.Goals as goal

pub loop-trib-init : goal.loop-trib-init
loop-trib-init g c = record {
  lists = c.in_ok-port.ensures.outputs ∙ ap (λ n. outputs_of (replicate n [])) (omega (arith, c.from.ensures));
  unfailed = c.in_ok-port.ensures.drain_faults;
  room = λ j less. absurd (omega (arith, less));
}

pub room-requires : goal.room-requires
room-requires g c =
    let leaf = c.from-in-loop-trib.result in
    record {
      held = ap (λ (o : Outputs). o.holds leaf) c.loop-trib.invariant.lists ∙ lt-ltb leaf (length (replicate g.S.Shape.TRIBS [])) (omega (arith, length-replicate {A = List Bool} g.S.Shape.TRIBS [], c.from-in-loop-trib.ensures));
    }

pub loop-trib-preserved : goal.loop-trib-preserved
loop-trib-preserved g c = record {
  lists = c.room.ensures.outputs ∙ c.loop-trib.invariant.lists;
  unfailed = c.room.ensures.drain_faults ∙ c.loop-trib.invariant.unfailed;
  room = λ j less. elim (cases_lt j c.loop-trib.trib) [
    | inl before ↦ omega (arith, c.loop-trib.invariant.room j before, c.room.ensures.rooms j)
    | inr at ↦ (let is : c.from-in-loop-trib.result ≡ j = omega (arith, less, at, c.from-in-loop-trib.ensures) in omega (arith, ap (room_of c.room.new.self) is, c.in_ok-room.ensures.room))
  ];
}

pub returns : goal.returns
returns g c = record {
  lists = c.loop-trib.invariant.lists ∙ ap (λ n. outputs_of (replicate n [])) (sym g.met.S.Shape.tribs_is);
  unfailed = c.loop-trib.invariant.unfailed;
  room = λ j less.
      let known : j < c.loop-trib.trib = omega (arith, less, g.met.S.Shape.tribs_is) in
      let same : c.args.bits / g.S.Shape.shape.len ≡ c.args.bits / g.S.Shape.LEN = ap (λ n. c.args.bits / n) g.met.S.Shape.len_is in
      let here : c.args.bits / c.LEN.result ≡ c.args.bits / g.S.Shape.LEN = ap (λ n. c.args.bits / n) (omega (arith, c.LEN.ensures)) in
      omega (arith, c.loop-trib.invariant.room j known, same, here);
}
