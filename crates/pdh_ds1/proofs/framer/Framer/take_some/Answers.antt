use Rattle.std.proofs.Common.{◌≡◌, ℕ, ◌*◌, ◌++◌, [], Bool, List, length, take, drop, append_assoc, sym, ap, ◌∙◌, subst, arith}
use Rattle.std.proofs.lemmas.List.{append-nil, take-append-drop}
use Rattle.std.proofs.lemmas.Result.{err_from_is_err_and}
use Rattle.pdh_bits.specs.BitOut.{BoundedBits}
use Rattle.pdh_edge.specs.Ports.{IsPrefix}
use Rattle.pdh_edge.proofs.Runs.{puts_begin}
use Rattle.pdh_framed.proofs.TakeLaws.{takes_quiet, part_join}
use Rattle.pdh_ds1.specs.declared.plan.SuperframePlan.{SuperframePlan}
use Rattle.pdh_ds1.specs.Packing.{word_of, packed_superframes, superframe_of}
use Rattle.pdh_ds1.proofs.FramerLaws.{packed_grows, waits_stands, waits_same, full_stands, full_gained}
use Rattle.pdh_ds1.proofs.framer.Framer.take_some.Goals as goal

pub pack-requires : goal.pack-requires
pack-requires g c =
    let stands = c.requires.stands.1 in
    let room : c.append_some-count.new.self.capacity ≡ c.args.self.now.payload.capacity = ap (λ (p : BoundedBits). p.capacity) c.append_some-count.ensures.bits in
    record { full = omega (arith, room, stands.waiting_room, c.len.ensures.count, c.len.ensures.bounded); room = stands.superframe_room }

pub put_all-requires : goal.put_all-requires
put_all-requires g c = c.requires.list

pub returns-then-len-capacity-clause-taken : goal.returns-then-len-capacity-clause-taken
returns-then-len-capacity-clause-taken g c =
    let f_bits = g.P.InSuperframe.f_bits in
    let plan : SuperframePlan = g.P.InSuperframe.PLAN in
    let self = c.args.self.now in
    let bits : List Bool = take c.append_some-count.result (drop c.args.from c.args.bits.now.bits) in
    let now : BoundedBits = c.append_some-count.new.self in
    let room : now.capacity ≡ self.payload.capacity = ap (λ (p : BoundedBits). p.capacity) c.append_some-count.ensures.bits in
    takes_quiet (packed_superframes f_bits plan.frames) bits _ _ (g.D.Drain.outputs c.args.drain.now) (record {
      stands = λ payload stands. waits_stands f_bits plan g.met.P.InSuperframe.is_plan self.payload self.superframe self.sent payload bits stands now c.append_some-count.ensures.bits (omega (arith, room, stands.waiting_room, c.len.ensures.count));
      same = λ payload stands. waits_same f_bits plan g.met.P.InSuperframe.is_plan self.payload self.superframe self.sent payload bits stands now c.append_some-count.ensures.bits (omega (arith, room, stands.waiting_room, c.len.ensures.count));
    })

pub returns-in_err-put_all-clause-part : goal.returns-in_err-put_all-clause-part
returns-in_err-put_all-clause-part g c =
    let p = err_from_is_err_and c.from_residual.result c.from_residual.ensures.1 in
    let f_bits = g.P.InSuperframe.f_bits in
    let plan : SuperframePlan = g.P.InSuperframe.PLAN in
    let is_plan = g.met.P.InSuperframe.is_plan in
    let self = c.args.self.now in
    let all : List Bool = drop c.args.from c.args.bits.now.bits in
    let count : ℕ = c.append_some-count.result in
    let now : BoundedBits = c.append_some-count.new.self in
    let line : BoundedBits = c.pack.new.self.superframe in
    let far = packed_superframes f_bits plan.frames in
    let outputs = g.D.Drain.outputs in
    let room : now.capacity ≡ self.payload.capacity = ap (λ (p : BoundedBits). p.capacity) c.append_some-count.ensures.bits in
    let made : line.bits ≡ superframe_of f_bits self.sent now.bits plan.frames =
    ap (λ (p : BoundedBits). p.bits) c.pack.ensures.superframe in
    rw p.1
    (record {
      gains = λ payload stands.
          let at : List Bool = payload ++ take count all in
          let whole : at ++ drop count all ≡ payload ++ all = append_assoc payload (take count all) (drop count all) ∙ ap (λ (x : List Bool). payload ++ x) (take-append-drop count all) in
          let full : length now.bits ≡ 192 * plan.frames = omega (arith, room, stands.waiting_room, c.len.ensures.count, c.len.ensures.bounded) in
          let gained = full_gained f_bits plan is_plan self.payload self.superframe self.sent payload (take count all) stands now c.append_some-count.ensures.bits full c.pack.new.self.sent c.pack.ensures.sent in
          part_join far payload payload at (payload ++ all) (outputs c.args.drain.now) (outputs c.args.drain.now) (outputs c.put_all.new.self)
          (subst (λ (x : List Bool). IsPrefix (far at) (far x)) whole (packed_grows f_bits plan.frames at (drop count all) is_plan.some))
          (record { more = []; gained = sym (append-nil (far payload)); puts = puts_begin 0 (outputs c.args.drain.now) })
          (record { more = line.bits; gained = gained ∙ ap (λ (x : List Bool). far payload ++ x) (sym made); puts = c.in_err-put_all.ensures.err });
    })

pub returns-clause-taken : goal.returns-clause-taken
returns-clause-taken g c =
    let f_bits = g.P.InSuperframe.f_bits in
    let plan : SuperframePlan = g.P.InSuperframe.PLAN in
    let is_plan = g.met.P.InSuperframe.is_plan in
    let self = c.args.self.now in
    let bits : List Bool = take c.append_some-count.result (drop c.args.from c.args.bits.now.bits) in
    let now : BoundedBits = c.append_some-count.new.self in
    let line : BoundedBits = c.pack.new.self.superframe in
    let word : ℕ = c.pack.new.self.sent in
    let far = packed_superframes f_bits plan.frames in
    let is = c.append_some-count.ensures.bits in
    let room : now.capacity ≡ self.payload.capacity = ap (λ (p : BoundedBits). p.capacity) is in
    let word_is : word ≡ word_of plan.frames (superframe_of f_bits self.sent now.bits plan.frames) = c.pack.ensures.sent in
    let made : line.bits ≡ superframe_of f_bits self.sent now.bits plan.frames =
    ap (λ (p : BoundedBits). p.bits) c.pack.ensures.superframe in
    record {
      stands = λ payload stands.
          full_stands f_bits plan is_plan self.payload self.superframe self.sent payload bits stands now is (omega (arith, room, stands.waiting_room, c.len.ensures.count, c.len.ensures.bounded)) c.pack.new.self.payload line word c.pack.ensures.waiting
          (ap (λ (p : BoundedBits). p.capacity) c.pack.ensures.superframe) word_is;
      gains = λ payload stands. record {
        more = line.bits;
        gained = full_gained f_bits plan is_plan self.payload self.superframe self.sent payload bits stands now is (omega (arith, room, stands.waiting_room, c.len.ensures.count, c.len.ensures.bounded)) word word_is ∙ ap (λ (x : List Bool). far payload ++ x) (sym made);
        puts = c.in_ok-put_all.ensures.ok;
      };
    }
