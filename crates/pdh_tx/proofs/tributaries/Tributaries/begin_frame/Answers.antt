use Rattle.std.proofs.Common.{rules, ◌≡◌, ◌<◌, ◌≤◌, ℕ, length, map, refl, sym, ap, ◌∙◌, subst, arith, Err}
use Rattle.std.proofs.lemmas.List.{length-map}
use Rattle.pdh_shape.specs.Frame.{FrameShape}
use Rattle.pdh_tx.specs.Meaning.{plan_in, Plan}
use Rattle.pdh_tx.specs.Held.{Placed, Held}
use Rattle.pdh_tx.specs.Tributary.{placed_in, held_in, meaning_in, child_in, store_in}
use Rattle.pdh_tx.specs.Node.{came_to}
use Rattle.pdh_tx.specs.Slipping.{read_to}
use Rattle.pdh_tx.proofs.Readouts.{IsCount, more-by}
use Rattle.pdh_tx.proofs.Lists.{transfer}
use Rattle.pdh_tx.proofs.Moving.{inside}
use Rattle.pdh_tx.proofs.FrameStarts.{started, meanings, blocked_none}
use Rattle.pdh_tx.proofs.Telling.{tells_err, front_first}
use Rattle.pdh_tx.specs.declared.tx.TxStop.TheVariants.{NoFrame}
use Rattle.pdh_tx.proofs.tributaries.Tributaries.begin_frame.Goals as goal

pub returns-clause-decided : goal.returns-clause-decided
returns-clause-decided g c j w e =
    let s : FrameShape = g.S.Shape.shape in
    let n : ℕ = c.args.frame in
    let plan : Plan = plan_in c.args.clock.now g.G.SlipLog.takes in
    let was = transfer child_in store_in (λ child store j. Placed g.C.Tx.stands_at g.C.Tx.says g.C.Tx.is_stopped child store plan (came_to s c.args.path plan n 0 0 j) (read_to s c.args.path plan n 0 j))
    c.take_first.new.self.list.items c.decide_all.new.self.list.items c.decide_all.ensures.child c.decide_all.ensures.store c.in_ok-take_first.ensures.ok.place j w e in
    let count = was.count in
    let long : length c.decide_all.new.self.list.items ≡ g.S.Shape.TRIBS = sym (length-map c.decide_all.new.self.list.items (child_in {C = g.row.C.Denot})) ∙ ap length c.decide_all.ensures.child ∙ length-map c.take_first.new.self.list.items (child_in {C = g.row.C.Denot})
    ∙ sym (length-map c.take_first.new.self.list.items (meaning_in g.C.Tx)) ∙ ap length c.in_ok-take_first.ensures.same ∙ length-map c.args.self.now.list.items (meaning_in g.C.Tx) ∙ c.args.self.now.count in
    let known : j < g.S.Shape.TRIBS = omega (arith, inside c.decide_all.new.self.list.items j w e, long) in
    let fits = c.decide_all.ensures.fits j known in
    record {
      arriving = c.decide_all.ensures.arriving j w e;
      fits = omega (arith, fits, g.met.S.Shape.len_is);
      more = c.decide_all.ensures.more j w e
          ∙ more-by s j (plan.counts c.args.path j) plan.mode n (length (store_in w)) g.met.S.Shape.is_frame c.args.self.now.stores
          (subst (IsCount s j (plan.counts c.args.path j) (read_to s c.args.path plan n 0 j) (length (store_in w))) (started (placed_in g.C.Tx) (held_in g.C.Tx) (meaning_in g.C.Tx) plan s c.args.path n 0 j) count);
    }

pub returns-clause-ok : goal.returns-clause-ok
returns-clause-ok g c =
    let s : FrameShape = g.S.Shape.shape in
    let n : ℕ = c.args.frame in
    let plan : Plan = plan_in c.args.clock.now g.G.SlipLog.takes in
    let ok = c.in_ok-take_first.ensures.ok in
    record {
      place = transfer child_in store_in (λ child store j. Placed g.C.Tx.stands_at g.C.Tx.says g.C.Tx.is_stopped child store plan (came_to s c.args.path plan n 0 0 j) (read_to s c.args.path plan n 0 j))
          c.take_first.new.self.list.items c.decide_all.new.self.list.items c.decide_all.ensures.child c.decide_all.ensures.store ok.place;
      moves = record {
        given = ok.moves.given;
        takes = ok.moves.takes;
        others = ok.moves.others;
        exact = ok.moves.exact;
        onward = λ supply is each agrees.
            transfer child_in store_in (λ child store j. Held g.C.Tx.stands_for g.C.Tx.meaning child store supply (came_to s c.args.path plan n 0 0 j) (read_to s c.args.path plan n 0 j))
            c.take_first.new.self.list.items c.decide_all.new.self.list.items c.decide_all.ensures.child c.decide_all.ensures.store (ok.moves.onward supply is each agrees);
      };
      free = ok.free;
    }

pub returns-clause-same : goal.returns-clause-same
returns-clause-same g c =
    meanings g.C.Tx c.decide_all.new.self.list.items ∙ ap (map g.C.Tx.meaning) c.decide_all.ensures.child ∙ sym (meanings g.C.Tx c.take_first.new.self.list.items) ∙ c.in_ok-take_first.ensures.same

pub returns-then-frame-frames-clause-err : goal.returns-then-frame-frames-clause-err
returns-then-frame-frames-clause-err g c =
    let plan : Plan = plan_in c.args.clock.now g.G.SlipLog.takes in
    let none : plan.frames c.args.path ≤ c.args.frame = omega (arith, c.if-frame-frames.true, c.frames.ensures) in
    blocked_none (placed_in g.C.Tx) (held_in g.C.Tx) (meaning_in g.C.Tx) plan g.S.Shape.shape c.args.path c.args.self.now.list.items c.args.frame _ _
    (λ v n k. g.met.C.Tx.grows v.child plan n k) none

pub returns-then-frame-frames-clause-told : goal.returns-then-frame-frames-clause-told
returns-then-frame-frames-clause-told g c =
    tells_err _ (NoFrame c.args.path) refl (front_first g.G.SlipLog (record { nothing = g.met.G.SlipLog.logged_nothing; joins = g.met.G.SlipLog.logged_join; breaks = g.met.G.SlipLog.broken_join }) c.args.log.now _ (NoFrame c.args.path) (λ h. cc))

pub returns-in_err-take_first-clause-told : goal.returns-in_err-take_first-clause-told
returns-in_err-take_first-clause-told g c =
    let e : c.from_residual.result ≡ Err c.in_err-take_first.field-0.0 = search rules in
    tells_err c.from_residual.result c.in_err-take_first.field-0.0 e c.in_err-take_first.ensures.told.front
