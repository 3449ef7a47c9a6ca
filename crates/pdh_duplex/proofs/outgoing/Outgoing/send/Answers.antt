use Rattle.std.proofs.Common.{◌≡◌, ◌+◌, ◌*◌, ℕ, suc, Bool, List, [], ◌∷◌, ap, sym, ◌∙◌, subst, arith}
use Rattle.std.proofs.lemmas.List.{length-append}
use Rattle.pdh_bits.specs.BitOut.{BoundedBits}
use Rattle.pdh_packed.specs.Gaining.{gained}
use Rattle.pdh_shape.specs.declared.role.Service.{Service}
use Rattle.pdh_shape.specs.Frame.{FrameShape}
use Rattle.pdh_nesting.specs.Chains.{top_len}
use Rattle.pdh_line.specs.Paths.{top}
use Rattle.pdh_tx.specs.Meaning.{Plan, Supply, Meaning, plan_of}
use Rattle.pdh_chain.specs.Chains.{shapes_of}
use Rattle.pdh_chain.specs.Trees.{AreLevelsOf, sender_of}
use Rattle.pdh_chain.proofs.ChainLaws.{few_shapes, are_levels_of}
use Rattle.pdh_chain.proofs.Lists.{gained_whole}
use Rattle.pdh_chain.proofs.Muxed.{nodes_held}
use Rattle.pdh_chain.proofs.Tolerated.{at_top}
use Rattle.pdh_duplex.specs.Sending.{IsSupply}
use Rattle.pdh_duplex.proofs.FramesSent.{lists_held, goes_on, makes_as, leaves_after, stands_after, frame_made}
use Rattle.pdh_duplex.proofs.outgoing.Outgoing.send.Goals as goal

pub make_clear-requires-clause-running : goal.make_clear-requires-clause-running
make_clear-requires-clause-running g c = c.set.ensures.stopped ∙ c.requires.can.3.sent.runs

pub make_clear-requires-clause-fed : goal.make_clear-requires-clause-fed
make_clear-requires-clause-fed g c =
    let z = c.requires.can.0 in
    let can = c.requires.can.3 in
    let shapes : List FrameShape = shapes_of z.chain in
    let same = c.set.ensures.meaning ∙ can.sent.means in
    record {
      lists = lists_held z c.args.clock.now can.clock_is c.requires.can.1 _ _ can.sent.leaves same;
      nodes = nodes_held shapes c.args.clock.now.levels _ same (at_top shapes (few_shapes z.chain)) (subst (AreLevelsOf shapes) (sym can.clock_is.levels) (are_levels_of z.chain));
    }

pub make_clear-requires-clause-clear : goal.make_clear-requires-clause-clear
make_clear-requires-clause-clear g c =
    let z = c.requires.can.0 in
    let n : ℕ = c.requires.can.1 in
    let can = c.requires.can.3 in
    let len : ℕ = top_len (shapes_of z.chain) in
    let clock = c.args.clock.now in
    let to : suc n * len ≡ n * len + c.args.len = omega (arith, can.len_is) in
    (n * len, c.set.ensures.placed (plan_of clock) (n * len) can.sent.stands, goes_on z clock can.clock_is n _ _ _ can.fewer can.sent.leaves (c.set.ensures.meaning ∙ can.sent.means) to)

pub returns-clause-sent : goal.returns-clause-sent
returns-clause-sent g c z n says can =
    let shapes : List FrameShape = shapes_of z.chain in
    let len : ℕ = top_len shapes in
    let plan : Plan = plan_of c.args.clock.now in
    let m : Meaning = sender_of shapes top 0 in
    let say : Service = c.args.say in
    let bits : List Bool = c.make_clear.new.into.bits in
    let whole : gained c.clear.new.self c.make_clear.new.into ≡ bits = gained_whole c.clear.new.self c.make_clear.new.into (ap (λ (b : BoundedBits). b.bits) c.clear.ensures) in
    let to : n * len + c.args.len ≡ suc n * len = omega (arith, can.len_is) in
    let made = makes_as (g.T.Tx.meaning c.set.new.self) m (g.T.Tx.says c.set.new.self) say (g.T.Tx.stands_at c.make_clear.new.self plan) (g.T.Tx.stands_for c.set.new.self) (g.T.Tx.stands_for c.make_clear.new.self) plan (n * len) (n * len + c.args.len) (suc n * len) _ bits _ _
    (c.set.ensures.meaning ∙ can.sent.means) c.set.ensures.says to whole (c.in-Ok.ensures.made (n * len) (c.set.ensures.placed plan (n * len) can.sent.stands)) in
    let holds = λ (supply : Supply) (s : IsSupply z c.args.clock.now says supply). c.set.ensures.held supply (n * len) (can.sent.holds supply s) in
    record {
      count = omega (arith, length-append says (say ∷ []), can.sent.count);
      means = c.in-Ok.ensures.kept.same ∙ c.set.ensures.meaning ∙ can.sent.means;
      runs = c.in-Ok.ensures.stopped;
      stands = made.place;
      holds = stands_after z c.args.clock.now can.clock_is n says say can.sent.count _ _ _ bits _ _ made holds can.sent.leaves;
      leaves = leaves_after z c.args.clock.now can.clock_is n says say can.sent.count _ _ _ bits _ _ made holds can.sent.leaves c.in-Ok.ensures.fed.fed;
    }

pub returns-clause-frame : goal.returns-clause-frame
returns-clause-frame g c z n says can =
    let shapes : List FrameShape = shapes_of z.chain in
    let len : ℕ = top_len shapes in
    let plan : Plan = plan_of c.args.clock.now in
    let m : Meaning = sender_of shapes top 0 in
    let say : Service = c.args.say in
    let bits : List Bool = c.make_clear.new.into.bits in
    let whole : gained c.clear.new.self c.make_clear.new.into ≡ bits = gained_whole c.clear.new.self c.make_clear.new.into (ap (λ (b : BoundedBits). b.bits) c.clear.ensures) in
    let to : n * len + c.args.len ≡ suc n * len = omega (arith, can.len_is) in
    let made = makes_as (g.T.Tx.meaning c.set.new.self) m (g.T.Tx.says c.set.new.self) say (g.T.Tx.stands_at c.make_clear.new.self plan) (g.T.Tx.stands_for c.set.new.self) (g.T.Tx.stands_for c.make_clear.new.self) plan (n * len) (n * len + c.args.len) (suc n * len) _ bits _ _
    (c.set.ensures.meaning ∙ can.sent.means) c.set.ensures.says to whole (c.in-Ok.ensures.made (n * len) (c.set.ensures.placed plan (n * len) can.sent.stands)) in
    let holds = λ (supply : Supply) (s : IsSupply z c.args.clock.now says supply). c.set.ensures.held supply (n * len) (can.sent.holds supply s) in
    frame_made z c.args.clock.now can.clock_is n says say can.sent.count _ _ _ bits _ _ made holds can.sent.leaves
