use Rattle.std.proofs.Common.{◌≡◌, ◌+◌, ℕ, List, Bool, refl, ap, subst, arith}
use Rattle.pdh_bits.specs.BitOut.{BoundedBits}
use Rattle.pdh_packed.specs.Gaining.{gained}
use Rattle.pdh_tx.specs.Meaning.{plan_in}
use Rattle.pdh_tx.specs.Making.{MakesAll}
use Rattle.pdh_tx.specs.declared.tx.TxStop.TheVariants.{Failed}
use Rattle.pdh_tx.proofs.Telling.{tells_ok, front_none}
use Rattle.pdh_chain.proofs.Lists.{gained_whole}
use Rattle.pdh_chain.proofs.Frames.{free_first, free_clear, free_behind, makes_next}
use Rattle.pdh_chain.proofs.Telling.{none_told}
use Rattle.pdh_chain.proofs.Waiting.{made_of_waiting}
use Rattle.pdh_chain.proofs.sending.make_frames.Goals as goal

pub make_bits-requires-clause-stands : goal.make_bits-requires-clause-stands
make_bits-requires-clause-stands g c = (c.requires.free.0, c.requires.free.1)

pub make_clear-requires-clause-clear : goal.make_clear-requires-clause-clear
make_clear-requires-clause-clear g c =
    let m = g.T.Tx.meaning c.args.sender.now in
    let plan = plan_in c.args.clock.now g.G.SlipLog.takes in
    let x : ℕ = c.requires.free.0 in
    (x, c.requires.free.1, free_clear m plan x (x + c.args.len) (g.F.Feed.inputs c.args.feed.now) (free_first m plan x (x + c.args.len) (x + c.args.clear) (g.F.Feed.inputs c.args.feed.now) (omega (arith, c.if-clear-len.false)) c.requires.free.2))

-- ---- it was made bit by bit

pub returns-in-Ok-clause-made : goal.returns-in-Ok-clause-made
returns-in-Ok-clause-made g c x says here free told = c.in-Ok.ensures.made x says here told

pub returns-in-Ok-clause-told : goal.returns-in-Ok-clause-told
returns-in-Ok-clause-told g c x here free = c.in-Ok.ensures.told x here

pub returns-in-Err-clause-stops : goal.returns-in-Err-clause-stops
returns-in-Err-clause-stops g c = c.in-Err.ensures.stops

pub returns-in-Err-clause-told : goal.returns-in-Err-clause-told
returns-in-Err-clause-told g c x here free = c.in-Err.ensures.told x here

-- ---- it was made at once

pub returns-in-Ok-make_clear-clause-made : goal.returns-in-Ok-make_clear-clause-made
returns-in-Ok-make_clear-clause-made g c x says here free told =
    let m = g.T.Tx.meaning c.args.sender.now in
    let plan = plan_in c.args.clock.now g.G.SlipLog.takes in
    let len : ℕ = c.args.len in
    let bits : List Bool = c.make_clear.new.into.bits in
    let whole : gained c.clear.new.self c.make_clear.new.into ≡ bits = gained_whole c.clear.new.self c.make_clear.new.into (ap (λ (b : BoundedBits). b.bits) c.clear.ensures) in
    makes_next m m says (g.T.Tx.says c.args.sender.now) _ _ _ plan x len len bits _ _ refl refl told (free_first m plan x (x + len) (x + c.args.clear) (g.F.Feed.inputs c.args.feed.now) (omega (arith, c.if-clear-len.false)) free).free
    (subst (λ (l : List Bool). MakesAll m (g.T.Tx.says c.args.sender.now) (g.T.Tx.stands_at c.make_clear.new.self plan) (g.T.Tx.stands_for c.args.sender.now) (g.T.Tx.stands_for c.make_clear.new.self) plan x (x + len) l (g.F.Feed.inputs c.args.feed.now) (g.F.Feed.inputs c.make_clear.new.feed)) whole
    (c.in-Ok-make_clear.ensures.made x here))

pub returns-in-Ok-make_clear-clause-told : goal.returns-in-Ok-make_clear-clause-told
returns-in-Ok-make_clear-clause-told g c x here free =
    let m = g.T.Tx.meaning c.args.sender.now in
    let plan = plan_in c.args.clock.now g.G.SlipLog.takes in
    let now = free_first m plan x (x + c.args.len) (x + c.args.clear) (g.F.Feed.inputs c.args.feed.now) (omega (arith, c.if-clear-len.false)) free in
    tells_ok tt (none_told g.G.SlipLog m plan x c.args.len _ _ now.no_slip c.make_clear.ensures.told)

-- ---- a call for its bits failed

pub returns-in-Err-make_clear-clause-stops : goal.returns-in-Err-make_clear-clause-stops
returns-in-Err-make_clear-clause-stops g c = (c.in-Err-make_clear.ensures.halts, c.in-Err-make_clear.ensures.fed.cause)

pub returns-in-Err-make_clear-clause-told : goal.returns-in-Err-make_clear-clause-told
returns-in-Err-make_clear-clause-told g c x here free =
    let m = g.T.Tx.meaning c.args.sender.now in
    let plan = plan_in c.args.clock.now g.G.SlipLog.takes in
    let now = free_first m plan x (x + c.args.len) (x + c.args.clear) (g.F.Feed.inputs c.args.feed.now) (omega (arith, c.if-clear-len.false)) free in
    record {
      all = tt;
      front = front_none g.G.SlipLog (record { nothing = g.met.G.SlipLog.logged_nothing; joins = g.met.G.SlipLog.logged_join; breaks = g.met.G.SlipLog.broken_join }) _ _ _ Failed (λ is. cc)
          (none_told g.G.SlipLog m plan x c.args.len _ _ now.no_slip c.make_clear.ensures.told);
    }

-- ---- it was made of bits that wait

pub make_waiting-requires-clause-clear : goal.make_waiting-requires-clause-clear
make_waiting-requires-clause-clear g c =
    let waiting = c.requires.waiting c.if-waits.true in
    (waiting.0, waiting.1, free_clear (g.T.Tx.meaning c.args.sender.now) (plan_in c.args.clock.now g.G.SlipLog.takes) waiting.0 (waiting.0 + c.args.len) _ waiting.2)

pub returns-then-waits-clause-made : goal.returns-then-waits-clause-made
returns-then-waits-clause-made g c x says here free told =
    let m = g.T.Tx.meaning c.args.sender.now in
    let plan = plan_in c.args.clock.now g.G.SlipLog.takes in
    let len : ℕ = c.args.len in
    let bits : List Bool = c.make_waiting.new.frame.bits in
    let whole : gained c.clear.new.self c.make_waiting.new.frame ≡ bits = gained_whole c.clear.new.self c.make_waiting.new.frame (ap (λ (b : BoundedBits). b.bits) c.clear.ensures) in
    makes_next m m says (g.T.Tx.says c.args.sender.now) _ _ _ plan x len len bits _ _ refl refl told (free_first m plan x (x + len) (x + c.args.clear) (g.F.Feed.inputs c.args.feed.now) (omega (arith, c.if-clear-len.false)) free).free
    (subst (λ (l : List Bool). MakesAll m (g.T.Tx.says c.args.sender.now) (g.T.Tx.stands_at c.make_waiting.new.sender plan) (g.T.Tx.stands_for c.args.sender.now) (g.T.Tx.stands_for c.make_waiting.new.sender) plan x (x + len) l (g.F.Feed.inputs c.args.feed.now) (g.F.Feed.inputs c.make_waiting.new.feed)) whole
    (made_of_waiting m (g.T.Tx.says c.args.sender.now) _ _ _ plan x (x + len) _ c.make_waiting.ensures.takes (c.make_waiting.ensures.waiting x here)))

pub returns-then-waits-clause-waiting : goal.returns-then-waits-clause-waiting
returns-then-waits-clause-waiting g c waits enough x to here free =
    free_behind (g.T.Tx.meaning c.args.sender.now) (g.T.Tx.says c.args.sender.now) _ _ _ (plan_in c.args.clock.now g.G.SlipLog.takes) x (x + c.args.len) to _ _ _ (omega arith) (c.make_waiting.ensures.waiting x here) free

pub returns-then-waits-clause-told : goal.returns-then-waits-clause-told
returns-then-waits-clause-told g c x here free =
    let m = g.T.Tx.meaning c.args.sender.now in
    let plan = plan_in c.args.clock.now g.G.SlipLog.takes in
    let now = free_first m plan x (x + c.args.len) (x + c.args.clear) (g.F.Feed.inputs c.args.feed.now) (omega (arith, c.if-clear-len.false)) free in
    tells_ok tt (none_told g.G.SlipLog m plan x c.args.len _ _ now.no_slip c.make_waiting.ensures.told)
