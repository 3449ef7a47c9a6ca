use Rattle.std.proofs.Common.{◌≡◌, ◌+◌, ◌-◌, ◌≤◌, ℕ, List, Bool, ◌++◌, length, length-drop, drop, take, refl, sym, ap, ◌∙◌, subst, arith}
use Rattle.pdh_packed.specs.Gaining.{gained}
use Rattle.pdh_tx.specs.Meaning.{plan_in}
use Rattle.pdh_tx.specs.Held.{Held, Gains}
use Rattle.pdh_tx.specs.Passing.{carried_in, HeldAndFilled}
use Rattle.pdh_runs.specs.Pieces.{FillsColumn}
use Rattle.pdh_tx.proofs.SlipSteps.{gone-more, put-more}
use Rattle.pdh_tx.proofs.Passing.{pass_gains, front_room, front_is, queue_is, queue_long, rest_is, carried_is}
use Rattle.pdh_tx.proofs.tributary.Tributary.pass.Goals as goal

pub move_to-requires : goal.move_to-requires
move_to-requires g c =
    let room : c.clear.new.self.capacity ≡ c.args.queue.now.capacity = ap (λ list. list.capacity) c.clear.ensures in
    let none : length c.clear.new.self.bits ≡ 0 = ap (λ list. length list.bits) c.clear.ensures in
    record { room = omega (arith, room, none, c.requires.room.queue_room) }

pub make_clear-requires-clause-room : goal.make_clear-requires-clause-room
make_clear-requires-clause-room g c =
    let room = front_room c.args.queue.now c.clear.new.self c.move_to.new.list c.move_to.new.list c.args.self.now.store c.args.self.now.store c.args.arriving c.clear.ensures refl c.move_to.ensures.moved in
    let front = front_is c.args.queue.now c.clear.new.self c.move_to.new.list c.move_to.new.list c.args.self.now.store c.args.self.now.store c.args.arriving c.clear.ensures refl c.move_to.ensures.moved in
    omega (arith, room, ap length front, c.move_to.ensures.few, c.requires.room.queue_room)

pub put_from-requires : goal.put_from-requires
put_from-requires g c =
    let long = queue_long c.args.queue.now c.clear.new.self c.move_to.new.list c.make_clear.new.into c.args.self.now.store c.args.self.now.store c.args.arriving c.clear.ensures refl c.move_to.ensures.moved c.in_ok-make_clear.ensures.appended.grown in
    let few = c.requires.clear.few c.move_to.ensures.few in
    let count = carried_is g.S.Shape.shape c.args.trib c.args.self.now.share.more c.args.first c.args.len in
    record {
      within = omega (arith, long, count, c.carried-gone.ensures, c.len.ensures.count, c.requires.clear.enough);
      room = omega (arith, long, few, count, c.carried-gone.ensures, c.len.ensures.count, ap length c.move_to.ensures.empty);
    }

pub make_clear-requires-clause-clear : goal.make_clear-requires-clause-clear
make_clear-requires-clause-clear g c = (c.requires.clear.made, c.requires.clear.placed.place, c.requires.clear.clear)

pub returns-clause-ok : goal.returns-clause-ok
returns-clause-ok g c = record {
  rows = c.fill_column.ensures.rows;
  bits = λ made out was.
      let s = g.S.Shape.shape in
      let j : ℕ = c.args.trib in
      let more : Bool = c.args.self.now.share.more in
      let first : ℕ = c.args.first in
      let len : ℕ = c.args.len in
      let arriving : ℕ = c.args.arriving in
      let store : List Bool = c.args.self.now.store in
      let front = c.move_to.new.list in
      let queue = c.make_clear.new.into in
      let bits : List Bool = gained front queue in
      let column : List Bool = c.fill_column.new.column.bits in
      let plan = plan_in c.args.clock.now g.G.SlipLog.takes in
      let gone : ℕ = carried_in s j more first len in
      let count = carried_is s j more first len in
      let makes = c.in_ok-make_clear.ensures.made made was.place in
      let is : queue.bits ≡ store ++ bits = queue_is c.args.queue.now c.clear.new.self front queue store c.args.self.now.store arriving c.clear.ensures refl c.move_to.ensures.moved c.in_ok-make_clear.ensures.appended.grown in
      let long = queue_long c.args.queue.now c.clear.new.self front queue store c.args.self.now.store arriving c.clear.ensures refl c.move_to.ensures.moved c.in_ok-make_clear.ensures.appended.grown in
      let same : c.carried-gone.result ≡ gone = omega (arith, count, c.carried-gone.ensures) in
      let rest : take (c.len.result - c.carried-gone.result) (drop c.carried-gone.result queue.bits) ≡ drop gone (store ++ bits) = ap (λ n. take (n - c.carried-gone.result) (drop c.carried-gone.result queue.bits)) c.len.ensures.count ∙ rest_is queue.bits c.carried-gone.result
      ∙ ap (λ n. drop n queue.bits) same ∙ ap (drop gone) is in
      let now : c.put_from.new.self ≡ drop gone (store ++ bits) = c.put_from.ensures ∙ ap (λ l. l ++ take (c.len.result - c.carried-gone.result) (drop c.carried-gone.result queue.bits)) c.move_to.ensures.empty ∙ rest in
      let enough : gone ≤ length (store ++ bits) = omega (arith, c.requires.clear.enough, long, ap length is) in
      let fills : FillsColumn s j more first len (store ++ bits) column = subst (λ (l : List Bool). FillsColumn s j more first len l column) is c.fill_column.ensures.fills in
      let tx = g.C.Tx in
      let ok = c.in_ok-make_clear.ensures in
      let Q : List Bool → Type 0 = λ l. Gains (tx.meaning c.args.self.now.child) plan (Held tx.stands_for tx.meaning c.args.self.now.child store)
      (HeldAndFilled tx.stands_for tx.meaning s j more first len gone c.make_clear.new.self l column) made (made + arriving) out out (g.F.Feed.inputs c.args.feed.now) (g.F.Feed.inputs c.make_clear.new.feed) in
      record {
        placed = record {
          runs = ok.stopped;
          idles = ok.kept.same_says ∙ was.idles;
          place = makes.place;
          count = omega (arith, gone-more out.edits out.read gone, put-more out.edits made arriving, was.count, enough, long, ap length is, ap length now, length-drop gone (store ++ bits));
        };
        gains = subst Q (sym now)
            (pass_gains tx.stands_at tx.stands_for tx.meaning tx.says c.args.self.now.child c.make_clear.new.self plan store bits made out gone _ _ _ s j more first len column ok.kept.same enough count was.idles makes fills);
      };
}
