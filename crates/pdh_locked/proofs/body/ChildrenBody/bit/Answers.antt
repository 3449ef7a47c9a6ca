use Rattle.std.proofs.Common.{rules, ◌≡◌, ℕ, [], Err, map, sym, ap, ◌∙◌, arith}
use Rattle.std.proofs.lemmas.Result.{IfOk-weaker, IfErr-weaker}
use Rattle.pdh_tx.specs.Meaning.{plan_in}
use Rattle.pdh_tx.specs.Node.{overhead_bit}
use Rattle.pdh_tx.specs.declared.tx.TxStop.{TxStop}
use Rattle.pdh_tx.specs.declared.tx.TxStop.TheVariants.{NoFrame, LogFailed}
use Rattle.pdh_tx.proofs.Gaining.{if_err_from}
use Rattle.pdh_tx.proofs.Telling.{tells_err, tells_ok, tells_same, all_none, front_first}
use Rattle.pdh_locked.proofs.OneSlot.{read_one, read_none, none_free, none_tells, one_tells}
use Rattle.pdh_locked.proofs.OneBit.{bit_read, read_free, read_blocked, bit_none, begin_blocked}
use Rattle.pdh_locked.proofs.body.ChildrenBody.bit.Goals as goal

pub returns-in_err-begin-clause-err : goal.returns-in_err-begin-clause-err
returns-in_err-begin-clause-err g c =
    let e : c.from_residual.result ≡ Err c.in_err-begin.field-0.0 = search rules in
    if_err_from c.from_residual.result _ c.in_err-begin.field-0.0 e
    (begin_blocked g.C.Tx g.S.Shape.shape c.args.path (plan_in c.args.clock.now g.G.SlipLog.takes) c.args.self.now.list.items c.args.frame c.args.slot _ _ _ (λ child x k. g.met.C.Tx.grows child _ x k) c.in_err-begin.ensures.stop c.in_err-begin.ensures.met)

pub returns-in-Some-clause-made : goal.returns-in-Some-clause-made
returns-in-Some-clause-made g c =
    let s = g.S.Shape.shape in
    let plan = plan_in c.args.clock.now g.G.SlipLog.takes in
    let old = c.args.self.now.list.items in
    let reads = sym c.in-Some.ensures.carried in
    IfOk-weaker c.read.result _ _
    (λ bit made. record {
      gives = bit_read g.C.Tx s c.args.path plan old c.args.frame c.args.slot c.in-Some.trib reads _ c.args.say.now c.args.odd bit _ _ c.args.self.now.locked c.in_ok-begin.ensures.scheduled c.in_ok-begin.ensures.bounded (made _ c.requires.placed.made);
      free = read_free g.C.Tx s c.args.path plan old c.args.frame c.args.slot c.in-Some.trib reads _ bit _ _ c.in_ok-begin.ensures.free (made _ c.requires.placed.made);
    })
    c.read.ensures.read

pub returns-in-Some-clause-err : goal.returns-in-Some-clause-err
returns-in-Some-clause-err g c =
    IfErr-weaker c.read.result _ _
    (λ stop blocked. read_blocked g.C.Tx g.S.Shape.shape c.args.path (plan_in c.args.clock.now g.G.SlipLog.takes) c.args.self.now.list.items c.args.frame c.args.slot c.in-Some.trib (sym c.in-Some.ensures.carried) stop _ _ _ _ c.in_ok-begin.ensures.free
    (let known = c.in-Some.ensures.known in omega (arith, known, g.met.S.Shape.tribs_is)) (blocked _ c.requires.placed.made))
    c.read.ensures.stop

pub returns-in-None-clause-made : goal.returns-in-None-clause-made
returns-in-None-clause-made g c =
    let s = g.S.Shape.shape in
    let plan = plan_in c.args.clock.now g.G.SlipLog.takes in
    let reads = sym c.in-None.ensures.carried in
    record {
      gives = bit_none g.C.Tx s c.args.path plan c.args.self.now.list.items c.args.frame c.args.slot c.args.say.now c.args.odd _ _ c.args.self.now.locked reads
          c.in_ok-begin.ensures.scheduled c.in_ok-begin.ensures.bounded c.requires.placed.made (c.overhead_of.ensures ∙ ap (overhead_bit s c.args.say.now c.args.odd []) c.role.ensures);
      free = λ size fit. none_free s c.args.path plan _ size c.args.frame c.args.slot c.in_ok-begin.ensures.free (read_none (s.role c.args.slot) reads);
    }

no_log : (stop : TxStop) (path : _) → stop ≡ NoFrame path → stop ≡ LogFailed → ⊥
no_log stop path is other = cc

pub returns-in_err-begin-clause-told : goal.returns-in_err-begin-clause-told
returns-in_err-begin-clause-told g c =
    let e : c.from_residual.result ≡ Err c.in_err-begin.field-0.0 = search rules in
    tells_err c.from_residual.result c.in_err-begin.field-0.0 e
    (front_first g.G.SlipLog (record { nothing = g.met.G.SlipLog.logged_nothing; joins = g.met.G.SlipLog.logged_join; breaks = g.met.G.SlipLog.broken_join }) c.args.log.now _ c.in_err-begin.field-0.0 (no_log c.in_err-begin.field-0.0 c.args.path c.in_err-begin.ensures.stop))

pub returns-in-Some-clause-told : goal.returns-in-Some-clause-told
returns-in-Some-clause-told g c =
    let s = g.S.Shape.shape in
    let plan = plan_in c.args.clock.now g.G.SlipLog.takes in
    let ms = map g.C.Tx.meaning c.args.self.now.list.items in
    let i : ℕ = c.in-Some.trib in
    let known = c.in-Some.ensures.known in
    tells_same _ _ (one_tells s plan ms c.args.frame c.args.slot i (omega (arith, known, g.met.S.Shape.tribs_is)) (read_one (s.role c.args.slot) i (sym c.in-Some.ensures.carried)))
    (c.read.ensures.told _ c.requires.placed.made)

pub returns-in-None-clause-told : goal.returns-in-None-clause-told
returns-in-None-clause-told g c =
    let s = g.S.Shape.shape in
    let plan = plan_in c.args.clock.now g.G.SlipLog.takes in
    let ms = map g.C.Tx.meaning c.args.self.now.list.items in
    tells_same _ _ (none_tells s plan ms c.args.frame c.args.slot (read_none (s.role c.args.slot) (sym c.in-None.ensures.carried)))
    (tells_ok _ (all_none g.G.SlipLog (record { nothing = g.met.G.SlipLog.logged_nothing; joins = g.met.G.SlipLog.logged_join; breaks = g.met.G.SlipLog.broken_join }) c.args.log.now))
