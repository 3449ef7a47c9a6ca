use Rattle.std.proofs.lemmas.Result.{on_ok_weaker, on_err_weaker}
use Rattle.pdh_edge.specs.Ports.{only}
use Rattle.pdh_rx.proofs.Tails.{tail_only}
use Rattle.pdh_rx.proofs.tail.TailRx.push.Goals as goal

pub returns-clause-put : goal.returns-clause-put
returns-clause-put g c = on_ok_weaker c.put.result (λ p line u. record { more = only c.args.self.now.leaf c.args.bit; gained = tail_only c.args.self.now.leaf line c.args.bit; puts = p }) c.put.ensures.ok

pub returns-clause-put_err : goal.returns-clause-put_err
returns-clause-put_err g c = on_err_weaker c.put.result (λ p line u. record { more = only c.args.self.now.leaf c.args.bit; gained = tail_only c.args.self.now.leaf line c.args.bit; puts = p }) c.put.ensures.err
