use Rattle.std.proofs.Common.{sym, ap, ◌∙◌}
use Rattle.pdh_edge.specs.Ports.{Outputs, for_leaf, after}
use Rattle.pdh_rx.proofs.Tails.{tail_for_leaf, tail_quiet}
use Rattle.pdh_rx.proofs.tail.TailRx.is_deaf.Goals as goal

pub returns : goal.returns
returns g c deaf =
    let leaf = c.args.self.now.leaf in
    let untold = c.is_deaf.ensures deaf in
    record {
      taken = λ bits. record {
        stands = λ line u. tt;
        gains = λ line u. record {
          more = for_leaf leaf bits;
          gained = tail_for_leaf leaf line bits;
          puts = λ k. ap (λ (o : Outputs). o.told k) untold ∙ sym (ap (λ (o : Outputs). after (for_leaf leaf bits k) (o.told k)) untold);
        };
      };
      quiet = λ line bits u. tail_quiet leaf line bits;
    }
