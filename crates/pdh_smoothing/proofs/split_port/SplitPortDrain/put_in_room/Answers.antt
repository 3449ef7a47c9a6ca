use Rattle.std.proofs.Common.{◌≡◌, Bool, List, [], refl, sym, subst, arith}
use Rattle.std.proofs.lemmas.List.{nil_from_length}
use Rattle.pdh_edge.specs.Ports.{Puts, for_leaf}
use Rattle.pdh_edge.proofs.Runs.{puts_begin}
use Rattle.pdh_smoothing.specs.Split.{split_outputs}
use Rattle.pdh_smoothing.proofs.split_port.SplitPortDrain.put_in_room.Goals as goal

pub returns-clause-put : goal.returns-clause-put
returns-clause-put g c =
    let old = c.args.self.now in
    let bits = c.args._bits.now.bits in
    let lists = split_outputs old.from (g.P.Drain.outputs old.port) (g.K.Drain.outputs old.kept) in
    let none : bits ≡ [] = nil_from_length bits (omega (arith, c.requires.room)) in
    subst (λ (bits : List Bool). Puts (for_leaf c.args._leaf bits) lists lists) (sym none) (puts_begin c.args._leaf lists)

pub returns-clause-drained : goal.returns-clause-drained
returns-clause-drained g c = (g.met.P.Drain.drained_same c.args.self.now.port, g.met.K.Drain.drained_same c.args.self.now.kept, refl)
