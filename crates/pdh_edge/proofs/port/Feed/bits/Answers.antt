use Rattle.std.proofs.Common.{Bool, List, [], ◌∷◌, refl, sym, subst}
use Rattle.pdh_packed.proofs.GainingLaws.{gained_is, grown_by}
use Rattle.pdh_edge.specs.Ports.{Takes, for_leaf}
use Rattle.pdh_edge.proofs.port.Feed.bits.Goals as goal

pub returns-clause-grown : goal.returns-clause-grown
returns-clause-grown g c = grown_by c.args.into.now c.push.new.self (c.in_ok-bit.field-0 ∷ []) 1 c.push.ensures refl

pub returns-clause-ok : goal.returns-clause-ok
returns-clause-ok g c =
    let got = gained_is c.args.into.now c.push.new.self (c.in_ok-bit.field-0 ∷ []) c.push.ensures in
    subst (λ (bits : List Bool). Takes (for_leaf c.args.leaf bits) (g.Self.Feed.inputs c.args.self.now) (g.Self.Feed.inputs c.bit.new.self)) (sym got) c.in_ok-bit.ensures.ok
