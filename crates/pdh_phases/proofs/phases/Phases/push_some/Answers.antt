use Rattle.std.proofs.Common.{◌≡◌, ◌<◌, Bool, false, List, [], ◌∷◌, ◌++◌, length, take, drop, get_or, sym, ap, ◌∙◌, subst, arith, length-drop}
use Rattle.std.proofs.lemmas.List.{take_more, get_or-take}
use Rattle.pdh_phases.specs.Keeping.{StandsFor}
use Rattle.pdh_phases.proofs.phases.Phases.push_some.Goals as goal

pub returns-then-len-SIGNAL-clause-taken : goal.returns-then-len-SIGNAL-clause-taken
returns-then-len-SIGNAL-clause-taken g c before h =
    let rest : List Bool = drop c.args.from c.args.bits.now.bits in
    let within : 0 < length rest = omega (arith, length-drop c.args.from c.args.bits.now.bits, c.requires.some, c.requires.within) in
    let one : take 1 rest ≡ c.get.result ∷ [] =
    take_more rest 0 false within ∙ ap (λ (b : Bool). b ∷ []) (sym (c.get.ensures ∙ ap (λ (x : List Bool). get_or x 0 false) c.read.ensures ∙ get_or-take 1 rest 0 false (omega arith))) in
    subst (λ (x : List Bool). StandsFor g.S.Shape.shape c.push.new.self (before ++ x)) (sym one) (c.push.ensures before h)
