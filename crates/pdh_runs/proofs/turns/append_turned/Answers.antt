use Rattle.std.proofs.Common.{◌≡◌, List, Bool, ◌++◌, map, take, drop, sym, ap, ◌∙◌}
use Rattle.std.proofs.lemmas.List.{map-id}
use Rattle.pdh_packed.specs.Words.{bounded}
use Rattle.pdh_shape.specs.Tributary.{turned}
use Rattle.pdh_runs.proofs.turns.append_turned.Goals as goal

pub returns-else-inverted : goal.returns-else-inverted
returns-else-inverted c =
    let bits : List Bool = take c.args.count (drop c.args.place c.args.list.now.bits) in
    let same : map (turned c.args.inverted) bits ≡ bits = ap (λ b. map (turned b) bits) c.if-inverted.false ∙ map-id bits in
    c.append_from.ensures ∙ ap (λ l. bounded c.args.into.now.capacity (c.args.into.now.bits ++ l)) (sym same)
