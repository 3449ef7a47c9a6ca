use Rattle.std.proofs.Common.{◌++◌, Bool, true, false, List, ap, ◌∙◌}
use Rattle.pdh_packed.specs.Words.{bounded}
use Rattle.pdh_script.proofs.BitsAppended.{same_bits}
use Rattle.pdh_script.proofs.bender.append_altered.Goals as goal

pub returns-in-Some-Ones : goal.returns-in-Some-Ones
returns-in-Some-Ones c =
    let into = c.args.into.now in
    let effect = rw c.in-Some-Ones.is at c.in-Some-Ones.field-0-is in
    rw (c.in-Some-Ones.is, effect)
    (c.append_same.ensures ∙ ap (λ (v : List Bool). bounded into.capacity (into.bits ++ v)) (same_bits c.args.bits.now.bits c.args.from c.args.count true c.requires.within))

pub returns-in-Some-Zeros : goal.returns-in-Some-Zeros
returns-in-Some-Zeros c =
    let into = c.args.into.now in
    let effect = rw c.in-Some-Zeros.is at c.in-Some-Zeros.field-0-is in
    rw (c.in-Some-Zeros.is, effect)
    (c.append_same-in-Some-Zeros.ensures ∙ ap (λ (v : List Bool). bounded into.capacity (into.bits ++ v)) (same_bits c.args.bits.now.bits c.args.from c.args.count false c.requires.within))
