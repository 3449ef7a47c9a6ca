use Rattle.std.proofs.Common.{◌≡◌, arith}
use Rattle.std.proofs.lemmas.Grind.{common_steps}
use Rattle.pdh_bits.specs.Bits.{bit_value}
use Rattle.pdh_cbit.proofs.FieldsLemmas.{fields_of-number}
use Rattle.pdh_cbit.proofs.fields.Fields.write.Goals as goal

pub returns-clause-fields : goal.returns-clause-fields
returns-clause-fields c =
    let id : c.from.result ≡ bit_value c.args.self.now.id = grind (arith, common_steps, c.from.ensures) in
    let feac : c.from-2.result ≡ bit_value c.args.self.now.feac = grind (arith, common_steps, c.from-2.ensures) in
    fields_of-number c.args.self.now _ _ _ _ _ _ c.requires id feac c.from-3.ensures c.from-4.ensures c.from-5.ensures c.from-rest.ensures
