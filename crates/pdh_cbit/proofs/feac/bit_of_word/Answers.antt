use Rattle.std.proofs.Common.{sym, arith}
use Rattle.pdh_cbit.proofs.Words.{feac_bit-ones, feac_bit-zero, feac_bit-code, feac_bit-last}
use Rattle.pdh_cbit.proofs.feac.bit_of_word.Goals as goal

pub returns-in-0-to-7 : goal.returns-in-0-to-7
returns-in-0-to-7 c = sym (feac_bit-ones c.args.code c.args.place (omega arith))

pub returns-in-9-to-14 : goal.returns-in-9-to-14
returns-in-9-to-14 c = sym (feac_bit-code c.args.code c.args.place (omega arith) (omega arith))

pub returns-in_default : goal.returns-in_default
returns-in_default c = sym (feac_bit-zero c.args.code c.args.place (omega arith))

pub returns-in_default-2 : goal.returns-in_default-2
returns-in_default-2 c = sym (feac_bit-last c.args.code c.args.place (omega arith))
