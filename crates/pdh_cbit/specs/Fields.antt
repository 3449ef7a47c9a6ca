-- The fields of C-bit parity (ANSI T1.107), by the C bits that make them.
use Rattle.std.specs.Prelude.{ℕ, ◌^◌, ◌<◌, ◌∷◌, ◌++◌}
use Rattle.pdh_cbit.specs.declared.fields.Fields.{Fields}
use Rattle.pdh_bits.specs.Bits.{number_of}
use Rattle.pdh_cbit.specs.CBits.{c_bit, of_subframe}

-- the fields of 21 C bits
abbrev pub fields_of : ℕ → Fields
fields_of c = record {
  id = c_bit c 1 1;
  feac = c_bit c 1 3;
  path = number_of (of_subframe c 3);
  febe = number_of (of_subframe c 4);
  link = number_of (of_subframe c 5);
  rest = number_of (c_bit c 1 2 ∷ of_subframe c 2 ++ of_subframe c 6 ++ of_subframe c 7);
}

-- each number has room in its bits
pub record IsInRange (f : Fields) : Type 0 where
  pub path : f.path < 8
  pub febe : f.febe < 8
  pub link : f.link < 8
  pub rest : f.rest < 2 ^ 10
