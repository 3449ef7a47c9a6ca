-- A part of a recording in an order of bits, and what is judged of it.
use Rattle.std.specs.Prelude.{ℕ, Bool, true, false, List, take, drop, Option, Some, None}
use Rattle.std.specs.Bool.{beq}
use Rattle.pdh_eframes.specs.Plans.{e2, e3, e4}
use Rattle.pdh_ds.specs.Plans.{ds2, ds3}
use Rattle.pdh_ds1.specs.Plans.{ds1_sf, ds1_esf}
use Rattle.pdh_judging.specs.declared.judged.Judged.{Judged}
use Rattle.pdh_judging.specs.Judged.{judged_in}
use Rattle.pdh_e1_judging.specs.Judged.{e1_judged_in}
use Rattle.pdh_delivered.specs.CBits.{has_c_bit_parity}
use Rattle.pdh_delivered.specs.Alike.{are_alike}
use Rattle.pdh_readings.specs.declared.bit_order.BitOrder.{BitOrder}
use Rattle.pdh_readings.specs.Orders.{read_as}
use Rattle.pdh_candidates.specs.declared.word.Word.{Word}
use Rattle.pdh_candidates.specs.declared.word.Word.TheVariants as word
use Rattle.pdh_looking.specs.declared.top.Top.{Top}
use Rattle.pdh_looking.specs.declared.top.Top.TheVariants.{E4, E3, Ds3, E2, Ds2, E1, Ds1Esf, Ds1Sf}
use Rattle.pdh_looking.specs.declared.tops.Tops.{Tops}

-- so many bits of bytes from a bit on, in an order, or as many as there are
unfoldable pub line_of : List ℕ → ℕ → ℕ → BitOrder → List Bool
line_of bytes from bits order = take bits (drop from (read_as order bytes))

-- what is judged of a line by a frame at a top; the alignment of a DS3 is the same with C-bit parity
abbrev pub judged_as : Top → List Bool → Judged
judged_as E4 line = judged_in e4 line
judged_as E3 line = judged_in e3 line
judged_as Ds3 line = judged_in ds3 line
judged_as E2 line = judged_in e2 line
judged_as Ds2 line = judged_in ds2 line
judged_as E1 line = e1_judged_in line
judged_as Ds1Esf line = judged_in ds1_esf line
judged_as Ds1Sf line = judged_in ds1_sf line

-- whether a chain has C-bit parity, where its top is a DS3
abbrev pub wanted_parity : Word → Option Bool
wanted_parity word.E14 = None
wanted_parity word.E24 = None
wanted_parity word.E34 = None
wanted_parity word.E13 = None
wanted_parity word.E23 = None
wanted_parity word.C13 = Some true
wanted_parity word.M13 = Some false
wanted_parity word.C13Top = Some true
wanted_parity word.M23 = Some false
wanted_parity word.E12 = None
wanted_parity word.M12 = None
wanted_parity word.E1 = None
wanted_parity word.Ds1Esf = None
wanted_parity word.Ds1Sf = None

-- it is as it is wanted, if it is
abbrev pub is_as_wanted : Option Bool → Bool → Bool
is_as_wanted None has = true
is_as_wanted (Some wanted) has = beq has wanted

-- a line has C-bit parity where this chain has it, and none where it has none
abbrev pub has_its_c_bits : Word → List Bool → Bool
has_its_c_bits chain line = is_as_wanted (wanted_parity chain) (has_c_bit_parity line)

-- each delivered frame at the top of a line is like the one before it in its alignment; of multiframes this isn't told
abbrev pub are_alike_as : Top → List Bool → Bool
are_alike_as E4 line = are_alike e4 line
are_alike_as E3 line = are_alike e3 line
are_alike_as Ds3 line = are_alike ds3 line
are_alike_as E2 line = are_alike e2 line
are_alike_as Ds2 line = are_alike ds2 line
are_alike_as E1 line = false
are_alike_as Ds1Esf line = are_alike ds1_esf line
are_alike_as Ds1Sf line = are_alike ds1_sf line

-- ---- the table of what is judged by each

abbrev pub tops_in : List Bool → Tops
tops_in line = record {
  e4 = judged_as E4 line;
  e3 = judged_as E3 line;
  ds3 = judged_as Ds3 line;
  e2 = judged_as E2 line;
  ds2 = judged_as Ds2 line;
  e1 = judged_as E1 line;
  esf = judged_as Ds1Esf line;
  sf = judged_as Ds1Sf line;
}

abbrev pub at_top_of : Tops → Top → Judged
at_top_of judged E4 = judged.e4
at_top_of judged E3 = judged.e3
at_top_of judged Ds3 = judged.ds3
at_top_of judged E2 = judged.e2
at_top_of judged Ds2 = judged.ds2
at_top_of judged E1 = judged.e1
at_top_of judged Ds1Esf = judged.esf
at_top_of judged Ds1Sf = judged.sf
