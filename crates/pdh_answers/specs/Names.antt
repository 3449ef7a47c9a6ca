-- The names of the files.
use Rattle.std.specs.Prelude.{ℕ, ◌+◌, ◌/◌, ◌%◌, List, [], ◌∷◌, ◌++◌, codes}
use Rattle.pdh_answers.specs.declared.file.File.{File}
use Rattle.pdh_answers.specs.declared.file.File.TheVariants.{Line, Bent, Schedule, Script, Leaf, Output, Payload, E1Line, Ds1Line, PayloadOut, ScheduleOut, West, East}
use Rattle.pdh_answers.specs.declared.file.Bits.{Bits}
use Rattle.pdh_answers.specs.declared.file.Bits.TheVariants.{Line as Recorded, Bent as Disturbed}

-- the last two decimal digits of a number
abbrev pub two_digits : ℕ → List ℕ
two_digits n = (48 + n / 10 % 10) ∷ (48 + n % 10) ∷ []

-- the recorded line
unfoldable pub line_name : List ℕ
line_name = codes "line.bits"

-- the disturbed line
unfoldable pub bent_name : List ℕ
bent_name = codes "bent.bits"

-- how many bits of each tributary arrive in each frame
unfoldable pub schedule_name : List ℕ
schedule_name = codes "schedule.txt"

-- how a line is disturbed
unfoldable pub script_name : List ℕ
script_name = codes "script.txt"

-- a file of a leaf, counted from 0 here and from 1 in its name
unfoldable pub numbered_name : List ℕ → ℕ → List ℕ
numbered_name letter leaf = letter ++ two_digits (leaf + 1) ++ codes ".bits"

-- a leaf's bits
abbrev pub leaf_name : ℕ → List ℕ
leaf_name leaf = numbered_name (codes "t") leaf

-- what a leaf received
abbrev pub output_name : ℕ → List ℕ
output_name leaf = numbered_name (codes "o") leaf

-- the octets that are packed into a framed line
unfoldable pub payload_name : List ℕ
payload_name = codes "payload.bin"

-- a framed 2048 kbit/s line
unfoldable pub e1_name : List ℕ
e1_name = codes "e1.bits"

-- a DS1 line
unfoldable pub ds1_name : List ℕ
ds1_name = codes "ds1.bits"

-- the octets that a framed line gives
unfoldable pub payload_out_name : List ℕ
payload_out_name = codes "payload.out"

-- the schedule that would make a line again
unfoldable pub schedule_out_name : List ℕ
schedule_out_name = codes "schedule.out"

-- how the line from the west terminal is disturbed
unfoldable pub west_name : List ℕ
west_name = codes "west.txt"

-- how the line from the east terminal is disturbed
unfoldable pub east_name : List ℕ
east_name = codes "east.txt"

abbrev pub name_of : File → List ℕ
name_of Line = line_name
name_of Bent = bent_name
name_of Schedule = schedule_name
name_of Script = script_name
name_of (Leaf leaf) = leaf_name leaf
name_of (Output leaf) = output_name leaf
name_of Payload = payload_name
name_of E1Line = e1_name
name_of Ds1Line = ds1_name
name_of PayloadOut = payload_out_name
name_of ScheduleOut = schedule_out_name
name_of West = west_name
name_of East = east_name

-- the file that a line is read from
abbrev pub line_file : Bits → File
line_file Recorded = Line
line_file Disturbed = Bent
