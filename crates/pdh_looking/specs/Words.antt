-- What each chain and each stream is made of.
use Rattle.std.specs.Prelude.{ℕ, List, [], ◌∷◌, codes}
use Rattle.pdh_candidates.specs.declared.word.Word.{Word}
use Rattle.pdh_candidates.specs.declared.word.Word.TheVariants as word
use Rattle.pdh_looking.specs.declared.level.Level.{Level}
use Rattle.pdh_looking.specs.declared.level.Level.TheVariants as level
use Rattle.pdh_looking.specs.declared.levels.LevelSize.{LevelSize}
use Rattle.pdh_looking.specs.declared.top.Top.{Top}
use Rattle.pdh_looking.specs.declared.top.Top.TheVariants.{E4, E3, Ds3, E2, Ds2, E1, Ds1Esf, Ds1Sf}

-- the name of a level
abbrev pub name_of : Level → List ℕ
name_of level.E1 = codes "E1"
name_of level.E2 = codes "E2"
name_of level.E3 = codes "E3"
name_of level.E4 = codes "E4"
name_of level.Ds1 = codes "DS1"
name_of level.Ds2 = codes "DS2"
name_of level.Ds3 = codes "DS3"

-- ---- tops

-- in the order in which words with them are tried
abbrev pub tops : List Top
tops = E4 ∷ E3 ∷ Ds3 ∷ E2 ∷ Ds2 ∷ E1 ∷ Ds1Esf ∷ Ds1Sf ∷ []

-- the bits of each: those of its frame, or of a multiframe of 2048 kbit/s
abbrev pub len_of : Top → ℕ
len_of E4 = 2928
len_of E3 = 1536
len_of Ds3 = 4760
len_of E2 = 848
len_of Ds2 = 1176
len_of E1 = 4096
len_of Ds1Esf = 4632
len_of Ds1Sf = 2316

abbrev pub level_of : Top → Level
level_of E4 = level.E4
level_of E3 = level.E3
level_of Ds3 = level.Ds3
level_of E2 = level.E2
level_of Ds2 = level.Ds2
level_of E1 = level.E1
level_of Ds1Esf = level.Ds1
level_of Ds1Sf = level.Ds1

-- ---- words

abbrev pub top_of : Word → Top
top_of word.E14 = E4
top_of word.E24 = E4
top_of word.E34 = E4
top_of word.E13 = E3
top_of word.E23 = E3
top_of word.C13 = Ds3
top_of word.M13 = Ds3
top_of word.C13Top = Ds3
top_of word.M23 = Ds3
top_of word.E12 = E2
top_of word.M12 = Ds2
top_of word.E1 = E1
top_of word.Ds1Esf = Ds1Esf
top_of word.Ds1Sf = Ds1Sf

-- the levels of each, and how many nodes a level has
abbrev pub size : Level → ℕ → LevelSize
size level nodes = record { level = level; nodes = nodes }

abbrev pub sizes_of : Word → List LevelSize
sizes_of word.E14 = size level.E4 1 ∷ size level.E3 4 ∷ size level.E2 16 ∷ []
sizes_of word.E24 = size level.E4 1 ∷ size level.E3 4 ∷ []
sizes_of word.E34 = size level.E4 1 ∷ []
sizes_of word.E13 = size level.E3 1 ∷ size level.E2 4 ∷ []
sizes_of word.E23 = size level.E3 1 ∷ []
sizes_of word.C13 = size level.Ds3 1 ∷ size level.Ds2 7 ∷ []
sizes_of word.M13 = size level.Ds3 1 ∷ size level.Ds2 7 ∷ []
sizes_of word.C13Top = size level.Ds3 1 ∷ []
sizes_of word.M23 = size level.Ds3 1 ∷ []
sizes_of word.E12 = size level.E2 1 ∷ []
sizes_of word.M12 = size level.Ds2 1 ∷ []
sizes_of word.E1 = size level.E1 1 ∷ []
sizes_of word.Ds1Esf = size level.Ds1 1 ∷ []
sizes_of word.Ds1Sf = size level.Ds1 1 ∷ []
