-- The levels of the lines that words name, from the top: their nominal rates (ITU-T G.702, ANSI T1.107), how their nodes are aligned,
-- and the blocks whose errors they tell.
use Rattle.std.specs.Prelude.{◌≡◌, ℕ, ◌==◌, if◌then◌else◌, List, map, codes}
use Rattle.pdh_shape.specs.declared.place.Path.{Path}
use Rattle.pdh_candidates.specs.declared.word.Word.{Word}
use Rattle.pdh_candidates.specs.declared.word.Word.TheVariants as word
use Rattle.pdh_rx.specs.declared.counts.NodeCounts.{NodeCounts}
use Rattle.pdh_health.specs.declared.plan.Framing.{Framing}
use Rattle.pdh_health.specs.declared.plan.Framing.TheVariants.{Frames, Multiframes}
use Rattle.pdh_health.specs.declared.plan.NodePlan.{NodePlan}
use Rattle.pdh_named_lines.specs.declared.levels.LevelFacts.{LevelFacts}

-- its name, and its rate in bits a second; a level that tells no block's errors has blocks of 0 bits
pub record Level : Type 0 where
  pub name : List ℕ
  pub rate : ℕ
  pub framing : Framing
  pub block : ℕ

-- CRC-4 multiframes, with a check of each half (ITU-T G.704, 2.3.3)
abbrev pub e1 : Level
e1 = record { name = codes "E1"; rate = 2048000; framing = Multiframes; block = 2048 }

-- frames of ITU-T G.742
abbrev pub e2 : Level
e2 = record { name = codes "E2"; rate = 8448000; framing = Frames 848; block = 0 }

-- frames of ITU-T G.751, 1.4
abbrev pub e3 : Level
e3 = record { name = codes "E3"; rate = 34368000; framing = Frames 1536; block = 0 }

-- frames of ITU-T G.751, 1.5
abbrev pub e4 : Level
e4 = record { name = codes "E4"; rate = 139264000; framing = Frames 2928; block = 0 }

-- superframes of 12 frames (ANSI T1.403)
abbrev pub ds1_sf : Level
ds1_sf = record { name = codes "DS1"; rate = 1544000; framing = Frames 2316; block = 0 }

-- extended superframes of 24 frames, with a check of each
abbrev pub ds1_esf : Level
ds1_esf = record { name = codes "DS1"; rate = 1544000; framing = Frames 4632; block = 4632 }

-- M-frames of DS2 (ANSI T1.107)
abbrev pub ds2 : Level
ds2 = record { name = codes "DS2"; rate = 6312000; framing = Frames 1176; block = 0 }

-- M-frames of DS3, with the parity of each
abbrev pub ds3 : Level
ds3 = record { name = codes "DS3"; rate = 44736000; framing = Frames 4760; block = 4760 }

-- the level of a line
abbrev pub top_level : Word → Level
top_level word.E14 = e4
top_level word.E24 = e4
top_level word.E34 = e4
top_level word.E13 = e3
top_level word.E23 = e3
top_level word.C13 = ds3
top_level word.M13 = ds3
top_level word.C13Top = ds3
top_level word.M23 = ds3
top_level word.E12 = e2
top_level word.M12 = ds2
top_level word.E1 = e1
top_level word.Ds1Esf = ds1_esf
top_level word.Ds1Sf = ds1_sf

-- that of the multiplexers below it, by its own rate
abbrev pub below_rate : ℕ → Level
below_rate rate = (if rate == 139264000 then e3 else (if rate == 44736000 then ds2 else e2))

-- the level at a depth; below the second there are E2s alone
abbrev pub level_at : Word → ℕ → Level
level_at word depth = (if depth == 0 then top_level word else (if depth == 1 then below_rate (top_level word).rate else e2))

-- what is known of a node before its first bit
abbrev pub plan_at : Word → Path → NodePlan
plan_at word path = record { path = path; framing = (level_at word path.depth).framing; block = (level_at word path.depth).block }

abbrev pub plans_of : Word → List NodeCounts → List NodePlan
plans_of word nodes = map (λ node. plan_at word node.path) nodes

-- these are the facts of a level
pub record AreFactsOf (level : Level) (facts : LevelFacts) : Type 0 where
  pub name_is : facts.name.now ≡ level.name
  pub rate_is : facts.rate ≡ level.rate
  pub framing_is : facts.framing ≡ level.framing
  pub block_is : facts.block ≡ level.block
