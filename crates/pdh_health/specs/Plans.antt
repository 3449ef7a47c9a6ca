-- How early a node is aligned, by its framing.
use Rattle.std.specs.Prelude.{ℕ, ◌-◌, ◌*◌}
use Rattle.pdh_health.specs.declared.plan.Framing.{Framing}
use Rattle.pdh_health.specs.declared.plan.Framing.TheVariants.{Frames, Multiframes}

-- Where a line begins in mid frame, its first whole frame begins before bit `length`, and the third right frame in a row ends
-- before bit 4 * length - 1. A CRC-4 multiframe stream has 4,096 bits more for the alignment signal that comes first.
abbrev pub latest_start : Framing → ℕ
latest_start (Frames length) = 4 * length - 1
latest_start Multiframes = 20480

-- with fewer bits it can't be told whether a line is aligned
abbrev pub shortest_line : Framing → ℕ
shortest_line (Frames length) = 4 * length
shortest_line Multiframes = 20480
