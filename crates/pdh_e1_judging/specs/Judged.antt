-- Which multiframes of a 2048 kbit/s line are judged by its alignments, and how many of them are right.
use Rattle.std.specs.Prelude.{◌+◌, ℕ, ◌*◌, Bool, ◌&&◌, List, length, map, take, drop, flat_map, count_by}
use Rattle.std.specs.List.{range_with_len, list_all}
use Rattle.pdh_g706.specs.Frames.{has_signal}
use Rattle.pdh_g706.specs.Alignment.{frame, has_multi}
use Rattle.pdh_g706.specs.Tracking.{Share, track}
use Rattle.pdh_judging.specs.Judged.{capped}
use Rattle.pdh_judging.specs.declared.judged.Judged.{Judged}

-- the frames of each multiframe that an alignment gives, 16 each, in order
abbrev pub multiframes_of : Share → List (List (List Bool))
multiframes_of share = map (λ m. take 16 (drop (16 * m) share.signs.frames)) (range_with_len 0 share.multiframes)

-- A multiframe is right: the alignment signal stands in each of its even frames, and the multiframe alignment signal in the first
-- bits of its odd ones (G.704, 2.3.2). Its CRC isn't asked.
unfoldable pub is_right : List (List Bool) → Bool
is_right frames = list_all (λ k. has_signal (frame frames (2 * k))) (range_with_len 0 8) && has_multi frames 0

-- those that are judged of an alignment: all but the first two, which confirmed it and prove nothing by themselves
abbrev pub judged_of : Share → List (List (List Bool))
judged_of share = drop 2 (multiframes_of share)

-- those of a line
unfoldable pub judged_multiframes : List Bool → List (List (List Bool))
judged_multiframes line = flat_map judged_of (track line)

-- these counted too, and the right ones of them
abbrev pub with_multiframes : Judged → List (List (List Bool)) → Judged
with_multiframes judged multiframes = record { frames = capped (judged.frames + length multiframes); right = capped (judged.right + count_by is_right multiframes) }

-- how many of a line are judged, and how many of these are right
unfoldable pub e1_judged_in : List Bool → Judged
e1_judged_in line = with_multiframes (record { frames = 0; right = 0 }) (judged_multiframes line)
