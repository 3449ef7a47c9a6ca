-- A node that gives out its tributaries through far stores: what its leaves get, and what it notes.
use Rattle.std.specs.Prelude.{ℕ, ◌+◌, ◌-◌, Bool, false, nat_le, nat_lt, ◌&&◌, ◌||◌, if◌then◌else◌, [], replicate, None, Some}
use Rattle.pdh_shape.specs.declared.place.Path.{Path}
use Rattle.pdh_shape.specs.Frame.{FrameShape}
use Rattle.pdh_rx.specs.Meaning.{Meaning}
use Rattle.pdh_rx.specs.Node.{frames_counted, node_meaning}
use Rattle.pdh_desync.specs.FarStore.{smooth, marks}

-- a leaf of so many that begin with one
abbrev pub is_from : ℕ → ℕ → ℕ → Bool
is_from first count k = nat_le first k && nat_lt k (first + count)

-- takes bits and puts none, and notes nothing
abbrev pub mute_meaning : Meaning
mute_meaning = record { path = None; leaves = λ k. false; got = λ line k. []; notes = λ line bit. []; delivered = λ line. 0; counted = λ line. [] }

-- The leaves from `first` on get what the far stores give out, one leaf for each tributary, and those from `marks_from` on one bit
-- for each piece, whether an additional bit is read in it. The events and the counts are those of a node with this path whose
-- children note and count nothing.
abbrev pub smooth_meaning : FrameShape → Path → ℕ → ℕ → Meaning
smooth_meaning s path first marks_from = record {
  path = Some path;
  leaves = λ k. is_from first s.tribs k || is_from marks_from s.tribs k;
  got = λ line k. (if is_from first s.tribs k then smooth s (k - first) line else (if is_from marks_from s.tribs k then marks s (k - marks_from) line else []));
  notes = (node_meaning s path (replicate s.tribs mute_meaning)).notes;
  delivered = frames_counted s;
  counted = (node_meaning s path (replicate s.tribs mute_meaning)).counted;
}
