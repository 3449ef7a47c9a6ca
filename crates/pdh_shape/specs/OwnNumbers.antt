-- This project's own numbers, which no standard has. Each stands here once for the definitions and in `src/own_numbers.rt`
-- once for the code.
use Rattle.std.specs.Prelude.{ℕ}

-- how many bits of each tributary are taken into its store before slot 0 of frame 0
abbrev pub lead : ℕ
lead = 48

-- the fill of a store at a frame's start from which the frame carries an additional bit
abbrev pub threshold : ℕ
threshold = 48

-- how many bits a store holds at most
abbrev pub store_size : ℕ
store_size = 96

-- by how many bits the arrivals of a run of frames may pass what the run carries at least and at most
abbrev pub allowance : ℕ
allowance = 18

-- the most frames of a line, or of the top of a made schedule
abbrev pub most_frames : ℕ
most_frames = 131072

-- the most frames of a drill, so that its line fits memory
abbrev pub most_drilled : ℕ
most_drilled = 16384

-- the most bytes of a schedule's text
abbrev pub most_bytes : ℕ
most_bytes = 33554432

-- the most slots of a frame
abbrev pub most_slots : ℕ
most_slots = 16384

-- the most slots of an alignment signal that begins a frame
abbrev pub most_signal : ℕ
most_signal = 32
