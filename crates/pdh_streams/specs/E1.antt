-- The codec of CRC-4 multiframes: framed lines of 2048 kbit/s (ITU-T G.704, 2.3; G.706, 4).
use Rattle.std.specs.Prelude.{ℕ, zero, suc, ◌+◌, ◌*◌, ◌/◌, ◌%◌, Bool, List, [], ◌∷◌, ◌++◌, length, codes}
use Rattle.std.specs.List.{slice_range}
use Rattle.pdh_e1.specs.Multiframe.{packed_octet, sent_word}
use Rattle.pdh_g706.specs.Tracking.{e1_far, multiframes_in, blocks_in, errors_in, counted}
use Rattle.pdh_answers.specs.declared.file.File.TheVariants.{E1Line}
use Rattle.pdh_answers.specs.declared.answer.Done.{Done}
use Rattle.pdh_runner.specs.Operation.{none_in_run}
use Rattle.pdh_streams.specs.declared.codec.Found.{Found}
use Rattle.pdh_streams.specs.Texts.{counted_line, found_line}
use Rattle.pdh_streams.specs.Codecs.{FrameCodec}

-- the first frames of the line of a payload: each is the octet that a packer puts first (G.704, 2.3.2 and 2.3.3), and then its
-- 31 octets of the payload
unfoldable pub packed_frames : List ℕ → ℕ → List ℕ
packed_frames payload zero = []
packed_frames payload (suc frame) =
    let before = packed_frames payload frame in
    before ++ packed_octet (frame % 16) (sent_word before (frame / 8)) ∷ slice_range payload (31 * frame) (31 * frame + 31)

-- the line of a payload
abbrev pub packed_line : List ℕ → List ℕ
packed_line payload = packed_frames payload (length payload / 31)

-- what `e1pack` says of a payload of so many octets
abbrev pub pack_says : ℕ → Done
pack_says octets = counted_line (codes "e1pack: multiframes ") (octets / 496)

-- the delivered multiframes of a line, and its judged and errored blocks
abbrev pub counts_in : List Bool → Found
counts_in line = record { delivered = counted (multiframes_in line); blocks = counted (blocks_in line); errored = counted (errors_in line) }

-- what `e1unpack` says of them
abbrev pub unpack_says : Found → Done
unpack_says found = found_line (codes "e1unpack: multiframes ") found

-- a frame has 32 octets, of which 31 carry the payload, and a multiframe has 16 frames
abbrev pub e1_codec : FrameCodec
e1_codec = record {
  file = E1Line;
  in_run = none_in_run;
  frame_bits = 256;
  frame_octets = 31;
  whole_octets = 496;
  packed = packed_line;
  pack_says = pack_says;
  payload = e1_far;
  found = counts_in;
  unpack_says = unpack_says;
}
