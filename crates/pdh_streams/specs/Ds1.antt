-- The codec of superframes and of extended superframes: DS1 lines of 1544 kbit/s (ANSI T1.107; ITU-T G.704, 2.1).
use Rattle.std.specs.Prelude.{ℕ, ◌/◌, Bool, List, ◌++◌, codes}
use Rattle.pdh_ds1.specs.declared.form.Frame1.{Frame1}
use Rattle.pdh_ds1.specs.declared.form.Frame1.TheVariants.{Super, Extended}
use Rattle.pdh_ds1.specs.Forms.{name_of}
use Rattle.pdh_ds1.specs.Codec.{frames_of, packed_line}
use Rattle.pdh_ds1.specs.View.{far_of, superframes_in, blocks_in, errors_in}
use Rattle.pdh_answers.specs.declared.file.File.TheVariants.{Ds1Line}
use Rattle.pdh_answers.specs.declared.answer.Done.{Done}
use Rattle.pdh_runner.specs.Operation.{all_in_run}
use Rattle.pdh_streams.specs.declared.codec.Found.{Found}
use Rattle.pdh_streams.specs.Texts.{counted_line, found_line}
use Rattle.pdh_streams.specs.Codecs.{FrameCodec}

-- what `ds1pack` says of a payload of so many octets
abbrev pub pack_says : Frame1 → ℕ → Done
pack_says form octets = counted_line (codes "ds1pack " ++ name_of form ++ codes ": superframes ") (octets / 24 / frames_of form)

-- the delivered superframes of a line, and its judged and errored blocks
abbrev pub counts_in : Frame1 → List Bool → Found
counts_in form line = record { delivered = superframes_in form line; blocks = blocks_in form line; errored = errors_in form line }

-- what `ds1unpack` says of them; superframes of 12 frames have no blocks
abbrev pub unpack_says : Frame1 → Found → Done
unpack_says Super found = counted_line (codes "ds1unpack sf: superframes ") found.delivered
unpack_says Extended found = found_line (codes "ds1unpack esf: superframes ") found

-- a frame has 193 bits and carries 24 octets, and 24 frames are one extended superframe or two superframes
abbrev pub ds1_codec : Frame1 → FrameCodec
ds1_codec form = record {
  file = Ds1Line;
  in_run = all_in_run;
  frame_bits = 193;
  frame_octets = 24;
  whole_octets = 576;
  packed = packed_line form;
  pack_says = pack_says form;
  payload = far_of form;
  found = counts_in form;
  unpack_says = unpack_says form;
}
