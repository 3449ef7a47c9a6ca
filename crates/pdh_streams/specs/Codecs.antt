-- What packing a payload into a framed line and unpacking a framed line come to, whatever the line's frames are.
use Rattle.std.specs.Prelude.{ℕ, ◌*◌, ◌/◌, ◌%◌, ◌==◌, nat_lt, Bool, List, Option, Some, None, Result, Ok, Err, length, if◌then◌else◌}
use Rattle.pdh_bits.specs.Bits.{bits_of, bytes_of}
use Rattle.pdh_shape.specs.OwnNumbers.{most_frames}
use Rattle.pdh_answers.specs.Names.{name_of, payload_name, payload_out_name}
use Rattle.pdh_answers.specs.Answer.{Answer, and_then}
use Rattle.pdh_answers.specs.declared.file.File.{File}
use Rattle.pdh_answers.specs.declared.file.File.TheVariants.{Payload}
use Rattle.pdh_answers.specs.declared.answer.Done.{Done}
use Rattle.pdh_answers.specs.declared.answer.Stop.{Stop}
use Rattle.pdh_answers.specs.declared.answer.Stop.TheVariants.{Missing, ManyFrames, NoAlignment, NotWhole}
use Rattle.pdh_runner.specs.Operation.{Operation, one_name, due_at_outputs, Files, bytes_in}
use Rattle.pdh_streams.specs.declared.codec.Found.{Found}

-- the frames of a line, what stands in it, and what its two commands say
pub record FrameCodec : Type 0 where
  -- the file of the line
  pub file : File
  -- the bytes of a file are read in the run, behind the start of the output, or before it
  pub in_run : File → Bool
  -- how many bits a frame has, and how many octets of a payload it carries
  pub frame_bits : ℕ
  pub frame_octets : ℕ
  -- a payload fills this many octets, once or more times
  pub whole_octets : ℕ
  -- the line of a payload, and what is said of a payload of so many octets
  pub packed : List ℕ → List ℕ
  pub pack_says : ℕ → Done
  -- the payload of a line, what is found in it, and what is said of that
  pub payload : List Bool → List Bool
  pub found : List Bool → Found
  pub unpack_says : Found → Done

-- ---- packing

-- how many frames a payload fills
abbrev pub frames_filled : FrameCodec → List ℕ → ℕ
frames_filled codec payload = length payload / codec.frame_octets

-- The payload that is held, or why it is refused before it is read: it has to fill whole multiframes or superframes, and no
-- more frames than a line may have.
abbrev pub payload_of : FrameCodec → Option (List ℕ) → Result (List ℕ) Stop
payload_of codec None = Err (Missing Payload)
payload_of codec (Some payload) =
    (if nat_lt most_frames (frames_filled codec payload) then Err (ManyFrames (frames_filled codec payload))
    else (if length payload % codec.whole_octets == 0 then Ok payload else Err (NotWhole (length payload))))

-- what is said of a payload
unfoldable pub packed_answer : FrameCodec → List ℕ → Answer
packed_answer codec payload = Ok (codec.pack_says (length payload))

abbrev pub pack_comes : FrameCodec → Files → Answer
pack_comes codec files = and_then (payload_of codec (files payload_name)) (packed_answer codec)

-- the payload is read, and its line is written
abbrev pub packing : FrameCodec → Operation
packing codec = record {
  inputs = one_name payload_name;
  outputs = one_name (name_of codec.file);
  bytes = λ files _. codec.packed (bytes_in files payload_name);
  comes_to = pack_comes codec;
  reads_in_run = codec.in_run;
  is_due = due_at_outputs (pack_comes codec);
  shows = None;
  tells = None;
}

-- ---- unpacking

-- how many whole frames a line holds
abbrev pub frames_framed : FrameCodec → List ℕ → ℕ
frames_framed codec line = 8 * length line / codec.frame_bits

-- the line that is held, or why it is refused before it is read
abbrev pub framed_of : FrameCodec → Option (List ℕ) → Result (List ℕ) Stop
framed_of codec None = Err (Missing codec.file)
framed_of codec (Some line) = (if nat_lt most_frames (frames_framed codec line) then Err (ManyFrames (frames_framed codec line)) else Ok line)

-- the whole octets of the payload of a line
unfoldable pub unpacked_payload : FrameCodec → List ℕ → List ℕ
unpacked_payload codec line = bytes_of (codec.payload (bits_of line))

-- what is found in it
unfoldable pub found_in : FrameCodec → List ℕ → Found
found_in codec line = codec.found (bits_of line)

-- what is said of what was found in a line of so many bits; or nothing was delivered
abbrev pub answer_of : FrameCodec → ℕ → Found → Answer
answer_of codec bits found = (if found.delivered == 0 then Err (NoAlignment bits) else Ok (codec.unpack_says found))

unfoldable pub unpacked_answer : FrameCodec → List ℕ → Answer
unpacked_answer codec line = answer_of codec (8 * length line) (found_in codec line)

abbrev pub unpack_comes : FrameCodec → Files → Answer
unpack_comes codec files = and_then (framed_of codec (files (name_of codec.file))) (unpacked_answer codec)

-- the line is read, and its payload is written
abbrev pub unpacking : FrameCodec → Operation
unpacking codec = record {
  inputs = one_name (name_of codec.file);
  outputs = one_name payload_out_name;
  bytes = λ files _. unpacked_payload codec (bytes_in files (name_of codec.file));
  comes_to = unpack_comes codec;
  reads_in_run = codec.in_run;
  is_due = due_at_outputs (unpack_comes codec);
  shows = None;
  tells = None;
}
