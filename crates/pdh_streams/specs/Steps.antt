-- The steps that read a framed line: what each finds or makes.
use Rattle.std.specs.Prelude.{◌≡◌, ℕ, ◌*◌, ◌/◌, ◌%◌, ◌^◌, ◌<◌, ◌≤◌, Bool, true, List, length, Some, IsTrue}
use Rattle.pdh_bits.specs.Bits.{bits_of, bytes_of}
use Rattle.pdh_edge.specs.Files.{ShelfState}
use Rattle.pdh_blocks.specs.State.{PortState}
use Rattle.pdh_blocks.specs.Lists.{inputs_of, outputs_of}
use Rattle.pdh_shape.specs.OwnNumbers.{most_frames}
use Rattle.pdh_ds1.specs.declared.form.Frame1.{Frame1}
use Rattle.pdh_ds1.specs.View.{packed_of, far_of}
use Rattle.pdh_answers.specs.Names.{name_of, payload_name, ds1_name}
use Rattle.pdh_answers.specs.Answer.{Answer}
use Rattle.pdh_answers.specs.declared.file.File.TheVariants.{Payload}
use Rattle.pdh_answers.specs.declared.answer.Stop.{Stop}
use Rattle.pdh_runner.specs.Operation.{Operation, OfInputs, bytes_in}
use Rattle.pdh_runner.specs.Reading.{HasLength}
use Rattle.pdh_runner.specs.Lines.{HasLine}
use Rattle.pdh_runner.specs.LineSteps.{BeginsWith}
use Rattle.pdh_runner.specs.PortFiles.{IsOpenFor}
use Rattle.pdh_runner.specs.Refusing.{Refuses}
use Rattle.pdh_runner.specs.declared.port.Input.{Input}
use Rattle.pdh_streams.specs.Codecs.{FrameCodec, framed_of, packing, packed_answer, unpacking, unpacked_payload, unpacked_answer, found_in}
use Rattle.pdh_streams.specs.Ds1.{ds1_codec}
use Rattle.pdh_streams.specs.declared.delivering.Unpacked.{Unpacked}

-- ---- the inputs

-- these are all bits of the payload, which fills whole multiframes or superframes, and no more frames than a line may have
pub record IsWholePayload (codec : FrameCodec) (payload : Input) (state : ShelfState) : Type 0 where
  pub file_is : payload.file ≡ Payload
  pub octets : ℕ
  pub bits_are : payload.bits ≡ 8 * octets
  pub short : payload.bits < 2 ^ 63
  pub long : HasLength payload_name octets state
  pub few : octets / codec.frame_octets ≤ most_frames
  pub whole : octets % codec.whole_octets ≡ 0

-- these are all bits of the framed line, which has no more frames than a line may have
pub record IsFramedLine (codec : FrameCodec) (line : Input) (state : ShelfState) : Type 0 where
  pub file_is : line.file ≡ codec.file
  pub octets : ℕ
  pub bits_are : line.bits ≡ 8 * octets
  pub short : line.bits < 2 ^ 63
  pub long : HasLength (name_of codec.file) octets state
  pub few : 8 * octets / codec.frame_bits ≤ most_frames

-- the framed line is refused, whichever command begins with it
abbrev pub RefusesFramed : FrameCodec → ShelfState → ShelfState → Stop → Type 0
RefusesFramed codec old new stop = (operation : Operation) (next : List ℕ → Answer) → BeginsWith operation codec.file (framed_of codec) next → Refuses operation old new stop

-- ---- what is held whole

-- what a line gives: the whole octets of its payload, and what was found in it
pub record IsUnpacked (codec : FrameCodec) (line : List ℕ) (unpacked : Unpacked) : Type 0 where
  pub payload_is : unpacked.payload.items ≡ unpacked_payload codec line
  pub found_is : unpacked.found ≡ found_in codec line

-- ---- what goes through a machine

-- a fresh port has so many bits in list 0, and a list for what becomes of them
pub record CanStream (bits : ℕ) (port : PortState) : Type 0 where
  pub fresh : port.fresh ≡ true
  pub line : HasLine bits (inputs_of port)
  pub out : IsTrue ((outputs_of port).holds 0)

-- A port is open for a command that reads one file in its run, and writes one: its list 0 gives all bits of the file, the command
-- comes to what follows of its bytes, and its output holds the whole bytes of what the machine gives for them.
pub record IsStreamPort (operation : Operation) (name : List ℕ) (far : List Bool → List Bool) (next : List ℕ → Answer) (bits : ℕ) (begun : ShelfState) (port : PortState) : Type 0 where
  pub open_for : IsOpenFor operation begun port
  pub one : operation.outputs.count ≡ 1
  pub comes : OfInputs operation begun (λ files. operation.comes_to files ≡ next (bytes_in files name))
  pub gives : OfInputs operation begun (λ files. (inputs_of port).told 0 ≡ Some (bits_of (bytes_in files name)))
  pub long : OfInputs operation begun (λ files. length (bits_of (bytes_in files name)) ≡ bits)
  pub bytes : OfInputs operation begun (λ files. operation.bytes files 0 ≡ bytes_of (far (bits_of (bytes_in files name))))

-- it is open for `ds1pack`, and for `ds1unpack`
abbrev pub IsPackPort : Frame1 → Input → ShelfState → PortState → Type 0
IsPackPort form payload = IsStreamPort (packing (ds1_codec form)) payload_name (packed_of form) (packed_answer (ds1_codec form)) payload.bits

abbrev pub IsUnpackPort : Frame1 → Input → ShelfState → PortState → Type 0
IsUnpackPort form line = IsStreamPort (unpacking (ds1_codec form)) ds1_name (far_of form) (unpacked_answer (ds1_codec form)) line.bits
