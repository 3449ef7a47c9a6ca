-- What the commands of DS1 lines are given, and what follows of the bits of their input.
use Rattle.std.proofs.Common.{◌≡◌, ℕ, ◌*◌, ◌/◌, ◌%◌, ◌==◌, Bool, true, false, List, [], Option, Ok, Err, length, get_or, refl, ap, ◌∙◌, arith}
use Rattle.std.specs.Prelude.{unwrap_or, if◌then◌else◌}
use Rattle.pdh_bits.specs.Bits.{bits_of}
use Rattle.pdh_bits.proofs.BitsLemmas.{length-bits_of}
use Rattle.pdh_edge.specs.Files.{ShelfState}
use Rattle.pdh_ds1.specs.declared.form.Frame1.{Frame1}
use Rattle.pdh_ds1.specs.Codec.{packed_line}
use Rattle.pdh_ds1.specs.View.{packed_of, far_of}
use Rattle.pdh_ds1.proofs.FramerLaws.{line_is}
use Rattle.pdh_answers.specs.Names.{name_of, payload_name, ds1_name, payload_out_name}
use Rattle.pdh_answers.specs.Answer.{Answer}
use Rattle.pdh_answers.specs.declared.file.File.TheVariants.{Payload, Ds1Line, PayloadOut}
use Rattle.pdh_answers.specs.declared.answer.Stop.TheVariants.{NoAlignment}
use Rattle.pdh_runner.specs.Operation.{reaches_outputs}
use Rattle.pdh_runner.specs.declared.port.Input.{Input}
use Rattle.pdh_streams.specs.declared.codec.Found.{Found}
use Rattle.pdh_streams.specs.Codecs.{FrameCodec, payload_of, packed_answer, packing, framed_of, answer_of, unpacked_payload, found_in, unpacked_answer, unpacking}
use Rattle.pdh_streams.specs.Ds1.{pack_says, ds1_codec}
use Rattle.pdh_streams.specs.Steps.{IsWholePayload, IsFramedLine}
use Rattle.pdh_streams.proofs.PackingLaws as packing_laws
use Rattle.pdh_streams.proofs.UnpackingLaws as unpacking_laws
use Rattle.pdh_streams.proofs.StreamFiles.{StreamsFile}

-- ---- names

line_letter : get_or ds1_name 0 0 ≡ 100
unfolding ds1_name
line_letter = refl

payload_letter : get_or payload_name 0 0 ≡ 112
unfolding payload_name
payload_letter = refl

out_letter : get_or payload_out_name 0 0 ≡ 112
unfolding payload_out_name
out_letter = refl

line_is_not_payload : name_of Ds1Line ≡ name_of Payload → ⊥
line_is_not_payload e = omega (arith, ap (λ (name : List ℕ). get_or name 0 0) e, line_letter, payload_letter)

out_is_not_line : name_of PayloadOut ≡ name_of Ds1Line → ⊥
out_is_not_line e = omega (arith, ap (λ (name : List ℕ). get_or name 0 0) e, line_letter, out_letter)

-- ---- the commands

module _ (form : Frame1) (input : Input) (b : ShelfState) where
  pub pack_streams : IsWholePayload (ds1_codec form) input b → StreamsFile (packing (ds1_codec form)) Payload Ds1Line (payload_of (ds1_codec form)) (packed_answer (ds1_codec form)) (packed_of form) input b
  pack_streams is = record {
    begins = packing_laws.begins (ds1_codec form);
    in_run = refl;
    one = refl;
    named = refl;
    apart = line_is_not_payload;
    shows = refl;
    file_is = is.file_is;
    octets = is.octets;
    bits_are = is.bits_are;
    long = is.long;
    serves = packing_laws.whole_payload (ds1_codec form) is.octets is.few is.whole;
    bytes = λ files content here count.
        ap (λ (h : Option (List ℕ)). packed_line form (unwrap_or h [])) here ∙ line_is form content (ap (λ (n : ℕ). n % 576) count ∙ is.whole);
  }

  pub unpack_streams : IsFramedLine (ds1_codec form) input b → StreamsFile (unpacking (ds1_codec form)) Ds1Line PayloadOut (framed_of (ds1_codec form)) (unpacked_answer (ds1_codec form)) (far_of form) input b
  unfolding unpacked_payload
  unpack_streams is = record {
    begins = unpacking_laws.begins (ds1_codec form);
    in_run = refl;
    one = refl;
    named = refl;
    apart = out_is_not_line;
    shows = refl;
    file_is = is.file_is;
    octets = is.octets;
    bits_are = is.bits_are;
    long = is.long;
    serves = unpacking_laws.whole_framed (ds1_codec form) is.octets is.few;
    bytes = λ files content here count. ap (λ (h : Option (List ℕ)). unpacked_payload (ds1_codec form) (unwrap_or h [])) here;
  }

-- ---- what they say

-- of a payload of so many bits
pub pack_answers : (form : Frame1) (bits : ℕ) (content : List ℕ) → length (bits_of content) ≡ bits → ◌≡◌ {A = Answer} (Ok (pack_says form (bits / 8))) (packed_answer (ds1_codec form) content)
unfolding packed_answer
pack_answers form bits content long =
    let octets : bits / 8 ≡ length content = omega (arith, long, length-bits_of content) in
    ap (λ (n : ℕ). Ok (pack_says form n)) octets

-- of a line of so many bits, in which this was found
pub unpack_answers : (form : Frame1) (bits : ℕ) (codec : FrameCodec) (found : Found) (content : List ℕ) → length (bits_of content) ≡ bits → codec ≡ ds1_codec form → found ≡ codec.found (bits_of content) → answer_of (ds1_codec form) bits found ≡ unpacked_answer (ds1_codec form) content
unfolding unpacked_answer found_in
unpack_answers form bits codec found content long same is =
    let octets : bits ≡ 8 * length content = omega (arith, long, length-bits_of content) in
    ap (λ (n : ℕ). answer_of (ds1_codec form) n found) octets ∙ ap (answer_of (ds1_codec form) (8 * length content)) (is ∙ ap (λ (c : FrameCodec). c.found (bits_of content)) same)

-- behind the start of the output
pub unpack_reaches : (codec : FrameCodec) (bits : ℕ) (found : Found) → reaches_outputs (answer_of codec bits found) ≡ true
unpack_reaches codec bits found = go (found.delivered == 0)
  where
    go : (none : Bool) → reaches_outputs (if none then Err (NoAlignment bits) else Ok (codec.unpack_says found)) ≡ true
    go true = refl
    go false = refl
