-- How many bits a frame has.
use Rattle.std.proofs.Common.{◌≡◌, ℕ, suc, ◌+◌, ◌*◌, ◌<◌, ◌≤◌, ◌^◌, List, length, arith}
use Rattle.std.proofs.lemmas.List.{length-drop}
use Rattle.std.proofs.Math.Nat.{mul-le-mul_right}
use Rattle.pdh_shape.specs.declared.role.Service.{Service}
use Rattle.pdh_shape.specs.OwnNumbers.{most_frames}
use Rattle.pdh_line.proofs.SentFrames.{length-front}
use Rattle.pdh_nesting.specs.Chains.{top_len}
use Rattle.pdh_chain.specs.Chains.{shapes_of}
use Rattle.pdh_patterns.proofs.Entered.{few_bits}
use Rattle.pdh_duplex.specs.Session.{Setting, frame_of, line_upto}

pub length-line : (z : Setting) (says : List Service) (n : ℕ) → length (line_upto z says n) ≡ n * top_len (shapes_of z.chain)
length-line z says n = length-front _ (n * top_len (shapes_of z.chain))

pub length-frame : (z : Setting) (says : List Service) (n : ℕ) → length (frame_of z says n) ≡ top_len (shapes_of z.chain)
length-frame z says n = omega (arith, length-drop (n * top_len (shapes_of z.chain)) (line_upto z says (suc n)), length-line z says (suc n))

-- the frames of a session are few bits
pub frames_few : (z : Setting) (n : ℕ) → z.frames ≤ most_frames → n < z.frames → n * top_len (shapes_of z.chain) + top_len (shapes_of z.chain) < 2 ^ 32
frames_few z n few fewer =
    let upto : suc n * top_len (shapes_of z.chain) ≤ z.frames * top_len (shapes_of z.chain) = mul-le-mul_right (top_len (shapes_of z.chain)) fewer in
    omega (arith, upto, few_bits z.chain z.frames few)
