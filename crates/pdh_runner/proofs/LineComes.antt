-- The bytes and the bits of a line that was read.
use Rattle.std.proofs.Common.{◌≡◌, ℕ, ◌^◌, ◌<◌, rules, List, Option, None, Some, length, take, ap, sym, ◌∙◌}
use Rattle.std.proofs.Math.Seq.{take-length}
use Rattle.std.specs.Option.{option_map}
use Rattle.pdh_edge.specs.Files.{ShelfState, IsRangeOf}
use Rattle.pdh_chain.specs.declared.chain.Chain.{Chain}
use Rattle.pdh_runner.specs.Lines.{IsLine}
use Rattle.pdh_runner.specs.declared.port.Input.{Input}

-- the buffer that a whole file was read into holds the file
pub read_whole : (held : Option (List ℕ)) (bytes : ℕ) (buffer : List ℕ) → Some bytes ≡ option_map length held → IsRangeOf held 0 buffer → length buffer ≡ bytes → held ≡ Some buffer
read_whole None bytes buffer size range full = absurd range
read_whole (Some line) bytes buffer size range full =
    let same : bytes ≡ length line = cc in
    let whole : buffer ≡ take (length buffer) line = range.1 in
    let long : length buffer ≡ length line = full ∙ same in
    ap Some (sym (whole ∙ ap (λ n. take n line) long ∙ take-length line))

-- the bits of a line that isn't too long
pub few_bits : (chain : Chain) (line : Input) (state : ShelfState) → IsLine chain line state → line.bits < 2 ^ 63
few_bits chain line state is = let bits = is.bits_are in let few = is.few in search rules
