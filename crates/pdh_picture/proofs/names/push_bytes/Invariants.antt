use Rattle.std.proofs.Common.{◌≡◌, ◌++◌, drop, string_bytes}
use Rattle.pdh_picture.specs.Names.{escaped_bytes}
use Rattle.pdh_picture.proofs.names.push_bytes.Given as goal

abbrev pub invariant-loop-byte : goal.invariant-loop-byte
invariant-loop-byte l = string_bytes l.out ++ escaped_bytes (drop l.byte-index l.bytes) ≡ string_bytes l.initial.out ++ escaped_bytes l.bytes
