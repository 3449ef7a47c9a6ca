use Rattle.std.proofs.Common.{◌<◌, Option, Some, None, slice_get, arith}
use Rattle.std.proofs.lemmas.Bool.{false_from_ne_true}
use Rattle.std.specs.Option.{option_map_or}
use Rattle.pdh_blocks.specs.Leaves.{Output}
use Rattle.pdh_blocks.specs.Lists.{room_of}
use Rattle.pdh_claims_of_files.proofs.blocks.full_block_told_as_room.Goals as goal

less_than_a_block : (output : Option Output) → option_map_or room_of output 0 < 32768
less_than_a_block None = omega arith
less_than_a_block (Some output) = omega arith

pub returns : goal.returns
returns g c =
    false_from_ne_true c.has_room.result (λ yes. omega (arith, c.has_room.ensures yes, less_than_a_block (slice_get c.args.port.now.blocks.outputs.items 0)))
