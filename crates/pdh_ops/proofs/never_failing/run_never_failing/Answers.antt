use Rattle.std.proofs.Common.{map, refl}
use Rattle.std.specs.String.{string_bytes}
use Rattle.pdh_words.specs.Commands.{command_of}
use Rattle.pdh_edge.specs.NeverFails.{shelf_state, sink_state}
use Rattle.pdh_ops.proofs.NeverFailing.{completes_always}
use Rattle.pdh_ops.proofs.never_failing.run_never_failing.Goals as goal

pub returns : goal.returns
returns g c =
    completes_always (command_of (map string_bytes c.args.words.now)) (shelf_state c.args.shelf) (shelf_state c.run.result.shelf) (sink_state c.args.out) (sink_state c.run.result.out) _ _ c.run.result.status
    c.args.shelf.misses c.run.result.shelf.misses refl refl refl refl c.run.ensures.runs c.run.ensures.completes
