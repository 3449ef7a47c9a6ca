use Rattle.std.proofs.Common.{◌≡◌, ℕ, ◌<◌, length}
use Rattle.std.specs.Prelude.{slice_index}
use Rattle.pdh_edge.specs.Files.{Looks}
use Rattle.pdh_answers.specs.Names.{schedule_name, leaf_name}
use Rattle.pdh_runner.specs.Reading.{HasLength}
use Rattle.pdh_making.proofs.muxing.read_sizes.Given as goal

abbrev pub invariant-loop-leaf : goal.invariant-loop-leaf
invariant-loop-leaf g l =
    let old = g.S.Shelf.state l.initial.shelf in
    let new = g.S.Shelf.state l.shelf in
    record {
      looks : Looks old new;
      same : new.counts ≡ old.counts;
      schedule : HasLength schedule_name l.schedule new;
      all : length l.leaves ≡ 64;
      leaf : (k : ℕ) → k < l.leaf → HasLength (leaf_name k) (slice_index l.leaves k) new;
    }
