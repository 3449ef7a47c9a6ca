use Rattle.std.proofs.Common.{◌≡◌, ◌∙◌, ◌<◌, ℕ, [], Some, IsSome, length, ap, sym, subst, arith}
use Rattle.std.proofs.lemmas.List.Elements.{All-get_or}
use Rattle.pdh_line.specs.Paths.{steps_of}
use Rattle.pdh_levels.specs.Levels.{nodes_in, level_at, place_of}
use Rattle.pdh_levels.proofs.NodeOrder.{node_place, nodes_known}
use Rattle.pdh_clock.specs.Contents.{frame_count}
use Rattle.pdh_clock.specs.Begun.{NoneShort, Shortage}
use Rattle.pdh_clock.specs.Stored.{contents_of, rows_in}
use Rattle.pdh_clock.proofs.Trees.{length-nodes}
use Rattle.pdh_clock.proofs.Served.{read_at}
use Rattle.pdh_clock.proofs.Begins.{shortage_first, shortage_none, none_short_more}
use Rattle.pdh_clock.proofs.tree.Tree.short.Goals as goal

pub begun-need-requires-clause-node : goal.begun-need-requires-clause-node
begun-need-requires-clause-node c =
    let levels = c.args.self.now.levels.items in
    let inside : c.loop-place.place < length (nodes_in levels) = omega (arith, length-nodes c.args.self.now c.requires) in
    subst (λ path. IsSome (level_at levels path)) (sym c.node-node.ensures.steps)
    (All-get_or (λ path. IsSome (level_at levels path)) (nodes_in levels) c.loop-place.place [] inside (nodes_known levels))

pub begun-need-requires-clause-enough : goal.begun-need-requires-clause-enough
begun-need-requires-clause-enough c =
    let tree = c.args.self.now in
    let inside : c.loop-place.place < length (nodes_in tree.levels.items) = omega (arith, length-nodes tree c.requires) in
    let place = ap (place_of tree.levels.items) c.node-node.ensures.steps ∙ node_place tree.levels.items c.loop-place.place [] inside in
    subst (NoneShort (contents_of tree) c.args.top_frames) (sym place) c.loop-place.invariant

pub returns-then-have-need-clause-short : goal.returns-then-have-need-clause-short
returns-then-have-need-clause-short c =
    let tree = c.args.self.now in
    let path = steps_of c.node-node.result in
    let read = read_at tree c.loop-place.place path c.index.result.now c.requires (omega arith) c.node-node.ensures.steps c.index.ensures in
    let have : c.frames-have.result ≡ frame_count (rows_in tree) path = c.frames-have.ensures ∙ ap length read.frames in
    let need = c.begun-need.ensures in
    let answer : ℕ → ℕ → Shortage = λ have need. record { path = path; have = have; need = need } in
    ap (λ n. Some (answer n c.begun-need.result)) have ∙ ap (λ n. Some (answer (frame_count (rows_in tree) path) n)) need
    ∙ sym (shortage_first (contents_of tree) c.args.top_frames c.loop-place.place path read.inside (sym c.node-node.ensures.steps) c.loop-place.invariant
    (let short = c.if-have-need.true in omega (arith, have, need)))

pub loop-place-preserved : goal.loop-place-preserved
loop-place-preserved c =
    let tree = c.args.self.now in
    let path = steps_of c.node-node.result in
    let read = read_at tree c.loop-place.place path c.index.result.now c.requires (omega arith) c.node-node.ensures.steps c.index.ensures in
    let have : c.frames-have.result ≡ frame_count (rows_in tree) path = c.frames-have.ensures ∙ ap length read.frames in
    let need = c.begun-need.ensures in
    none_short_more (contents_of tree) c.args.top_frames c.loop-place.place path c.loop-place.invariant (sym c.node-node.ensures.steps)
    (let enough = c.if-have-need.false in omega (arith, have, need))

pub returns-clause-short : goal.returns-clause-short
returns-clause-short c = sym (shortage_none (contents_of c.args.self.now) c.args.top_frames c.loop-place.place (omega (arith, length-nodes c.args.self.now c.requires)) c.loop-place.invariant)
