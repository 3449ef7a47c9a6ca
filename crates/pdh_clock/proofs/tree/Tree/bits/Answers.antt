use Rattle.std.proofs.Common.{◌≡◌, ◌∙◌, ◌*◌, ◌-◌, ◌≤◌, [], ◌∷◌, ap, sym, subst, arith}
use Rattle.pdh_line.specs.Paths.{steps_of}
use Rattle.pdh_clock.specs.Contents.{counts, frame_count}
use Rattle.pdh_clock.specs.Begun.{taken, bits_made, top_len}
use Rattle.pdh_line.specs.Progress.{begun_by}
use Rattle.pdh_levels.specs.Levels.{place_of}
use Rattle.pdh_clock.specs.Stored.{contents_of, rows_in}
use Rattle.pdh_levels.proofs.LevelLaws.{first_step, second_step, steps_two, level_is}
use Rattle.pdh_clock.proofs.Begins.{child, bits_child, enough_at, top_len_is, first_node, top_before, first_before, second_node, child_tributary}
use Rattle.pdh_clock.proofs.tree.Tree.bits.Goals as goal

pub overflow_sub-node : goal.overflow_sub-node
overflow_sub-node c = (first_step c.args.self.now.levels.items c.args.node.now c.requires.tree.levels_are.each c.if-node-eq0.false c.requires.node).0

pub taken-first-requires-clause-in_range : goal.taken-first-requires-clause-in_range
taken-first-requires-clause-in_range c =
    let levels = c.args.self.now.levels.items in
    λ level is. child_tributary levels [] c.args.node.now.first level (child levels [] c.args.node.now.first (first_node levels c.args.node.now c.if-node-eq0.false c.requires.node)) is

pub taken-first-requires-clause-enough : goal.taken-first-requires-clause-enough
taken-first-requires-clause-enough c = λ level is.
    let schedule = contents_of c.args.self.now in
    let some = c.requires.tree.levels_are.some in
    let len : c.from-2.result ≡ top_len schedule.levels = c.from-2.ensures
    ∙ ap (λ l. l.len) c.index.ensures ∙ sym (top_len_is schedule.levels c.index.result.now some) in
    let top : c.from.result * c.from-2.result ≡ bits_made schedule c.args.top_frames [] = ap (λ n. n * c.from-2.result) c.from.ensures ∙ ap (λ n. c.args.top_frames * n) len in
    subst (λ x. begun_by level.len x ≤ frame_count (rows_in c.args.self.now) []) (sym top)
    (enough_at schedule c.args.top_frames (place_of schedule.levels (steps_of c.args.node.now)) [] level c.requires.enough is
    (top_before schedule.levels c.args.node.now c.if-node-eq0.false c.requires.node))

pub taken-requires-clause-enough : goal.taken-requires-clause-enough
taken-requires-clause-enough c = λ level is.
    let schedule = contents_of c.args.self.now in
    let some = c.requires.tree.levels_are.some in
    let len : c.from-2.result ≡ top_len schedule.levels = c.from-2.ensures
    ∙ ap (λ l. l.len) c.index.ensures ∙ sym (top_len_is schedule.levels c.index.result.now some) in
    let top : c.from.result * c.from-2.result ≡ bits_made schedule c.args.top_frames [] = ap (λ n. n * c.from-2.result) c.from.ensures ∙ ap (λ n. c.args.top_frames * n) len in
    let first = child schedule.levels [] c.args.node.now.first (first_node schedule.levels c.args.node.now c.if-node-eq0.false c.requires.node) in
    let made : c.taken-first.result ≡ bits_made schedule c.args.top_frames (c.args.node.now.first ∷ []) =
    c.taken-first.ensures.taken first.level first.is
    ∙ ap (taken first.level (c.args.node.now.first - 1) (counts schedule.rows [] (c.args.node.now.first - 1))) top
    ∙ sym (bits_child schedule c.args.top_frames [] c.args.node.now.first first.level first.is) in
    subst (λ x. begun_by level.len x ≤ frame_count (rows_in c.args.self.now) (c.args.node.now.first ∷ [])) (sym made)
    (enough_at schedule c.args.top_frames (place_of schedule.levels (steps_of c.args.node.now)) (c.args.node.now.first ∷ []) level c.requires.enough is
    (first_before schedule.levels c.args.node.now c.if-node-eq0.false c.if-node-eq1.false c.requires.node))

pub overflow_sub-node-2 : goal.overflow_sub-node-2
overflow_sub-node-2 c = (second_step c.args.self.now.levels.items c.args.node.now c.requires.tree.levels_are.each c.if-node-eq0.false c.if-node-eq1.false c.requires.node).0

pub taken-requires-clause-in_range : goal.taken-requires-clause-in_range
taken-requires-clause-in_range c =
    let levels = c.args.self.now.levels.items in
    λ level is. child_tributary levels (c.args.node.now.first ∷ []) c.args.node.now.second level (second_node levels c.args.node.now c.if-node-eq0.false c.if-node-eq1.false c.requires.node) is

pub taken-requires-clause-node : goal.taken-requires-clause-node
taken-requires-clause-node c = first_node c.args.self.now.levels.items c.args.node.now c.if-node-eq0.false c.requires.node

pub taken-requires-clause-few : goal.taken-requires-clause-few
taken-requires-clause-few c = λ level is.
    let shortest = (level_is c.args.self.now.levels.items (c.args.node.now.first ∷ []) level c.requires.tree.levels_are.each is).shortest in
    omega (arith, c.taken-first.ensures.few)

pub returns-then-node-eq1-clause-few : goal.returns-then-node-eq1-clause-few
returns-then-node-eq1-clause-few c = λ level is.
    let shortest = (level_is c.args.self.now.levels.items (steps_of c.args.node.now) level c.requires.tree.levels_are.each is).shortest in
    omega (arith, c.taken-first.ensures.few)

pub returns-clause-bits : goal.returns-clause-bits
returns-clause-bits c =
    let schedule = contents_of c.args.self.now in
    let node = c.args.node.now in
    let some = c.requires.tree.levels_are.some in
    let len : c.from-2.result ≡ top_len schedule.levels = c.from-2.ensures
    ∙ ap (λ l. l.len) c.index.ensures ∙ sym (top_len_is schedule.levels c.index.result.now some) in
    let top : c.from.result * c.from-2.result ≡ bits_made schedule c.args.top_frames [] = ap (λ n. n * c.from-2.result) c.from.ensures ∙ ap (λ n. c.args.top_frames * n) len in
    let first = child schedule.levels [] node.first (first_node schedule.levels node c.if-node-eq0.false c.requires.node) in
    let made : c.taken-first.result ≡ bits_made schedule c.args.top_frames (node.first ∷ []) =
    c.taken-first.ensures.taken first.level first.is
    ∙ ap (taken first.level (node.first - 1) (counts schedule.rows [] (node.first - 1))) top
    ∙ sym (bits_child schedule c.args.top_frames [] node.first first.level first.is) in
    let second = second_node schedule.levels node c.if-node-eq0.false c.if-node-eq1.false c.requires.node in
    c.taken.ensures.taken second.level second.is
    ∙ ap (taken second.level (node.second - 1) (counts schedule.rows (node.first ∷ []) (node.second - 1))) made
    ∙ sym (bits_child schedule c.args.top_frames (node.first ∷ []) node.second second.level second.is)
    ∙ ap (bits_made schedule c.args.top_frames) (sym (steps_two node c.if-node-eq0.false c.if-node-eq1.false))

pub returns-clause-few : goal.returns-clause-few
returns-clause-few c = λ level is.
    let shortest = (level_is c.args.self.now.levels.items (steps_of c.args.node.now) level c.requires.tree.levels_are.each is).shortest in
    omega (arith, c.taken.ensures.few)
