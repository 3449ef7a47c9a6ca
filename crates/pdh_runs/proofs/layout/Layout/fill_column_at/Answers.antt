use Rattle.std.proofs.Common.{◌≡◌, ◌<◌, ◌≤◌, ◌+◌, ◌-◌, true, drop, refl, ap, arith}
use Rattle.std.proofs.lemmas.List.{length-drop}
use Rattle.pdh_bits.specs.BitOut.{BoundedBits}
use Rattle.pdh_shape.specs.Tributary.{reads_below}
use Rattle.pdh_runs.specs.Turns.{empty_before}
use Rattle.pdh_runs.proofs.PieceLaws.{rows_most}
use Rattle.pdh_runs.proofs.EmptyTurns.{begins, ends, turns_few, turns_held, begun_long, begun_room, turned_long, turned_room, filled_long, filled_room, filled_fills}
use Rattle.pdh_runs.proofs.layout.Layout.fill_column_at.Goals as goal

pub overflow_sub-turns : goal.overflow_sub-turns
overflow_sub-turns g c =
    let s = g.S.Shape.shape in
    let known : c.args.trib < s.tribs = omega (arith, c.requires.known, g.met.S.Shape.tribs_is) in
    let inside : c.args.first + c.args.len ≤ s.len = omega (arith, c.requires.inside, g.met.S.Shape.len_is) in
    omega (arith, (begins s g.met.S.Shape.in_turn c.args.trib known c.args.more c.args.first c.args.len inside (drop c.args.at c.args.queue.now.bits) c.turns-turns.result c.turns-turns.ensures).0, c.turn.ensures)

pub fill_up-requires-clause-short : goal.fill_up-requires-clause-short
fill_up-requires-clause-short g c =
    let s = g.S.Shape.shape in
    let known : c.args.trib < s.tribs = omega (arith, c.requires.known, g.met.S.Shape.tribs_is) in
    let inside : c.args.first + c.args.len ≤ s.len = omega (arith, c.requires.inside, g.met.S.Shape.len_is) in
    omega (arith, (begins s g.met.S.Shape.in_turn c.args.trib known c.args.more c.args.first c.args.len inside (drop c.args.at c.args.queue.now.bits) c.turns-turns.result c.turns-turns.ensures).1, c.turn.ensures)

pub fill_up-requires-clause-room : goal.fill_up-requires-clause-room
fill_up-requires-clause-room g c =
    let s = g.S.Shape.shape in
    let known : c.args.trib < s.tribs = omega (arith, c.requires.known, g.met.S.Shape.tribs_is) in
    let inside : c.args.first + c.args.len ≤ s.len = omega (arith, c.requires.inside, g.met.S.Shape.len_is) in
    omega (arith, (begins s g.met.S.Shape.in_turn c.args.trib known c.args.more c.args.first c.args.len inside (drop c.args.at c.args.queue.now.bits) c.turns-turns.result c.turns-turns.ensures).1, c.turn.ensures, c.requires.room, ap (λ (b : BoundedBits). b.capacity) c.clear.ensures)

pub append_turns-requires-clause-held : goal.append_turns-requires-clause-held
append_turns-requires-clause-held g c =
    let s = g.S.Shape.shape in
    let known : c.args.trib < s.tribs = omega (arith, c.requires.known, g.met.S.Shape.tribs_is) in
    let inside : c.args.first + c.args.len ≤ s.len = omega (arith, c.requires.inside, g.met.S.Shape.len_is) in
    omega (arith, turns_held s g.met.S.Shape.in_turn c.args.trib known c.args.more c.args.first c.args.len inside (drop c.args.at c.args.queue.now.bits) c.turns-turns.result c.turns-turns.ensures c.requires.held, length-drop c.args.at c.args.queue.now.bits, c.requires.within)

pub append_turns-requires-clause-room : goal.append_turns-requires-clause-room
append_turns-requires-clause-room g c =
    let s = g.S.Shape.shape in
    let known : c.args.trib < s.tribs = omega (arith, c.requires.known, g.met.S.Shape.tribs_is) in
    let inside : c.args.first + c.args.len ≤ s.len = omega (arith, c.requires.inside, g.met.S.Shape.len_is) in
    omega (
      arith,
      begun_long s g.met.S.Shape.in_turn c.args.trib known c.args.more c.args.first c.args.len inside (drop c.args.at c.args.queue.now.bits) c.turns-turns.result c.turns-turns.ensures c.requires.held c.turn.result _ c.inverted.result c.args.column.now c.clear.new.self c.fill_up.new.list c.fill_up.new.list c.fill_up.new.list c.turn.ensures refl c.inverted.ensures c.clear.ensures c.fill_up.ensures,
      begun_room s g.met.S.Shape.in_turn c.args.trib known c.args.more c.args.first c.args.len inside (drop c.args.at c.args.queue.now.bits) c.turns-turns.result c.turns-turns.ensures c.requires.held c.turn.result _ c.inverted.result c.args.column.now c.clear.new.self c.fill_up.new.list c.fill_up.new.list c.fill_up.new.list c.turn.ensures refl c.inverted.ensures c.clear.ensures c.fill_up.ensures,
      turns_few s g.met.S.Shape.in_turn c.args.trib known c.args.more c.args.first c.args.len inside (drop c.args.at c.args.queue.now.bits) c.turns-turns.result c.turns-turns.ensures,
      g.met.S.Shape.has_tributaries.high c.args.trib known,
      g.met.S.Shape.low_is,
      c.requires.room,
    )

pub fill_up-requires-2-clause-short : goal.fill_up-requires-2-clause-short
fill_up-requires-2-clause-short g c =
    let s = g.S.Shape.shape in
    let known : c.args.trib < s.tribs = omega (arith, c.requires.known, g.met.S.Shape.tribs_is) in
    let inside : c.args.first + c.args.len ≤ s.len = omega (arith, c.requires.inside, g.met.S.Shape.len_is) in
    omega (arith, (ends s g.met.S.Shape.in_turn c.args.trib known c.args.more c.args.first c.args.len inside (drop c.args.at c.args.queue.now.bits) c.turns-turns.result c.turns-turns.ensures).1, turned_long s g.met.S.Shape.in_turn c.args.trib known c.args.more c.args.first c.args.len inside (drop c.args.at c.args.queue.now.bits) c.turns-turns.result c.turns-turns.ensures c.requires.held c.turn.result c.rows.result c.inverted.result c.args.column.now c.clear.new.self c.fill_up.new.list c.append_turns.new.into c.append_turns.new.into c.turn.ensures c.rows.ensures c.inverted.ensures c.clear.ensures c.fill_up.ensures c.append_turns.ensures, c.rows.ensures)

pub fill_up-requires-2-clause-room : goal.fill_up-requires-2-clause-room
fill_up-requires-2-clause-room g c =
    let s = g.S.Shape.shape in
    let known : c.args.trib < s.tribs = omega (arith, c.requires.known, g.met.S.Shape.tribs_is) in
    let inside : c.args.first + c.args.len ≤ s.len = omega (arith, c.requires.inside, g.met.S.Shape.len_is) in
    omega (arith, rows_most s (omega (arith, known)) c.args.first c.args.len g.met.S.Shape.in_turn inside, turned_room s g.met.S.Shape.in_turn c.args.trib known c.args.more c.args.first c.args.len inside (drop c.args.at c.args.queue.now.bits) c.turns-turns.result c.turns-turns.ensures c.requires.held c.turn.result c.rows.result c.inverted.result c.args.column.now c.clear.new.self c.fill_up.new.list c.append_turns.new.into c.append_turns.new.into c.turn.ensures c.rows.ensures c.inverted.ensures c.clear.ensures c.fill_up.ensures c.append_turns.ensures, c.rows.ensures, c.requires.room, g.met.S.Shape.low_is)

pub returns-clause-capacity : goal.returns-clause-capacity
returns-clause-capacity g c =
    let s = g.S.Shape.shape in
    let known : c.args.trib < s.tribs = omega (arith, c.requires.known, g.met.S.Shape.tribs_is) in
    let inside : c.args.first + c.args.len ≤ s.len = omega (arith, c.requires.inside, g.met.S.Shape.len_is) in
    filled_room s g.met.S.Shape.in_turn c.args.trib known c.args.more c.args.first c.args.len inside (drop c.args.at c.args.queue.now.bits) c.turns-turns.result c.turns-turns.ensures c.requires.held c.turn.result c.rows.result c.inverted.result c.args.column.now c.clear.new.self c.fill_up.new.list c.append_turns.new.into c.fill_up-2.new.list c.turn.ensures c.rows.ensures c.inverted.ensures c.clear.ensures c.fill_up.ensures c.append_turns.ensures c.fill_up-2.ensures

pub returns-clause-rows : goal.returns-clause-rows
returns-clause-rows g c =
    let s = g.S.Shape.shape in
    let known : c.args.trib < s.tribs = omega (arith, c.requires.known, g.met.S.Shape.tribs_is) in
    let inside : c.args.first + c.args.len ≤ s.len = omega (arith, c.requires.inside, g.met.S.Shape.len_is) in
    filled_long s g.met.S.Shape.in_turn c.args.trib known c.args.more c.args.first c.args.len inside (drop c.args.at c.args.queue.now.bits) c.turns-turns.result c.turns-turns.ensures c.requires.held c.turn.result c.rows.result c.inverted.result c.args.column.now c.clear.new.self c.fill_up.new.list c.append_turns.new.into c.fill_up-2.new.list c.turn.ensures c.rows.ensures c.inverted.ensures c.clear.ensures c.fill_up.ensures c.append_turns.ensures c.fill_up-2.ensures

pub returns-clause-fills : goal.returns-clause-fills
returns-clause-fills g c =
    let s = g.S.Shape.shape in
    let known : c.args.trib < s.tribs = omega (arith, c.requires.known, g.met.S.Shape.tribs_is) in
    let inside : c.args.first + c.args.len ≤ s.len = omega (arith, c.requires.inside, g.met.S.Shape.len_is) in
    filled_fills s g.met.S.Shape.in_turn c.args.trib known c.args.more c.args.first c.args.len inside (drop c.args.at c.args.queue.now.bits) c.turns-turns.result c.turns-turns.ensures c.requires.held c.turn.result c.rows.result c.inverted.result c.args.column.now c.clear.new.self c.fill_up.new.list c.append_turns.new.into c.fill_up-2.new.list c.turn.ensures c.rows.ensures c.inverted.ensures c.clear.ensures c.fill_up.ensures c.append_turns.ensures c.fill_up-2.ensures

pub returns-clause-carried : goal.returns-clause-carried
returns-clause-carried g c =
    let s = g.S.Shape.shape in
    let are = c.turns-turns.ensures in
    let all = are.carries (c.args.first + c.args.len) (omega arith) (omega arith) in
    let count : reads_below s c.args.trib true (c.args.first + c.args.len) - c.turns-turns.result.from ≡ c.turns-turns.result.count = omega (arith, are.count_is) in
    omega (arith, all, are.count_is, ap (empty_before c.turns-turns.result.empty) count, c.carrying.ensures)
