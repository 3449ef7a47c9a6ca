use Rattle.std.proofs.Common.{◌≡◌, ◌+◌, ◌≤◌, ℕ, Bool, List, length, map, sym, ap, ◌∙◌, subst, arith}
use Rattle.std.specs.Prelude.{All}
use Rattle.pdh_bits.specs.BitOut.{BoundedBits}
use Rattle.pdh_packed.specs.Gaining.{gained}
use Rattle.pdh_shape.specs.Frame.{FrameShape}
use Rattle.pdh_runs.specs.Pieces.{rows, Assembled}
use Rattle.pdh_tx.specs.Meaning.{plan_in, Plan}
use Rattle.pdh_tx.specs.Tributary.{placed_in, held_in, meaning_in, share_in}
use Rattle.pdh_tx.specs.Passing.{HasRows}
use Rattle.pdh_tx.specs.Tributaries.{meanings, columns}
use Rattle.pdh_tx.proofs.FrameStarts.{meanings as meanings_of}
use Rattle.pdh_tx.proofs.PassingAll.{rows_all}
use Rattle.pdh_tx.proofs.PieceSteps.{piece_line}
use Rattle.pdh_tx.proofs.GatheredPieces.{is_scheduled, can_carry_all, piece_gathered, piece_rows, piece_held}
use Rattle.pdh_tx.proofs.stored.TributariesBody.gathered_piece.Goals as goal

pub carry_all-requires-clause-can : goal.carry_all-requires-clause-can
carry_all-requires-clause-can g c =
    let s = g.met.S.Shape in
    let begun = c.begin_gathered.ensures in
    can_carry_all s.is_frame c.args.self.now.stores s.tribs_is c.args.self.now c.begin_gathered.new.self (plan_in c.args.clock.now g.G.SlipLog.takes) c.args.at c.requires.placed.0 c.requires.piece.some (omega (arith, c.requires.piece.inside, s.len_is)) c.requires.placed.2
    c.requires.placed.1 begun.child begun.queues begun.decided

pub assemble-requires-clause-rows : goal.assemble-requires-clause-rows
assemble-requires-clause-rows g c =
    let s = g.met.S.Shape in
    let begun = c.begin_gathered.ensures in
    let at = c.args.at in
    let new = c.carry_all.new.self in
    let P : List BoundedBits → Type 0 = λ columns. All (λ column. length column.bits ≡ rows g.S.Shape.shape at.slot at.len) columns in
    let each = piece_rows s.is_frame c.args.self.now.stores s.tribs_is c.args.self.now c.begin_gathered.new.self (plan_in c.args.clock.now g.G.SlipLog.takes) at c.requires.placed.0 c.requires.piece.some (omega (arith, c.requires.piece.inside, s.len_is)) c.requires.placed.2
    c.requires.placed.1 begun.child begun.queues begun.decided new c.carry_all.ensures.list begun.store c.carry_all.ensures.carried in
    subst P (sym c.deref-3.ensures.value) (rows_all g.S.Shape.shape at.slot at.len new.scratch.columns.items (subst (λ (k : ℕ). HasRows g.S.Shape.shape at.slot at.len (columns new) k) (s.tribs_is ∙ sym new.room.count) each))

pub returns-clause-made : goal.returns-clause-made
returns-clause-made g c end was upto =
    let laws = g.met.S.Shape in
    let s : FrameShape = g.S.Shape.shape in
    let at = c.args.at in
    let old = c.args.self.now in
    let mid = c.begin_gathered.new.self in
    let new = c.carry_all.new.self in
    let begun = c.begin_gathered.ensures in
    let plan : Plan = plan_in c.args.clock.now g.G.SlipLog.takes in
    let within : at.slot + at.len ≤ s.len = omega (arith, c.requires.piece.inside, laws.len_is) in
    let bits : List Bool = gained c.args.into.now c.assemble.new.into in
    let overhead = c.write_overhead.new.into in
    let now = piece_gathered laws.is_frame old.stores laws.tribs_is old mid plan at end c.requires.piece.some within upto was begun.child begun.queues begun.decided new c.carry_all.ensures.list begun.store c.carry_all.ensures.carried in
    let scheduled = is_scheduled laws.is_frame old.stores laws.tribs_is old mid plan at end c.requires.piece.some within upto was begun.child begun.queues begun.decided in
    let A : List Bool → List BoundedBits → Type 0 = λ overhead lists. Assembled s at.slot at.len overhead (map (λ (column : BoundedBits). column.bits) lists) bits in
    let assembled : A overhead.bits new.scratch.columns.items = subst (λ (overhead : BoundedBits). A overhead.bits new.scratch.columns.items) c.carry_all.ensures.overhead (subst (A new.scratch.overhead.bits) c.deref-3.ensures.value c.assemble.ensures.assembled) in
    record {
      place = record {
        made = now.made;
        empty = now.empty;
        few = now.few;
        decided = now.decided;
        scheduled = now.scheduled;
        bounded = now.bounded;
        upto = now.upto;
        some = now.some;
        size = now.size;
        slots = now.slots;
      };
      bounded = omega (arith, scheduled, was.bounded);
      onward = λ supply is held said parity.
          let both = piece_held laws.is_frame old.stores laws.tribs_is old mid plan at end c.requires.piece.some within upto was begun.child begun.queues begun.decided new c.carry_all.ensures.list begun.store c.carry_all.ensures.carried supply is held in (
            piece_line (placed_in g.C.Tx) (held_in g.C.Tx) (meaning_in g.C.Tx) share_in s laws.has_tributaries at.path plan at.frame at.slot (at.slot + at.len) (meanings old) mid.list.items supply c.args.say.now c.args.odd at.len overhead.bits bits (columns new)
                (mid.count ∙ sym laws.tribs_is) c.assemble.ensures.grown.count within is begun.decided said parity c.write_overhead.ensures.bits assembled both.1,
            both.0,
          );
      odd_is = c.assemble.ensures.odd;
    }

pub returns-clause-same : goal.returns-clause-same
returns-clause-same g c =
    let tx = g.C.Tx in
    ap (λ list. map (meaning_in tx) list.items) c.carry_all.ensures.list ∙ meanings_of tx c.begin_gathered.new.self.list.items ∙ ap (map tx.meaning) c.begin_gathered.ensures.child ∙ sym (meanings_of tx c.args.self.now.list.items)
