use Rattle.std.proofs.Common.{◌≡◌, ◌+◌, ◌≤◌, ℕ, Bool, List, length, map, sym, ap, ◌∙◌, subst, arith}
use Rattle.std.specs.Prelude.{All}
use Rattle.pdh_bits.specs.BitOut.{BoundedBits}
use Rattle.pdh_packed.specs.Gaining.{gained}
use Rattle.pdh_shape.specs.Frame.{FrameShape}
use Rattle.pdh_runs.specs.Pieces.{rows, Assembled}
use Rattle.pdh_tx.specs.Meaning.{plan_in, Plan}
use Rattle.pdh_tx.specs.Node.{source_of}
use Rattle.pdh_tx.specs.Passing.{HasRows}
use Rattle.pdh_tx.proofs.PassingAll.{rows_all}
use Rattle.pdh_locked.specs.Children.{meanings, columns}
use Rattle.pdh_locked.proofs.Filled.{slots_line}
use Rattle.pdh_locked.proofs.GatheredPieces.{is_scheduled, can_carry_all, piece_gathered, piece_rows, piece_held}
use Rattle.pdh_locked.proofs.body.ChildrenBody.gathered_piece.Goals as goal

pub carry_all-requires-clause-can : goal.carry_all-requires-clause-can
carry_all-requires-clause-can g c =
    let s = g.met.S.Shape in
    can_carry_all s.is_frame s.has_tributaries s.tribs_is c.args.self.now (plan_in c.args.clock.now g.G.SlipLog.takes) c.args.at c.requires.placed.0 c.requires.piece.some (omega (arith, c.requires.piece.inside, s.len_is)) c.requires.placed.2 c.requires.placed.1

pub assemble-requires-clause-rows : goal.assemble-requires-clause-rows
assemble-requires-clause-rows g c =
    let s = g.met.S.Shape in
    let at = c.args.at in
    let new = c.carry_all.new.self in
    let P : List BoundedBits → Type 0 = λ columns. All (λ column. length column.bits ≡ rows g.S.Shape.shape at.slot at.len) columns in
    let each = piece_rows s.is_frame s.has_tributaries s.tribs_is c.args.self.now (plan_in c.args.clock.now g.G.SlipLog.takes) at c.requires.placed.0 c.requires.piece.some (omega (arith, c.requires.piece.inside, s.len_is)) c.requires.placed.2 c.requires.placed.1
    new c.carry_all.ensures.list c.carry_all.ensures.carried in
    subst P (sym c.deref-3.ensures.value) (rows_all g.S.Shape.shape at.slot at.len new.scratch.columns.items (subst (λ (k : ℕ). HasRows g.S.Shape.shape at.slot at.len (columns new) k) (s.tribs_is ∙ sym new.room.count) each))

pub returns-clause-made : goal.returns-clause-made
returns-clause-made g c end was upto =
    let laws = g.met.S.Shape in
    let s : FrameShape = g.S.Shape.shape in
    let at = c.args.at in
    let old = c.args.self.now in
    let new = c.carry_all.new.self in
    let plan : Plan = plan_in c.args.clock.now g.G.SlipLog.takes in
    let within : at.slot + at.len ≤ s.len = omega (arith, c.requires.piece.inside, laws.len_is) in
    let bits : List Bool = gained c.args.into.now c.assemble.new.into in
    let overhead = c.write_overhead.new.into in
    let now = piece_gathered laws.is_frame laws.has_tributaries laws.tribs_is old plan at end c.requires.piece.some within upto was new c.carry_all.ensures.list c.carry_all.ensures.carried in
    let scheduled = is_scheduled laws.is_frame laws.has_tributaries laws.tribs_is old plan at end c.requires.piece.some within upto was in
    let A : List Bool → List BoundedBits → Type 0 = λ overhead lists. Assembled s at.slot at.len overhead (map (λ (column : BoundedBits). column.bits) lists) bits in
    let assembled : A overhead.bits new.scratch.columns.items = subst (λ (overhead : BoundedBits). A overhead.bits new.scratch.columns.items) c.carry_all.ensures.overhead (subst (A new.scratch.overhead.bits) c.deref-3.ensures.value c.assemble.ensures.assembled) in
    record {
      place = record { made = now.made; scheduled = now.scheduled; bounded = now.bounded; upto = now.upto; size = now.size; slots = now.slots };
      bounded = omega (arith, scheduled, was.bounded);
      onward = λ supply is held said parity.
          let both = piece_held laws.is_frame laws.has_tributaries laws.tribs_is old plan at end c.requires.piece.some within upto was new c.carry_all.ensures.list c.carry_all.ensures.carried supply is held in (
            slots_line g.C.Tx s laws.has_tributaries old.locked at.path plan old.list.items old.list.items at.frame at.slot (at.slot + at.len) (source_of at.path (meanings old) supply) c.args.say.now c.args.odd at.len overhead.bits bits (columns new) c.assemble.ensures.grown.count within said parity
                c.write_overhead.ensures.bits assembled both.1,
            both.0,
          );
      odd_is = c.assemble.ensures.odd;
    }

pub returns-clause-same : goal.returns-clause-same
returns-clause-same g c = ap (λ list. map g.C.Tx.meaning list.items) c.carry_all.ensures.list
