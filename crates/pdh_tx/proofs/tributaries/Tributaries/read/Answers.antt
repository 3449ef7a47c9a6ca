use Rattle.std.proofs.lemmas.List.{length-set}
use Rattle.std.proofs.Common.{◌≡◌, ℕ, map, Bool, true, false, not, refl, sym, ap, ◌∙◌, subst, Some, slice_get, arith}
use Rattle.std.specs.Bool.{beq}
use Rattle.std.proofs.lemmas.Option.{slice_get_read, slice_get-map}
use Rattle.std.proofs.Math.Seq.{map-set_same}
use Rattle.pdh_shape.specs.Tributary.{turned}
use Rattle.pdh_line.specs.Edits.{edited}
use Rattle.pdh_tx.specs.Held.{Readout}
use Rattle.pdh_tx.specs.Meaning.{mode_of, Supply}
use Rattle.pdh_tx.specs.Tributary.{placed_in, held_in, meaning_in, share_in, after_read}
use Rattle.pdh_tx.specs.Node.{line_of, IsDisjoint}
use Rattle.pdh_tx.proofs.Moving.{each_set}
use Rattle.pdh_tx.proofs.tributaries.Tributaries.read.Goals as goal

xor_turned : (bit inverted : Bool) → not (beq bit inverted) ≡ turned inverted bit
xor_turned true true = refl
xor_turned true false = refl
xor_turned false true = refl
xor_turned false false = refl

pub returns-in-Ok-clause-bit : goal.returns-in-Ok-clause-bit
returns-in-Ok-clause-bit g c =
    let i : ℕ = c.args.trib in
    let ws = c.args.self.now.list.items in
    let w = c.index_mut.result.now in
    let mode = mode_of g.G.SlipLog.takes in
    let at : slice_get ws i ≡ Some w = slice_get_read _ _ i _ refl (omega (arith, c.requires, c.args.self.now.count)) c.index_mut.ensures.value in
    let placed : _ → _ → ℕ → Readout → Type 0 = placed_in g.C.Tx in
    let held : _ → Supply → ℕ → Readout → Type 0 = held_in g.C.Tx in
    let line : slice_get (map (meaning_in g.C.Tx) ws) i ≡ Some (g.C.Tx.meaning w.child) = slice_get-map (meaning_in g.C.Tx) ws i ∙ rw at refl in
    let gave = c.in-Ok.ensures.bit in
    record {
      was = w;
      at = at;
      placed = λ plan made read each. each_set (λ j v n. placed v plan (made j) n) ws i c.leave.new.self read (after_read w mode (read i)) each (gave.placed plan (made i) (read i) (each i _ at));
      bit_is = λ supply made read each.
          let next = gave.bit_is supply (made i) (read i) (each i _ at) in (
            xor_turned c.in-Ok.bit c.inverted.result ∙ ap (λ b. turned b c.in-Ok.bit) c.inverted.ensures
                ∙ ap (turned (g.S.Shape.shape.inverted i)) (next.0 ∙ ap (λ o. edited (after_read w mode (read i)).edits (line_of o supply) (read i).read) (sym line)),
            each_set (λ j v n. held v supply (made j) n) ws i c.leave.new.self read (after_read w mode (read i)) each next.1,
          );
      some = gave.some;
    }

pub returns-in-Ok-clause-told : goal.returns-in-Ok-clause-told
returns-in-Ok-clause-told g c = record {
  was = c.index_mut.result.now;
  at = slice_get_read _ _ c.args.trib _ refl (omega (arith, c.requires, c.args.self.now.count)) c.index_mut.ensures.value;
  told = record { all = c.in-Ok.ensures.told.all; front = tt };
}

pub returns-in-Ok-clause-same : goal.returns-in-Ok-clause-same
returns-in-Ok-clause-same g c = map-set_same (meaning_in g.C.Tx) c.args.self.now.list.items c.args.trib c.leave.new.self c.index_mut.result.now (ap g.C.Tx.meaning c.in-Ok.ensures.child ∙ ap (meaning_in g.C.Tx) c.index_mut.ensures.value)

pub returns-in-Ok-clause-shares : goal.returns-in-Ok-clause-shares
returns-in-Ok-clause-shares g c = map-set_same share_in c.args.self.now.list.items c.args.trib c.leave.new.self c.index_mut.result.now (c.in-Ok.ensures.share ∙ ap share_in c.index_mut.ensures.value)

pub returns-in-Err-clause-stop : goal.returns-in-Err-clause-stop
returns-in-Err-clause-stop g c = record {
  was = c.index_mut.result.now;
  at = slice_get_read _ _ c.args.trib _ refl (omega (arith, c.requires, c.args.self.now.count)) c.index_mut.ensures.value;
  none = c.in-Err.ensures.stop;
}

pub returns-in-Err-clause-told : goal.returns-in-Err-clause-told
returns-in-Err-clause-told g c = record {
  was = c.index_mut.result.now;
  at = slice_get_read _ _ c.args.trib _ refl (omega (arith, c.requires, c.args.self.now.count)) c.index_mut.ensures.value;
  told = record { all = tt; front = c.in-Err.ensures.told.front };
}

pub returns-in-Err-clause-same : goal.returns-in-Err-clause-same
returns-in-Err-clause-same g c = map-set_same (meaning_in g.C.Tx) c.args.self.now.list.items c.args.trib c.leave.new.self c.index_mut.result.now (ap g.C.Tx.meaning c.in-Err.ensures.child ∙ ap (meaning_in g.C.Tx) c.index_mut.ensures.value)

pub returns-in-Err-clause-shares : goal.returns-in-Err-clause-shares
returns-in-Err-clause-shares g c = map-set_same share_in c.args.self.now.list.items c.args.trib c.leave.new.self c.index_mut.result.now (c.in-Err.ensures.share ∙ ap share_in c.index_mut.ensures.value)

pub invariant_of-self-clause-count : goal.invariant_of-self-clause-count
invariant_of-self-clause-count g c = length-set c.args.self.now.list.items c.args.trib c.leave.new.self ∙ c.args.self.now.count

pub invariant_of-self-clause-disjoint : goal.invariant_of-self-clause-disjoint
invariant_of-self-clause-disjoint g c =
    subst IsDisjoint (sym (map-set_same (meaning_in g.C.Tx) c.args.self.now.list.items c.args.trib c.leave.new.self c.index_mut.result.now (ap g.C.Tx.meaning c.leave.ensures.child ∙ ap (meaning_in g.C.Tx) c.index_mut.ensures.value))) c.args.self.now.disjoint
