use Rattle.std.proofs.Common.{◌≡◌, ◌+◌, ◌<◌, ◌++◌, ℕ, Bool, true, false, length, sym, ap, ◌∙◌, arith, slice_index_or}
use Rattle.std.specs.Prelude.{count_by}
use Rattle.std.specs.List.{range_with_len}
use Rattle.std.proofs.lemmas.List.{append-nil}
use Rattle.pdh_shape.specs.Tributary.{controls}
use Rattle.pdh_show.specs.Shown.{digit}
use Rattle.pdh_show.proofs.Walks.{picked_next, counted_next, one_more}
use Rattle.pdh_show.proofs.lines.append_copies.Goals as goal
use Rattle.pdh_show.proofs.lines.append_copies.Goals.{then-controls, else-controls}

pub text-requires : goal.text-requires
text-requires g c =
    let s = g.S.Shape.shape in
    let p : ℕ → Bool = λ slot. controls c.args.trib (s.role slot) in
    let known : c.args.trib < s.tribs = omega (arith, c.requires.known, g.met.S.Shape.tribs_is) in
    let inside : c.loop-slot.slot < s.len = omega (arith, c.loop-slot-test.true, g.met.S.Shape.len_is) in
    let test : c.controls.result ≡ p c.loop-slot.slot = c.controls.ensures ∙ ap (controls c.args.trib) c.role.ensures in
    let passes : p c.loop-slot.slot ≡ true = sym test ∙ c.if-controls.true in
    omega (arith, one_more p c.loop-slot.slot s.len inside passes, g.met.S.Shape.has_tributaries.copies c.args.trib known, g.met.S.Shape.copies_is, c.loop-slot.invariant.len, c.requires.room, c.digit.ensures.len)

pub loop-slot-preserved : goal.loop-slot-preserved
loop-slot-preserved g c =
    let s = g.S.Shape.shape in
    let k : ℕ = c.loop-slot.slot in
    let p : ℕ → Bool = λ slot. controls c.args.trib (s.role slot) in
    let test : c.controls.result ≡ p k = c.controls.ensures ∙ ap (controls c.args.trib) c.role.ensures in
    elim c.if-controls.branch [
      | then-controls w ↦ record {
        digits = picked_next (λ slot. digit (slice_index_or c.args.frame.now.bits slot false)) p k true c.args.line.now c.loop-slot.line _ (sym w.if-controls.true ∙ test) c.loop-slot.invariant.digits
            (w.line-is ∙ w.text.ensures.bytes ∙ ap (λ d. c.loop-slot.line ++ d) (w.digit.ensures.digit ∙ ap digit w.get.ensures));
        len = counted_next p k true (length c.args.line.now) (length c.loop-slot.line) _ (sym w.if-controls.true ∙ test) c.loop-slot.invariant.len
            (ap length w.line-is ∙ w.text.ensures.len ∙ ap (λ n. length c.loop-slot.line + n) w.digit.ensures.len);
      }
      | else-controls w ↦ record {
        digits = picked_next (λ slot. digit (slice_index_or c.args.frame.now.bits slot false)) p k false c.args.line.now c.loop-slot.line _ (sym w.if-controls.false ∙ test) c.loop-slot.invariant.digits
            (w.line-is ∙ sym (append-nil c.loop-slot.line));
        len = counted_next p k false (length c.args.line.now) (length c.loop-slot.line) _ (sym w.if-controls.false ∙ test) c.loop-slot.invariant.len (omega (arith, ap length w.line-is));
      }
    ]

pub returns-clause-len : goal.returns-clause-len
returns-clause-len g c =
    let s = g.S.Shape.shape in
    let p : ℕ → Bool = λ slot. controls c.args.trib (s.role slot) in
    let known : c.args.trib < s.tribs = omega (arith, c.requires.known, g.met.S.Shape.tribs_is) in
    let last : c.loop-slot.slot ≡ s.len = omega (arith, c.loop-slot-test.false, c.loop-slot.auto.slot-end, g.met.S.Shape.len_is) in
    omega (arith, c.loop-slot.invariant.len, ap (λ n. count_by p (range_with_len 0 n)) last, g.met.S.Shape.has_tributaries.copies c.args.trib known, g.met.S.Shape.copies_is)
