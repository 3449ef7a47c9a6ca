use Rattle.std.proofs.Common.{◌≡◌, ◌<◌, inl, inr, length, map, refl, sym, ap, ◌∙◌, subst, arith, Some, slice_get}
use Rattle.std.proofs.lemmas.Bool.{cases_lt}
use Rattle.std.proofs.lemmas.Option.{slice_get_read, slice_get-map, slice_get_within, same_Some}
use Rattle.pdh_rx.specs.Meaning.{HoldsAll}
use Rattle.pdh_rx.specs.Node.{any_leaf}
use Rattle.pdh_rx.proofs.OneChild.{leaf_of_all}
use Rattle.pdh_rx.proofs.children.Children.have_room.Goals as goal

pub has_room-requires : goal.has_room-requires
has_room-requires g c =
    let xs = c.self.inside.list.items in
    let t = c.loop-trib.trib in
    let inside : t < length xs = omega (arith, c.loop-trib-test.true, c.len-trib-end.ensures) in
    let at : slice_get xs t ≡ Some c.index.result.now = slice_get_read _ _ t _ refl inside c.index.ensures in
    let lists = subst (λ cs. HoldsAll (any_leaf (map g.C.Rx.meaning cs)) (g.D.Drain.outputs c.args.drain.now)) (sym c.self.view_is) c.requires in
    record { lists = λ k leaf. lists k (leaf_of_all _ t (g.C.Rx.meaning c.index.result.now) k (slice_get-map g.C.Rx.meaning xs t ∙ rw at refl) leaf) }

pub loop-trib-preserved : goal.loop-trib-preserved
loop-trib-preserved g c j lt child here = elim (cases_lt j c.loop-trib.trib) [
  | inl less ↦ c.loop-trib.invariant j less child here
  | inr more ↦
      let xs = c.self.inside.list.items in
      let t = c.loop-trib.trib in
      let inside : t < length xs = omega (arith, c.loop-trib-test.true, c.len-trib-end.ensures) in
      let at : slice_get xs t ≡ Some c.index.result.now = slice_get_read _ _ t _ refl inside c.index.ensures in
      let last : j ≡ t = omega (arith, lt, more) in
      let same : c.index.result.now ≡ child = same_Some _ _ (sym at ∙ ap (slice_get xs) (sym last) ∙ here) in
      subst (λ child. g.C.Rx.fits child (g.D.Drain.room c.args.drain.now) c.args.bits) same (c.has_room.ensures c.if-not-has_room.false)
]

pub returns : goal.returns
returns g c all j child here =
    let xs = c.self.inside.list.items in
    let at : slice_get xs j ≡ Some child = ap (λ cs. slice_get cs j) c.self.view_is ∙ here in
    c.loop-trib.invariant j (omega (arith, slice_get_within xs j child at, c.loop-trib-test.false, c.len-trib-end.ensures)) child at
