use Rattle.std.proofs.Common.{◌≡◌, ◌<◌, ◌+◌, ◌++◌, ℕ, suc, true, false, not, Bool, List, length, map, take, drop, sym, ap, ◌∙◌, arith}
use Rattle.pdh_bits.specs.BitOut.{BoundedBits}
use Rattle.pdh_packed.specs.Words.{bounded}
use Rattle.pdh_shape.specs.Tributary.{carries_more}
use Rattle.pdh_runs.specs.Columns.{trib_bits}
use Rattle.pdh_runs.proofs.TakingLaws.{unturned, length-trib_bits, just_inside, stripped_more, stripped_fewer}
use Rattle.pdh_runs.proofs.layout.Layout.strip.Goals as goal
use Rattle.pdh_runs.proofs.layout.Layout.strip.Goals.{then-not-carries_more, else-not-carries_more}

pub remove-requires : goal.remove-requires
remove-requires g c =
    let s = g.S.Shape.shape in
    let j = c.args.trib in
    let known : j < s.tribs = omega (arith, c.requires.known, g.met.S.Shape.tribs_is) in
    let long : length c.args.column.now.bits ≡ suc s.low = ap length c.requires.column ∙ length-trib_bits s j c.args.frame.now.bits g.met.S.Shape.has_tributaries known in
    let just = just_inside s g.met.S.Shape.in_turn g.met.S.Shape.has_tributaries j known c.tributary.result.now.just c.tributary.ensures.just_is in
    omega (arith, long, just, c.from.ensures)

pub returns-then-inverted : goal.returns-then-inverted
returns-then-inverted g c =
    let s = g.S.Shape.shape in
    let j = c.args.trib in
    let known : j < s.tribs = omega (arith, c.requires.known, g.met.S.Shape.tribs_is) in
    let frame : List Bool = c.args.frame.now.bits in
    let column : BoundedBits = c.args.column.now in
    let inverts : true ≡ s.inverted j = sym c.if-inverted.true ∙ c.inverted.ensures in
    let without : ℕ → List Bool → List Bool = λ k bits. take k bits ++ drop (k + 1) bits in
    let turn : BoundedBits → BoundedBits = λ b. bounded b.capacity (map not b.bits) in
    elim c.if-not-carries_more.branch [
      | then-not-carries_more w ↦
          let q = w.tributary.result.now.just in
          let fewer : carries_more s j frame ≡ false = sym c.carries_more.ensures ∙ w.if-not-carries_more.true in
          c.invert.ensures ∙ ap turn (w.column-is ∙ w.remove.ensures) ∙ ap (λ k. bounded column.capacity (map not (without k column.bits))) w.from.ensures
          ∙ ap (λ l. bounded column.capacity (map not (without q l))) c.requires.column
          ∙ ap (bounded column.capacity) (sym (stripped_fewer s g.met.S.Shape.in_turn g.met.S.Shape.has_tributaries j known q w.tributary.ensures.just_is frame true inverts fewer))
      | else-not-carries_more w ↦
          let more : carries_more s j frame ≡ true = sym c.carries_more.ensures ∙ w.if-not-carries_more.false in
          c.invert.ensures ∙ ap turn w.column-is ∙ ap (λ l. bounded column.capacity (map not l)) c.requires.column ∙ ap (bounded column.capacity) (sym (stripped_more s j frame true inverts more))
    ]

pub returns-else-inverted : goal.returns-else-inverted
returns-else-inverted g c =
    let s = g.S.Shape.shape in
    let j = c.args.trib in
    let known : j < s.tribs = omega (arith, c.requires.known, g.met.S.Shape.tribs_is) in
    let frame : List Bool = c.args.frame.now.bits in
    let column : BoundedBits = c.args.column.now in
    let upright : false ≡ s.inverted j = sym c.if-inverted.false ∙ c.inverted.ensures in
    let without : ℕ → List Bool → List Bool = λ k bits. take k bits ++ drop (k + 1) bits in
    elim c.if-not-carries_more.branch [
      | then-not-carries_more w ↦
          let q = w.tributary.result.now.just in
          let fewer : carries_more s j frame ≡ false = sym c.carries_more.ensures ∙ w.if-not-carries_more.true in
          w.column-is ∙ w.remove.ensures ∙ ap (λ k. bounded column.capacity (without k column.bits)) w.from.ensures ∙ ap (λ l. bounded column.capacity (without q l)) c.requires.column
          ∙ ap (bounded column.capacity) (sym (stripped_fewer s g.met.S.Shape.in_turn g.met.S.Shape.has_tributaries j known q w.tributary.ensures.just_is frame false upright fewer ∙ unturned (without q (trib_bits s j frame))))
      | else-not-carries_more w ↦
          let more : carries_more s j frame ≡ true = sym c.carries_more.ensures ∙ w.if-not-carries_more.false in
          w.column-is ∙ ap (bounded column.capacity) (c.requires.column ∙ sym (stripped_more s j frame false upright more ∙ unturned (trib_bits s j frame)))
    ]
