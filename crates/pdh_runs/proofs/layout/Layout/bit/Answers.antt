use Rattle.std.proofs.Common.{◌≡◌, ◌<◌, ◌+◌, ◌-◌, ◌/◌, ◌%◌, ℕ, [], true, false, cond, length, map, get_or, sym, ap, ◌∙◌, arith}
use Rattle.std.proofs.lemmas.List.{get_or-map}
use Rattle.std.proofs.lemmas.Nat.{mod_below}
use Rattle.pdh_bits.specs.BitOut.{BoundedBits}
use Rattle.pdh_shape.specs.Payload.{is_payload}
use Rattle.pdh_runs.specs.Pieces.{turn, overhead_before}
use Rattle.pdh_runs.proofs.PieceLaws.{some_tributaries, turn_grows_to, row_within, overhead_grows, overhead_next}
use Rattle.pdh_runs.proofs.layout.Layout.bit.Goals as goal

pub overflow_sub-place : goal.overflow_sub-place
overflow_sub-place g c =
    let s = g.S.Shape.shape in
    let pass : is_payload (s.role c.args.slot) ≡ true = sym c.is_payload.ensures ∙ c.if-is_payload.true in
    let some = some_tributaries s c.args.slot g.met.S.Shape.in_turn (omega (arith, c.requires.inside, g.met.S.Shape.len_is)) pass in
    let tribs : s.tribs ≡ c.from-tribs.result = g.met.S.Shape.tribs_is ∙ sym (c.from-tribs.ensures ∙ c.TRIBS.ensures) in
    omega (arith, c.turn.ensures, turn_grows_to s some c.args.first c.args.slot c.requires.begun, ap (λ n. c.payload_before-place.result / n) tribs, ap (λ p. p / s.tribs) c.payload_before-place.ensures)

pub get-requires : goal.get-requires
get-requires g c =
    let s = g.S.Shape.shape in
    let slot = c.args.slot in
    let pass : is_payload (s.role slot) ≡ true = sym c.is_payload.ensures ∙ c.if-is_payload.true in
    let some = some_tributaries s slot g.met.S.Shape.in_turn (omega (arith, c.requires.inside, g.met.S.Shape.len_is)) pass in
    let tribs : s.tribs ≡ c.from-tribs.result = g.met.S.Shape.tribs_is ∙ sym (c.from-tribs.ensures ∙ c.TRIBS.ensures) in
    let k : ℕ = c.payload_before-place.result % c.from-tribs.result in
    let inside : k < length c.args.columns.now = omega (arith, mod_below c.payload_before-place.result c.from-tribs.result (omega (arith, some, tribs)), tribs, c.requires.tributaries, g.met.S.Shape.tribs_is) in
    let column = c.index-columns-place.result in
    omega (
      arith,
      c.turn.ensures,
      row_within s some c.args.first slot c.requires.begun pass,
      c.requires.rows k column inside,
      ap (λ b. length b.bits) c.index-columns-place.is,
      ap (λ n. c.payload_before-place.result / n) tribs,
      ap (λ p. p / s.tribs) c.payload_before-place.ensures,
    )

pub overflow_sub-overhead_before : goal.overflow_sub-overhead_before
overflow_sub-overhead_before g c =
    omega (arith, c.overhead_before.ensures, c.overhead_before-else-is_payload.ensures, overhead_grows g.S.Shape.shape c.args.first c.args.slot c.requires.begun)

pub get-requires-else-is_payload : goal.get-requires-else-is_payload
get-requires-else-is_payload g c =
    let s = g.S.Shape.shape in
    let slot = c.args.slot in
    let fails : is_payload (s.role slot) ≡ false = sym c.is_payload.ensures ∙ c.if-is_payload.false in
    omega (arith, c.overhead_before.ensures, c.overhead_before-else-is_payload.ensures, overhead_grows s c.args.first slot c.requires.begun, overhead_next s slot, ap (λ b. overhead_before s slot + cond b 0 1) fails, c.requires.overhead)

pub returns-then-is_payload-clause-payload : goal.returns-then-is_payload-clause-payload
returns-then-is_payload-clause-payload g c = λ j reads.
    let s = g.S.Shape.shape in
    let slot = c.args.slot in
    let pass : is_payload (s.role slot) ≡ true = sym c.is_payload.ensures ∙ c.if-is_payload.true in
    let within : slot < s.len = omega (arith, c.requires.inside, g.met.S.Shape.len_is) in
    let some = some_tributaries s slot g.met.S.Shape.in_turn within pass in
    let tribs : s.tribs ≡ c.from-tribs.result = g.met.S.Shape.tribs_is ∙ sym (c.from-tribs.ensures ∙ c.TRIBS.ensures) in
    let place = c.payload_before-place.result in
    let k : ℕ = place % c.from-tribs.result in
    let inside : k < length c.args.columns.now = omega (arith, mod_below place c.from-tribs.result (omega (arith, some, tribs)), tribs, c.requires.tributaries, g.met.S.Shape.tribs_is) in
    let own : k ≡ j = ap (λ n. place % n) (sym tribs) ∙ ap (λ p. p % s.tribs) c.payload_before-place.ensures ∙ sym (g.met.S.Shape.in_turn.turn slot j within reads) in
    let column : BoundedBits = c.index-columns-place.result in
    let bits : column.bits ≡ get_or (map (λ (b : BoundedBits). b.bits) c.args.columns.now) j [] =
    ap (λ (b : BoundedBits). b.bits) c.index-columns-place.is ∙ sym (get_or-map (λ (b : BoundedBits). b.bits) c.args.columns.now k column [] inside)
    ∙ ap (λ i. get_or (map (λ (b : BoundedBits). b.bits) c.args.columns.now) i []) own in
    let row : place / c.from-tribs.result - c.turn.result ≡ turn s slot - turn s c.args.first =
    omega (arith, c.turn.ensures, ap (λ n. place / n) tribs, ap (λ p. p / s.tribs) c.payload_before-place.ensures) in
    c.get.ensures ∙ ap (λ l. get_or l (place / c.from-tribs.result - c.turn.result) false) bits
    ∙ ap (λ i. get_or (get_or (map (λ (b : BoundedBits). b.bits) c.args.columns.now) j []) i false) row
