use Rattle.std.proofs.Common.{◌≡◌, ◌≤◌, ◌+◌, ◌++◌, ◌∷◌, [], ℕ, Bool, List, length, false, sym, ap, ◌∙◌, get_or, arith}
use Rattle.std.proofs.lemmas.List.{length-append}
use Rattle.pdh_bits.specs.BitOut.{BoundedBits}
use Rattle.pdh_shape.specs.declared.role.Role.TheVariants.{Align}
use Rattle.pdh_runs.specs.Pieces.{overhead_before}
use Rattle.pdh_runs.specs.Tables.{is_overhead}
use Rattle.pdh_runs.proofs.Counts.{picked}
use Rattle.pdh_tx.specs.Node.{overhead_bit}
use Rattle.pdh_tx.proofs.Overhead.{overhead_role, overhead_grows, overhead_holds, pushed_next}
use Rattle.pdh_tx.proofs.decisions.write_overhead.Goals as goal

pub bounds-overhead_roles-place : goal.bounds-overhead_roles-place
bounds-overhead_roles-place g c =
    let most = overhead_grows g.S.Shape.shape (c.args.at.slot + c.args.at.len) g.S.Shape.shape.len (omega (arith, c.requires.inside, g.met.S.Shape.len_is)) in
    (overhead_role g.S.Shape.shape c.overhead_roles.result.now c.loop-place.place (Align false) c.overhead_roles.ensures (omega (arith, most, c.overhead_before-to.ensures, c.loop-place-test.true))).0

pub push_over-requires : goal.push_over-requires
push_over-requires g c =
    let end : ℕ = c.args.at.slot + c.args.at.len in
    let few : overhead_before g.S.Shape.shape end ≤ end = omega arith in
    omega (arith, few, length-append c.loop-place.into.bits c.loop-place.word, c.loop-place.invariant.count, c.loop-place.invariant.capacity, c.overhead_before-to.ensures, c.loop-place-test.true, c.requires.inside, c.requires.room)

pub loop-place-preserved : goal.loop-place-preserved
loop-place-preserved g c =
    let s = g.S.Shape.shape in
    let shares = g.D.Decisions.shares c.args.decisions.now in
    let bit : ℕ → Bool = λ k. overhead_bit s c.args.say.now c.args.odd shares (s.role (get_or (picked (is_overhead s) s.len) k 0)) in
    let old : List Bool = c.loop-place.into.bits ++ c.loop-place.word in
    let most = overhead_grows s (c.args.at.slot + c.args.at.len) s.len (omega (arith, c.requires.inside, g.met.S.Shape.len_is)) in
    let role = overhead_role s c.overhead_roles.result.now c.loop-place.place _ c.overhead_roles.ensures (omega (arith, most, c.overhead_before-to.ensures, c.loop-place-test.true)) in
    let next : c.overhead_of-bit.result ≡ bit (c.overhead_before-from.result + length old) = c.overhead_of-bit.ensures ∙ ap (overhead_bit s c.args.say.now c.args.odd shares) role.1 ∙ ap bit (sym c.loop-place.invariant.count) in
    record {
      capacity = c.push_over.ensures.capacity ∙ c.loop-place.invariant.capacity;
      count = omega (arith, ap length c.push_over.ensures.bits, length-append old (c.overhead_of-bit.result ∷ []), c.loop-place.invariant.count);
      bits = pushed_next bit c.overhead_before-from.result old (c.push_over.new.into.bits ++ c.push_over.new.word) c.overhead_of-bit.result c.push_over.ensures.bits next c.loop-place.invariant.bits;
    }

pub append-requires : goal.append-requires
append-requires g c =
    let end : ℕ = c.args.at.slot + c.args.at.len in
    let few : overhead_before g.S.Shape.shape end ≤ end = omega arith in
    let grows = overhead_grows g.S.Shape.shape c.args.at.slot end (omega arith) in
    record { room = omega (arith, few, grows, length-append c.loop-place.into.bits c.loop-place.word, c.loop-place.invariant.count, c.loop-place.invariant.capacity, c.overhead_before-from.ensures, c.overhead_before-to.ensures, c.loop-place.auto.place-end, c.requires.inside, c.requires.room) }

pub returns-clause-count : goal.returns-clause-count
returns-clause-count g c =
    let now : c.append.new.self.bits ≡ c.loop-place.into.bits ++ c.loop-place.word = ap (λ (b : BoundedBits). b.bits) c.append.ensures in
    let grows = overhead_grows g.S.Shape.shape c.args.at.slot (c.args.at.slot + c.args.at.len) (omega arith) in
    omega (arith, ap length now, grows, c.overhead_before-from.ensures, c.overhead_before-to.ensures, c.loop-place.invariant.count, c.loop-place.auto.place-end, c.loop-place-test.false)

pub returns-clause-bits : goal.returns-clause-bits
returns-clause-bits g c =
    let s = g.S.Shape.shape in
    let bit : ℕ → Bool = λ k. overhead_bit s c.args.say.now c.args.odd (g.D.Decisions.shares c.args.decisions.now) (s.role (get_or (picked (is_overhead s) s.len) k 0)) in
    let now : c.append.new.self.bits ≡ c.loop-place.into.bits ++ c.loop-place.word = ap (λ (b : BoundedBits). b.bits) c.append.ensures in
    let grows = overhead_grows s c.args.at.slot (c.args.at.slot + c.args.at.len) (omega arith) in
    overhead_holds s c.args.say.now c.args.odd (g.D.Decisions.shares c.args.decisions.now) c.args.at.slot c.args.at.len c.append.new.self.bits (omega (arith, c.requires.inside, g.met.S.Shape.len_is))
    (omega (arith, ap length now, grows, c.overhead_before-from.ensures, c.overhead_before-to.ensures, c.loop-place.invariant.count, c.loop-place.auto.place-end, c.loop-place-test.false))
    (λ i h. ap (λ l. get_or l i false) now ∙ c.loop-place.invariant.bits i (omega (arith, h, ap length now)) ∙ ap (λ k. bit (k + i)) c.overhead_before-from.ensures)
