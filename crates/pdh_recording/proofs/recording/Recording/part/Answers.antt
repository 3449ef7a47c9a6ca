use Rattle.std.proofs.Common.{◌≡◌, ℕ, ◌+◌, ◌-◌, ◌*◌, ◌≤◌, List, length, take, drop, arith, refl, ap, sym, subst}
use Rattle.pdh_readings.specs.Orders.{read_as}
use Rattle.pdh_readings.specs.declared.bit_order.BitOrder.{BitOrder}
use Rattle.pdh_recording.specs.Given.{kept, bits_left}
use Rattle.pdh_recording.specs.Seen.{Shows}
use Rattle.pdh_recording.proofs.Seeing.{seen_ahead}
use Rattle.pdh_recording.proofs.recording.Recording.part.Goals as goal

pub returns-clause-seen : goal.returns-clause-seen
returns-clause-seen g c = λ (order : BitOrder).
    let old = c.args.self.now in
    let ahead = old.replay.ahead in
    let passed = 8 * ahead.run - old.skip in
    let first = c.first_kept-first.result in
    let count = c.min-2.result in
    let place : old.skip + passed ≡ 8 * ahead.run + first = omega (arith, c.first_kept-first.ensures.place) in
    let few : count ≤ old.left - passed = omega (arith, c.min-2.ensures, c.min.ensures, c.saturating_sub-left.ensures, c.bits_passed.ensures) in
    let long : length c.kept-bytes.result.now ≡ length (kept ahead) = ap length c.kept-bytes.ensures in
    let fits : count ≤ 8 * length (kept ahead) - first = omega (arith, long, c.min-2.ensures, c.min.ensures, c.saturating_sub.ensures, c.from.ensures, c.saturating_mul-kept.ensures) in
    subst (λ (bytes : List ℕ). Shows (bits_left g.R.Read.remaining order old) (take count (drop first (read_as order bytes)))) (sym c.kept-bytes.ensures)
    (seen_ahead order ahead.run ahead.value old.skip old.left passed first count (kept ahead) (g.R.Read.remaining old.replay.reader) ahead.alike refl place few fits)
