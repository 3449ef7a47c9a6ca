use Rattle.std.proofs.Common.{ℕ, ◌≤◌, ◌<◌, arith}
use Rattle.pdh_line.specs.Sending.{fill_before}
use Rattle.pdh_line.specs.Tolerance.{IsWithin, least_inside, most_inside}
use Rattle.pdh_line.proofs.SendingLaws.{has_stores}
use Rattle.pdh_line.proofs.FillBounds.{fill-slot}
use Rattle.pdh_store.proofs.laws.fill_before_slot.Goals as goal

pub returns : goal.returns
returns g c = record { least = λ n f j k t w j' k' t'. (inside n f j k t w j' k' t').0; most = λ n f j k t w j' k' t'. (inside n f j k t w j' k' t').1 }
  where
    inside : (counts : ℕ → ℕ) (frames trib frame slot : ℕ) → IsWithin g.S.Shape.shape counts frames → trib < g.S.Shape.TRIBS → frame < frames → slot ≤ g.S.Shape.LEN
        → (least_inside ≤ fill_before g.S.Shape.shape trib counts frame slot) × (fill_before g.S.Shape.shape trib counts frame slot ≤ most_inside)
    inside counts frames trib frame slot within known scheduled h =
        let laws = g.met.S.Shape in
        let stores = has_stores g.S.Shape.shape.copies (omega (arith, c.requires, laws.copies_is)) in
        fill-slot g.S.Shape.shape trib counts frames frame slot laws.is_frame laws.has_tributaries stores laws.reads_evenly (omega (arith, laws.tribs_is)) within scheduled (omega (arith, laws.len_is))
