use Rattle.std.proofs.Common.{ℕ, ◌≤◌, arith}
use Rattle.pdh_line.specs.Sending.{fill_before}
use Rattle.pdh_line.specs.Tolerance.{IsWithin, least_at_start, most_at_start}
use Rattle.pdh_line.proofs.SendingLaws.{has_stores}
use Rattle.pdh_line.proofs.FillBounds.{fill-start}
use Rattle.pdh_store.proofs.laws.fill_at_frame_start.Goals as goal

pub returns : goal.returns
returns g c = record { least = λ n f j k w j' h. (start n f j k w h).0; most = λ n f j k w j' h. (start n f j k w h).1 }
  where
    start : (counts : ℕ → ℕ) (frames trib frame : ℕ) → IsWithin g.S.Shape.shape counts frames → frame ≤ frames
        → (least_at_start ≤ fill_before g.S.Shape.shape trib counts frame 0) × (fill_before g.S.Shape.shape trib counts frame 0 ≤ most_at_start)
    start counts frames trib frame within h =
        let stores = has_stores g.S.Shape.shape.copies (omega (arith, c.requires, g.met.S.Shape.copies_is)) in
        fill-start g.S.Shape.shape trib counts frames frame g.met.S.Shape.is_frame stores within h
