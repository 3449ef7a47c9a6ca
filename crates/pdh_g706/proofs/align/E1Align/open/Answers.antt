-- A machine that has taken no bit stands for the empty line.
use Rattle.std.proofs.Common.{◌≡◌, Bool, false, List, [], refl, sym, ap, subst}
use Rattle.pdh_bits.specs.BitOut.{BoundedBits}
use Rattle.pdh_g706.specs.Machine.{Holds}
use Rattle.pdh_g706.specs.Machine.Phase.{Searching}
use Rattle.pdh_g706.proofs.HoldsLaws.{holds_empty, empty_counts, empty_signs}
use Rattle.pdh_g706.specs.Tracking.{Signs}
use Rattle.pdh_g706.specs.Events.{alarm_after}
use Rattle.pdh_g706.proofs.align.E1Align.open.Goals as goal

pub returns-clause-phase : goal.returns-clause-phase
returns-clause-phase c = ap (λ (b : BoundedBits). Searching b.bits) c.in_ok-open.ensures

pub returns-clause-stands : goal.returns-clause-stands
returns-clause-stands c =
    let empty : [] ≡ c.in_ok-open.field-0.bits = ap (λ (b : BoundedBits). b.bits) (sym c.in_ok-open.ensures) in
    record {
      holds = subst (λ (bits : List Bool). Holds (Searching bits) []) empty holds_empty;
      counts = record { multiframes_are = empty_counts.0; blocks_are = empty_counts.1; errored_are = empty_counts.2 };
      room = ap (λ (b : BoundedBits). b.capacity) c.in_ok-open.ensures;
      number = refl;
      long = c.new.ensures.long;
      ones = c.new.ensures.none;
      alarm = sym (ap (λ (s : Signs). alarm_after false s.frames) empty_signs);
    }
