-- The alignment slots of a shape with their bits, as a list that is found once and by which frames are judged.
use Rattle.std.specs.Prelude.{◌≡◌, List, map, filter, All}
use Rattle.pdh_bits.specs.Bits.{number_of}
use Rattle.pdh_shape.specs.declared.role.Role.TheVariants.{Align}
use Rattle.pdh_shape.specs.Frame.{FrameShape, slots, is_align}
use Rattle.pdh_phases.specs.Runs.{signal_bits}
use Rattle.pdh_align.specs.declared.signals.Signal.{Signal}
use Rattle.pdh_align.specs.declared.signals.Signals.{Signals}

-- the list names the alignment slots of the shape's frame, in slot order, each with the bit that it has in a right frame
pub record AreSignals (s : FrameShape) (signals : List Signal) : Type 0 where
  pub all : map (λ signal. signal.slot) signals ≡ filter (λ t. is_align (s.role t)) (slots s)
  pub bits : All (λ signal. s.role signal.slot ≡ Align signal.bit) signals

-- what frames are judged by: the alignment slots, and the number that the bits of the signal write that begins the frame
pub record Judges (s : FrameShape) (signals : Signals) : Type 0 where
  pub slots : AreSignals s signals.slots.items
  pub number : signals.number ≡ number_of (signal_bits s)
