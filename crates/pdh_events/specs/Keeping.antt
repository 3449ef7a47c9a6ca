-- What is kept of a line to tell its events.
use Rattle.std.specs.Prelude.{◌≡◌, ℕ, suc, min, Bool, false, Option, List, ◌++◌, length, map, take, filter_map}
use Rattle.std.specs.Bool.{beq}
use Rattle.std.specs.List.{range_with_len, slice_index_or}
use Rattle.pdh_shape.specs.declared.role.Duty.TheVariants.{Alarm, Parity, Feac, PathParity, Febe}
use Rattle.pdh_shape.specs.Frame.{FrameShape}
use Rattle.pdh_line.specs.Tracking.{Piece}
use Rattle.pdh_cbit.specs.Feac.{answer_of}
use Rattle.pdh_cbit.specs.Channel.{Receiving, HasReceived}
use Rattle.pdh_events.specs.declared.alarm.AlarmSlot.{AlarmSlot}
use Rattle.pdh_events.specs.Telling.{ones_at_end}
use Rattle.pdh_events.specs.Duties.{frames_of, slots_with, alarm_bit, alarm_after, odd_before, channel_bits, TellAlike}

-- the ones that a line ends with, counted up to the length from which on they are AIS
pub record OnesRun : Type 0 where
  pub long : ℕ
  pub run : ℕ

abbrev pub CountsOnes : OnesRun → List Bool → Type 0
CountsOnes r line = r.run ≡ min (ones_at_end line) r.long

-- what is kept of the delivered frames
pub record Kept : Type 0 where
  -- whether there is an alarm
  pub alarm : Bool
  -- whether the frame before in the same alignment is odd, if there is one; where frames tell no parity, any answer
  pub odd : Option Bool
  -- the receiver of the far end alarm and control channel
  pub channel : Receiving

-- a slot that tells the alarm
abbrev pub alarm_slot : FrameShape → ℕ → AlarmSlot
alarm_slot s slot = record { slot = slot; bit = alarm_bit s (s.role slot) }

-- what it says in a frame
abbrev pub says_alarm : List Bool → AlarmSlot → Bool
says_alarm frame of = beq (slice_index_or frame of.slot false) of.bit

-- the bits of these slots in a frame
abbrev pub bits_at : List ℕ → List Bool → List Bool
bits_at slots frame = map (λ slot. slice_index_or frame slot false) slots

-- the codes that these bits answer, after those before them
abbrev pub codes_told : List Bool → List Bool → List ℕ
codes_told before bits = filter_map (λ k. answer_of (before ++ take (suc k) bits)) (range_with_len 0 (length bits))

-- the slots of each duty that tells something
pub record DutySlots (s : FrameShape) (alarm : List AlarmSlot) (parity path_parity febe feac : List ℕ) : Type 0 where
  pub alarm_are : alarm ≡ map (alarm_slot s) (slots_with s Alarm)
  pub parity_are : parity ≡ slots_with s Parity
  pub path_parity_are : path_parity ≡ slots_with s PathParity
  pub febe_are : febe ≡ slots_with s Febe
  pub feac_are : feac ≡ slots_with s Feac

-- it is kept of a line with these pieces
pub record Remembers (s : FrameShape) (kept : Kept) (pieces : List Piece) : Type 0 where
  pub alarm_is : kept.alarm ≡ alarm_after s (frames_of pieces)
  pub odd_is : TellAlike s kept.odd (odd_before s pieces)
  pub channel_is : HasReceived kept.channel (channel_bits s (frames_of pieces))
