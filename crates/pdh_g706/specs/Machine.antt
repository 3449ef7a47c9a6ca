-- What an alignment machine holds, what it stands for, and what one more bit does to it.
use Rattle.std.specs.Prelude.{◌≡◌, ◌<◌, ◌≤◌, ℕ, ◌+◌, ◌-◌, ◌*◌, ◌/◌, ◌%◌, Bool, true, false, nat_lt, nat_le, ◌==◌, if◌then◌else◌, List, [], ◌∷◌, ◌++◌, ◌&&◌, length, map, take, drop, flat_map, count_by}
use Rattle.std.specs.List.{range_with_len}
use Rattle.pdh_bits.specs.Bits.{bit_value}
use Rattle.pdh_g706.specs.Frames.{frames_of, is_confirmed, positions, is_found, aligned}
use Rattle.pdh_g706.specs.Alignment.{loses, earlier, reaches, is_reached, begin, multiframes, errs, judged, errored_in}
use Rattle.pdh_g706.specs.Tracking.{Signs, Share, found_frames, is_over, track, e1_far, multiframes_in, blocks_in, errors_in, signs_in}
use Rattle.pdh_g706.specs.Events.{rise, crc_kinds, frames_kinds}
use Rattle.pdh_watch.specs.declared.kind.Kind.{Kind}
use Rattle.pdh_watch.specs.declared.kind.TheConstants.Kind.{ALIGNED, LOST}

-- what it holds
pub data Phase : Type 0 where
  -- in a search, the bits from the oldest position on that is not yet rejected
  Searching : List Bool → Phase
  -- in an alignment whose multiframes aren't found, all its bits
  Aligned : List Bool → Phase
  -- else the bits from the last delivered multiframe on, and how many blocks of the group are judged and errored
  Framed : List Bool → ℕ → ℕ → Phase

-- how many bits it holds
abbrev pub Fits : Phase → Type 0
Fits (Searching held) = length held < 768
Fits (Aligned held) = length held < 16384
Fits (Framed held group wrong) = (4096 ≤ length held) × (length held < 8192) × (group < 1000) × (wrong ≤ group)

-- ---- what it stands for

-- the first frame of the last delivered multiframe
unfoldable pub last_begin : List (List Bool) → ℕ
last_begin frames = begin frames + 16 * (multiframes frames - 1)

-- the search that began with a line has found nothing
pub record IsSearching (held line : List Bool) : Type 0 where
  pub found : is_found line ≡ false
  pub held_is : held ≡ drop (positions line) line

-- the search that began with a line has found an alignment, which goes on
pub record IsAligned (reached : Bool) (line : List Bool) : Type 0 where
  pub found : is_found line ≡ true
  pub kept_on : is_over line ≡ false
  pub reached_is : is_reached (found_frames line) ≡ reached

-- so many blocks of the current group are judged and errored
pub record InGroup (group wrong : ℕ) (frames : List (List Bool)) : Type 0 where
  pub group_is : group ≡ judged frames % 1000
  pub wrong_is : wrong ≡ errored_in frames (judged frames - group) group

-- what is held of the bits since the search began
abbrev pub Describes : Phase → List Bool → Type 0
Describes (Searching held) line = IsSearching held line
Describes (Aligned held) line = IsAligned false line × (held ≡ aligned line)
Describes (Framed held group wrong) line =
    IsAligned true line × (held ≡ drop (256 * last_begin (found_frames line)) (aligned line)) × InGroup group wrong (found_frames line)

-- what it holds stands for the received bits: some searches are settled, whatever comes, and it describes the bits of the last
pub record Holds (phase : Phase) (line : List Bool) : Type 0 where
  pub settled : List Share
  pub since : List Bool
  pub splits : (more : List Bool) → track (line ++ more) ≡ settled ++ track (since ++ more)
  pub describes : Describes phase since
  pub fits : Fits phase

-- ---- what one more bit does

-- what it holds then, and what the bit gains
pub record Turn : Type 0 where
  pub phase : Phase
  pub gained : Share

abbrev pub no_signs : Signs
no_signs = record { alignments = 0; losses = 0; false_alignments = 0; verdicts = []; frames = [] }

abbrev pub nothing : Share
nothing = record { payload = []; multiframes = 0; blocks = 0; errored = 0; signs = no_signs }

-- that basic alignment is lost, where multiframe alignment was reached
abbrev pub loss_after : Bool → Share
loss_after reached = record nothing { signs = record no_signs { losses = bit_value reached } }

abbrev pub still : Phase → Turn
still phase = record { phase = phase; gained = nothing }

-- the last n bits
abbrev pub last_bits : ℕ → List Bool → List Bool
last_bits n bits = drop (length bits - n) bits

-- signs with what was shown in addition
abbrev pub add_signs : Signs → Signs → Signs
add_signs s g = record {
  alignments = s.alignments + g.alignments;
  losses = s.losses + g.losses;
  false_alignments = s.false_alignments + g.false_alignments;
  verdicts = s.verdicts ++ g.verdicts;
  frames = s.frames ++ g.frames;
}

-- what such an addition shows, after an alarm or none
unfoldable pub added_kinds : Bool → Signs → List Kind
added_kinds alarm g =
    rise LOST 0 g.losses ++ rise ALIGNED 0 g.alignments ++ crc_kinds g.verdicts ++ frames_kinds alarm g.frames 0 (length g.frames / 2) ++ rise LOST 0 g.false_alignments

-- a share was gained by what was received after a line
pub record Grows (gained : Share) (line now : List Bool) : Type 0 where
  pub payload_is : e1_far now ≡ e1_far line ++ gained.payload
  pub multiframes_are : multiframes_in now ≡ multiframes_in line + gained.multiframes
  pub blocks_are : blocks_in now ≡ blocks_in line + gained.blocks
  pub errored_are : errors_in now ≡ errors_in line + gained.errored
  pub signs_are : signs_in now ≡ add_signs (signs_in line) gained.signs

-- the payload of n frames from frame k on
abbrev pub payload_from : List (List Bool) → ℕ → ℕ → List Bool
payload_from frames k n = flat_map (drop 8) (take n (drop k frames))

-- n frames from frame k on
abbrev pub frames_from : List (List Bool) → ℕ → ℕ → List (List Bool)
frames_from frames k n = take n (drop k frames)

-- in a search
unfoldable pub search_turn : List Bool → Turn
search_turn bits =
    (if nat_lt (length bits) 768 then still (Searching bits) else (if is_confirmed bits then still (Aligned bits) else still (Searching (drop 1 bits))))

-- how many of so many blocks from frame k on are errored
abbrev pub errs_in : List (List Bool) → ℕ → ℕ → ℕ
errs_in frames k count = count_by (λ b. errs frames (k + 8 * b)) (range_with_len 0 count)

-- and each of them, errored or not
abbrev pub each_errs : List (List Bool) → ℕ → ℕ → List Bool
each_errs frames k count = map (λ b. errs frames (k + 8 * b)) (range_with_len 0 count)

-- where multiframes are found from frame k of these frames on
abbrev pub framing : List Bool → List (List Bool) → ℕ → Turn
framing bits frames k =
    let whole = (length frames - k) / 16 in
    let blocks = (length frames - k) / 8 - 1 in
    let wrong = errs_in frames k blocks in
    record {
      phase = Framed (drop (256 * (k + 16 * (whole - 1))) bits) blocks wrong;
      gained = record {
        payload = payload_from frames k (16 * whole);
        multiframes = whole;
        blocks = blocks;
        errored = wrong;
        signs = record { alignments = 1; losses = 0; false_alignments = 0; verdicts = each_errs frames k blocks; frames = frames_from frames k (16 * whole) };
      };
    }

-- the same of the frames that the bits are
unfoldable pub framing_turn : List Bool → ℕ → Turn
framing_turn bits k = framing bits (frames_of bits) k

-- at the end of a frame without a loss, where the multiframes aren't found yet
unfoldable pub aligned_turn : List Bool → Turn
aligned_turn bits =
    let frames = frames_of bits in
    (if reaches frames then framing_turn bits (earlier frames (length frames - 12))
    else (if length frames == 64 then still (Searching (last_bits 255 bits)) else still (Aligned bits)))

-- a group of so many blocks is whole, and so many errored ones in it tell of a false alignment
abbrev pub is_false_group : ℕ → ℕ → Bool
is_false_group group wrong = (group == 1000) && nat_le 915 wrong

-- what is held once a block more is judged
abbrev pub group_phase : List Bool → List Bool → ℕ → ℕ → Phase
group_phase bits rest group wrong =
    (if group == 1000 then (if nat_le 915 wrong then Searching (last_bits 255 bits) else Framed rest 0 0) else Framed rest group wrong)

-- at the end of the 24th or 32nd frame that is held, where a block more is judged and perhaps a multiframe is whole
unfoldable pub block_turn : List Bool → ℕ → ℕ → Turn
block_turn bits group wrong =
    let frames = frames_of bits in
    let bad = errs frames (length frames - 16) in
    let one = bit_value bad in
    let whole = length frames == 32 in
    record {
      phase = group_phase bits (if whole then drop 4096 bits else bits) (group + 1) (wrong + one);
      gained = record {
        payload = (if whole then payload_from frames 16 16 else []);
        multiframes = bit_value whole;
        blocks = 1;
        errored = one;
        signs = record {
          alignments = 0;
          losses = 0;
          false_alignments = bit_value (is_false_group (group + 1) (wrong + one));
          verdicts = bad ∷ [];
          frames = (if whole then frames_from frames 16 16 else []);
        };
      };
    }

-- at the end of a frame without a loss, where the multiframes are found
unfoldable pub framed_turn : List Bool → ℕ → ℕ → Turn
framed_turn bits group wrong =
    (if length (frames_of bits) % 8 == 0 then block_turn bits group wrong else still (Framed bits group wrong))

-- what is done where basic alignment is lost, after multiframe alignment was reached or before
abbrev pub lost_turn : Bool → List Bool → Turn
lost_turn reached bits = record { phase = Searching (last_bits 256 bits); gained = loss_after reached }

-- the bits at the end of a frame are what a search takes over where it completes a loss, else this turn comes
abbrev pub unless_lost : Bool → List Bool → Turn → Turn
unless_lost reached bits turn = (if loses (frames_of bits) then lost_turn reached bits else turn)

-- one more bit where the multiframes aren't found yet
abbrev pub aligned_bits : List Bool → Turn
aligned_bits bits = (if length bits % 256 == 0 then unless_lost false bits (aligned_turn bits) else still (Aligned bits))

-- and where they are
abbrev pub framed_bits : List Bool → ℕ → ℕ → Turn
framed_bits bits group wrong = (if length bits % 256 == 0 then unless_lost true bits (framed_turn bits group wrong) else still (Framed bits group wrong))

unfoldable pub turn : Phase → Bool → Turn
turn (Searching held) bit = search_turn (held ++ bit ∷ [])
turn (Aligned held) bit = aligned_bits (held ++ bit ∷ [])
turn (Framed held group wrong) bit = framed_bits (held ++ bit ∷ []) group wrong

-- ---- bits that gain nothing

-- these bits gain nothing one after another, and then it holds this
abbrev pub Waits : Phase → List Bool → Phase → Type 0
Waits phase [] now = now ≡ phase
Waits phase (bit ∷ bits) now = ((turn phase bit).gained ≡ nothing) × Waits (turn phase bit).phase bits now

-- what it holds after such bits: a search less than three frames, the newest bits
abbrev pub held_on : Phase → List Bool → Phase
held_on (Searching held) bits = Searching (last_bits 767 (held ++ bits))
held_on (Aligned held) bits = Aligned (held ++ bits)
held_on (Framed held group wrong) bits = Framed (held ++ bits) group wrong
