-- What a machine stands for that finds superframes, what it counts, and what a packer stands for.
use Rattle.std.specs.Prelude.{◌≡◌, ℕ, ◌+◌, ◌-◌, ◌*◌, ◌^◌, ◌<◌, min, Bool, List, length, drop, count_by, Option, None, Some, ◌==◌, if◌then◌else◌}
use Rattle.pdh_bits.specs.BitOut.{BoundedBits}
use Rattle.pdh_shape.specs.declared.role.Role.{Role}
use Rattle.pdh_line.specs.Tracking.{Piece, track, frames_delivered}
use Rattle.pdh_align.specs.declared.step.Step.{Step}
use Rattle.pdh_align.specs.Aligning.{Held, StandsFor, frames_gained}
use Rattle.pdh_ds1.specs.declared.plan.SuperframePlan.{SuperframePlan}
use Rattle.pdh_ds1.specs.Superframe.{in_superframe}
use Rattle.pdh_ds1.specs.declared.block_counts.BlockCounts.{BlockCounts}
use Rattle.pdh_ds1.specs.Packing.{sent_word, packed_frames}
use Rattle.pdh_ds1.specs.Receiving.{judgements, last_word}

-- ---- counts

-- a count that reaches its type's end stands there
abbrev pub counted : ℕ → ℕ
counted n = min n (2 ^ 64 - 1)

-- how many superframes are delivered after a step
abbrev pub superframes_after : Step → ℕ → ℕ
superframes_after step superframes = counted (superframes + frames_gained step)

-- how many superframes of a line are delivered
unfoldable pub superframes_counted : List Role → SuperframePlan → List Bool → ℕ
superframes_counted f_bits plan line = counted (frames_delivered (in_superframe f_bits plan) line)

-- what is kept of the blocks after one more superframe, which carries one word and has another
abbrev pub judged_after : Option ℕ → ℕ → ℕ
judged_after None judged = judged
judged_after (Some word) judged = counted (judged + 1)

abbrev pub errored_after : Option ℕ → ℕ → ℕ → ℕ
errored_after None carried errored = errored
errored_after (Some word) carried errored = counted (errored + (if carried == word then 0 else 1))

abbrev pub after_superframe : BlockCounts → ℕ → ℕ → BlockCounts
after_superframe blocks carried word = record {
  word = Some word;
  judged = judged_after blocks.word blocks.judged;
  errored = errored_after blocks.word carried blocks.errored;
}

-- what is kept of the blocks of the extended form is what these pieces give
pub record Judges (blocks : BlockCounts) (pieces : List Piece) : Type 0 where
  pub word_is : blocks.word ≡ last_word 24 None pieces
  pub judged_are : blocks.judged ≡ counted (length (judgements 24 None pieces))
  pub errored_are : blocks.errored ≡ counted (count_by (λ errored. errored) (judgements 24 None pieces))

-- ---- the machine of a plan

-- it stands for these received bits
pub record Stands (f_bits : List Role) (plan : SuperframePlan) (aligner : Held) (superframe payload : BoundedBits) (superframes : ℕ) (blocks : BlockCounts) (line : List Bool) : Type 0 where
  pub aligner_is : StandsFor (in_superframe f_bits plan) aligner line
  -- room for a superframe, and for the payload of three
  pub superframe_room : superframe.capacity ≡ plan.len
  pub payload_room : payload.capacity ≡ 576 * plan.frames
  pub superframes_are : superframes ≡ superframes_counted f_bits plan line
  pub judges : plan.frames ≡ 24 → Judges blocks (track (in_superframe f_bits plan) line)

-- ---- the packer of a plan

-- it stands for these bits of a payload: what waits of them, behind those of so many superframes, doesn't fill one more
pub record Frames (f_bits : List Role) (plan : SuperframePlan) (waiting superframe : BoundedBits) (sent : ℕ) (payload : List Bool) : Type 0 where
  pub count : ℕ
  pub long : length payload ≡ 192 * (plan.frames * count) + length waiting.bits
  pub waits : waiting.bits ≡ drop (192 * (plan.frames * count)) payload
  pub few : length waiting.bits < 192 * plan.frames
  -- the word that the next one sends
  pub sends : sent ≡ sent_word plan.frames (packed_frames f_bits plan.frames payload (plan.frames * count)) count
  -- room for the payload of a superframe, and for a superframe
  pub waiting_room : waiting.capacity ≡ 192 * plan.frames
  pub superframe_room : superframe.capacity ≡ plan.len
