-- What a sender and a receiver of the far end alarm and control channel keep.
use Rattle.std.specs.Prelude.{◌≡◌, ℕ, ◌%◌, ◌<◌, ◌≤◌, Bool, false, List, ◌++◌, reverse, take, drop, replicate, min}
use Rattle.std.specs.Bool.{beq}
use Rattle.std.specs.List.{common_prefix_len}
use Rattle.pdh_bits.specs.Bits.{number_of}
use Rattle.pdh_cbit.specs.Feac.{word_of}

-- a sender's code, and the place in the code's word of the bit to come
pub record Sending : Type 0 where
  pub code : ℕ
  pub place : ℕ

-- the sender has sent so many bits
abbrev pub HasSent : Sending → ℕ → Type 0
HasSent s sent = s.place ≡ sent % 16

-- what a receiver keeps of the bits that came
pub record Receiving : Type 0 where
  -- the number that the last sixteen bits write, the latest bit least significant
  pub register : ℕ
  -- how many bits, from the latest back, equal the bit sixteen before them: 160 for any more
  pub repeated : ℕ

-- the bits that came, the latest first, and zeros for those before the first: no word begins with a zero
unfoldable pub latest_first : List Bool → List Bool
latest_first bits = reverse bits ++ replicate 16 false

-- how many bits, from the latest back, equal the bit sixteen before them
unfoldable pub repeated_in : List Bool → ℕ
repeated_in latest = common_prefix_len beq latest (drop 16 latest)

-- a receiver has taken these bits
pub record HasReceived (r : Receiving) (bits : List Bool) : Type 0 where
  pub register : r.register ≡ number_of (reverse (take 16 (latest_first bits)))
  pub repeated : r.repeated ≡ min 160 (repeated_in (latest_first bits))

-- a register and so many repeated bits tell this code: its word has come ten times, and not eleven
pub record TellsCode (register repeated code : ℕ) : Type 0 where
  pub fits : code < 64
  pub word : register ≡ number_of (word_of code)
  pub ten : 144 ≤ repeated
  pub anew : repeated < 160
