-- What is taken of a feed to show a frame of its line, which list 0 gives.
use Rattle.std.specs.Prelude.{◌≡◌, ℕ, suc, ◌*◌, Bool, List, length, drop, Result, Ok, Err}
use Rattle.pdh_bits.specs.Bits.{bytes_of}
use Rattle.pdh_edge.specs.Counts.{one_more}
use Rattle.pdh_edge.specs.Ports.{Inputs, Takes, for_leaf}
use Rattle.pdh_shape.specs.Frame.{FrameShape}
use Rattle.pdh_chain.specs.declared.chain.Chain.{Chain}
use Rattle.pdh_chain.specs.Chains.{frame_bytes_of}
use Rattle.pdh_show.specs.Shown.{shown_frame, shown}
use Rattle.pdh_show.specs.declared.stop.ShowStop.{ShowStop}
use Rattle.pdh_show.specs.declared.stop.ShowStop.TheVariants.{Memory, Failed}

-- so many bits of the line were taken
pub record TakesSome (count : ℕ) (inputs inputs_now : Inputs) : Type 0 where
  pub given : List Bool
  pub count_is : length given ≡ count
  pub takes : Takes (for_leaf 0 given) inputs inputs_now

-- the frames of so many bits up to one of this number were taken, which has these bits
pub record TakesFrame (len number : ℕ) (frame : List Bool) (inputs inputs_now : Inputs) : Type 0 where
  pub given : List Bool
  pub count : length given ≡ suc number * len
  pub takes : Takes (for_leaf 0 given) inputs inputs_now
  pub frame_is : frame ≡ drop (number * len) given

-- the frames of a shape up to one of this number were taken, and this is its text
pub record ShowsFrame (s : FrameShape) (name : List ℕ) (number : ℕ) (text : List ℕ) (inputs inputs_now : Inputs) : Type 0 where
  pub given : List Bool
  pub count : length given ≡ suc number * s.len
  pub takes : Takes (for_leaf 0 given) inputs inputs_now
  pub text_is : text ≡ shown_frame s name number (bytes_of (drop (number * s.len) given))

-- the frames of a chain's top up to one of this number were taken, and this is its text
pub record Shows (chain : Chain) (number : ℕ) (text : List ℕ) (inputs inputs_now : Inputs) : Type 0 where
  pub given : List Bool
  pub count : length given ≡ suc number * (8 * frame_bytes_of chain)
  pub takes : Takes (for_leaf 0 given) inputs inputs_now
  pub text_is : text ≡ shown chain number (bytes_of (drop (number * (8 * frame_bytes_of chain)) given))

-- a feed's count of failed calls by why no frame is shown: the call that failed was counted once, and nothing else was
abbrev pub faults_at_stop : ShowStop → ℕ → ℕ
faults_at_stop Memory faults = faults
faults_at_stop Failed faults = one_more faults

abbrev pub faults_shown : {T : Type 0} → Result T ShowStop → ℕ → ℕ
faults_shown (Ok text) faults = faults
faults_shown (Err stop) faults = faults_at_stop stop faults
