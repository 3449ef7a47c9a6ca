-- The command that the words of a command line are.
use Rattle.std.specs.Prelude.{◌≡◌, ℕ, ◌<◌, ◌≤◌, ⊤, nat_le, ◌==◌, ◌&&◌, List, [], ◌∷◌, length, codes, Option, Some, None, find, if◌then◌else◌}
use Rattle.std.specs.Str.{bytes_eq}
use Rattle.pdh_row_text.specs.Text.{◌>>=◌, number_of}
use Rattle.pdh_clock.specs.declared.bias.Bias.{Bias}
use Rattle.pdh_clock.specs.declared.bias.Bias.TheVariants.{Nominal, Fast, Slow, Mixed}
use Rattle.pdh_ds1.specs.declared.form.Frame1.{Frame1}
use Rattle.pdh_ds1.specs.declared.form.Frame1.TheVariants.{Super, Extended}
use Rattle.pdh_ds1.specs.Forms.{name_of as name_of_form}
use Rattle.pdh_chain.specs.declared.chain.Chain.{Chain}
use Rattle.pdh_chain.specs.declared.chain.Chain.TheVariants.{C13}
use Rattle.pdh_chain.specs.Chains.{chains, levels_of, name_of}
use Rattle.pdh_words.specs.declared.commands.Command.{Command}
use Rattle.pdh_words.specs.declared.commands.Command.TheVariants.{Demux, Mux, MuxSlip, ClockCheck, ClockMake, Inspect, InspectE1, Show, E1Pack, E1Unpack, Ds1Pack, Ds1Unpack, Disturb, Drill, Smooth, Duplex}
use Rattle.pdh_answers.specs.declared.file.Bits.{Bits}
use Rattle.pdh_answers.specs.declared.file.Bits.TheVariants.{Line, Bent}

-- the chain of a word
abbrev pub chain_of : List ℕ → Option Chain
chain_of word = find (λ chain. bytes_eq word (name_of chain)) chains

-- the form of a DS1 line of a word
abbrev pub form_of : List ℕ → Option Frame1
form_of word =
    (if bytes_eq word (name_of_form Super) then Some Super
    else (if bytes_eq word (name_of_form Extended) then Some Extended else None))

-- the clock offsets of a word
abbrev pub bias_of : List ℕ → Option Bias
bias_of word =
    (if bytes_eq word (codes "nominal") then Some Nominal
    else (if bytes_eq word (codes "fast") then Some Fast
    else (if bytes_eq word (codes "slow") then Some Slow
    else (if bytes_eq word (codes "mixed") then Some Mixed else None))))

-- `e1pack` or `e1unpack`
abbrev pub framing_of : List ℕ → Option Command
framing_of word =
    (if bytes_eq word (codes "e1pack") then Some E1Pack
    else (if bytes_eq word (codes "e1unpack") then Some E1Unpack else None))

-- `demux` or `inspect` of a chain's line in this file
abbrev pub reading_of : List ℕ → Chain → Bits → Option Command
reading_of word chain bits =
    (if bytes_eq word (codes "demux") then Some (Demux chain bits)
    else (if bytes_eq word (codes "inspect") then Some (Inspect chain bits) else None))

-- `smooth` of a chain of one multiplexer
abbrev pub smoothing_of : Chain → Option Command
smoothing_of chain = (if length (levels_of chain) == 1 then Some (Smooth chain) else None)

-- `mux`, `muxslip`, `disturb`, `smooth`, `demux` or `inspect` of a chain
abbrev pub conversion_of : List ℕ → Chain → Option Command
conversion_of word chain =
    (if bytes_eq word (codes "mux") then Some (Mux chain None)
    else (if bytes_eq word (codes "muxslip") then Some (MuxSlip chain)
    else (if bytes_eq word (codes "disturb") then Some (Disturb chain)
    else (if bytes_eq word (codes "smooth") then smoothing_of chain else reading_of word chain Line))))

-- `show` of a frame of a chain's line
abbrev pub showing_of : List ℕ → List ℕ → Option Command
showing_of chain_word frame_word = do
  chain ← chain_of chain_word
  frame ← number_of frame_word
  Some (Show chain frame)

-- `clock check` of a chain
abbrev pub checking_of : List ℕ → Option Command
checking_of chain_word = do
  chain ← chain_of chain_word
  Some (ClockCheck chain)

-- `mux` of a line with C-bit parity that sends this code, a number of at most 63, over the far end alarm and control channel
abbrev pub sending_of : List ℕ → Option Command
sending_of code_word = do
  code ← number_of code_word
  if nat_le code 63 then Some (Mux C13 (Some code)) else None

-- `clock make` of a chain, of so many frames with such offsets
abbrev pub making_of : List ℕ → List ℕ → List ℕ → Option Command
making_of chain_word frames_word bias_word = do
  chain ← chain_of chain_word
  frames ← number_of frames_word
  bias ← bias_of bias_word
  Some (ClockMake chain frames bias)

-- `drill` of a chain, with what its test patterns begin with and so many frames
abbrev pub drilling_of : List ℕ → List ℕ → List ℕ → Option Command
drilling_of chain_word seed_word frames_word = do
  chain ← chain_of chain_word
  seed ← number_of seed_word
  frames ← number_of frames_word
  Some (Drill chain seed frames)

-- `duplex` of a chain, with what its test patterns begin with and so many frames a line
abbrev pub linking_of : List ℕ → List ℕ → List ℕ → Option Command
linking_of chain_word seed_word frames_word = do
  chain ← chain_of chain_word
  seed ← number_of seed_word
  frames ← number_of frames_word
  Some (Duplex chain seed frames)

-- `ds1pack` of a form
abbrev pub ds1_packing_of : List ℕ → Option Command
ds1_packing_of form_word = do
  form ← form_of form_word
  Some (Ds1Pack form)

-- `ds1unpack` of a form
abbrev pub ds1_unpacking_of : List ℕ → Option Command
ds1_unpacking_of form_word = do
  form ← form_of form_word
  Some (Ds1Unpack form)

-- ---- by the number of the words

-- `inspect e1`, `ds1pack` or `ds1unpack` and a form, or a word and a chain
abbrev pub of_two : List ℕ → List ℕ → Option Command
of_two first second =
    if bytes_eq first (codes "inspect") && bytes_eq second (codes "e1") then Some InspectE1
    else (if bytes_eq first (codes "ds1pack") then ds1_packing_of second
    else (if bytes_eq first (codes "ds1unpack") then ds1_unpacking_of second else (do
      chain ← chain_of second
      conversion_of first chain)))

-- `show CHAIN NUMBER`, `clock check CHAIN`, or a word, a chain and `bent`
abbrev pub of_three : List ℕ → List ℕ → List ℕ → Option Command
of_three first second third =
    if bytes_eq first (codes "show") then showing_of second third
    else (if bytes_eq first (codes "clock") && bytes_eq second (codes "check") then checking_of third
    else (if bytes_eq third (codes "bent") then (do
      chain ← chain_of second
      reading_of first chain Bent) else None))

-- `mux c13 feac CODE`, `drill CHAIN SEED FRAMES`, or `duplex CHAIN SEED FRAMES`
abbrev pub of_four : List ℕ → List ℕ → List ℕ → List ℕ → Option Command
of_four first second third fourth =
    if bytes_eq first (codes "mux") && (bytes_eq second (codes "c13") && bytes_eq third (codes "feac")) then sending_of fourth
    else (if bytes_eq first (codes "drill") then drilling_of second third fourth
    else (if bytes_eq first (codes "duplex") then linking_of second third fourth else None))

-- `clock make CHAIN FRAMES BIAS`
abbrev pub of_five : List ℕ → List ℕ → List ℕ → List ℕ → List ℕ → Option Command
of_five first second third fourth fifth =
    if bytes_eq first (codes "clock") && bytes_eq second (codes "make") then making_of third fourth fifth else None

-- the command of these words, if they are a row of the table: `mux CHAIN`, `demux CHAIN`, `demux CHAIN bent`,
-- `clock check CHAIN`, `mux c13 feac CODE`, `muxslip CHAIN`, `clock make CHAIN FRAMES BIAS`, `inspect CHAIN`, `inspect CHAIN bent`, `inspect e1`,
-- `show CHAIN NUMBER`, `e1pack`, `e1unpack`, `disturb CHAIN`, `drill CHAIN SEED FRAMES`, `ds1pack FORM`, `ds1unpack FORM`,
-- `smooth CHAIN` with a chain of one multiplexer, and `duplex CHAIN SEED FRAMES`
abbrev pub command_of : List (List ℕ) → Option Command
command_of (a ∷ []) = framing_of a
command_of (a ∷ b ∷ []) = of_two a b
command_of (a ∷ b ∷ c ∷ []) = of_three a b c
command_of (a ∷ b ∷ c ∷ d ∷ []) = of_four a b c d
command_of (a ∷ b ∷ c ∷ d ∷ e ∷ []) = of_five a b c d e
command_of _ = None

-- a code that is sent has six bits; a frame that is shown, and what test patterns begin with, is at most the largest number that
-- a word writes; and a chain whose line is smoothed is one multiplexer
abbrev pub KeepsLimits : Command → Type 0
KeepsLimits (Mux chain (Some code)) = code < 64
KeepsLimits (Show chain frame) = frame ≤ 999999999
KeepsLimits (Drill chain seed frames) = seed ≤ 999999999
KeepsLimits (Duplex chain seed frames) = seed ≤ 999999999
KeepsLimits (Smooth chain) = length (levels_of chain) ≡ 1
KeepsLimits _ = ⊤
