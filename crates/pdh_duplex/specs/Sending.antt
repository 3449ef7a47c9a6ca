-- What an end has sent, in memory.
use Rattle.std.specs.Prelude.{◌≡◌, ℕ, ◌+◌, ◌*◌, ◌<◌, false, IsTrue, List, [], length, drop, Some}
use Rattle.std.specs.List.{slice_index_or}
use Rattle.pdh_edge.specs.Ports.{Inputs}
use Rattle.pdh_shape.specs.declared.role.Service.{Service}
use Rattle.pdh_shape.specs.Frame.{idle}
use Rattle.pdh_line.specs.Paths.{top}
use Rattle.pdh_nesting.specs.Chains.{width, top_len}
use Rattle.pdh_nesting.specs.Sending.{given_below}
use Rattle.pdh_clock.specs.Contents.{Contents}
use Rattle.pdh_tx.specs.declared.tx.Tx as tx
use Rattle.pdh_tx.specs.Meaning.{Supply, plan_of}
use Rattle.pdh_chain.specs.Chains.{shapes_of}
use Rattle.pdh_chain.specs.Muxes.{bits_of}
use Rattle.pdh_chain.specs.Trees.{sender_of}
use Rattle.pdh_patterns.specs.Leaves.{made_counts, input_of, IsClockOf}
use Rattle.pdh_patterns.specs.Patterns.{pattern_inputs}
use Rattle.pdh_patterns.specs.declared.patterns.Patterns.{Patterns}
use Rattle.pdh_duplex.specs.Session.{Setting}
use Rattle.pdh_duplex.specs.declared.outgoing.Outgoing.{Outgoing}

-- how many bits of a leaf so many frames of a line take
abbrev pub taken_of : Setting → ℕ → ℕ → ℕ
taken_of z frames leaf = given_below (shapes_of z.chain) (made_counts z.chain z.frames) [] (frames * top_len (shapes_of z.chain)) leaf

-- the lists of the leaves: of each, the pattern less what so many frames take
pub record AreLeft (z : Setting) (frames : ℕ) (inputs : Inputs) : Type 0 where
  pub holds : (k : ℕ) → k < width (shapes_of z.chain) → IsTrue (inputs.holds k)
  pub told : (k : ℕ) → k < width (shapes_of z.chain) → inputs.told k ≡ Some (drop (taken_of z frames k) (input_of z.chain z.seed z.frames k))
  pub left : (k : ℕ) → k < width (shapes_of z.chain) → taken_of z frames k + inputs.left k ≡ length (input_of z.chain z.seed z.frames k)

-- a supply of an end's sender: this schedule, the leaves' patterns, and what its frames so far said
pub record IsSupply (z : Setting) (clock : Contents) (says : List Service) (supply : Supply) : Type 0 where
  pub plan_is : supply.plan ≡ plan_of clock
  pub lists_are : (k i : ℕ) → k < width (shapes_of z.chain) → supply.lists k i ≡ bits_of (input_of z.chain z.seed z.frames) k i
  pub said : (n : ℕ) → n < length says → supply.says n ≡ slice_index_or says n idle

-- the lists of these leaves
abbrev pub lists_of : Patterns → Inputs
lists_of leaves = pattern_inputs leaves.leaves.items

-- an end has sent so many frames, which said this
pub record HasSent {T : Type 0} (sender : tx.Ghosts T) (z : Setting) (clock : Contents) (frames : ℕ) (says : List Service) (out : Outgoing T) : Type 0 where
  pub count : length says ≡ frames
  pub means : sender.meaning out.sender ≡ sender_of (shapes_of z.chain) top 0
  pub runs : sender.is_stopped out.sender ≡ false
  pub stands : sender.stands_at out.sender (plan_of clock) (frames * top_len (shapes_of z.chain))
  pub holds : (supply : Supply) → IsSupply z clock says supply → sender.stands_for out.sender supply (frames * top_len (shapes_of z.chain))
  pub leaves : AreLeft z frames (lists_of out.leaves)

-- it can make one more, of so many bits
pub record CanSend {T : Type 0} (sender : tx.Ghosts T) (z : Setting) (clock : Contents) (frames : ℕ) (says : List Service) (len : ℕ) (out : Outgoing T) : Type 0 where
  pub clock_is : IsClockOf z.chain z.frames clock
  pub len_is : len ≡ top_len (shapes_of z.chain)
  pub fewer : frames < z.frames
  pub sent : HasSent sender z clock frames says out
