-- `show` over a port: what the command comes to.
use Rattle.std.proofs.Common.{◌≡◌, ℕ, suc, ◌*◌, Bool, List, drop, take, Ok, ap, sym, ◌∙◌}
use Rattle.std.proofs.Math.Nat.{mul_left_comm}
use Rattle.pdh_bits.specs.Bits.{bits_of, bytes_of}
use Rattle.pdh_edge.specs.Files.{ShelfState}
use Rattle.pdh_chain.specs.Chains.{frame_bytes_of}
use Rattle.pdh_chain.specs.declared.chain.Chain.{Chain}
use Rattle.pdh_blocks.specs.State.{PortState}
use Rattle.pdh_blocks.specs.Lists.{inputs_of}
use Rattle.pdh_blocks.specs.Held.{IsPort}
use Rattle.pdh_blocks.specs.laws.PortLaws.{left_is}
use Rattle.pdh_show.specs.Shown.{shown}
use Rattle.pdh_show.specs.Showing.{Shows}
use Rattle.pdh_answers.specs.Names.{line_name}
use Rattle.pdh_recorded.specs.Inspect.{bytes_upto, frame_shown, showing}
use Rattle.pdh_runner.specs.Operation.{AreTold, Files, bytes_in}
use Rattle.pdh_runner.specs.Performing.{Comes}
use Rattle.pdh_runner.specs.Lines.{HasLine}
use Rattle.pdh_recorded.specs.ShowSteps.{IsShowPort}
use Rattle.pdh_runner.proofs.PortRun.{all_given}
use Rattle.pdh_answers.specs.declared.answer.Done.TheVariants.{Frame}

-- a frame's bits, counted either way
pub upto_is : (chain : Chain) (n : ℕ) → suc n * (8 * frame_bytes_of chain) ≡ 8 * bytes_upto chain n
upto_is chain n = mul_left_comm (suc n) 8 (frame_bytes_of chain)

module _ (chain : Chain) (n : ℕ) (a : ShelfState) (p q : PortState) (is : IsShowPort chain n a p) (port : IsPort p) (has : HasLine (8 * bytes_upto chain n) (inputs_of p)) where
  -- the bits of the line up to the end of the frame
  abbrev front : Files → List Bool
  front files = take (8 * bytes_upto chain n) (bits_of (bytes_in files line_name))

  -- all of them were given
  front_given : (files : Files) (text : List ℕ) → AreTold (showing chain n) a.told files → (shows : Shows chain n text (inputs_of p) (inputs_of q)) → shows.given ≡ front files
  front_given files text told shows =
      all_given ((inputs_of q).told 0) shows.given (front files) (sym (is.gives files told) ∙ shows.takes.bits 0)
      (shows.count ∙ upto_is chain n ∙ sym has.left ∙ left_is p 0 (front files) port (is.gives files told))

  pub shown_comes : (text : List ℕ) → Shows chain n text (inputs_of p) (inputs_of q) → Comes (showing chain n) a (Ok (Frame text))
  unfolding frame_shown
  shown_comes text shows files told =
      ap (λ (text : List ℕ). Ok (Frame text)) (shows.text_is ∙ ap (λ (bits : List Bool). shown chain n (bytes_of (drop (n * (8 * frame_bytes_of chain)) bits))) (front_given files text told shows)) ∙ sym (is.comes files told)
