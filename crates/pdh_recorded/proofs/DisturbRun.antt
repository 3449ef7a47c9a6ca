-- `disturb` over a port: what was put, and how the command ends.
use Rattle.std.proofs.Common.{◌≡◌, ℕ, zero, suc, Bool, List, length, Ok, ap, sym, ◌∙◌, arith}
use Rattle.pdh_bits.specs.Bits.{bits_of, bytes_of}
use Rattle.pdh_edge.specs.Files.{ShelfState}
use Rattle.pdh_edge.specs.Ports.{Takes, IsPrefix, for_leaf}
use Rattle.pdh_script.specs.Scripts.{Row, disturbed}
use Rattle.pdh_script.specs.Applying.{Applies, AppliesPart}
use Rattle.pdh_chain.specs.declared.chain.Chain.{Chain}
use Rattle.pdh_blocks.specs.State.{PortState}
use Rattle.pdh_blocks.specs.Lists.{inputs_of, outputs_of}
use Rattle.pdh_blocks.specs.Held.{IsPort}
use Rattle.pdh_blocks.specs.laws.PortLaws.{left_is}
use Rattle.pdh_answers.specs.Names.{line_name}
use Rattle.pdh_recorded.specs.Disturb.{bent_bits, bent_bytes, disturbing, disturb_says}
use Rattle.pdh_runner.specs.Operation.{AreTold, Files, bytes_in}
use Rattle.pdh_runner.specs.Performing.{Comes}
use Rattle.pdh_runner.specs.Lines.{HasLine}
use Rattle.pdh_recorded.specs.DisturbSteps.{IsBendPort}
use Rattle.pdh_runner.specs.PortFiles.{PutsAll, PutsFront}
use Rattle.pdh_runner.proofs.PortRun.{given_begins, all_given, put_is, put_begins}

module _ (chain : Chain) (rows : List Row) (a : ShelfState) (p q : PortState) (is : IsBendPort chain rows a p) where
  -- the bits of the line's file
  abbrev file_bits : Files → List Bool
  file_bits files = bits_of (bytes_in files line_name)

  -- what the output holds
  output_is : (files : Files) → AreTold (disturbing chain) a.told files → bytes_of (disturbed (bits_of (bytes_in files line_name)) rows) ≡ (disturbing chain).bytes files 0
  unfolding bent_bytes bent_bits
  output_is files told = ap (λ rows. bytes_of (disturbed (bits_of (bytes_in files line_name)) rows)) (sym (is.rows_are files told))

  -- how many they are
  pub long : (n : ℕ) → IsPort p → HasLine n (inputs_of p) → (files : Files) → AreTold (disturbing chain) a.told files → length (file_bits files) ≡ n
  long n port has files told = sym (left_is p 0 (file_bits files) port (is.gives files told)) ∙ has.left

  -- what the command comes to
  pub bent_comes : (n count : ℕ) → IsPort p → HasLine n (inputs_of p) → ((line : List Bool) → length line ≡ n → count ≡ length (disturbed line rows)) → Comes (disturbing chain) a (Ok (disturb_says chain count))
  unfolding bent_bits
  bent_comes n count port has counts files told = ap (λ n. Ok (disturb_says chain n)) (counts (file_bits files) (long n port has files told)) ∙ sym (is.comes files told)

  -- the bits that were given are the first ones of the file
  given_first : (files : Files) (given : List Bool) → AreTold (disturbing chain) a.told files → Takes (for_leaf 0 given) (inputs_of p) (inputs_of q) → IsPrefix given (file_bits files)
  given_first files given told takes = given_begins ((inputs_of q).told 0) given (file_bits files) (sym (is.gives files told) ∙ takes.bits 0)

  -- the disturbed line was put
  pub bent_all : (count : ℕ) → ((files : Files) → AreTold (disturbing chain) a.told files → length (bits_of (bytes_in files line_name)) ≡ count) → Applies rows count (inputs_of p) (inputs_of q) (outputs_of p) (outputs_of q) → PutsAll (disturbing chain) a (outputs_of q)
  bent_all count long applies zero list low here files told =
      let same : applies.given ≡ file_bits files = all_given ((inputs_of q).told 0) applies.given (file_bits files) (sym (is.gives files told) ∙ applies.takes.bits 0) (applies.count ∙ sym (long files told)) in
      ap bytes_of (put_is (disturbing chain) a p is.open_for (outputs_of q) 0 (disturbed applies.given rows) list here (applies.puts 0) ∙ ap (λ l. disturbed l rows) same) ∙ output_is files told
  bent_all count long applies (suc k) list low here files told = absurd (omega arith)

  -- a part of it was put
  pub bent_front : (count : ℕ) → ((files : Files) → AreTold (disturbing chain) a.told files → length (bits_of (bytes_in files line_name)) ≡ count) → AppliesPart rows count (inputs_of p) (inputs_of q) (outputs_of p) (outputs_of q) → PutsFront (disturbing chain) a (outputs_of q)
  bent_front count long part zero list low here files told = (
    disturbed (file_bits files) rows,
    put_begins (disturbing chain) a p is.open_for (outputs_of q) 0 (disturbed (file_bits files) rows) list here (part.puts (file_bits files) (long files told) (given_first files part.given told part.takes) 0),
    output_is files told,
  )
  bent_front count long part (suc k) list low here files told = absurd (omega arith)
