-- What the files of a port's outputs hold, by the bits that were put to it.
use mathlib.Core.Path.{fun_ext}
use Rattle.std.proofs.Common.{◌≡◌, ℕ, ◌<◌, Bool, true, false, cond, List, [], ◌++◌, length, map, take, Option, Some, None, slice_get, inl, inr, refl, sym, ap, ◌∙◌, subst, append_assoc, arith}
use Rattle.std.specs.Prelude.{nat_lt}
use Rattle.std.specs.Option.{option_and_then, option_map}
use Rattle.std.proofs.lemmas.Bool.{lt-ltb}
use Rattle.std.proofs.lemmas.Option.{none-some, same_Some, slice_get-map}
use Rattle.std.proofs.lemmas.List.{append-nil, take_at}
use Rattle.pdh_bits.specs.Bits.{bits_of, bytes_of}
use Rattle.pdh_bits.proofs.BitsLemmas.{length-bits_of, bytes_of-append, bytes_of-short, bytes_of-bits_of}
use Rattle.pdh_edge.specs.Files.{Told, Holds, HoldsPrefix}
use Rattle.pdh_edge.specs.Files.Told.{Untold, Known}
use Rattle.pdh_edge.specs.Ports.{IsPrefix}
use Rattle.pdh_blocks.specs.Leaves.{Output}
use Rattle.pdh_blocks.specs.State.{PortState, output_name, output_names}
use Rattle.pdh_blocks.specs.Lists.{outputs_of, put_in, bits_in}
use Rattle.pdh_blocks.specs.Held.{IsPort, HoldsBytes}
use Rattle.pdh_blocks.specs.Kept.{Keeps}
use Rattle.pdh_blocks.specs.Opened.{IsWritten}
use Rattle.pdh_blocks.proofs.Names.{find_name}

-- ---- bytes and bits

-- bytes, and then bits that may fill more
bytes_first : (bytes : List ℕ) (more : List Bool) → HoldsBytes (Known (Some bytes)) → bytes_of (bits_of bytes ++ more) ≡ bytes ++ bytes_of more
bytes_first bytes more small =
    bytes_of-append (bits_of bytes) more (omega (arith, length-bits_of bytes)) ∙ ap (λ v. v ++ bytes_of more) (bytes_of-bits_of bytes small)

-- how many bytes a file that is told holds
abbrev size_of : Told → ℕ
size_of (Known (Some bytes)) = length bytes
size_of told = 0

untold-known : (held : Option (List ℕ)) → Untold ≡ Known held → ⊥
untold-known held same = absurd (cc)

-- ---- one output

-- the output of a name
output_of : (outputs : List Output) (k : ℕ) (name : List ℕ) (found : Option Output) → slice_get outputs k ≡ found → slice_get (map output_name outputs) k ≡ Some name → (output : Output) × (slice_get outputs k ≡ Some output) × (output.name ≡ name)
output_of outputs k name None at here = absurd (none-some name (sym (slice_get-map output_name outputs k ∙ ap (option_map output_name) at) ∙ here))
output_of outputs k name (Some output) at here = (output, at, same_Some output.name name (sym (slice_get-map output_name outputs k ∙ ap (option_map output_name) at) ∙ here))

module _ (port : PortState) (is : IsPort port) (k : ℕ) (name : List ℕ) (here : slice_get (output_names port) k ≡ Some name) (begun : k < port.started) where
  -- its list, where its file is told
  list_is : (bytes : List ℕ) → port.shelf.tells_started name ≡ true → port.shelf.told name ≡ Known (Some bytes) → (waiting : List Bool) × ((outputs_of port).told k ≡ Some (bits_of bytes ++ waiting))
  list_is bytes tells known =
      let found = output_of port.outputs k name (slice_get port.outputs k) refl here in
      let output : Output = found.0 in
      let begun_is = lt-ltb k port.started begun in (
        output.waiting,
        ap (option_and_then (put_in port k)) found.1
            ∙ ap (λ n. cond (port.shelf.tells_started n) (Some (cond (nat_lt k port.started) (bits_in (port.shelf.told n)) [] ++ output.waiting)) None) found.2
            ∙ ap (λ v. cond v (Some (cond (nat_lt k port.started) (bits_in (port.shelf.told name)) [] ++ output.waiting)) None) tells
            ∙ ap (λ v. Some (cond v (bits_in (port.shelf.told name)) [] ++ output.waiting)) begun_is
            ∙ ap (λ v. Some (bits_in v ++ output.waiting)) known,
      )

  -- what is told of it are bytes
  told_bytes : (P : Option (List ℕ) → Type 0) → ((bytes : List ℕ) → port.shelf.tells_started name ≡ true → port.shelf.told name ≡ Known (Some bytes) → HoldsBytes (Known (Some bytes)) → P (Some bytes))
      → (tells : Bool) → port.shelf.tells_started name ≡ tells → (held : Option (List ℕ)) → port.shelf.told name ≡ Known held → P held
  told_bytes P then_ false silent held known = absurd (untold-known held (sym (is.blocks.untold k name here begun silent) ∙ known))
  told_bytes P then_ true tells None known = absurd (subst HoldsBytes known (is.blocks.held k name here begun tells))
  told_bytes P then_ true tells (Some bytes) known = then_ bytes tells known (subst HoldsBytes known (is.blocks.held k name here begun tells))

  bytes_told : (P : Option (List ℕ) → Type 0) → ((bytes : List ℕ) → port.shelf.tells_started name ≡ true → port.shelf.told name ≡ Known (Some bytes) → HoldsBytes (Known (Some bytes)) → P (Some bytes)) → (held : Option (List ℕ)) → port.shelf.told name ≡ Known held → P held
  bytes_told P then_ held known = told_bytes P then_ (port.shelf.tells_started name) refl held known

  -- once all whole bytes are written, the file holds those of its list
  pub whole_file : IsWritten port → (list : List Bool) → ((told : List Bool) → (outputs_of port).told k ≡ Some told → told ≡ list) → Holds (port.shelf.told name) (bytes_of list)
  whole_file written list same = bytes_told (λ held. held ≡ Some (bytes_of list)) (λ bytes tells known small.
      let put = list_is bytes tells known in
      let all : List Bool = bits_of bytes ++ put.0 in
      let has = written k name all here begun put.1 in
      let file : bits_in (port.shelf.told name) ≡ bits_of bytes = ap bits_in known in
      let split : all ≡ bits_of bytes ++ has.0 = has.1 ∙ ap (λ v. v ++ has.0) file in
      let is_list : bytes_of list ≡ bytes = ap bytes_of (sym (same all put.1) ∙ split) ∙ bytes_first bytes has.0 small ∙ ap (λ v. bytes ++ v) (bytes_of-short has.0 has.2) ∙ append-nil bytes in
      ap Some (sym is_list))

  -- it always holds a prefix of them
  pub front_of_file : (list : List Bool) → ((told : List Bool) → (outputs_of port).told k ≡ Some told → IsPrefix told list) → HoldsPrefix (port.shelf.told name) (bytes_of list)
  front_of_file list front =
      let n : ℕ = size_of (port.shelf.told name) in (
        n,
        bytes_told (λ held. held ≡ Some (take n (bytes_of list))) (λ bytes tells known small.
            let put = list_is bytes tells known in
            let behind = front (bits_of bytes ++ put.0) put.1 in
            let more : List Bool = put.0 ++ behind.0 in
            let split : list ≡ bits_of bytes ++ more = behind.1 ∙ append_assoc (bits_of bytes) put.0 behind.0 in
            let whole : bytes_of list ≡ bytes ++ bytes_of more = ap bytes_of split ∙ bytes_first bytes more small in
            let long : length bytes ≡ n = sym (ap size_of known) in
            ap Some (sym (ap (take n) whole ∙ take_at bytes (bytes_of more) n long))),
      )

-- ---- a fresh port

-- a port that is fresh still has left all files
pub fresh_files : (old new : PortState) → Keeps old new → new.fresh ≡ true → IsPort new → new.shelf.told ≡ old.shelf.told
fresh_files old new kept fresh is =
    let none : new.called ≡ 0 = (is.blocks.fresh fresh).0 in
    fun_ext (λ name. elim (find_name (output_names old) name) [
      | inl found ↦ kept.uncalled found.0 name (ap (λ all. slice_get all found.0) kept.outputs ∙ found.1) (omega (arith, none))
      | inr other ↦ kept.others.told name other
    ])
