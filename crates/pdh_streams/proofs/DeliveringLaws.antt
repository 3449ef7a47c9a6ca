-- What a machine leaves in a port, to which a whole line was given.
use Rattle.std.proofs.Common.{◌≡◌, ℕ, ◌<◌, ◌≤◌, Bool, List, [], ◌∷◌, ◌++◌, length, Option, Some, None, ap, sym, ◌∙◌, subst, arith, lit<, length-append}
use Rattle.std.specs.Prelude.{IsTrue}
use Rattle.std.proofs.lemmas.Bool.{lt-ltb, ltb-true}
use Rattle.pdh_bits.specs.Bits.{bits_of, bytes_of}
use Rattle.pdh_edge.specs.Ports.{Outputs, PrefixOf, after}
use Rattle.pdh_edge.specs.MemLists.{outputs_of, length_of, bits_held}
use Rattle.pdh_framed.specs.Taking.{Gains, GainsPart}
use Rattle.pdh_streams.specs.declared.delivering.Unpacked.{Unpacked}
use Rattle.pdh_streams.specs.Codecs.{FrameCodec, unpacked_payload, found_in}
use Rattle.pdh_streams.specs.Delivering.{IsPayload}
use Rattle.pdh_streams.specs.Steps.{IsUnpacked}

-- what was put to a port with one empty list
pub put_is : (payload : List Bool → List Bool) (bits got : List Bool) (old new : Outputs) → IsPayload payload → old ≡ outputs_of ([] ∷ []) → Gains payload [] bits old new → new.told 0 ≡ Some got → got ≡ payload bits
put_is payload bits got old new is empty gains told =
    let first : old.told 0 ≡ Some [] = ap (λ (o : Outputs). o.told 0) empty in
    let same : Some got ≡ Some gains.more = sym told ∙ gains.puts 0 ∙ ap (after gains.more) first in
    let all : got ≡ gains.more = cc in
    all ∙ sym (gains.gained ∙ ap (λ (l : List Bool). l ++ gains.more) is.none)

-- what a list that was empty holds of bits of which a part was put
held_few : (bits : List Bool) (before now : Option (List Bool)) → before ≡ Some [] → PrefixOf bits before now → length_of now ≤ length bits
held_few bits None now e p = cc
held_few bits (Some old) None e p = omega arith
held_few bits (Some old) (Some new) e p =
    let none : old ≡ [] = cc in
    let all : bits ≡ new ++ p.0 = sym (ap (λ (l : List Bool). l ++ bits) none) ∙ p.1 in
    omega (arith, ap length all, length-append new p.0)

-- a port with one list, which was empty, isn't full where a part of a line's payload was put, if it has room for the line
pub payload_in_room : (payload : List Bool → List Bool) (now : List Bool) (room k : ℕ) (old new : Outputs) → IsPayload payload → old ≡ outputs_of ([] ∷ []) → new.holds ≡ old.holds → GainsPart payload [] now old new
    → 0 < length now → length now ≤ room → IsTrue (new.holds k) → (k ≡ 0) × (bits_held new k < room)
payload_in_room payload now room k old new is empty holds part some enough held =
    let one : k < 1 = ltb-true k 1 (subst IsTrue (ap (λ (h : ℕ → Bool). h k) holds ∙ ap (λ (o : Outputs). o.holds k) empty) held) in
    let first : k ≡ 0 = omega (arith, one) in
    let all : payload now ≡ part.more = part.gained ∙ ap (λ (l : List Bool). l ++ part.more) is.none in
    let few : bits_held new 0 ≤ length part.more = held_few part.more (old.told 0) (new.told 0) (ap (λ (o : Outputs). o.told 0) empty) (part.puts 0) in
    (first, subst (λ i. bits_held new i < room) (sym first) (omega (arith, few, ap length all, is.fewer now some, enough)))

-- a port with one list holds it
pub first_holds : {outputs : Outputs} → outputs ≡ outputs_of ([] ∷ []) → IsTrue (outputs.holds 0)
first_holds is = ap (λ (o : Outputs). o.holds 0) is ∙ lt-ltb 0 1 (lit< tt)

-- what was put, and what was found
pub is_unpacked : (codec : FrameCodec) (line : List ℕ) (got : List Bool) (unpacked : Unpacked) → got ≡ codec.payload (bits_of line) → unpacked.payload.items ≡ bytes_of got → unpacked.found ≡ codec.found (bits_of line) → IsUnpacked codec line unpacked
unfolding unpacked_payload found_in
is_unpacked codec line got unpacked is written found = record {
  payload_is = written ∙ ap bytes_of is;
  found_is = found;
}
