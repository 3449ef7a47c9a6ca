use Rattle.std.proofs.Common.{◌≡◌, ℕ, ◌+◌, ◌*◌, ◌<◌, ◌≤◌, Bool, List, [], ◌++◌, append_assoc, length, length-append, rules, refl, ap, sym, ◌∙◌, subst, arith}
use Rattle.std.specs.Slice.Iter.{chunks_rest}
use Rattle.std.proofs.lemmas.List.{append-nil, nil_from_length}
use Rattle.pdh_bits.specs.BitOut.{BoundedBits}
use Rattle.pdh_bits.specs.Bits.{bits_of}
use Rattle.pdh_bits.proofs.BitsLemmas.{bits_of-append, length-bits_of}
use Rattle.pdh_edge.specs.Ports.{Outputs}
use Rattle.pdh_edge.specs.MemLists.{mem_outputs, bits_held, room_of}
use Rattle.pdh_edge.proofs.InRoom.{puts_in_room}
use Rattle.pdh_framed.specs.Taking.{Takes, TakesPart}
use Rattle.pdh_framed.proofs.TakeLaws.{takes_none, takes_join, takes_part}
use Rattle.pdh_streams.proofs.DeliveringLaws.{first_holds, put_is, payload_in_room}
use Rattle.pdh_streams.proofs.delivering.deliver.Goals as goal

-- the bits of the octets, in place of those that were there
appended : (new none old : BoundedBits) (octets : List ℕ) → new ≡ record none { bits = none.bits ++ bits_of octets } → none ≡ record old { bits = [] } → new.bits ≡ bits_of octets
appended new none old octets is empty = ap (λ (b : BoundedBits). b.bits) is ∙ ap (λ (b : BoundedBits). b.bits ++ bits_of octets) empty

-- nothing is left, so all was taken
whole : (done rest line : List ℕ) → length rest ≡ 0 → done ++ rest ≡ line → done ≡ line
whole done rest line none all = sym (append-nil done) ∙ ap (λ (octets : List ℕ). done ++ octets) (sym (nil_from_length rest none)) ∙ all

pub returns-in_err-bits-clause-list : goal.returns-in_err-bits-clause-list
returns-in_err-bits-clause-list g c = first_holds c.requires.outputs

pub returns-clause-stands : goal.returns-clause-stands
returns-clause-stands g c =
    let inv = c.loop-octets.invariant in
    subst (λ (octets : List ℕ). g.M.Machine.stands c.loop-octets.machine (bits_of octets)) (whole inv.6 (chunks_rest c.loop-octets.octets-iterator) c.args.line.now c.in-None.ensures.steps.1.0 inv.7) (inv.9.stands [] c.requires.stands)

pub returns-clause-put : goal.returns-clause-put
returns-clause-put g c = λ bits told.
    let inv = c.loop-octets.invariant in
    let payload = g.M.Machine.far c.args.machine.now in
    let all = whole inv.6 (chunks_rest c.loop-octets.octets-iterator) c.args.line.now c.in-None.ensures.steps.1.0 inv.7 in
    put_is payload (bits_of inv.6) bits (mem_outputs c.args.port.now.outputs.items) (mem_outputs c.loop-octets.port.outputs.items) c.requires.payload c.requires.outputs (inv.9.gains [] c.requires.stands) told ∙ ap (λ (octets : List ℕ). payload (bits_of octets)) all

pub loop-octets-init : goal.loop-octets-init
loop-octets-init g c = (
  search rules,
  tt,
  search rules,
  refl,
  refl,
  c.requires.faults,
  [],
  search rules,
  refl,
  takes_none (g.M.Machine.far c.args.machine.now) (g.M.Machine.stands c.args.machine.now) (mem_outputs c.args.port.now.outputs.items),
  ap (λ (b : BoundedBits). b.capacity) c.in_ok-bits.ensures,
)

pub append_bytes-requires : goal.append_bytes-requires
append_bytes-requires g c =
    let inv = c.loop-octets.invariant in
    let steps = c.in-Some.ensures.steps in
    omega (arith, ap (λ (b : BoundedBits). length b.bits) c.clear.ensures, ap (λ (b : BoundedBits). b.capacity) c.clear.ensures, inv.10, inv.2, steps.1.1, steps.1.2)

pub receive-requires-clause-stands : goal.receive-requires-clause-stands
receive-requires-clause-stands g c = (bits_of c.loop-octets.invariant.6, c.loop-octets.invariant.9.stands [] c.requires.stands)

pub receive-requires-clause-list : goal.receive-requires-clause-list
receive-requires-clause-list g c = ap (λ (h : ℕ → Bool). h 0) c.loop-octets.invariant.3 ∙ first_holds c.requires.outputs

pub returns-in-Err-clause-unfailed : goal.returns-in-Err-clause-unfailed
returns-in-Err-clause-unfailed g c =
    let inv = c.loop-octets.invariant in
    let steps = c.in-Some.ensures.steps in
    let done : List ℕ = inv.6 in
    let octets : List ℕ = c.in-Some.octets.now in
    let bits : List Bool = c.append_bytes.new.self.bits in
    let before : Outputs = mem_outputs c.args.port.now.outputs.items in
    let mid = c.loop-octets.port in
    let new = c.receive.new.drain in
    let all : List Bool = bits_of (done ++ octets) in
    let payload = g.M.Machine.far c.args.machine.now in
    let more : all ≡ bits_of done ++ bits = bits_of-append done octets ∙ sym (ap (λ (l : List Bool). bits_of done ++ l) (appended c.append_bytes.new.self c.clear.new.self c.loop-octets.bits octets c.append_bytes.ensures c.clear.ensures)) in
    let part = subst (λ (far : List Bool → List Bool). TakesPart far (g.M.Machine.stands c.loop-octets.machine) bits (mem_outputs mid.outputs.items) (mem_outputs new.outputs.items)) inv.8 c.in-Err.ensures.part in
    let joined = takes_part payload (bits_of done) bits all (g.M.Machine.stands c.args.machine.now) (g.M.Machine.stands c.loop-octets.machine) before (mem_outputs mid.outputs.items) (mem_outputs new.outputs.items) more inv.9 part in
    let long : length all ≡ 8 * length (done ++ octets) = length-bits_of (done ++ octets) in
    let line : length done + length (chunks_rest c.loop-octets.octets-iterator) ≡ length c.args.line.now = sym (length-append done (chunks_rest c.loop-octets.octets-iterator)) ∙ ap length inv.7 in
    let rest : length (chunks_rest c.loop-octets.octets-iterator) ≡ length octets + length (chunks_rest c.next.new.self) = ap length steps.1.0 ∙ length-append octets (chunks_rest c.next.new.self) in
    let some : 0 < length all = omega (arith, long, length-append done octets, steps.1.1, steps.1.2, inv.2) in
    let enough : length all ≤ room_of mid 0 = omega (arith, long, length-append done octets, line, rest, c.requires.room, inv.4) in
    let same = puts_in_room mid new c.receive.ensures.drained.4 (λ k held.
    let room = payload_in_room payload all (room_of mid 0) k before (mem_outputs new.outputs.items) c.requires.payload c.requires.outputs (c.receive.ensures.drained.2 ∙ inv.3) (joined.gains [] c.requires.stands) some enough held in
    subst (λ i. bits_held (mem_outputs new.outputs.items) k < room_of mid i) (sym room.0) room.1) in
    same ∙ inv.5

pub loop-octets-preserved : goal.loop-octets-preserved
loop-octets-preserved g c =
    let inv = c.loop-octets.invariant in
    let steps = c.in-Some.ensures.steps in
    let done : List ℕ = inv.6 in
    let octets : List ℕ = c.in-Some.octets.now in
    let bits : List Bool = c.append_bytes.new.self.bits in
    let before : Outputs = mem_outputs c.args.port.now.outputs.items in
    let mid : Outputs = mem_outputs c.loop-octets.port.outputs.items in
    let now : Outputs = mem_outputs c.receive.new.drain.outputs.items in
    let payload = g.M.Machine.far c.args.machine.now in
    let stands = g.M.Machine.stands in
    let more : bits_of (done ++ octets) ≡ bits_of done ++ bits = bits_of-append done octets ∙ sym (ap (λ (l : List Bool). bits_of done ++ l) (appended c.append_bytes.new.self c.clear.new.self c.loop-octets.bits octets c.append_bytes.ensures c.clear.ensures)) in
    let taken = subst (λ (far : List Bool → List Bool). Takes far (stands c.loop-octets.machine) (stands c.receive.new.self) bits mid now) inv.8 c.in_default.ensures.taken in (
      search rules,
      tt,
      steps.0 ∙ inv.2,
      c.receive.ensures.drained.2 ∙ inv.3,
      c.receive.ensures.drained.4.rooms 0 ∙ inv.4,
      c.in_default.ensures.cause ∙ inv.5,
      done ++ octets,
      append_assoc done octets (chunks_rest c.next.new.self) ∙ ap (λ (l : List ℕ). done ++ l) (sym steps.1.0) ∙ inv.7,
      c.receive.ensures.same ∙ inv.8,
      takes_join payload (bits_of done) bits (bits_of (done ++ octets)) (stands c.args.machine.now) (stands c.loop-octets.machine) (stands c.receive.new.self) before mid now more inv.9 taken,
      ap (λ (b : BoundedBits). b.capacity) c.append_bytes.ensures ∙ ap (λ (b : BoundedBits). b.capacity) c.clear.ensures ∙ inv.10,
    )

pub returns-in-Err-clause-list : goal.returns-in-Err-clause-list
returns-in-Err-clause-list g c = ap (λ (h : ℕ → Bool). h 0) (c.receive.ensures.drained.2 ∙ c.loop-octets.invariant.3) ∙ first_holds c.requires.outputs

pub returns-clause-list : goal.returns-clause-list
returns-clause-list g c = ap (λ (h : ℕ → Bool). h 0) c.loop-octets.invariant.3 ∙ first_holds c.requires.outputs
