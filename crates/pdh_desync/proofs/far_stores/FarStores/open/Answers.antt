use Rattle.std.proofs.Common.{List, length, ap, sym, ◌∙◌, arith}
use Rattle.std.proofs.lemmas.List.{length-replicate}
use Rattle.pdh_bits.specs.BitOut.{BoundedBits}
use Rattle.pdh_desync.specs.Held.{Held}
use Rattle.pdh_desync.specs.States.{Stores}
use Rattle.pdh_desync.proofs.far_stores.FarStores.open.Goals as goal

pub invariant_of-result : goal.invariant_of-result
invariant_of-result g c = record {
  count = ap length c.in_ok-list.ensures ∙ length-replicate _ _ ∙ sym g.met.S.Shape.tribs_is;
  leaves_are = c.requires;
  room_is = omega (arith, ap (λ (b : BoundedBits). b.capacity) c.in_ok-out.ensures, c.LOW.ensures, g.met.S.Shape.low_is);
}

pub returns : goal.returns
returns g c = (let of : List Held → Stores = λ held. record { held = held; leaves = c.args.leaves } in ap of c.in_ok-list.ensures)
