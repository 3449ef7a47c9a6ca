use Rattle.std.proofs.Common.{List, Bool, length, ap, subst, ◌∙◌, arith, OnOk, OnErr}
use Rattle.pdh_bits.specs.BitOut.{BoundedBits}
use Rattle.pdh_edge.specs.Ports.{Puts, PutsPart, for_leaf}
use Rattle.pdh_smoothing.proofs.RowLaws.{row_bits}
use Rattle.pdh_smoothing.proofs.rows.put_row.Goals as goal

pub append_bytes-requires : goal.append_bytes-requires
append_bytes-requires g c = omega (arith, ap (λ (b : BoundedBits). length b.bits) c.clear.ensures, ap (λ (b : BoundedBits). b.capacity) c.clear.ensures, ap length c.bytes.ensures, c.row_of-row.ensures.few, c.requires.room)

pub returns-clause-room : goal.returns-clause-room
returns-clause-room g c = ap (λ (b : BoundedBits). b.capacity) c.append_bytes.ensures ∙ ap (λ (b : BoundedBits). b.capacity) c.clear.ensures

pub returns-clause-ok : goal.returns-clause-ok
returns-clause-ok g c =
    let is = row_bits c.append_bytes.new.self c.clear.new.self c.args.bits.now c.bytes.result.now c.row_of-row.result _ c.append_bytes.ensures c.clear.ensures c.bytes.ensures c.row_of-row.ensures.bytes in
    subst (λ (bits : List Bool). OnOk c.put_all.result (Puts (for_leaf c.args.list bits) (g.D.Drain.outputs c.args.port.now) (g.D.Drain.outputs c.put_all.new.self))) is c.put_all.ensures.ok

pub returns-clause-err : goal.returns-clause-err
returns-clause-err g c =
    let is = row_bits c.append_bytes.new.self c.clear.new.self c.args.bits.now c.bytes.result.now c.row_of-row.result _ c.append_bytes.ensures c.clear.ensures c.bytes.ensures c.row_of-row.ensures.bytes in
    subst (λ (bits : List Bool). OnErr c.put_all.result (PutsPart (for_leaf c.args.list bits) (g.D.Drain.outputs c.args.port.now) (g.D.Drain.outputs c.put_all.new.self))) is c.put_all.ensures.err
