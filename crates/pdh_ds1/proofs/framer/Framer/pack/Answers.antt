use Rattle.std.proofs.Common.{◌≡◌, ◌++◌, ℕ, ◌*◌, Bool, List, length, ap, ◌∙◌, arith}
use Rattle.pdh_bits.specs.BitOut.{BoundedBits}
use Rattle.pdh_bits.specs.Bits.{bits_of}
use Rattle.pdh_bits.proofs.BitsLemmas.{length-bits_of}
use Rattle.pdh_ds1.specs.declared.plan.SuperframePlan.{SuperframePlan}
use Rattle.pdh_ds1.specs.Packing.{word_of, superframe_of}
use Rattle.pdh_ds1.proofs.FramerLaws.{octets_written}
use Rattle.pdh_ds1.proofs.framer.Framer.pack.Goals as goal

pub push_superframe-self-requires : goal.push_superframe-self-requires
push_superframe-self-requires g c =
    let frames : ℕ = g.P.InSuperframe.PLAN.frames in
    let same : c.PLAN.result.frames ≡ frames = ap (λ (p : SuperframePlan). p.frames) c.PLAN.ensures in
    let octets : bits_of c.write_bytes.new.into ≡ c.args.self.now.payload.bits =
    octets_written c.args.self.now.payload.bits c.write_bytes.new.into (24 * c.PLAN.result.frames) c.write_bytes.result (omega (arith, c.requires.full, same)) (omega (arith, same, g.met.P.InSuperframe.is_plan.few)) c.write_bytes.ensures.count c.write_bytes.ensures.written in
    record {
      enough = omega (arith, ap (λ (bits : List Bool). length bits) octets, length-bits_of c.write_bytes.new.into, c.requires.full);
      room = omega (arith, ap (λ (b : BoundedBits). length b.bits) c.clear-2.ensures, ap (λ (b : BoundedBits). b.capacity) c.clear-2.ensures, c.requires.room, g.met.P.InSuperframe.is_plan.whole);
    }

pub returns-clause-superframe : goal.returns-clause-superframe
returns-clause-superframe g c =
    let f_bits = g.P.InSuperframe.f_bits in
    let plan : SuperframePlan = g.P.InSuperframe.PLAN in
    let self = c.args.self.now in
    let same : c.PLAN.result.frames ≡ plan.frames = ap (λ (p : SuperframePlan). p.frames) c.PLAN.ensures in
    let octets : bits_of c.write_bytes.new.into ≡ self.payload.bits =
    octets_written self.payload.bits c.write_bytes.new.into (24 * c.PLAN.result.frames) c.write_bytes.result (omega (arith, c.requires.full, same)) (omega (arith, same, g.met.P.InSuperframe.is_plan.few)) c.write_bytes.ensures.count c.write_bytes.ensures.written in
    c.push_superframe-self.ensures.line
    ∙ ap (λ (b : BoundedBits). record b { bits = b.bits ++ superframe_of f_bits self.sent (bits_of c.write_bytes.new.into) plan.frames }) c.clear-2.ensures
    ∙ ap (λ (n : ℕ). record { capacity = n; bits = superframe_of f_bits self.sent (bits_of c.write_bytes.new.into) plan.frames }) c.requires.room
    ∙ ap (λ (x : List Bool). record { capacity = plan.len; bits = superframe_of f_bits self.sent x plan.frames }) octets

pub returns-clause-sent : goal.returns-clause-sent
returns-clause-sent g c =
    let f_bits = g.P.InSuperframe.f_bits in
    let plan : SuperframePlan = g.P.InSuperframe.PLAN in
    let self = c.args.self.now in
    let same : c.PLAN.result.frames ≡ plan.frames = ap (λ (p : SuperframePlan). p.frames) c.PLAN.ensures in
    let octets : bits_of c.write_bytes.new.into ≡ self.payload.bits =
    octets_written self.payload.bits c.write_bytes.new.into (24 * c.PLAN.result.frames) c.write_bytes.result (omega (arith, c.requires.full, same)) (omega (arith, same, g.met.P.InSuperframe.is_plan.few)) c.write_bytes.ensures.count c.write_bytes.ensures.written in
    c.push_superframe-self.ensures.word ∙ ap (λ (x : List Bool). word_of plan.frames (superframe_of f_bits self.sent x plan.frames)) octets
