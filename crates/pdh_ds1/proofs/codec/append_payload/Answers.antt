use Rattle.std.proofs.Common.{◌≡◌, ℕ, ◌++◌, List, Bool, ap, sym, ◌∙◌, arith}
use Rattle.std.proofs.lemmas.List.{append-nil}
use Rattle.pdh_bits.specs.BitOut.{BoundedBits}
use Rattle.pdh_ds1.specs.Packing.{line_payload}
use Rattle.pdh_ds1.proofs.PackingLaws.{payload_push, line_payload-is}
use Rattle.pdh_ds1.proofs.codec.append_payload.Goals as goal

pub loop-frame-init : goal.loop-frame-init
loop-frame-init c =
    let payload : BoundedBits = c.args.payload.now in
    record {
      payload = sym (ap (λ (x : List Bool). record payload { bits = payload.bits ++ x }) (line_payload-is c.args.line.now.bits 0) ∙ ap (λ (x : List Bool). record payload { bits = x }) (append-nil payload.bits));
      long = omega arith;
    }

pub loop-frame-preserved : goal.loop-frame-preserved
loop-frame-preserved c =
    let step = payload_push c.args.line.now.bits c.loop-frame.frame c.args.payload.now c.loop-frame.payload c.append_from.new.self c.loop-frame.invariant.payload c.loop-frame.invariant.long c.append_from.ensures (omega arith) in
    record { payload = step.0; long = step.1 }

pub returns-clause-payload : goal.returns-clause-payload
returns-clause-payload c =
    let all : c.loop-frame.frame ≡ c.args.frames = omega arith in
    let payload : BoundedBits = c.args.payload.now in
    c.loop-frame.invariant.payload ∙ ap (λ (n : ℕ). record payload { bits = payload.bits ++ line_payload c.args.line.now.bits n }) all
