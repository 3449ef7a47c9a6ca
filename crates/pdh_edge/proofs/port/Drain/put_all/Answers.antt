use Rattle.std.proofs.Common.{◌<◌, Bool, false, [], ◌∷◌, length, refl, ap, ◌∙◌, subst, arith}
use Rattle.std.proofs.lemmas.Result.{err_from_is_err_and}
use Rattle.pdh_edge.specs.Ports.{Puts, PutsPart, for_leaf}
use Rattle.pdh_edge.proofs.Runs.{puts_begin, puts_more, puts_more_part, cause_since}
use Rattle.pdh_edge.proofs.port.Drain.put_all.Goals as goal

pub loop-place-init : goal.loop-place-init
loop-place-init g c = record { puts = puts_begin c.args.leaf (g.Self.Drain.outputs c.args.self.now); unfailed = refl; drained = g.met.Self.Drain.drained_same c.args.self.now }

pub put-requires : goal.put-requires
put-requires g c = ap (λ h. h c.args.leaf) (g.met.Self.Drain.drained_holds c.args.self.now c.loop-place.self c.loop-place.invariant.drained) ∙ c.requires

pub returns-in_err-put-clause-err : goal.returns-in_err-put-clause-err
returns-in_err-put-clause-err g c =
    let p = err_from_is_err_and c.from_residual.result c.from_residual.ensures.1 in
    let outputs = g.Self.Drain.outputs in
    let less : c.loop-place.place < length c.args.bits.now.bits = omega (arith, c.loop-place-test.true, c.len-place-end.ensures.count) in
    let part = subst (λ (bit : Bool). PutsPart (for_leaf c.args.leaf (bit ∷ [])) (outputs c.loop-place.self) (outputs c.put.new.self)) c.get.ensures c.in_err-put.ensures.err in
    rw p.1
    (puts_more_part c.args.leaf c.args.bits.now.bits c.loop-place.place false (outputs c.args.self.now) (outputs c.loop-place.self) (outputs c.put.new.self) less c.loop-place.invariant.puts part)

pub returns-in_err-put-clause-cause : goal.returns-in_err-put-clause-cause
returns-in_err-put-clause-cause g c =
    cause_since c.from_residual.result _ _ _ _ (err_from_is_err_and c.from_residual.result c.from_residual.ensures.1).1 c.loop-place.invariant.unfailed c.in_err-put.ensures.cause

pub returns-in_err-put-clause-drained : goal.returns-in_err-put-clause-drained
returns-in_err-put-clause-drained g c = g.met.Self.Drain.drained_join c.args.self.now c.loop-place.self c.put.new.self c.loop-place.invariant.drained c.put.ensures.drained

pub loop-place-preserved : goal.loop-place-preserved
loop-place-preserved g c =
    let outputs = g.Self.Drain.outputs in
    let less : c.loop-place.place < length c.args.bits.now.bits = omega (arith, c.loop-place-test.true, c.len-place-end.ensures.count) in
    let whole = subst (λ (bit : Bool). Puts (for_leaf c.args.leaf (bit ∷ [])) (outputs c.loop-place.self) (outputs c.put.new.self)) c.get.ensures c.in_ok-put.ensures.ok in
    record {
      puts = puts_more c.args.leaf c.args.bits.now.bits c.loop-place.place false (outputs c.args.self.now) (outputs c.loop-place.self) (outputs c.put.new.self) less c.loop-place.invariant.puts whole;
      unfailed = c.in_ok-put.ensures.cause ∙ c.loop-place.invariant.unfailed;
      drained = g.met.Self.Drain.drained_join c.args.self.now c.loop-place.self c.put.new.self c.loop-place.invariant.drained c.put.ensures.drained;
    }
